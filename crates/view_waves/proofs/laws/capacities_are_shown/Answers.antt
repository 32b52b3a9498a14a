use Rattle.std.proofs.Common.{◌≡◌, ◌⊎◌, ℕ, List, Some, inl, inr, ap, length}
use Rattle.trace_lines.specs.declared.line.KeyName.{KeyName}
use Rattle.trace_lines.specs.declared.line.TraceLine.{TraceLine}
use Rattle.trace_lines.specs.declared.line.Words.TheVariants.{Run, Idle}
use Rattle.run_blocks.specs.declared.rows.Row.{Row}
use Rattle.view_waves.specs.Steps.{wire_on}
use Rattle.view_waves.proofs.Viewers.{capacity-told, first-told}
use Rattle.view_waves.proofs.laws.capacities_are_shown.Goals as goal

-- a line of a slot tells a wire
tells : (rows : List Row) (line : TraceLine) → (line.words ≡ Idle) ⊎ ((key : KeyName) × (line.words ≡ Run key)) → (wire : ℕ) × (wire_on rows line.words ≡ Some wire)
tells rows line (inl idle) = (length rows, ap (wire_on rows) idle)
tells rows line (inr (key, runs)) = (_, ap (wire_on rows) runs)

pub returns-clause-first : goal.returns-clause-first
returns-clause-first c = λ rows lines trace. first-told rows lines trace

pub returns-clause-later : goal.returns-clause-later
returns-clause-later c = λ rows lines line is slot.
    let (wire, told) = tells rows line slot in
    capacity-told rows lines line wire is told
