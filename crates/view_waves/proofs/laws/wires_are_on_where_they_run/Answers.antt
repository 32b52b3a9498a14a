use Rattle.std.proofs.Common.{◌==◌, sym, ap, ◌∙◌}
use Rattle.run_blocks.proofs.DistinctRows.{row_holds_at-first}
use Rattle.view_waves.specs.Steps.{wire_on}
use Rattle.view_waves.proofs.Splits.{has_row-of}
use Rattle.view_waves.proofs.Viewers.{level-told, on-told}
use Rattle.view_waves.proofs.laws.wires_are_on_where_they_run.Goals as goal

pub returns-clause-runs : goal.returns-clause-runs
returns-clause-runs c = λ rows lines line key wire are is runs.
    level-told rows lines wire line.time is.trace
    ∙ ap (λ n. wire == n) (on-told rows lines line _ is (ap (wire_on rows) runs))
    ∙ sym (row_holds_at-first rows key wire are.distinct (has_row-of rows lines is.place line key are.held is.there runs))

pub returns-clause-idle : goal.returns-clause-idle
returns-clause-idle c = λ rows lines line wire is idle.
    level-told rows lines wire line.time is.trace ∙ ap (λ n. wire == n) (on-told rows lines line _ is (ap (wire_on rows) idle))
