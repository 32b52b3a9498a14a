use Rattle.std.proofs.Common.{◌≡◌, ℕ, ◌++◌, drop, map}
use Rattle.std.specs.List.{enumerate_from}
use Rattle.slot_core.specs.declared.faults.Part.TheVariants.{Sporadic as SporadicPart}
use Rattle.slot_core.specs.declared.tasks.Sporadic.{Sporadic}
use Rattle.margin_find.proofs.all.push_sporadics.Given as goal

abbrev pub invariant-loop-index : goal.invariant-loop-index
invariant-loop-index l =
    l.parts ++ map (λ (s : ℕ × Sporadic). SporadicPart s.0) (enumerate_from l.index (drop l.index l.sporadics)) ≡ l.initial.parts ++ map (λ (s : ℕ × Sporadic). SporadicPart s.0) (enumerate_from 0 l.sporadics)
