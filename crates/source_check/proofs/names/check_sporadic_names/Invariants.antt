-- No name so far is doubled.
use Rattle.std.proofs.Common.{◌≡◌}
use Rattle.slot_core.specs.declared.faults.Part.TheVariants.{Sporadic as SporadicPart}
use Rattle.slot_core.specs.declared.tasks.Sporadic.{Sporadic}
use Rattle.source_check.proofs.FaultSteps.{names_from}
use Rattle.source_check.proofs.names.check_sporadic_names.Given as goal

abbrev pub invariant-loop-place : goal.invariant-loop-place
invariant-loop-place l =
    names_from SporadicPart (λ (s : Sporadic). s.name) l.sporadics l.place ≡ names_from SporadicPart (λ (s : Sporadic). s.name) l.sporadics 0
