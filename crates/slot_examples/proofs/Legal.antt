-- Histories that are legal, and one that is not.
use Rattle.std.specs.Prelude.{◌≡◌, ◌∷◌, refl}
use Rattle.std.proofs.Common.{arith}
use Rattle.slot_core.specs.declared.jobs.Key.TheVariants.{Offline, Firm as FirmKey}
use Rattle.slot_core.specs.declared.events.Event.TheVariants.{Soft, Firm, Sporadic, Done, Withdraw}
use Rattle.slot_core.specs.declared.events.What.TheVariants.{Start, Firm as FirmEntry, Run, Idle}
use Rattle.slot_core.specs.declared.events.Firm.TheVariants.{Accepted}
use Rattle.slot_core.specs.Runs.Traces.{Occurrence, arrive, slot, started, told_of, IsLegal}
use Rattle.sample_sets.specs.Sets.{half_set}

-- in the first of two slots the job runs, the second is idle, and a later start changes nothing
pub run_then_idle : IsLegal half_set 2 (Idle ∷ Start ∷ Run (Offline 0 0 0) ∷ started)
run_then_idle = ((slot, tt, refl), ((slot, tt, refl), tt))

-- an offer that fits the second slot is accepted, and then runs there
pub offer_then_run :
    IsLegal
    half_set
    2
    (Run (FirmKey 1) ∷ Run (Offline 0 0 0) ∷ FirmEntry 1 1 2 Accepted ∷ started)
offer_then_run =
    ((slot, tt, refl), ((slot, tt, refl), ((arrive 1 (Firm 1 2), (omega arith, refl), refl), tt)))

-- whatever may come before the first slot, it is not told that the slot is idle
not_idle : (next : Occurrence) → Idle ≡ told_of half_set 2 started next → ⊥
not_idle slot told = cc
not_idle (arrive row (Soft slots)) told = cc
not_idle (arrive row (Firm slots within)) told = cc
not_idle (arrive row (Sporadic index)) told = cc
not_idle (arrive row (Done key)) told = cc
not_idle (arrive row (Withdraw firm)) told = cc

pub idle_beside_work : IsLegal half_set 2 (Idle ∷ started) → ⊥
idle_beside_work legal = not_idle legal.0.0 legal.0.2
