-- Slots that lie at or after derived starts, and one that does not.
use Rattle.std.specs.Prelude.{◌≡◌, ℕ, ◌+◌, ◌≤◌, List, [], ◌∷◌, slice_get, codes, Option, Some, None, refl}
use Rattle.std.proofs.Common.{arith}
use Rattle.slot_core.specs.declared.jobs.Key.TheVariants.{Offline}
use Rattle.slot_core.specs.declared.events.Event.TheVariants.{Done as DoneEvent}
use Rattle.slot_core.specs.declared.events.What.TheVariants.{Run, Done}
use Rattle.slot_core.specs.declared.events.Done.TheVariants.{Freed}
use Rattle.slot_core.specs.declared.tasks.TaskSet.{TaskSet}
use Rattle.slot_core.specs.Sets.Cycles.{cycle_of}
use Rattle.slot_core.specs.Feasibility.Feasible.{counterexample}
use Rattle.slot_core.specs.Runs.Histories.{History}
use Rattle.slot_core.specs.Runs.Scenes.{scene_of}
use Rattle.slot_core.specs.Runs.Traces.{arrive, slot, started, IsLegal}
use Rattle.slot_core.specs.Claims.Schedules.{IsSchedule}
use Rattle.slot_facts.specs.Schedules.{directly, NoneBeforeEndedEarly}
use Rattle.slot_facts.proofs.Scheduling.LegalStarts.{slots_lie_after_derived_starts_at_legal_histories}
use Rattle.sample_sets.specs.Sets.{pair_graph, sporadic, set_of, pair_set}
use Rattle.slot_examples.proofs.Schedules.{IsSchedule-from_tests}

-- the first of a pair has run one of its two slots
abbrev pub begun : History
begun = Run (Offline 0 0 0) ∷ started

pub begun_is_legal : IsLegal pair_set 8 begun
begun_is_legal = ((slot, tt, refl), tt)

-- so in every schedule the second lies at or after its derived start, time 2
pub second_after_its_start :
    (slots : List (Option ℕ)) (u : ℕ)
    → IsSchedule pair_set ((scene_of pair_set 8 begun).jobs) 1 24 slots
    → slice_get slots u ≡ Some (Some 1) → 2 ≤ 1 + u
second_after_its_start slots u schedule at =
    slots_lie_after_derived_starts_at_legal_histories pair_set begun [] u 1 slots _ refl begun_is_legal schedule at refl (λ first comes. refl)

-- the same beside a sporadic task that needs all slots: the set is infeasible
abbrev crammed_set : TaskSet
crammed_set = set_of 64 (pair_graph ∷ []) (sporadic (codes "s") 8 8 8 ∷ [])

pub crammed_is_infeasible :
    counterexample crammed_set (cycle_of crammed_set)
    ≡ Some (record { from = 0; until = 8; demand = 11 })
crammed_is_infeasible = refl

pub begun_is_legal_there : IsLegal crammed_set 8 begun
begun_is_legal_there = ((slot, tt, refl), tt)

-- the second lies at or after its derived start all the same
pub second_after_its_start_there :
    (slots : List (Option ℕ)) (u : ℕ)
    → IsSchedule crammed_set ((scene_of crammed_set 8 begun).jobs) 1 24 slots
    → slice_get slots u ≡ Some (Some 1) → 2 ≤ 1 + u
second_after_its_start_there slots u schedule at =
    slots_lie_after_derived_starts_at_legal_histories crammed_set begun [] u 1 slots _ refl begun_is_legal_there schedule at refl (λ first comes. refl)

-- of the pair, the first is ended early there
abbrev pub ended : History
ended = Done 1 (Offline 0 0 0) (Freed 1) ∷ begun

pub ended_is_legal : IsLegal pair_set 8 ended
ended_is_legal = ((arrive 1 (DoneEvent (Offline 0 0 0)), (omega arith, refl), refl), begun_is_legal)

-- so the second may have slot 1, before its derived start
abbrev pub early_slots : List (Option ℕ)
early_slots =
    let idle = None in
    Some 0
    ∷ idle
    ∷ idle
    ∷ idle
    ∷ idle
    ∷ idle
    ∷ idle
    ∷ Some 1
    ∷ Some 1
    ∷ Some 2
    ∷ idle
    ∷ idle
    ∷ idle
    ∷ idle
    ∷ idle
    ∷ Some 3
    ∷ Some 3
    ∷ Some 4
    ∷ idle
    ∷ idle
    ∷ idle
    ∷ idle
    ∷ idle
    ∷ []

pub second_before_its_start : IsSchedule pair_set (scene_of pair_set 8 ended).jobs 1 24 early_slots
second_before_its_start = IsSchedule-from_tests pair_set _ 1 24 early_slots refl refl refl refl refl

-- since the first comes before it
pub first_ended_early : NoneBeforeEndedEarly pair_set ended (Offline 0 1 0) → ⊥
first_ended_early none = cc (none (Offline 0 0 0) (directly refl))
