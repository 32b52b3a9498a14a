-- Offers and cycles that can be served, and others.
use Rattle.std.specs.Prelude.{◌≡◌, ℕ, ◌+◌, ◌-◌, ◌≤◌, ◌<◌, Bool, true, ◌&&◌, List, [], ◌∷◌, ◌++◌, codes, sum_by, count_by, nat_le, slice_get, if◌then◌else◌, Option, Some, None, refl}
use Rattle.std.proofs.Common.{arith, sym, ap, ◌∙◌, inl, inr}
use Rattle.std.proofs.lemmas.Bool.{cases_Bool, cond-true, cond-false, leb-true, and_parts}
use Rattle.std.proofs.lemmas.List.Elements.{All-head, All-from_recursion}
use Rattle.slot_core.specs.declared.jobs.Evidence.{Evidence}
use Rattle.slot_core.specs.declared.jobs.Job.{Job}
use Rattle.slot_core.specs.declared.tasks.TaskSet.{TaskSet}
use Rattle.slot_core.specs.declared.events.What.TheVariants.{Firm as FirmEntry}
use Rattle.slot_core.specs.declared.events.Firm.TheVariants.{Accepted, Late, NoRoom}
use Rattle.slot_core.specs.Runs.Answers.{firm_answer}
use Rattle.slot_core.specs.Runs.Histories.{offered_job}
use Rattle.slot_core.specs.Offline.OfflineJobs.{offline_jobs}
use Rattle.slot_core.specs.Offline.Windows.{raw_release, raw_deadline}
use Rattle.slot_core.specs.Runs.Scenes.{scene_of}
use Rattle.slot_core.specs.Claims.Schedules.{holds, IsSchedule, HasSchedule}
use Rattle.slot_core.specs.Feasibility.Sporadics.{densest_pattern, IsLegalPattern}
use Rattle.slot_core.specs.Runs.Traces.{started}
use Rattle.slot_core.specs.Claims.Futures.{pattern_jobs, OfferCanBeServed, CyclesCanBeServed, densest_from, DensestLeavesNone, with_offer, LeavesNone, OfferCannotBeServed, densest_until, OffersAreExact}
use Rattle.slot_facts.proofs.Scheduling.Counts.{count_in_window, holds_passing, held_item, sum_by-le_slots}
use Rattle.sample_sets.specs.Sets.{sporadic, half_set, shared_set, overlong_set, late_half_set}
use Rattle.slot_examples.proofs.Patterns.{IsLegalPattern-of_one}
use Rattle.slot_examples.proofs.Schedules.{IsSchedule-from_tests}

-- a job whose raw window lies between these times
abbrev lies_in : TaskSet → ℕ → ℕ → Job → Bool
lies_in set a x job = nat_le a (raw_release set job) && nat_le (raw_deadline set job) x

in_parts :
    (set : TaskSet) (a x : ℕ) (job : Job) → lies_in set a x job ≡ true
    → (a ≤ raw_release set job) × (raw_deadline set job ≤ x)
in_parts set a x job inside =
    let parts = and_parts (nat_le a (raw_release set job)) (nat_le (raw_deadline set job) x) inside in
    (leb-true a (raw_release set job) parts.0, leb-true (raw_deadline set job) x parts.1)

-- the slots left of such a job
abbrev slots_in : TaskSet → ℕ → ℕ → Job → ℕ
slots_in set a x job = if lies_in set a x job then job.left else 0

-- a schedule has the slots of each such job
slots_in-le :
    (set : TaskSet) (jobs : List Job) (t end a x : ℕ) (slots : List (Option ℕ))
    → IsSchedule set jobs t end slots → x ≤ end → (k m : ℕ) (job : Job) → 0 + k ≡ m
    → slice_get jobs k ≡ Some job → slots_in set a x job ≤ count_by (holds m) slots
slots_in-le set jobs t end a x slots schedule within k m job number at =
    let same : k ≡ m = omega arith in
    elim (cases_Bool (lies_in set a x job)) [
      | inl inside ↦ let served = schedule.served k job at (omega (arith, in_parts set a x job inside)) in
          rw (sym same) (omega (arith, served, cond-true {A = ℕ} (lies_in set a x job) job.left 0 inside))
      | inr other ↦ omega (arith, cond-false {A = ℕ} (lies_in set a x job) job.left 0 other)
    ]

-- they lie between those times
placed_in :
    (set : TaskSet) (jobs : List Job) (t end a x : ℕ) (slots : List (Option ℕ))
    → IsSchedule set jobs t end slots → (v : ℕ) (slot : Option ℕ) → slice_get slots v ≡ Some slot
    → holds_passing (lies_in set a x) 0 jobs slot ≡ true → (a ≤ t + v) × (t + v < x)
placed_in set jobs t end a x slots schedule v slot at passes =
    let (k, m, job, is) = held_item (lies_in set a x) 0 jobs slot passes in
    let same : m ≡ k = omega (arith, is.number) in
    let held : slice_get slots v ≡ Some (Some k) = at ∙ ap Some (is.held ∙ ap Some same) in
    let window = schedule.within v k job held is.listed in
    let inside = in_parts set a x job is.passes in
    (omega (arith, window.0, inside.0), omega (arith, window.1, inside.1))

-- so no schedule has more of them than there are slots
work_in-le :
    (set : TaskSet) (jobs : List Job) (t end a x : ℕ) (slots : List (Option ℕ))
    → IsSchedule set jobs t end slots → x ≤ end
    → sum_by (λ (job : Job). if lies_in set a x job then slots_in set a x job else 0) jobs ≤ x - a
work_in-le set jobs t end a x slots schedule within =
    let placed = sum_by-le_slots (lies_in set a x) (slots_in set a x) 0 jobs slots (λ k m job number at passes. slots_in-le set jobs t end a x slots schedule within k m job number at) in
    let window = count_in_window (holds_passing (lies_in set a x) 0 jobs) slots t a x (placed_in set jobs t end a x slots schedule) in
    omega (arith, placed, window)

-- one slot in every two is free: an offer of one within two slots can be served
pub one_slot_can_be_served : OfferCanBeServed half_set 2 started 1 2
one_slot_can_be_served [] legal =
    (Some 0 ∷ Some 3 ∷ Some 1 ∷ None ∷ Some 2 ∷ None ∷ [], IsSchedule-from_tests half_set _ 0 6 _ refl refl refl refl refl)
one_slot_can_be_served (a ∷ pattern) legal =
    let none = All-head (λ (a : ℕ × ℕ). a.0 < 0) a pattern legal.named in
    absurd (omega (arith, none))

-- that is the schedule that it has with the remaining jobs where nothing arrives
one_slot_alone : HasSchedule half_set (with_offer half_set 2 started 1 2) 0 6
one_slot_alone =
    (Some 0 ∷ Some 3 ∷ Some 1 ∷ None ∷ Some 2 ∷ None ∷ [], IsSchedule-from_tests half_set _ 0 6 _ refl refl refl refl refl)

-- without a sporadic task there is no arrival, and none is a legal pattern
pub no_arrivals : {nexts : List ℕ} {from : ℕ} → IsLegalPattern [] nexts from []
no_arrivals = record { named = All-from_recursion _ [] tt; spaced = λ index s at. cc }

-- an offer of two is one too many, without any arrival
pub two_slots_cannot_be_served : OfferCanBeServed half_set 2 started 2 2 → ⊥
two_slots_cannot_be_served served =
    let (slots, schedule) = served [] no_arrivals in
    let few : 3 ≤ 2 = work_in-le half_set _ 0 6 0 2 slots schedule (omega arith) in
    omega arith

-- so they are answered
pub one_slot_is_accepted : firm_answer [] 2 (scene_of half_set 2 started) 1 2 ≡ Accepted
one_slot_is_accepted = refl

pub two_slots_are_refused :
    firm_answer [] 2 (scene_of half_set 2 started) 2 2
    ≡ NoRoom (record { until = 2; need = 3; room = 2 })
two_slots_are_refused = refl

-- a history that accepts the offer of two is not answered exactly, nor one that tells an offer in
-- reach that it is late
pub accepted_without_room : OffersAreExact half_set 2 (FirmEntry 1 2 2 Accepted ∷ started) → ⊥
accepted_without_room exact =
    two_slots_cannot_be_served ((exact 1 2 2 Accepted started ([], refl)).accepted refl)

pub late_in_reach : OffersAreExact half_set 2 (FirmEntry 1 1 2 Late ∷ started) → ⊥
late_in_reach exact =
    elim ((exact 1 1 2 Late started ([], refl)).in_reach (omega arith) (omega arith)) [
      | inl accepted ↦ cc accepted
      | inr refused ↦ cc refused.1
    ]

-- nor one that refuses the offer of one
pub refused_with_room :
    OffersAreExact
    half_set
    2
    (FirmEntry 1 1 2 (NoRoom (record { until = 2; need = 2; room = 2 })) ∷ started) → ⊥
refused_with_room exact =
    let evidence : Evidence = record { until = 2; need = 2; room = 2 } in
    let none = ((exact 1 1 2 (NoRoom evidence) started ([], refl)).alone refl (omega arith) (omega arith)).0 (evidence, refl) in
    none one_slot_alone

-- beside a sporadic task that may take the other slot, an offer of one has a schedule where nothing
-- arrives
pub offer_without_arrivals :
    HasSchedule
    shared_set
    ((scene_of shared_set 2 started).jobs ++ offered_job 1 0 1 2 ∷ [])
    0
    6
offer_without_arrivals =
    (Some 0 ∷ Some 3 ∷ Some 1 ∷ None ∷ Some 2 ∷ None ∷ [], IsSchedule-from_tests shared_set _ 0 6 _ refl refl refl refl refl)

-- an arrival in the first slot leaves none, so the offer cannot be served
pub offer_beside_an_arrival : OfferCanBeServed shared_set 2 started 1 2 → ⊥
offer_beside_an_arrival served =
    let legal = IsLegalPattern-of_one (sporadic (codes "s") 1 2 2) (0 ∷ []) 0 ((0, 0) ∷ []) (omega arith, tt) (omega arith, tt) in
    let (slots, schedule) = served ((0, 0) ∷ []) legal in
    let few : 3 ≤ 2 = work_in-le shared_set _ 0 6 0 2 slots schedule (omega arith) in
    omega arith

-- that arrival is all that the densest ones from now have due by 2, the time of the evidence: it
-- leaves no schedule
pub densest_arrivals_leave_none :
    LeavesNone shared_set 2 started 1 2 (densest_until shared_set (scene_of shared_set 2 started) 2)
densest_arrivals_leave_none =
    record {
      legal = IsLegalPattern-of_one (sporadic (codes "s") 1 2 2) (0 ∷ []) 0 ((0, 0) ∷ []) (omega arith, tt) (omega arith, tt);
      none = λ (slots, schedule).
          let few : 3 ≤ 2 = work_in-le shared_set _ 0 6 0 2 slots schedule (omega arith) in
          absurd (omega arith);
    }

pub an_arrival_shows_it : OfferCannotBeServed shared_set 2 started 1 2
an_arrival_shows_it = ((0, 0) ∷ [], densest_arrivals_leave_none)

-- those that are due by 1 are none, and leave one
pub earlier_arrivals_leave_one :
    LeavesNone shared_set 2 started 1 2 (densest_until shared_set (scene_of shared_set 2 started) 1)
    → ⊥
earlier_arrivals_leave_one leaves = leaves.none offer_without_arrivals

-- three cycles of one slot of work in every two can be served
pub cycles_can_be_served : CyclesCanBeServed half_set 3
cycles_can_be_served [] legal =
    (Some 0 ∷ None ∷ Some 1 ∷ None ∷ None ∷ Some 2 ∷ [], IsSchedule-from_tests half_set _ 0 6 _ refl refl refl refl refl)
cycles_can_be_served (a ∷ pattern) legal =
    let none = All-head (λ (a : ℕ × ℕ). a.0 < 0) a pattern legal.named in
    absurd (omega (arith, none))

-- of a set that fails, with work in the second half of a cycle and an alarm that may come as it
-- starts, the densest pattern from 0 on leaves one cycle a schedule
pub densest_from_0_leaves_one :
    HasSchedule
    late_half_set
    (offline_jobs late_half_set 10 1
    ++ pattern_jobs
    late_half_set.sporadics
    1
    (densest_pattern 0 late_half_set.sporadics [] 0 10))
    0
    10
densest_from_0_leaves_one =
    let idle = None in
    let work = Some 0 in
    (Some 1 ∷ idle ∷ idle ∷ idle ∷ idle ∷ work ∷ work ∷ work ∷ work ∷ work ∷ [], IsSchedule-from_tests late_half_set _ 0 10 _ refl refl refl refl refl)

-- that from 5 on leaves three cycles none: between 5 and 10 it needs six of five slots
pub densest_from_5_leaves_none : DensestLeavesNone late_half_set 5
densest_from_5_leaves_none =
    record {
      legal = IsLegalPattern-of_one (sporadic (codes "s") 1 10 5) [] 0 (densest_from late_half_set 5) (omega arith, (omega arith, (omega arith, tt))) (omega arith, (omega arith, (omega arith, tt)));
      none = λ (slots, schedule).
          let few : 6 ≤ 5 = work_in-le late_half_set _ 0 30 5 10 slots schedule (omega arith) in
          absurd (omega arith);
    }

-- those of three slots in every two cannot
pub cycles_cannot_be_served : CyclesCanBeServed overlong_set 3 → ⊥
cycles_cannot_be_served served =
    let (slots, schedule) = served [] no_arrivals in
    let few : 3 ≤ 2 = work_in-le overlong_set _ 0 6 0 2 slots schedule (omega arith) in
    omega arith
