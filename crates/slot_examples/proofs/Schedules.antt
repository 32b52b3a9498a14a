-- Slot schedules, and slots that are none.
use Rattle.std.specs.Prelude.{◌≡◌, ℕ, suc, ◌+◌, ◌-◌, ◌<◌, Bool, true, ◌&&◌, ◌==◌, List, [], ◌∷◌, length, count_by, nat_le, nat_lt, slice_get, Option, Some, None, refl}
use Rattle.std.proofs.Common.{arith}
use Rattle.std.proofs.lemmas.Bool.{leb-true, le-leb, eqb-true, eq-eqb, and_parts}
use Rattle.slot_core.specs.declared.jobs.Job.{Job}
use Rattle.slot_core.specs.declared.jobs.Key.TheVariants.{Offline}
use Rattle.slot_core.specs.declared.events.What.TheVariants.{Run}
use Rattle.slot_core.specs.declared.tasks.TaskSet.{TaskSet}
use Rattle.slot_core.specs.Offline.Windows.{raw_release, raw_deadline, precedes}
use Rattle.slot_core.specs.Runs.Scenes.{scene_of}
use Rattle.slot_core.specs.Runs.Traces.{started}
use Rattle.slot_core.specs.Claims.Schedules.{holds, IsSchedule}
use Rattle.sample_sets.specs.Sets.{row_set}
use Rattle.slot_examples.proofs.Tests.{each_place, at_place, implies, from_implies}

-- the test of the job that a slot holds
abbrev at_job : (ℕ → Bool) → Option ℕ → Bool
at_job p None = true
at_job p (Some n) = p n

-- the job of this number, where there is one, passes
abbrev job_passes : (Job → Bool) → List Job → ℕ → Bool
job_passes p jobs n = each_place (λ m job. implies (m == n) (p job)) 0 jobs

from_job_passes :
    (p : Job → Bool) (jobs : List Job) (n : ℕ) (job : Job) → job_passes p jobs n ≡ true
    → slice_get jobs n ≡ Some job → p job ≡ true
from_job_passes p jobs n job all at =
    from_implies (n == n) (p job) (at_place (λ m (j : Job). implies (m == n) (p j)) jobs n job all at) (eq-eqb n n refl)

-- a slot holds the number of a job of the list
abbrev named_slot : List Job → ℕ → Option ℕ → Bool
named_slot jobs u slot = at_job (λ n. nat_lt n (length jobs)) slot

-- a job that is due by the end has its slots
abbrev served_job : TaskSet → ℕ → List (Option ℕ) → ℕ → Job → Bool
served_job set end slots n job =
    implies (nat_le (raw_deadline set job) end) (count_by (holds n) slots == job.left)

-- this time lies in the raw window of the job
abbrev in_window : TaskSet → ℕ → Job → Bool
in_window set time job =
    nat_le (raw_release set job) time && nat_lt time (raw_deadline set job)

abbrev slot_in_window : TaskSet → List Job → ℕ → ℕ → Option ℕ → Bool
slot_in_window set jobs t u slot = at_job (job_passes (in_window set (t + u)) jobs) slot

-- of two slots of these jobs the first lies before the second, where the jobs are to run in a row
abbrev in_a_row : TaskSet → ℕ → ℕ → Job → Job → Bool
in_a_row set u v before after = implies (precedes set before.key after.key) (nat_lt u v)

abbrev slots_in_a_row : TaskSet → List Job → ℕ → Option ℕ → ℕ → Option ℕ → Bool
slots_in_a_row set jobs u first v second =
    at_job
    (λ m.
    at_job
    (λ n. job_passes (λ before. job_passes (in_a_row set u v before) jobs n) jobs m)
    second)
    first

abbrev slot_before_others : TaskSet → List Job → List (Option ℕ) → ℕ → Option ℕ → Bool
slot_before_others set jobs slots u first =
    each_place (slots_in_a_row set jobs u first) 0 slots

-- slots that pass the tests are a schedule
pub IsSchedule-from_tests :
    (set : TaskSet) (jobs : List Job) (t end : ℕ) (slots : List (Option ℕ))
    → length slots ≡ end - t → each_place (named_slot jobs) 0 slots ≡ true
    → each_place (served_job set end slots) 0 jobs ≡ true
    → each_place (slot_in_window set jobs t) 0 slots ≡ true
    → each_place (slot_before_others set jobs slots) 0 slots ≡ true
    → IsSchedule set jobs t end slots
IsSchedule-from_tests set jobs t end slots whole named served within ordered =
    record {
      whole = whole;
      named = λ u n at. leb-true (suc n) (length jobs) (at_place (named_slot jobs) slots u (Some n) named at);
      served = λ n job at due.
          let here = at_place (served_job set end slots) jobs n job served at in
          eqb-true (count_by (holds n) slots) job.left (from_implies (nat_le (raw_deadline set job) end) (count_by (holds n) slots == job.left) here (le-leb (raw_deadline set job) end due));
      within = λ u n job slot at.
          let here = at_place (slot_in_window set jobs t) slots u (Some n) within slot in
          let inside = from_job_passes (in_window set (t + u)) jobs n job here at in
          let parts = and_parts (nat_le (raw_release set job) (t + u)) (nat_lt (t + u) (raw_deadline set job)) inside in
          (leb-true (raw_release set job) (t + u) parts.0, leb-true (suc (t + u)) (raw_deadline set job) parts.1);
      ordered = λ u v m n before after first second at_m at_n precede.
          let others = at_place (slot_before_others set jobs slots) slots u (Some m) ordered first in
          let here = at_place (slots_in_a_row set jobs u (Some m)) slots v (Some n) others second in
          let one = from_job_passes (λ before. job_passes (in_a_row set u v before) jobs n) jobs m before here at_m in
          let both = from_job_passes (in_a_row set u v before) jobs n after one at_n in
          leb-true (suc u) v (from_implies (precedes set before.key after.key) (nat_lt u v) both precede);
    }

-- after the first slot of a row of two: the second task has the next slot, and each later pair its two
pub schedule_after_a_slot :
    IsSchedule
    row_set
    (scene_of row_set 2 (Run (Offline 0 0 0) ∷ started)).jobs
    1
    6
    (Some 0 ∷ Some 1 ∷ Some 2 ∷ Some 3 ∷ Some 4 ∷ [])
schedule_after_a_slot = IsSchedule-from_tests row_set _ 1 6 _ refl refl refl refl refl

-- five jobs remain there, so a slot that holds the number 5 holds none of them
pub number_of_no_job :
    IsSchedule
    row_set
    (scene_of row_set 2 (Run (Offline 0 0 0) ∷ started)).jobs
    1
    6
    (Some 0 ∷ Some 1 ∷ Some 2 ∷ Some 3 ∷ Some 5 ∷ []) → ⊥
number_of_no_job schedule =
    let named : 5 < 5 = schedule.named 4 5 refl in
    omega arith

-- a pair in the wrong order, and a slot that is not used
pub wrong_order :
    IsSchedule
    row_set
    (scene_of row_set 2 (Run (Offline 0 0 0) ∷ started)).jobs
    1
    6
    (Some 0 ∷ Some 2 ∷ Some 1 ∷ Some 3 ∷ Some 4 ∷ []) → ⊥
wrong_order schedule =
    let before : 2 < 1 = schedule.ordered 2 1 1 2 _ _ refl refl refl refl refl in
    omega arith

pub unused_slot :
    IsSchedule
    row_set
    (scene_of row_set 2 (Run (Offline 0 0 0) ∷ started)).jobs
    1
    6
    (None ∷ Some 1 ∷ Some 2 ∷ Some 3 ∷ Some 4 ∷ []) → ⊥
unused_slot schedule =
    let served : ◌≡◌ {A = ℕ} 0 1 = schedule.served 0 _ refl (omega arith) in
    omega arith
