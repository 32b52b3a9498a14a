-- Predecessors are due before their successors, so none of them stands behind a job.
use Rattle.std.proofs.Common.{◌≡◌, suc, ◌+◌, ◌/◌, ◌<◌, ◌≤◌, true, false, Bool, not, ◌&&◌, List, [], ◌∷◌, take, refl, sym, ap, inl, inr, subst, ◌∙◌, arith}
use Rattle.std.specs.Prelude.{All}
use Rattle.std.specs.List.{AllByRecursion, list_all, prefix_len}
use Rattle.std.proofs.lemmas.List.Elements.{All-contains, All-from_recursion}
use Rattle.slot_core.specs.declared.jobs.Job.{Job}
use Rattle.slot_core.specs.declared.jobs.Key.{Key}
use Rattle.slot_core.specs.declared.tasks.TaskSet.{TaskSet}
use Rattle.slot_core.specs.Feasibility.Feasible.{IsFeasible}
use Rattle.slot_core.specs.Keeping.Plans.{AreInDeadlineOrder}
use Rattle.slot_core.specs.Offline.Keys.{is_earlier, is_offline, same_key}
use Rattle.slot_core.specs.Offline.OfflineJobs.{offline_jobs}
use Rattle.slot_core.specs.Offline.Windows.{precedes}
use Rattle.slot_core.specs.Runs.Histories.{History, time_of}
use Rattle.slot_core.specs.Runs.Matches.{IsSameScene}
use Rattle.slot_core.specs.Runs.Scenes.{Scene, scene_of, guaranteed_in, remaining}
use Rattle.slot_core.specs.Sets.Cycles.{cycle_of}
use Rattle.slot_core.specs.Sets.Ranges.{is_sound}
use Rattle.slot_facts.proofs.Choice.Earliest.{same_from_key}
use Rattle.slot_facts.proofs.Histories.Unended.{unended_own}
use Rattle.slot_facts.proofs.Legal.Cycles.{offline_job-due}
use Rattle.slot_facts.proofs.Legal.Data.{Slots, Entries}
use Rattle.slot_facts.proofs.Legal.Jobs.{planned-from_offline}
use Rattle.slot_facts.proofs.Lists.Members.{Has, AllByRecursion-from_Has, Contains-from_Has}
use Rattle.slot_facts.proofs.Offline.Windows.{IsBefore-from_precedes, precedes-offline}
use Rattle.slot_facts.proofs.Plans.DeadlineOrder.{is_earlier-le}
use Rattle.scene_steps.proofs.Facts.ProperScenes.{all-same_items}
use Rattle.trace_verify.specs.Checked.{AreDueInOrder}

module _ {S : Slots} (set : TaskSet) (h : History) (a : Scene) (sound : is_sound set ≡ true) (feasible : IsFeasible set (cycle_of set)) (told : Entries S set (cycle_of set) h) (same : IsSameScene a (scene_of set (cycle_of set) h)) where
  -- the guaranteed jobs of the history
  abbrev known : List Job
  known = guaranteed_in set (cycle_of set) (time_of h / cycle_of set + 3) h

  -- a remaining job has the key and the deadline of one of them
  abbrev IsOwned : Job → Type 0
  IsOwned job = (own : Job) × Has known own × (job.key ≡ own.key) × (job.dl ≡ own.dl)

  owned : (job : Job) → Has (remaining set (cycle_of set) h) job → IsOwned job
  owned job at =
      let own = unended_own h known job at in
      (own.0, own.1.listed, ap (λ (j : Job). j.key) own.1.same, ap (λ (j : Job). j.dl) own.1.same)

  all-owned : All IsOwned a.jobs
  all-owned =
      let jobs = remaining set (cycle_of set) h in
      all-same_items IsOwned a.jobs jobs same.jobs (All-from_recursion IsOwned jobs (AllByRecursion-from_Has IsOwned jobs owned))

  -- of the remaining jobs of a history each direct predecessor is due before its successor
  pub scene-in_order : AreDueInOrder set a.jobs
  scene-in_order before job at_before at_job first =
      let n = time_of h / cycle_of set + 3 in
      let planned = offline_jobs set (cycle_of set) n in
      let b = All-contains IsOwned a.jobs before all-owned at_before in
      let j = All-contains IsOwned a.jobs job all-owned at_job in
      let offline = precedes-offline set before.key job.key first in
      let listed_b = planned-from_offline set n h b.0 sound told b.1 (subst (λ k. is_offline k ≡ true) b.2 offline.0) in
      let listed_j = planned-from_offline set n h j.0 sound told j.1 (subst (λ k. is_offline k ≡ true) j.2 offline.1) in
      let own_first : precedes set b.0.key j.0.key ≡ true = sym (ap (λ (k : Key). precedes set k job.key) b.2 ∙ ap (precedes set b.0.key) j.2) ∙ first in
      let order = IsBefore-from_precedes set n b.0 j.0 sound (Contains-from_Has planned b.0 listed_b) (Contains-from_Has planned j.0 listed_j) own_first in
      let due = order.due (omega (arith, offline_job-due set n j.0 sound feasible listed_j)) in
      omega (arith, due, b.3, j.3)

-- the same of the members by recursion
abbrev pub InOrder : TaskSet → List Job → Type 0
InOrder set jobs = (before job : Job) → Has jobs before → Has jobs job → precedes set before.key job.key ≡ true → before.dl < job.dl

pub InOrder-from_due : (set : TaskSet) (jobs : List Job) → AreDueInOrder set jobs → InOrder set jobs
InOrder-from_due set jobs order before job at_before at_job first =
    order before job (Contains-from_Has jobs before at_before) (Contains-from_Has jobs job at_job) first

-- a job precedes none that is due by its deadline
none : (set : TaskSet) (key : Key) (first : Job) (j : Job) → same_key first.key key ≡ true → first.dl ≤ j.dl → (precedes set j.key first.key ≡ true → j.dl < first.dl) → not (precedes set j.key key) ≡ true
none set key first j same later order =
    subst (λ k. not (precedes set j.key k) ≡ true) (same_from_key first.key key same) (by_test (precedes set j.key first.key) order)
  where
    by_test : (b : Bool) → (b ≡ true → j.dl < first.dl) → not b ≡ true
    by_test true less = absurd (omega (arith, later, less refl))
    by_test false less = refl

-- none of the jobs that stand behind a job precedes it
later-none : (set : TaskSet) (key : Key) (first : Job) (jobs : List Job) → same_key first.key key ≡ true → AllByRecursion (λ (j : Job). is_earlier first j ≡ true) jobs → ((j : Job) → Has jobs j → precedes set j.key first.key ≡ true → j.dl < first.dl) → list_all (λ (j : Job). not (precedes set j.key key)) jobs ≡ true
later-none set key first [] same later order = refl
later-none set key first (j ∷ jobs) same later order =
    rw (none set key first j same (is_earlier-le first j later.0) (order j (inl refl))) (later-none set key first jobs same later.1 (λ k at. order k (inr at)))

-- so only those in front of the job of a key have to be looked at
pub front-decides : (set : TaskSet) (key : Key) (jobs : List Job) → AreInDeadlineOrder jobs → InOrder set jobs → list_all (λ (j : Job). not (precedes set j.key key)) (take (prefix_len (λ (j : Job). not (same_key j.key key)) jobs) jobs) ≡ list_all (λ (j : Job). not (precedes set j.key key)) jobs
front-decides set key [] ordered order = refl
front-decides set key (j ∷ jobs) ordered order =
    by_test (same_key j.key key) refl (front-decides set key jobs ordered.1 (λ b k at_b at_k. order b k (inr at_b) (inr at_k)))
  where
    test : Job → Bool
    test k = not (precedes set k.key key)

    front : List Job → List Job
    front js = take (prefix_len (λ (k : Job). not (same_key k.key key)) js) js

    by_test : (b : Bool) → same_key j.key key ≡ b → list_all test (front jobs) ≡ list_all test jobs → list_all test (front (j ∷ jobs)) ≡ list_all test (j ∷ jobs)
    by_test true same rest =
        let self = none set key j j same (omega arith) (order j j (inl refl) (inl refl)) in
        let others = later-none set key j jobs same ordered.0 (λ k at. order k j (inr at) (inl refl)) in
        rw same (sym (rw self others))
    by_test false other rest =
        let n = prefix_len (λ (k : Job). not (same_key k.key key)) jobs in
        let one : 1 + n ≡ suc n = omega arith in
        rw (other, one) (ap (λ b. test j && b) rest)
