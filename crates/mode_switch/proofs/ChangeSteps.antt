-- A slot of a change: what it keeps stays kept, and at the end of a cycle no job of it is left.
use Rattle.std.proofs.Common.{◌≡◌, ℕ, zero, suc, ◌+◌, ◌*◌, ◌/◌, ◌%◌, ◌==◌, ◌≤◌, ◌<◌, ◌^◌, add-one, true, false, cond, List, [], ◌∷◌, ◌++◌, length, map, refl, sym, ap, ap₂, subst, ◌∙◌, inl, inr, arith}
use Rattle.std.specs.Prelude.{Contains, nat_le, slice_get}
use Rattle.std.proofs.Math.Nat.{mul-le-mul_right, zero-div}
use Rattle.std.proofs.lemmas.Bool.{cases_Bool, eqb-true, eq-eqb, false_from_ne_true, le-leb, or_left, cond-false}
use Rattle.std.proofs.lemmas.Bool.Decides.{nat_tests}
use Rattle.std.proofs.lemmas.List.Elements.{Contains-append_right}
use Rattle.slot_core.specs.declared.jobs.Job.{Job}
use Rattle.slot_core.specs.declared.tasks.TaskSet.{TaskSet}
use Rattle.slot_core.specs.Sets.Cycles.{cycle_of}
use Rattle.slot_core.specs.Keeping.Plans.{AreInDeadlineOrder, IsPlan}
use Rattle.slot_core.specs.Offline.OfflineJobs.{cycle_jobs, offline_jobs}
use Rattle.slot_core.specs.Runs.Choice.{earliest, ready}
use Rattle.slot_core.specs.Runs.Histories.{History, time_of, executed, is_freed}
use Rattle.slot_core.specs.Runs.Matches.{HaveSameItems}
use Rattle.slot_core.specs.Runs.Scenes.{has_ended, unended}
use Rattle.slot_core.specs.Runs.Traces.{told_of_slot}
use Rattle.slot_core.specs.Claims.Safety.{after_slot}
use Rattle.slot_facts.proofs.Histories.Unended.{unended-after_slot, unended-append, unended-fresh, unended-start}
use Rattle.slot_facts.proofs.Lists.Members.{Has, Contains-from_Has}
use Rattle.slot_facts.proofs.Offline.Cycles.{IsOfCycle-from_cycle}
use Rattle.slot_facts.proofs.Offline.Jobs.{cycle-positive}
use Rattle.slot_facts.proofs.Offline.Windows.{IsOfCycle-from_offline}
use Rattle.slot_facts.proofs.Plans.Horizons.{NextSlot, next_slot, turn, inside}
use Rattle.slot_facts.proofs.Scheduling.Queue.{is_run_of}
use Rattle.scene_steps.proofs.Facts.ProperScenes.{length-same_items}
use Rattle.scene_steps.proofs.Same.SameScenes.{same-trans}
use Rattle.scene_steps.proofs.Slots.NewParts.{cycle_jobs-same}
use Rattle.job_queue.specs.Queues.{QueueParts}
use Rattle.slot_exec.specs.Changes.{jobs_in_cycle}
use Rattle.change_laws.specs.Carried.{AreCarried, jobs_after, since}
use Rattle.change_laws.specs.Grants.{CanChange}
use Rattle.mode_switch.specs.Keeping.{KeepsChange, carried_after, carried_left, history_of_change, own_after, own_left}
use Rattle.mode_switch.specs.Parts.{ChangeParts, time_of_change}
use Rattle.mode_switch.specs.Runs.{IsServedAfter, after_change, ran_in, turn_at, turn_between}
use Rattle.mode_switch.specs.declared.turns.Turn.{Turn}
use Rattle.mode_switch.proofs.ChangeFacts.{front-apart, front-left, own-some, served, sides, turn-is, turn-own, turn-queue}
use Rattle.mode_switch.proofs.CarriedLeft.{with_run-none}
use Rattle.mode_switch.proofs.ChangeTurns.{AreSides, carried-ran, own-ran, own_after-same}
use Rattle.change_laws.proofs.GrantJobs.{IsSince, IsSince-from_carried}
use Rattle.mode_switch.proofs.ServedRuns.{executed-ran, none_freed, ran-from_test, time_of-after_change}
use Rattle.scene_steps.proofs.Same.SameSearches.{Has-same}

-- where each job has ended, none is left
ended-cons : (h : History) (job : Job) (jobs : List Job) → has_ended h job ≡ true → unended h jobs ≡ [] → unended h (job ∷ jobs) ≡ []
ended-cons h job jobs over rest = grind (arith, nat_tests)

unended-none : (h : History) (jobs : List Job) → ((job : Job) → Has jobs job → has_ended h job ≡ true) → unended h jobs ≡ []
unended-none h [] over = refl
unended-none h (job ∷ jobs) over =
    ended-cons h job jobs (over job (inl refl)) (unended-none h jobs (λ j at. over j (inr at)))

-- a job that has run its slots has ended
ended-from_whole : (h : History) (job : Job) → executed job.key h ≡ job.declared → has_ended h job ≡ true
ended-from_whole h job whole =
    or_left (nat_le job.declared (executed job.key h)) (is_freed job.key h) (le-leb job.declared (executed job.key h) (omega arith))

-- a job that starts at n or later has not run in the first n slots
module _ (set : TaskSet) (c cycles : ℕ) (carried : List Job) (served_at : (n : ℕ) → IsServedAfter set (jobs_after set c carried cycles) (after_change set c carried n)) where
  not_run : (n : ℕ) (job : Job) → Contains (jobs_after set c carried cycles) job → n ≤ job.est → executed job.key (after_change set c carried n) ≡ 0
  not_run zero job at early = refl
  not_run (suc n) job at early =
      let ran = ran_in (turn_at set c carried n) in
      let before = after_change set c carried n in
      let rest = not_run n job at (omega arith) in
      elim (cases_Bool (is_run_of job.key ran)) [
        | inl own ↦
            let key = ran-from_test ran job.key own in
            let window = (served_at (suc n)).inside job before at ([], ap (λ r. told_of_slot r ∷ before) key) in
            absurd (omega (arith, window.1, time_of-after_change set c n carried))
        | inr other ↦
            omega (arith, executed-ran ran job.key before, rest, cond-false {A = ℕ} (is_run_of job.key ran) (suc (executed job.key before)) (executed job.key before) other)
      ]

-- a cycle's end by its number
cycle-test : (t cycle whole : ℕ) → cycle ≡ whole → suc t % whole ≡ 0 → ((t + 1) % cycle == 0) ≡ true
cycle-test t cycle whole same turned =
    eq-eqb ((t + 1) % cycle) 0 (ap₂ (λ a b. a % b) (add-one t) same ∙ turned)

cycle-test_not : (t cycle whole : ℕ) → cycle ≡ whole → (suc t % whole ≡ 0 → ⊥) → ((t + 1) % cycle == 0) ≡ false
cycle-test_not t cycle whole same inside_it =
    false_from_ne_true ((t + 1) % cycle == 0) (λ e. inside_it (sym (ap₂ (λ a b. a % b) (add-one t) same) ∙ eqb-true ((t + 1) % cycle) 0 e))

-- before its first slot a change is kept
pub KeepsChange-first : (change : ChangeParts) (row : ℕ) (queue : QueueParts) → change.passed ≡ 0 → IsPlan change.plan → AreCarried change.at row change.carried → AreInDeadlineOrder change.carried → CanChange change.plan.tasks change.at change.carried (row + 1) → change.at ≤ 2 ^ 32 → HaveSameItems queue.jobs (jobs_in_cycle change.plan 0) → queue.capacity ≡ change.plan.cycle → KeepsChange change 0 0 queue
KeepsChange-first change row queue none is_plan carried ordered can early jobs room =
    let set = change.plan.tasks in
    let cycle = cycle_of set in
    let start : history_of_change change ≡ [] = ap (after_change set change.at change.carried) none in
    let moved = map (since change.at) change.carried in
    let first : change.passed / cycle + 1 ≡ 1 = ap (λ n. n / cycle + 1) none ∙ ap (λ n. n + 1) (zero-div cycle) in
    let fresh = λ (job : Job) (at : Has moved job). let own = IsSince-from_carried change.at row change.carried job carried at in (whole_since own) in
    let begun = cycle_jobs set cycle 0 in
    let waits = λ (job : Job) (at : Has begun job). let own = IsOfCycle-from_cycle set 0 job is_plan.sound (Contains-from_Has begun job at) in let both : (1 ≤ job.declared) × (job.left ≡ job.declared) = (own.some, own.whole) in both in
    let own = ap₂ unended start (ap (offline_jobs set cycle) first) ∙ unended-start begun waits in
    record {
      plan = is_plan;
      row = row;
      carried = carried;
      ordered = ordered;
      served = can;
      early = omega (arith, none);
      left = ap (λ hh. unended hh moved) start ∙ unended-start moved fresh ∙ sym (with_run-none moved);
      own = same-trans queue.jobs (jobs_in_cycle change.plan 0) (own_left change) jobs (subst (HaveSameItems (jobs_in_cycle change.plan 0)) (ap (λ n. cycle_jobs set n 0) is_plan.cycle ∙ sym own) (cycle_jobs-same change.plan 0 is_plan));
      room = room;
    }
  where
    whole_since : {job : Job} → IsSince change.at row job → (1 ≤ job.declared) × (job.left ≡ job.declared)
    whole_since own = (omega (arith, own.some, own.whole), own.whole)

module _ (change : ChangeParts) (ended ran : ℕ) (queue : QueueParts) (keeps : KeepsChange change ended ran queue) (turn_told : Turn) (told : turn_told ≡ turn_between (slice_get (carried_left change.at change.carried ended ran) 0) (earliest (ready change.passed queue.jobs))) where
  abbrev set : TaskSet
  set = change.plan.tasks

  abbrev cycle : ℕ
  cycle = cycle_of set

  abbrev h : History
  h = history_of_change change

  abbrev later : History
  later = after_change set change.at change.carried (change.passed + 1)

  abbrev begun : List Job
  begun = offline_jobs set cycle (change.passed / cycle + 1)

  positive : 1 ≤ cycle
  positive = cycle-positive set keeps.plan.sound

  later-is : later ≡ told_of_slot (ran_in turn_told) ∷ h
  later-is =
      ap (after_change set change.at change.carried) (add-one change.passed)
      ∙ ap (λ t. told_of_slot (ran_in t) ∷ h) (sym (turn-is change ended ran queue keeps turn_told told))

  -- the carried jobs that remain then
  left-next : (ended_then ran_then : ℕ) → ((c : ℕ) → carried_left c change.carried ended_then ran_then ≡ carried_after turn_told (carried_left c change.carried ended ran)) → unended later (map (since change.at) change.carried) ≡ carried_left change.at change.carried ended_then ran_then
  left-next ended_then ran_then runs =
      let moved = map (since change.at) change.carried in
      ap (λ hh. unended hh moved) later-is
      ∙ unended-after_slot (ran_in turn_told) h moved
      ∙ ap (after_slot (ran_in turn_told)) keeps.left
      ∙ carried-ran change.passed (carried_left change.at change.carried ended ran) queue.jobs turn_told (sides-queue) (front-apart change ended ran queue keeps) (front-left change ended ran queue keeps) (turn-queue change ended ran queue keeps turn_told told)
      ∙ sym (runs change.at)
    where
      sides-queue : AreSides (carried_left change.at change.carried ended ran) queue.jobs
      sides-queue = record {
        carried = (sides change ended ran queue keeps).carried;
        own = λ job at. (sides change ended ran queue keeps).own job (Has-same queue.jobs (own_left change) job keeps.own at);
      }

  -- and the jobs of the second set in the cycles begun before
  own-next : (after : List Job) → HaveSameItems after (own_after turn_told queue.jobs) → HaveSameItems after (unended later begun)
  own-next after same =
      let front = carried_left change.at change.carried ended ran in
      let is : own_after turn_told (own_left change) ≡ unended later begun = sym (own-ran change.passed front (own_left change) turn_told (sides change ended ran queue keeps) (own-some change ended ran queue keeps) (turn-own change ended ran queue keeps turn_told told)) ∙ sym (unended-after_slot (ran_in turn_told) h begun) ∙ ap (λ hh. unended hh begun) (sym later-is) in
      subst (HaveSameItems after) is (same-trans after (own_after turn_told queue.jobs) (own_after turn_told (own_left change)) same (own_after-same turn_told queue.jobs (own_left change) keeps.own))

  -- where a cycle ends, those are none
  begun-none : suc change.passed ≡ suc (change.passed / cycle) * cycle → unended later begun ≡ []
  begun-none whole =
      unended-none later begun λ job at.
      let listed = Contains-from_Has begun job at in
      let (n, below, own) = IsOfCycle-from_offline set (change.passed / cycle + 1) job keeps.plan.sound listed in
      let most : (n + 1) * cycle ≤ suc (change.passed / cycle) * cycle = mul-le-mul_right cycle (omega arith) in
      let due : job.dl ≤ time_of later = omega (arith, own.ends, most, whole, time_of-after_change set change.at (change.passed + 1) change.carried) in
      let among = Contains-append_right (map (since change.at) change.carried) begun job listed in
      ended-from_whole later job ((served change ended ran queue keeps (change.passed / cycle + 1) (change.passed + 1)).in_time job among due)

  pub queue-empty : (after : List Job) → HaveSameItems after (own_after turn_told queue.jobs) → (change.passed + 1) % change.plan.cycle ≡ 0 → length after ≡ 0
  queue-empty after same ends =
      let starts : suc change.passed % cycle ≡ 0 = sym (ap₂ (λ a b. a % b) (add-one change.passed) keeps.plan.cycle) ∙ ends in
      elim (next_slot change.passed cycle positive) [
        | turn even next whole ↦ length-same_items after [] (subst (HaveSameItems after) (begun-none whole) (own-next after same))
        | inside odd stays ↦ absurd (odd starts)
      ]

  -- the jobs of the next cycle have not run
  next-fresh : suc change.passed ≡ suc (change.passed / cycle) * cycle → unended later (cycle_jobs set cycle (suc (change.passed / cycle))) ≡ cycle_jobs set cycle (suc (change.passed / cycle))
  next-fresh whole =
      let n = suc (change.passed / cycle) in
      let fresh = cycle_jobs set cycle n in
      let at_all = served change ended ran queue keeps (suc n) in
      unended-fresh later fresh λ job at.
      let own = IsOfCycle-from_cycle set n job keeps.plan.sound (Contains-from_Has fresh job at) in
      let listed = Contains-append_right (map (since change.at) change.carried) (offline_jobs set cycle n ++ fresh) job (Contains-append_right (offline_jobs set cycle n) fresh job (Contains-from_Has fresh job at)) in
      record {
        none = not_run set change.at (suc n) change.carried at_all (change.passed + 1) job listed (omega (arith, own.starts, whole));
        kept = none_freed set change.at (change.passed + 1) change.carried job.key;
        some = own.some;
        whole = own.whole;
      }

  -- the jobs of the second set after the slot
  own-after_turn : (after next : List Job) → HaveSameItems after (own_after turn_told queue.jobs) → HaveSameItems next (cond ((change.passed + 1) % change.plan.cycle == 0) (jobs_in_cycle change.plan ((change.passed + 1) / change.plan.cycle)) after) → HaveSameItems next (own_left (record change { passed = change.passed + 1 }))
  own-after_turn after next same come = by_slot (next_slot change.passed cycle positive)
    where
      number : (change.passed + 1) / change.plan.cycle ≡ suc change.passed / cycle
      number = ap₂ (λ a b. a / b) (add-one change.passed) keeps.plan.cycle

      by_slot : NextSlot change.passed cycle → HaveSameItems next (own_left (record change { passed = change.passed + 1 }))
      by_slot (inside odd stays) =
          let no = cycle-test_not change.passed change.plan.cycle cycle keeps.plan.cycle odd in
          let own = subst (λ b. HaveSameItems next (cond b (jobs_in_cycle change.plan ((change.passed + 1) / change.plan.cycle)) after)) no come in
          let same_cycles : change.passed / cycle + 1 ≡ (change.passed + 1) / cycle + 1 = ap (λ q. q + 1) (sym stays ∙ ap (λ t. t / cycle) (sym (add-one change.passed))) in
          subst (λ n. HaveSameItems next (unended later (offline_jobs set cycle n))) same_cycles (same-trans next after (unended later begun) own (own-next after same))
      by_slot (turn even step whole) =
          let n = suc (change.passed / cycle) in
          let yes = cycle-test change.passed change.plan.cycle cycle keeps.plan.cycle even in
          let own = subst (λ b. HaveSameItems next (cond b (jobs_in_cycle change.plan ((change.passed + 1) / change.plan.cycle)) after)) yes come in
          let here : (change.passed + 1) / change.plan.cycle ≡ n = number ∙ step in
          let listed = subst (λ m. HaveSameItems next (jobs_in_cycle change.plan m)) here own in
          let all = same-trans next (jobs_in_cycle change.plan n) (cycle_jobs set change.plan.cycle n) listed (cycle_jobs-same change.plan n keeps.plan) in
          let fresh = subst (λ c. HaveSameItems next (cycle_jobs set c n)) keeps.plan.cycle all in
          let before : unended later (offline_jobs set cycle n) ≡ [] = subst (λ m. unended later (offline_jobs set cycle m) ≡ []) (add-one (change.passed / cycle)) (begun-none whole) in
          let parts : unended later (offline_jobs set cycle (suc n)) ≡ cycle_jobs set cycle n = unended-append later (offline_jobs set cycle n) (cycle_jobs set cycle n) ∙ ap₂ (λ us vs. us ++ vs) before (next-fresh whole) in
          let cycles : suc n ≡ (change.passed + 1) / cycle + 1 = sym (add-one n) ∙ ap (λ q. q + 1) (sym (ap (λ t. t / cycle) (add-one change.passed) ∙ step)) in
          subst (λ m. HaveSameItems next (unended later (offline_jobs set cycle m))) cycles (subst (HaveSameItems next) (sym parts) fresh)

  -- so what is kept stays kept
  pub KeepsChange-next : (ended_then ran_then : ℕ) (after next : QueueParts) → ((c : ℕ) → carried_left c change.carried ended_then ran_then ≡ carried_after turn_told (carried_left c change.carried ended ran)) → HaveSameItems after.jobs (own_after turn_told queue.jobs) → after.capacity ≡ queue.capacity → HaveSameItems next.jobs (cond ((change.passed + 1) % change.plan.cycle == 0) (jobs_in_cycle change.plan ((change.passed + 1) / change.plan.cycle)) after.jobs) → next.capacity ≡ after.capacity → time_of_change change < 2 ^ 32 → KeepsChange (record change { passed = change.passed + 1 }) ended_then ran_then next
  KeepsChange-next ended_then ran_then after next runs own room come room_next early = record {
    plan = keeps.plan;
    row = keeps.row;
    carried = keeps.carried;
    ordered = keeps.ordered;
    served = keeps.served;
    early = omega (arith, early);
    left = left-next ended_then ran_then runs;
    own = own-after_turn after.jobs next.jobs own come;
    room = room_next ∙ room ∙ keeps.room;
  }
