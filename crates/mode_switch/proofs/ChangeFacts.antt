-- What a kept change tells of its jobs, and of the turn of its next slot.
use Rattle.std.proofs.Common.{◌≡◌, ◌↔◌, ℕ, ◌+◌, ◌/◌, ◌≤◌, true, not, List, [], ◌∷◌, ◌++◌, map, filter, Option, None, refl, sym, ap, ap₂, subst, ◌∙◌, inl, arith}
use Rattle.std.specs.Prelude.{All, Contains, nat_le, slice_get}
use Rattle.std.proofs.lemmas.List.Elements.{filter-append}
use Rattle.slot_core.specs.declared.jobs.Key.{Key}
use Rattle.slot_core.specs.declared.jobs.Job.{Job}
use Rattle.slot_core.specs.declared.tasks.TaskSet.{TaskSet}
use Rattle.slot_core.specs.Sets.Cycles.{cycle_of}
use Rattle.slot_core.specs.Feasibility.Feasible.{IsFeasible}
use Rattle.slot_core.specs.Offline.Keys.{is_offline}
use Rattle.slot_core.specs.Offline.OfflineJobs.{offline_jobs}
use Rattle.slot_core.specs.Runs.Arrivals.{key_in_set}
use Rattle.slot_core.specs.Runs.Choice.{earliest, ready}
use Rattle.slot_core.specs.Runs.Histories.{History, time_of}
use Rattle.slot_core.specs.Runs.Scenes.{has_ended, unended, with_left}
use Rattle.slot_facts.proofs.Choice.SameEarliest.{earliest_of}
use Rattle.slot_facts.proofs.Histories.Unended.{unended-append, unended_have_left, unended_own}
use Rattle.slot_facts.proofs.Lists.Apart.{IsApart-filter}
use Rattle.slot_facts.proofs.Lists.ApartKeys.{IsApart-from_count}
use Rattle.slot_facts.proofs.Lists.Members.{Has, Contains-from_Has, Has-map_cases}
use Rattle.slot_facts.proofs.Lists.SameItems.{same-filter}
use Rattle.slot_facts.proofs.Offline.DistinctKeys.{IsApart, IsApart-map, offline_jobs-apart}
use Rattle.slot_facts.proofs.Offline.Jobs.{offline_from_cycles, offline-named}
use Rattle.job_queue.specs.Queues.{QueueParts}
use Rattle.change_laws.specs.Carried.{jobs_after, since}
use Rattle.mode_switch.specs.Keeping.{KeepsChange, NoneIsReady, carried_left, history_of_change, own_left}
use Rattle.mode_switch.specs.Parts.{ChangeParts}
use Rattle.mode_switch.specs.Runs.{IsServedAfter, after_change, turn_at, turn_between}
use Rattle.mode_switch.specs.declared.turns.Turn.{Turn}
use Rattle.mode_switch.specs.declared.turns.Turn.TheVariants.{Idle, Old, New}
use Rattle.mode_switch.proofs.ChangeTurns.{AreSides, IsTurn, earliest-any_order, first-from_old, first_member, chosen_one, none-from_idle, other-from_new}
use Rattle.mode_switch.proofs.DeadlineOrder.{carried_left-ordered, earliest-all_ready}
use Rattle.change_laws.proofs.GrantJobs.{IsSince, IsSince-from_carried}
use Rattle.mode_switch.proofs.ServedChanges.{changes_are_served}
use Rattle.mode_switch.proofs.ServedRuns.{time_of-after_change}

-- no list has an earliest job exactly where it is empty
empty-from_none : (jobs : List Job) → earliest jobs ≡ None → jobs ≡ []
empty-from_none [] none = refl
empty-from_none (job ∷ jobs) none = absurd (earliest_of (job ∷ jobs) job (inl refl) none)

both_empty : (xs ys : List Job) → xs ++ ys ≡ [] → (xs ≡ []) × (ys ≡ [])
both_empty [] ys e = (refl, e)
both_empty (x ∷ xs) ys e = absurd (cc e)

-- the jobs of a list that have not ended have the keys of the list
unended-apart : (h : History) (jobs : List Job) → IsApart (λ (j : Job). j.key) jobs → IsApart (λ (j : Job). j.key) (unended h jobs)
unended-apart h jobs apart =
    let running = filter (λ job. not (has_ended h job)) jobs in
    IsApart-map (with_left h) (λ (j : Job). j.key) running (IsApart-filter (λ (j : Job). j.key) (λ job. not (has_ended h job)) jobs apart)

module _ (change : ChangeParts) (ended ran : ℕ) (queue : QueueParts) (keeps : KeepsChange change ended ran queue) where
  abbrev set : TaskSet
  set = change.plan.tasks

  abbrev h : History
  h = history_of_change change

  -- the carried jobs, with times from the change on, and those of them that remain
  abbrev moved : List Job
  moved = map (since change.at) change.carried

  abbrev front : List Job
  front = carried_left change.at change.carried ended ran

  -- the jobs of the second set in the cycles begun by now
  abbrev begun : List Job
  begun = offline_jobs set (cycle_of set) (change.passed / cycle_of set + 1)

  pub feasible : IsFeasible change.plan.tasks (cycle_of change.plan.tasks)
  feasible = subst (λ n. IsFeasible change.plan.tasks n) keeps.plan.cycle keeps.plan.feasible

  -- all jobs are served, in any number of slots and cycles
  pub served : (cycles n : ℕ) → IsServedAfter change.plan.tasks (jobs_after change.plan.tasks change.at change.carried cycles) (after_change change.plan.tasks change.at change.carried n)
  served cycles n =
      changes_are_served set change.at keeps.row cycles n change.carried keeps.plan.sound feasible keeps.carried keeps.served

  pub time : time_of (history_of_change change) ≡ change.passed
  time = time_of-after_change set change.at change.passed change.carried

  -- a carried job that remains is one of the carried ones
  front-own : (job : Job) → Has front job → (own : Job) × Has moved own × (job ≡ with_left h own)
  front-own job at =
      let own = unended_own h moved job (subst (λ js. Has js job) (sym keeps.left) at) in
      (own.0, own.1.listed, own.1.same)

  since_one : (own : Job) → Has moved own → IsSince change.at keeps.row own
  since_one own at = IsSince-from_carried change.at keeps.row change.carried own keeps.carried at

  pub front-left : All (λ (j : Job). 1 ≤ j.left) (carried_left change.at change.carried ended ran)
  front-left = subst (All (λ (j : Job). 1 ≤ j.left)) keeps.left (unended_have_left h moved)

  pub front-apart : IsApart (λ (j : Job). j.key) (carried_left change.at change.carried ended ran)
  front-apart =
      let keys = IsApart-map (since change.at) (λ (j : Job). j.key) change.carried (IsApart-from_count change.carried keeps.carried.apart) in
      subst (IsApart (λ (j : Job). j.key)) keeps.left (unended-apart h moved keys)

  front-early : (t : ℕ) (job : Job) → Has front job → job.est ≤ t
  front-early t job at =
      let (own, listed, same) = front-own job at in
      omega (arith, (since_one own listed).begun, ap (λ (j : Job). j.est) same)

  -- the first of them is the earliest
  front-first : (t : ℕ) → earliest (ready t front) ≡ slice_get front 0
  front-first t =
      let low = λ (j : Job) (at : Has change.carried j). let later = keeps.carried.due_later j (Contains-from_Has change.carried j at) in let le : change.at ≤ j.dl = omega arith in le in
      earliest-all_ready t front (front-early t) (carried_left-ordered change.at change.carried ended ran low keeps.ordered)

  -- a job of the second set that remains is one of its offline jobs
  own-listed : (job : Job) → Has (own_left change) job → (own : Job) × Has begun own × (job ≡ with_left h own)
  own-listed job at =
      let own = unended_own h begun job at in
      (own.0, own.1.listed, own.1.same)

  own-named : (job : Job) → Has (own_left change) job → (is_offline job.key ≡ true) × (key_in_set set job.key ≡ true)
  own-named job at =
      let (own, listed, same) = own-listed job at in
      let of = offline_from_cycles set (cycle_of set) (change.passed / cycle_of set + 1) own (Contains-from_Has begun own listed) in
      let key = ap (λ (j : Job). j.key) same in (
        ap is_offline key ∙ ap (λ (j : Job). is_offline j.key) of.instance_of.derived,
        ap (key_in_set set) key ∙ offline-named set (change.passed / cycle_of set + 1) own of,
      )

  pub own-apart : IsApart (λ (j : Job). j.key) (own_left change)
  own-apart = unended-apart h begun (offline_jobs-apart set (cycle_of set) (change.passed / cycle_of set + 1))

  pub own-some : All (λ (j : Job). 1 ≤ j.left) (own_left change)
  own-some = unended_have_left h begun

  -- the two kinds of jobs, in the queue too
  pub sides : AreSides (carried_left change.at change.carried ended ran) (own_left change)
  sides = record {
    carried = λ job at.
        let (own, listed, same) = front-own job at in
        ap (λ (j : Job). is_offline j.key) same ∙ (since_one own listed).other;
    own = λ job at. (own-named job at).0;
  }

  -- the earliest ready job is that of the queue
  queue-earliest : (t : ℕ) → earliest (ready t queue.jobs) ≡ earliest (ready t (own_left change))
  queue-earliest t =
      let test = λ (j : Job). nat_le j.est t in
      earliest-any_order (ready t queue.jobs) (ready t (own_left change)) (same-filter test queue.jobs (own_left change) keeps.own) (IsApart-filter (λ (j : Job). j.key) test (own_left change) own-apart)

  -- a turn between the first carried job and the earliest of the queue is the turn of this slot
  module _ (turn : Turn) (told : turn ≡ turn_between (slice_get (carried_left change.at change.carried ended ran) 0) (earliest (ready change.passed queue.jobs))) where
    pub turn-queue : IsTurn change.passed (carried_left change.at change.carried ended ran) queue.jobs turn
    turn-queue = record { is = told }

    pub turn-own : IsTurn change.passed (carried_left change.at change.carried ended ran) (own_left change) turn
    turn-own =
        record { is = told ∙ ap (turn_between (slice_get front 0)) (queue-earliest change.passed) }

    pub turn-is : turn ≡ turn_at change.plan.tasks change.at change.carried change.passed
    turn-is =
        let at_time = λ (t : ℕ). turn_between (earliest (ready t (unended h moved))) (earliest (ready t (unended h (offline_jobs set (cycle_of set) (t / cycle_of set + 1))))) in
        let carried = ap (λ js. earliest (ready change.passed js)) keeps.left ∙ front-first change.passed in
        turn-own.is
        ∙ ap (λ first. turn_between first (earliest (ready change.passed (own_left change)))) (sym carried)
        ∙ ap at_time (sym time)

    -- an old key is that of a carried job
    pub old-carried : (key : Key) → turn ≡ Old key → (job : Job) × Contains change.carried job × (job.key ≡ key)
    old-carried key old =
        let (first, is, same) = first-from_old (slice_get front 0) (earliest (ready change.passed queue.jobs)) key (sym told ∙ old) in
        let (own, listed, left) = front-own first (first_member front first is) in
        let (job, among, moved_one) = Has-map_cases (since change.at) change.carried own listed in
        (job, Contains-from_Has change.carried job among, ap (λ (j : Job). j.key) (moved_one ∙ refl) ∙ ap (λ (j : Job). j.key) (sym left) ∙ same)

    -- a new one lies in the second set
    pub new-named : (key : Key) → turn ≡ New key → key_in_set change.plan.tasks key ≡ true
    new-named key new =
        let (other, is, same) = other-from_new (slice_get front 0) (earliest (ready change.passed (own_left change))) key (sym turn-own.is ∙ new) in
        ap (key_in_set set) (sym same) ∙ (own-named other (chosen_one change.passed (own_left change) other is)).1

    -- and it is idle exactly where no job is ready
    ready-both : ready change.passed (unended h (moved ++ begun)) ≡ ready change.passed (unended h moved) ++ ready change.passed (own_left change)
    ready-both =
        ap (ready change.passed) (unended-append h moved begun) ∙ filter-append (λ (j : Job). nat_le j.est change.passed) (unended h moved) (unended h begun)

    ready_now : (xs ys : List Job) (other : Option Job) → earliest xs ≡ slice_get front 0 → earliest ys ≡ other → turn ≡ turn_between (slice_get front 0) other → (turn ≡ Idle) ↔ (xs ++ ys ≡ [])
    ready_now xs ys other first second is = (
      λ idle.
          let (none, no_other) = none-from_idle (slice_get front 0) other (sym is ∙ idle) in
          ap₂ (λ us vs. us ++ vs) (empty-from_none xs (first ∙ none)) (empty-from_none ys (second ∙ no_other)),
      λ empty.
          let (no_first, no_second) = both_empty xs ys empty in
          let none : slice_get front 0 ≡ None = sym first ∙ ap earliest no_first in
          let no_other : other ≡ None = sym second ∙ ap earliest no_second in
          is ∙ ap₂ turn_between none no_other,
    )

    pub idle-none : (turn ≡ Idle) ↔ NoneIsReady change.plan.tasks change.at change.carried (history_of_change change)
    idle-none =
        let now = ready_now (ready change.passed (unended h moved)) (ready change.passed (own_left change)) (earliest (ready change.passed (own_left change))) (ap (λ js. earliest (ready change.passed js)) keeps.left ∙ front-first change.passed) refl turn-own.is in
        let whole : ready change.passed (unended h moved) ++ ready change.passed (own_left change) ≡ ready change.passed (unended h (moved ++ begun)) = sym ready-both in
        let at_time = λ (t : ℕ). ready t (unended h (moved ++ offline_jobs set (cycle_of set) (t / cycle_of set + 1))) in
        let same = whole ∙ ap at_time (sym time) in
        (λ idle. sym same ∙ now.0 idle, λ none. now.1 (same ∙ none))
