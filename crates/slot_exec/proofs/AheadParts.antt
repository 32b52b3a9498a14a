-- What is told of the next start, of free slots and of a tight time makes the choice stay, and then change.
use Rattle.std.proofs.Common.{◌≡◌, ℕ, ◌+◌, ◌-◌, ◌<◌, ◌≤◌, min, true, false, cond, not, List, [], ◌∷◌, Option, Some, None, Ordering, Less, Equal, Greater, is_lt, is_gt, refl, sym, ap, ◌∙◌, inl, inr, arith}
use Rattle.std.specs.Prelude.{◌≢◌, nat_le}
use Rattle.std.specs.List.{range_with_len}
use Rattle.std.specs.Ordering.{ordering_reverse}
use Rattle.std.specs.Option.{option_map_or}
use Rattle.std.proofs.lemmas.Bool.{cases_Bool, cases_lt, false_from_ne_true, le-leb, lt-leb, ltb-true, not-false}
use Rattle.slot_core.specs.declared.jobs.Job.{Job}
use Rattle.slot_core.specs.declared.jobs.SoftJob.{SoftJob}
use Rattle.slot_core.specs.declared.events.Ran.TheVariants.{Idle as RanIdle, Key as RanKey}
use Rattle.slot_core.specs.declared.tasks.Sporadic.{Sporadic}
use Rattle.slot_core.specs.Feasibility.Sporadics.{sporadic_demand}
use Rattle.slot_core.specs.Keeping.Executives.{Executive, StandsForSome}
use Rattle.slot_core.specs.Keeping.Plans.{IsPlan}
use Rattle.slot_core.specs.Offline.Keys.{is_earlier, same_key}
use Rattle.slot_core.specs.Runs.Choice.{earliest, ready, soft_may_run}
use Rattle.slot_core.specs.Runs.Demand.{is_overloaded, need_by, work_by}
use Rattle.slot_core.specs.Runs.Scenes.{horizon}
use Rattle.slot_facts.proofs.Choice.Earliest.{job_cmp, job_cmp_total, same_from_key, IsEarliest-from_earliest}
use Rattle.slot_facts.proofs.Demand.OneSlot.{none_is_ready, sporadic_demand-later}
use Rattle.slot_facts.proofs.Legal.Executives.{every_executive_is_kept}
use Rattle.slot_facts.proofs.Lists.ApartKeys.{same_member-from_apart, IsApart-from_count}
use Rattle.slot_facts.proofs.Lists.Members.{Has, Has-filter, Has-range_with_len_bounds}
use Rattle.slot_facts.proofs.Lists.Tests.{fails-from_list_all}
use Rattle.job_queue.specs.Starts.{first_start, first_start_within, goes_before}
use Rattle.job_queue.proofs.Starts.{first_start-le, first_start-none, first_start-some, within-none, within-some}
use Rattle.scene_steps.proofs.Facts.AfterChoice.{bounds-after_choice}
use Rattle.scene_steps.proofs.Facts.Choices.{earliest-listed}
use Rattle.scene_steps.proofs.Slots.Chosen.{listed-not_soft}
use Rattle.slot_exec.specs.Ahead.{slots_to_start}
use Rattle.slot_exec.specs.declared.runs.Chosen.{Chosen}
use Rattle.slot_exec.specs.declared.runs.Chosen.TheVariants.{Nothing, Guaranteed}
use Rattle.slot_exec.proofs.AheadSlots.{idle-ahead, idle-ends, job-ahead, job-gives_way, job-runs_out, slots_later, soft-chosen, ChoosesAhead, SoftHeldBack}
use Rattle.slot_exec.proofs.RememberedRoom.{ran_due}
use Rattle.slot_exec.proofs.SceneRooms.{work_by-ran}
use Rattle.slot_exec.proofs.SlotChoice.{choice_of, IsChosen}

-- no job that goes before the other one starts in these slots
pub start-after : (time n most : ℕ) (other : Option Job) (jobs : List Job) (job : Job) → n ≤ slots_to_start time other jobs most → Has jobs job → time < job.est → goes_before other job ≡ true → time + n ≤ job.est
start-after time n most other jobs job few at later before = by_found (first_start time other jobs) refl few
  where
    by_found : (o : Option ℕ) → first_start time other jobs ≡ o → n ≤ option_map_or (λ s. min (s - time) most) o most → time + n ≤ job.est
    by_found None none less = absurd (first_start-none time other jobs job none at later before)
    by_found (Some s) some less =
        let (first, listed, is, after, goes) = first_start-some time s other jobs some in
        omega (arith, after, first_start-le time s other jobs job some at later before)

-- one starts just after them, where they are fewer than asked for
pub start-at : (time n most : ℕ) (other : Option Job) (jobs : List Job) → n ≡ slots_to_start time other jobs most → n < most → (job : Job) × Has jobs job × (job.est ≡ time + n) × (goes_before other job ≡ true)
start-at time n most other jobs is less = by_found (first_start time other jobs) refl is
  where
    by_found : (o : Option ℕ) → first_start time other jobs ≡ o → n ≡ option_map_or (λ s. min (s - time) most) o most → (job : Job) × Has jobs job × (job.est ≡ time + n) × (goes_before other job ≡ true)
    by_found None none same = absurd (omega arith)
    by_found (Some s) some same =
        let (first, listed, est, after, goes) = first_start-some time s other jobs some in
        (first, listed, omega (arith, est, after), goes)

-- they are told by a start before the time that they reach
pub start-found : (time most until s : ℕ) (other : Option Job) (jobs : List Job) → until ≡ time + most → first_start_within time until other jobs ≡ Some s → (s - time ≡ slots_to_start time other jobs most) × (time < s) × (s < time + most)
start-found time most until s other jobs last found =
    let (some, soon) = within-some time until s other jobs found in
    let (first, listed, est, after, goes) = first_start-some time s other jobs some in
    let few : s - time ≡ min (s - time) most = omega (arith, soon) in
    (few ∙ sym (ap (λ o. option_map_or (λ t. min (t - time) most) o most) some), after, omega (arith, soon))

-- or there is none
pub start-unfound : (time most until : ℕ) (other : Option Job) (jobs : List Job) → until ≡ time + most → first_start_within time until other jobs ≡ None → most ≡ slots_to_start time other jobs most
start-unfound time most until other jobs last none = by_found (first_start time other jobs) refl
  where
    by_found : (o : Option ℕ) → first_start time other jobs ≡ o → most ≡ option_map_or (λ s. min (s - time) most) o most
    by_found None is = refl
    by_found (Some s) is = omega (arith, within-none time until other jobs none s is)

-- there are no more than asked for, and one where one is
pub start-most : (time most : ℕ) (other : Option Job) (jobs : List Job) → slots_to_start time other jobs most ≤ most
start-most time most other jobs = by_found (first_start time other jobs)
  where
    by_found : (o : Option ℕ) → option_map_or (λ s. min (s - time) most) o most ≤ most
    by_found None = omega arith
    by_found (Some s) = omega arith

pub start-some : (time most : ℕ) (other : Option Job) (jobs : List Job) → 1 ≤ most → 1 ≤ slots_to_start time other jobs most
start-some time most other jobs some = by_found (first_start time other jobs) refl
  where
    by_found : (o : Option ℕ) → first_start time other jobs ≡ o → 1 ≤ option_map_or (λ s. min (s - time) most) o most
    by_found None none = some
    by_found (Some s) is =
        let (first, listed, est, after, goes) = first_start-some time s other jobs is in
        omega (arith, after)

-- a job that goes after none does not go after
not_earlier-from_reverse : (o : Ordering) → is_gt (ordering_reverse o) ≡ false → is_lt o ≡ false
not_earlier-from_reverse Less e = cc
not_earlier-from_reverse Equal e = refl
not_earlier-from_reverse Greater e = refl

none-before : (jobs : List Job) (best job : Job) → earliest jobs ≡ Some best → Has jobs job → is_earlier job best ≡ false
none-before jobs best job found at =
    not_earlier-from_reverse (job_cmp job best) (sym (ap is_gt (job_cmp_total.antisymm best job)) ∙ (IsEarliest-from_earliest jobs best found).first job at)

module _ (exec : Executive) (plan : IsPlan exec.plan) (stands : StandsForSome exec) where
  abbrev sporadics : List Sporadic
  sporadics = exec.plan.tasks.sporadics

  abbrev cycle : ℕ
  cycle = exec.plan.cycle

  abbrev time : ℕ
  time = exec.scene.time

  -- up to a time that is short in this slot, what runs is due
  pub short-ran : (chosen : Chosen) (x : ℕ) → IsChosen exec chosen → time < x → x ≤ horizon cycle time → x - time ≤ need_by sporadics exec.scene (time + 1) x → 1 ≤ ran_due chosen x
  short-ran chosen x is after within short =
      omega (arith, short, work_by-ran exec plan stands chosen is x, (bounds-after_choice exec plan stands).fits x (omega arith) within)

  -- where soft work may not run some time is short
  pub short-time : soft_may_run sporadics cycle exec.scene ≡ false → (x : ℕ) × (time < x) × (x ≤ horizon cycle time) × (x - time ≤ need_by sporadics exec.scene (time + 1) x)
  short-time held =
      let end = horizon cycle time in
      let test = λ (x : ℕ). is_overloaded sporadics exec.scene 1 (time + 1) x in
      let (x, at, fails) = fails-from_list_all (λ x. not (test x)) (range_with_len (time + 1) (end - time)) held in
      let (low, high) = Has-range_with_len_bounds (time + 1) (end - time) x at in
      let short = ltb-true (x - time) (1 + need_by sporadics exec.scene (time + 1) x) (not-false (test x) fails) in
      (x, omega (arith, low), omega (arith, low, high), omega (arith, short))

  -- so no soft job waits through an idle slot
  pub none-waits : RanIdle ≡ choice_of exec → exec.scene.soft ≡ []
  none-waits idle = by_soft exec.scene.soft refl
    where
      by_soft : (soft : List SoftJob) → exec.scene.soft ≡ soft → exec.scene.soft ≡ []
      by_soft [] same = same
      by_soft (s ∷ rest) same =
          elim (cases_Bool (soft_may_run sporadics cycle exec.scene)) [
            | inl may ↦ absurd (cc (idle ∙ sym (soft-chosen exec plan stands s rest same may)))
            | inr held ↦
                let (x, after, within, short) = short-time held in
                absurd (omega (arith, short-ran Nothing x idle after within short))
          ]

  -- idle slots: as many as pass before a job starts
  pub idle-stays : (n most : ℕ) → earliest (ready time exec.scene.jobs) ≡ None → RanIdle ≡ choice_of exec → most ≤ cycle → n ≡ slots_to_start time None exec.scene.jobs most → ChoosesAhead RanIdle n exec
  idle-stays n most none idle few is =
      idle-ahead n exec plan stands (none-waits idle) (λ job at. start-after time n most None exec.scene.jobs job (omega arith) at (none_is_ready time exec.scene.jobs job none at) refl) (omega (arith, start-most time most None exec.scene.jobs))

  pub idle-changes : (n most : ℕ) → ChoosesAhead RanIdle n exec → n ≡ slots_to_start time None exec.scene.jobs most → n < most → RanIdle ≡ choice_of (slots_later n exec) → ⊥
  idle-changes n most chooses is less =
      let (job, at, est, goes) = start-at time n most None exec.scene.jobs is less in
      idle-ends n exec job plan stands chooses at (omega arith)

  module _ (job : Job) (found : earliest (ready time exec.scene.jobs) ≡ Some job) (chosen : RanKey job.key ≡ choice_of exec) where
    listed : Has exec.scene.jobs job × (job.est ≤ time)
    listed = earliest-listed time exec.scene.jobs job found

    -- another job of its key is the same
    itself : (other : Job) → Has exec.scene.jobs other → other.key ≡ job.key → other ≡ job
    itself other at same =
        same_member-from_apart (λ (j : Job). j.key) exec.scene.jobs other job (IsApart-from_count exec.scene.jobs (every_executive_is_kept exec plan stands).bounds.apart) at listed.0 same

    -- what soft work waits is held back
    pub held-back : (n : ℕ) → 1 ≤ n → (exec.scene.soft ≢ [] → soft_may_run sporadics cycle exec.scene ≡ false) → (exec.scene.soft ≢ [] → sporadics ≢ [] → (x : ℕ) × (time < x) × (x ≤ horizon cycle time) × (x - time ≤ work_by exec.scene.jobs x + sporadic_demand sporadics exec.scene.nexts (time + n) x)) → SoftHeldBack exec job n
    held-back n some held tight = by_parts exec.scene.soft sporadics refl refl
      where
        due : (x : ℕ) → time < x → x ≤ horizon cycle time → x - time ≤ work_by exec.scene.jobs x + sporadic_demand sporadics exec.scene.nexts (time + 1) x → job.dl ≤ x
        due x after within short =
            let one = short-ran (Guaranteed job) x (listed.0, chosen) after within short in
            elim (cases_lt x job.dl) [
              | inl late ↦
                  let none : ran_due (Guaranteed job) x ≡ 0 = ap (λ b. cond {A = ℕ} b 1 0) (lt-leb job.dl x late) in
                  absurd (omega arith)
              | inr early ↦ early
            ]

        by_parts : (soft : List SoftJob) (ss : List Sporadic) → exec.scene.soft ≡ soft → sporadics ≡ ss → SoftHeldBack exec job n
        by_parts [] ss same own = inl same
        by_parts (s ∷ rest) [] same own =
            let (x, after, within, short) = short-time (held (λ none. cc (sym same ∙ none))) in
            let nothing : sporadic_demand sporadics exec.scene.nexts (time + 1) x ≡ 0 = ap (λ ts. sporadic_demand ts exec.scene.nexts (time + 1) x) own in
            inr (x, due x after within short, within, omega (arith, short, nothing))
        by_parts (s ∷ rest) (t ∷ ts) same own =
            let (x, after, within, short) = tight (λ none. cc (sym same ∙ none)) (λ none. cc (sym own ∙ none)) in
            let fewer = sporadic_demand-later sporadics exec.scene.nexts (time + 1) (time + n) x (omega arith) in
            inr (x, due x after within (omega (arith, short, fewer)), within, short)

    -- the job: as many slots as it has left, as pass before one starts that goes before it, and as soft work is held back
    pub job-stays : (n most : ℕ) → 1 ≤ n → most ≤ cycle → n ≤ slots_to_start time (Some job) exec.scene.jobs (min most job.left) → SoftHeldBack exec job n → ChoosesAhead (RanKey job.key) n exec
    job-stays n most some few less held =
        let most_left = start-most time (min most job.left) (Some job) exec.scene.jobs in
        job-ahead n exec job plan stands listed.0 listed.1 (omega arith) (omega arith) (λ other at early.
        elim (cases_lt time other.est) [
          | inl later ↦ false_from_ne_true (is_earlier other job) (λ goes. absurd (omega (arith, start-after time n (min most job.left) (Some job) exec.scene.jobs other less at later goes)))
          | inr come ↦ none-before (ready time exec.scene.jobs) job other found (Has-filter (λ (j : Job). nat_le j.est time) exec.scene.jobs other at (le-leb other.est time come))
        ]) held

    pub job-changes : (n most : ℕ) → 1 ≤ n → most ≤ cycle → ChoosesAhead (RanKey job.key) n exec → n ≡ slots_to_start time (Some job) exec.scene.jobs (min most job.left) → n < most → RanKey job.key ≡ choice_of (slots_later n exec) → ⊥
    job-changes n most some few chooses is less =
        let most_left = start-most time (min most job.left) (Some job) exec.scene.jobs in
        let hard = listed-not_soft exec job plan stands listed.0 in
        elim (cases_lt n job.left) [
          | inl more ↦
              let (first, at, est, goes) = start-at time n (min most job.left) (Some job) exec.scene.jobs is (omega arith) in
              let other = false_from_ne_true (same_key first.key job.key) (λ same. absurd (omega (arith, est, listed.1, ap (λ (j : Job). j.est) (itself first at (same_from_key first.key job.key same))))) in
              job-gives_way n job.key exec first plan stands hard (omega arith) chooses at other (omega arith) (λ j among named early. ap (is_earlier first) (itself j among named) ∙ goes)
          | inr last ↦
              job-runs_out n job.key exec plan stands hard (omega arith) chooses (λ j among named early. ap (λ (o : Job). o.left) (itself j among named) ∙ omega arith)
        ]
