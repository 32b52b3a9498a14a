-- What is remembered of the room for soft work, after jobs have come in or gone.
use Rattle.std.proofs.Common.{◌≡◌, ℕ, zero, suc, ◌+◌, ◌-◌, ◌*◌, ◌/◌, ◌&&◌, ◌<◌, ◌≤◌, ◌^◌, min, Bool, true, false, cond, not, List, [], ◌∷◌, ◌++◌, Option, Some, None, filter, length, refl, sym, ap, ◌∙◌, subst, arith}
use Rattle.std.specs.Prelude.{nat_le, nat_lt, slice_get, slice_index, slice_set}
use Rattle.std.specs.Option.{option_map_or}
use Rattle.std.proofs.lemmas.Bool.{leb-true, lt-ltb, ltb-false}
use Rattle.std.proofs.lemmas.List.Sums.{sum_by-cons}
use Rattle.slot_core.specs.declared.events.Spo.{Spo}
use Rattle.slot_core.specs.declared.events.Spo.TheVariants.{Soon, Taken}
use Rattle.slot_core.specs.declared.jobs.Job.{Job}
use Rattle.slot_core.specs.declared.jobs.Key.{Key}
use Rattle.slot_core.specs.declared.tasks.Sporadic.{Sporadic}
use Rattle.slot_core.specs.declared.tasks.TaskSet.{TaskSet}
use Rattle.slot_core.specs.Runs.Answers.{relative_deadline}
use Rattle.slot_core.specs.Runs.Demand.{need_by, work_by}
use Rattle.slot_core.specs.Keeping.Executives.{Executive, StandsForSome}
use Rattle.slot_core.specs.Runs.Histories.{sporadic_job}
use Rattle.slot_core.specs.Offline.Keys.{same_key}
use Rattle.slot_core.specs.Keeping.Kept.{AreApart, KeepsBounds}
use Rattle.slot_core.specs.Runs.Matches.{HaveSameItems}
use Rattle.slot_core.specs.Keeping.Plans.{IsPlan}
use Rattle.slot_core.specs.Runs.Scenes.{Scene, horizon}
use Rattle.slot_core.specs.Feasibility.Sporadics.{sporadic_demand}
use Rattle.slot_facts.proofs.Bounds.CycleDemand.{FitsCycle-from_Has}
use Rattle.slot_facts.proofs.Bounds.TakenArrival.{sporadic_demand-taken}
use Rattle.slot_facts.proofs.Legal.Executives.{every_executive_is_kept}
use Rattle.slot_facts.proofs.Legal.Rows.{sporadic_job-at}
use Rattle.slot_facts.proofs.Lists.Members.{Has, Contains-from_Has, Has-filter_passes, Has-from_slice_get, AllByRecursion-from_Has}
use Rattle.slot_facts.proofs.Plans.Items.{plan_cycle-bounds}
use Rattle.slot_facts.proofs.Scheduling.Beside.{work_by-both}
use Rattle.slot_facts.proofs.Sets.Tasks.{slice_get-within}
use Rattle.scene_steps.specs.SporadicArrivals.{arrival_answer, is_too_soon, jobs_after_arrival, nexts_after}
use Rattle.scene_steps.specs.Steps.{separation_of}
use Rattle.scene_steps.proofs.Rows.JobWorks.{work_between-without}
use Rattle.scene_steps.proofs.Spans.Proper.{horizon-at_most}
use Rattle.slot_exec.specs.declared.rooms.Remembered.{Remembered}
use Rattle.slot_exec.specs.Rooms.{due_left, due_told, due_with, free_beside, Remembers, RemembersScene}
use Rattle.slot_exec.proofs.SceneRooms.{work_by-after}

-- where no more is needed, the same slots are free; and what is due by `tight` is what is said of it
pub Remembers-changed : (need later work more : ℕ → ℕ) (t end : ℕ) (room : Remembered) (due : ℕ) → ((x : ℕ) → later x ≤ need x) → (room.due ≡ work room.tight → due ≡ more room.tight) → Remembers need work t end room → Remembers later more t end (record room { due = due })
Remembers-changed need later work more t end room due fewer changed is =
    record {
      free = λ x low high some. omega (arith, is.free x low high (omega (arith, fewer x)), fewer x);
      due = λ to_come.
          let (within, at) = is.due to_come in
          (within, changed at);
    }

-- what a job has left, where it is due by x
abbrev pub slots_due : Job → ℕ → ℕ
slots_due job x = cond (nat_le job.dl x) job.left 0

-- with a job more, so much is due
due_with-is : (job : Job) (tight due work : ℕ) → due ≡ work → due_with job tight due ≡ work + slots_due job tight
due_with-is job tight due work is = by_test (nat_le job.dl tight)
  where
    by_test : (b : Bool) → cond b (due + job.left) due ≡ work + cond b job.left 0
    by_test true = omega arith
    by_test false = omega arith

-- without the job that goes, so much less
due_left-is : (gone : Option Job) (tight due more : ℕ) → due ≡ more + option_map_or (λ (j : Job). slots_due j tight) gone 0 → due_left gone tight due ≡ more
due_left-is None tight due more is = omega arith
due_left-is (Some job) tight due more is = by_test (nat_le job.dl tight) is
  where
    by_test : (b : Bool) → due ≡ more + cond b job.left 0 → cond b (due - job.left) due ≡ more
    by_test true e = omega arith
    by_test false e = omega arith

-- an offer that is accepted leaves no more free than there is beside it
offered-free : (b : Bool) (dl x t free need left : ℕ) → nat_le dl x ≡ b → t < x → (1 ≤ need → free + need ≤ x - t) → need + cond b left 0 ≤ x - t → 1 ≤ need + cond b left 0 → (min free (dl - t) - left) + (need + cond b left 0) ≤ x - t
offered-free true dl x t free zero left e later is fits some =
    omega (arith, leb-true dl x e)
offered-free true dl x t free (suc n) left e later is fits some =
    omega (arith, is (omega arith))
offered-free false dl x t free need left e later is fits some =
    omega (arith, is (omega arith))

pub Remembers-offered : (need later work more : ℕ → ℕ) (t end : ℕ) (job : Job) (room : Remembered) → job.est ≡ t → ((x : ℕ) → later x ≡ need x + slots_due job x) → ((x : ℕ) → more x ≡ work x + slots_due job x) → ((x : ℕ) → t < x → x ≤ end → later x ≤ x - t) → Remembers need work t end room → Remembers later more t end (record { free = free_beside job room.free; tight = room.tight; due = due_with job room.tight room.due })
Remembers-offered need later work more t end job room now needs works fits is =
    record {
      free = λ x low high some.
          let each = offered-free (nat_le job.dl x) job.dl x t room.free (need x) job.left refl low (is.free x low high) (omega (arith, fits x low high, needs x)) (omega (arith, needs x)) in
          let beside : free_beside job room.free ≡ min room.free (job.dl - t) - job.left = ap (λ n. min room.free (job.dl - n) - job.left) now in
          omega (arith, each, needs x, beside);
      due = λ to_come.
          let (within, at) = is.due to_come in
          (within, due_with-is job room.tight room.due (work room.tight) at ∙ sym (works room.tight));
    }

-- the work of one job
work_by-one : (job : Job) (x : ℕ) → work_by (job ∷ []) x ≡ slots_due job x
work_by-one job x =
    omega (arith, sum_by-cons (λ (j : Job). cond (nat_le j.dl x) j.left 0) job [])

-- with one more
work_by-more : (jobs : List Job) (job : Job) (x : ℕ) → work_by (jobs ++ job ∷ []) x ≡ work_by jobs x + slots_due job x
work_by-more jobs job x = omega (arith, work_by-both jobs (job ∷ []) x, work_by-one job x)

-- without the job of a key, if there is one, what it had left is due no more
pub work_by-left : (jobs : List Job) (t : ℕ) (key : Key) (gone : Option Job) → AreApart jobs → ((job : Job) → Has jobs job → t < job.dl) → ((job : Job) → gone ≡ Some job → Has jobs job × (job.key ≡ key)) → (x : ℕ) → work_by jobs x ≡ work_by (option_map_or (λ (ended : Job). filter (λ (j : Job). not (same_key j.key key)) jobs) gone jobs) x + option_map_or (λ (j : Job). slots_due j x) gone 0
work_by-left jobs t key None apart later listed x = omega arith
work_by-left jobs t key (Some job) apart later listed x =
    let (at, is) = listed job refl in
    let rest = filter (λ (j : Job). not (same_key j.key job.key)) jobs in
    let all = AllByRecursion-from_Has (λ (j : Job). t < j.dl) jobs later in
    let left = AllByRecursion-from_Has (λ (j : Job). t < j.dl) rest (λ j among. later j (Has-filter_passes (λ (i : Job). not (same_key i.key job.key)) jobs j among).0) in
    let without = work_between-without jobs job apart at t x in
    let own : cond (nat_lt t job.dl && nat_le job.dl x) job.left 0 ≡ slots_due job x = rw (lt-ltb t job.dl (later job at)) refl in
    let made : work_by jobs x ≡ work_by rest x + slots_due job x = omega (arith, work_by-after jobs t x all, work_by-after rest t x left, without, own) in
    subst (λ k. work_by jobs x ≡ work_by (filter (λ (j : Job). not (same_key j.key k)) jobs) x + slots_due job x) is made

-- an arrival that is taken needs no more than was held for it
arrival-needs : (ss : List Sporadic) (nexts : List ℕ) (index row t x : ℕ) (s : Sporadic) → slice_get ss index ≡ Some s → length nexts ≡ length ss → 1 ≤ s.separation → slice_index nexts index ≤ t → slots_due (sporadic_job ss index row t) x + sporadic_demand ss (slice_set nexts index (t + separation_of ss index)) t x ≤ sporadic_demand ss nexts t x
arrival-needs ss nexts index row t x s at same apart came =
    let taken = sporadic_demand-taken ss nexts index s t x at same apart came in
    let job = sporadic_job-at ss index row t s at in
    let next : separation_of ss index ≡ s.separation = rw at refl in
    let held = subst (λ n. cond (nat_le (t + s.deadline) x) s.wcet 0 + sporadic_demand ss (slice_set nexts index (t + n)) t x ≤ sporadic_demand ss nexts t x) (sym next) taken in
    subst
    (λ (j : Job). slots_due j x + sporadic_demand ss (slice_set nexts index (t + separation_of ss index)) t x ≤ sporadic_demand ss nexts t x)
    (sym job)
    held

module _ (exec : Executive) (plan : IsPlan exec.plan) (stands : StandsForSome exec) (room : Remembered) (is : RemembersScene exec.plan.tasks.sporadics exec.plan.cycle exec.scene exec.scene.time room) where
  abbrev set : TaskSet
  set = exec.plan.tasks

  abbrev cycle : ℕ
  cycle = exec.plan.cycle

  abbrev t : ℕ
  t = exec.scene.time

  -- each job is due later
  all_later : (job : Job) → Has exec.scene.jobs job → t < job.dl
  all_later job at =
      ((every_executive_is_kept exec plan stands).bounds.left job (Contains-from_Has exec.scene.jobs job at)).0

  -- what is remembered to be due by a time to come is no more than the slots up to the horizon
  pub due-small : t < room.tight → room.due ≤ 3 * cycle
  due-small later =
      let (within, at) = is.due later in
      let fits = (every_executive_is_kept exec plan stands).bounds.fits room.tight (omega arith) within in
      omega (arith, fits, at, horizon-at_most cycle t)

  -- so a job may be due beside it
  pub due-fits : (job : Job) → t < job.dl → job.dl ≤ room.tight → room.due < 2 ^ 63
  due-fits job later within =
      omega (arith, due-small (omega arith), plan_cycle-bounds exec.plan plan)

  module _ (scene : Scene) (now : scene.time ≡ t) where
    -- what is remembered of the scene at this time is so at its own
    at_now : (kept : Remembered) → Remembers (need_by set.sporadics scene t) (work_by scene.jobs) t (horizon cycle t) kept → RemembersScene set.sporadics cycle scene scene.time kept
    at_now kept =
        subst (λ u. Remembers (need_by set.sporadics scene u) (work_by scene.jobs) u (horizon cycle u) kept) (sym now)

    -- the work of a scene with the same jobs
    work-same : (jobs : List Job) → HaveSameItems scene.jobs jobs → (x : ℕ) → work_by scene.jobs x ≡ work_by jobs x
    work-same jobs same x = same (λ (j : Job). cond (nat_le j.dl x) j.left 0)

    -- with an offer that is accepted
    pub RemembersScene-offered : (job : Job) → HaveSameItems scene.jobs (exec.scene.jobs ++ job ∷ []) → scene.nexts ≡ exec.scene.nexts → KeepsBounds set cycle (scene.time / cycle + 3) scene → job.est ≡ t → RemembersScene set.sporadics cycle scene scene.time (record { free = free_beside job room.free; tight = room.tight; due = due_with job room.tight room.due })
    RemembersScene-offered job same nexts bounds arrives =
        let fits = subst (λ u. (x : ℕ) → u ≤ x → x ≤ horizon cycle u → need_by set.sporadics scene u x ≤ x - u) now bounds.fits in
        let works = λ (x : ℕ). work-same (exec.scene.jobs ++ job ∷ []) same x ∙ work_by-more exec.scene.jobs job x in
        at_now _
        (Remembers-offered (need_by set.sporadics exec.scene t) (need_by set.sporadics scene t) (work_by exec.scene.jobs) (work_by scene.jobs) t (horizon cycle t) job room arrives
        (λ x. omega (arith, works x, ap (λ ns. sporadic_demand set.sporadics ns t x) nexts))
        works
        (λ x low high. fits x (omega arith) high)
        is)

    -- without the job of a key, if there is one
    pub RemembersScene-left : (key : Key) (gone : Option Job) (due : ℕ) → ((job : Job) → gone ≡ Some job → Has exec.scene.jobs job × (job.key ≡ key)) → HaveSameItems scene.jobs (option_map_or (λ (ended : Job). filter (λ (j : Job). not (same_key j.key key)) exec.scene.jobs) gone exec.scene.jobs) → scene.nexts ≡ exec.scene.nexts → due ≡ due_left gone room.tight room.due → RemembersScene set.sporadics cycle scene scene.time (record room { due = due })
    RemembersScene-left key gone due listed same nexts due_is =
        let apart = (every_executive_is_kept exec plan stands).bounds.apart in
        let works = λ (x : ℕ). work_by-left exec.scene.jobs t key gone apart all_later listed x in
        let after = option_map_or (λ (ended : Job). filter (λ (j : Job). not (same_key j.key key)) exec.scene.jobs) gone exec.scene.jobs in
        let own = λ (x : ℕ). work-same after same x in
        at_now _
        (Remembers-changed (need_by set.sporadics exec.scene t) (need_by set.sporadics scene t) (work_by exec.scene.jobs) (work_by scene.jobs) t (horizon cycle t) room due
        (λ x. omega (arith, works x, own x, ap (λ ns. sporadic_demand set.sporadics ns t x) nexts))
        (λ at. due_is ∙ due_left-is gone room.tight room.due (work_by scene.jobs room.tight) (omega (arith, at, works room.tight, own room.tight)))
        is)

    -- with an arrival, where it is taken
    pub RemembersScene-arrived : (index row due : ℕ) (answer : Spo) → index < length set.sporadics → let soon = is_too_soon exec.scene.nexts t index in let job = sporadic_job set.sporadics index row t in HaveSameItems scene.jobs (jobs_after_arrival soon job exec.scene.jobs) → scene.nexts ≡ nexts_after set.sporadics exec.scene.nexts t index → answer ≡ arrival_answer set.sporadics exec.scene.nexts t index → due ≡ due_told answer job room.tight room.due → RemembersScene set.sporadics cycle scene scene.time (record room { due = due })
    RemembersScene-arrived index row due answer known same nexts told due_is =
        by_soon (is_too_soon exec.scene.nexts t index) refl same nexts (due_is ∙ ap (λ a. due_told a job room.tight room.due) told)
      where
        job : Job
        job = sporadic_job set.sporadics index row t

        by_soon : (soon : Bool) → is_too_soon exec.scene.nexts t index ≡ soon → HaveSameItems scene.jobs (jobs_after_arrival soon job exec.scene.jobs) → scene.nexts ≡ cond soon exec.scene.nexts (slice_set exec.scene.nexts index (t + separation_of set.sporadics index)) → due ≡ due_told (cond soon (Soon (slice_index exec.scene.nexts index)) (Taken (t + relative_deadline set.sporadics index))) job room.tight room.due → RemembersScene set.sporadics cycle scene scene.time (record room { due = due })
        by_soon true e jobs ns dues =
            let own = λ (x : ℕ). work-same exec.scene.jobs jobs x in
            at_now _
            (Remembers-changed (need_by set.sporadics exec.scene t) (need_by set.sporadics scene t) (work_by exec.scene.jobs) (work_by scene.jobs) t (horizon cycle t) room due
            (λ x. omega (arith, own x, ap (λ ms. sporadic_demand set.sporadics ms t x) ns))
            (λ at. dues ∙ at ∙ sym (own room.tight))
            is)
        by_soon false e jobs ns dues =
            let own = λ (x : ℕ). work-same (exec.scene.jobs ++ job ∷ []) jobs x ∙ work_by-more exec.scene.jobs job x in
            let (s, at) = slice_get-within set.sporadics index known in
            let fits = FitsCycle-from_Has set s plan.sound (Has-from_slice_get set.sporadics index s at) in
            let came = ltb-false t (slice_index exec.scene.nexts index) e in
            let count = (every_executive_is_kept exec plan stands).bounds.one_each in
            let needs = λ (x : ℕ). arrival-needs set.sporadics exec.scene.nexts index row t x s at count fits.apart came in
            at_now _
            (Remembers-changed (need_by set.sporadics exec.scene t) (need_by set.sporadics scene t) (work_by exec.scene.jobs) (work_by scene.jobs) t (horizon cycle t) room due
            (λ x. omega (arith, own x, needs x, ap (λ ms. sporadic_demand set.sporadics ms t x) ns))
            (λ at_due. dues ∙ due_with-is job room.tight room.due (work_by exec.scene.jobs room.tight) at_due ∙ sym (own room.tight))
            is)
