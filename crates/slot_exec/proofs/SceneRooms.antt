-- What is remembered of a scene, by its spans, and after a slot.
use Rattle.std.proofs.Common.{◌≡◌, ℕ, suc, ◌+◌, ◌*◌, ◌/◌, ◌%◌, ◌<◌, ◌≤◌, ◌==◌, Bool, true, false, cond, ◌&&◌, List, [], ◌∷◌, map, refl, sym, ap, ◌∙◌, subst, add-one, arith}
use Rattle.std.specs.Prelude.{nat_le, nat_lt}
use Rattle.std.specs.List.{AllByRecursion}
use Rattle.std.proofs.lemmas.Bool.{eqb-true, eqb-false, lt-ltb, lt-leb}
use Rattle.std.proofs.lemmas.List.Sums.{sum_by-cons}
use Rattle.slot_core.specs.declared.jobs.Job.{Job}
use Rattle.slot_core.specs.declared.tasks.TaskSet.{TaskSet}
use Rattle.slot_core.specs.Sets.Cycles.{cycle_of}
use Rattle.slot_core.specs.Runs.Demand.{need_by, work_between, work_by}
use Rattle.slot_core.specs.Keeping.Executives.{Executive, StandsForSome}
use Rattle.slot_core.specs.Feasibility.Feasible.{IsFeasible}
use Rattle.slot_core.specs.Keeping.Kept.{KeepsBounds}
use Rattle.slot_core.specs.Runs.Matches.{HaveSameItems}
use Rattle.slot_core.specs.Offline.OfflineJobs.{cycle_jobs}
use Rattle.slot_core.specs.Keeping.Plans.{IsPlan}
use Rattle.slot_core.specs.Sets.Ranges.{is_sound}
use Rattle.slot_core.specs.Claims.Safety.{after_run, after_slot}
use Rattle.slot_core.specs.Runs.Scenes.{Scene, horizon}
use Rattle.slot_core.specs.Runs.Spans.{spans_of}
use Rattle.slot_core.specs.Feasibility.Sporadics.{sporadic_demand}
use Rattle.slot_facts.proofs.Legal.Cycles.{cycle_job-due}
use Rattle.slot_facts.proofs.Legal.Executives.{every_executive_is_kept}
use Rattle.slot_facts.proofs.Lists.Members.{Contains-from_Has, AllByRecursion-from_Has, AllByRecursion-weaker}
use Rattle.slot_facts.proofs.Plans.Horizons.{NextSlot, turn, inside, next_slot, further_now}
use Rattle.slot_facts.proofs.Plans.Items.{plan_cycle-bounds}
use Rattle.slot_facts.proofs.Scheduling.Beside.{work_by-both}
use Rattle.spare_capacity.specs.Laws.{work_until}
use Rattle.spare_capacity.specs.Recurrence.{last_end}
use Rattle.sporadic_reserve.specs.Reserves.{Reserved, without_name}
use Rattle.guarantee.specs.Offers.{need_until}
use Rattle.scene_steps.specs.Steps.{after_ran, one_slot_later, with_cycle}
use Rattle.scene_steps.proofs.Facts.AfterChoice.{later-after_choice}
use Rattle.scene_steps.proofs.Facts.ProperScenes.{proper_scene}
use Rattle.scene_steps.proofs.Rows.JobWorks.{work_between-after_run}
use Rattle.scene_steps.proofs.Spans.Proper.{last_end-proper, work_until-proper}
use Rattle.slot_exec.specs.declared.rooms.Remembered.{Remembered}
use Rattle.slot_exec.specs.declared.runs.Chosen.{Chosen}
use Rattle.slot_exec.specs.declared.runs.Chosen.TheVariants.{Nothing, Soft, Guaranteed}
use Rattle.slot_exec.specs.Rooms.{room_after, RemembersScene, RemembersSpans}
use Rattle.slot_exec.proofs.RememberedRoom.{ran_due, Remembers-next, Remembers-same}
use Rattle.slot_exec.proofs.SlotChoice.{choice_of, IsChosen, jobs_after-choice}
use Rattle.slot_exec.proofs.SpanOffers.{need_until-proper}

-- nothing remembered
abbrev pub nothing : Remembered
nothing = record { free = 0; tight = 0; due = 0 }

-- what is needed fits, so nothing may be remembered of any executive
pub Remembers-nothing : (exec : Executive) → IsPlan exec.plan → StandsForSome exec → RemembersScene exec.plan.tasks.sporadics exec.plan.cycle exec.scene exec.scene.time nothing
Remembers-nothing exec plan stands =
    let bounds = (every_executive_is_kept exec plan stands).bounds in
    record {
      free = λ x low high some. omega (arith, bounds.fits x (omega arith) high);
      due = λ later. absurd (omega arith);
    }

module _ (exec : Executive) (reserve : Reserved) (room : Remembered) (plan : IsPlan exec.plan) (stands : StandsForSome exec) (tasks : reserve.sporadics ≡ map without_name exec.plan.tasks.sporadics) (nexts : reserve.nexts ≡ exec.scene.nexts) where
  -- what is remembered of the scene is remembered of its spans
  pub RemembersSpans-from_scene : RemembersScene exec.plan.tasks.sporadics exec.plan.cycle exec.scene (exec.scene.time + 1) room → RemembersSpans (spans_of exec.plan.cycle exec.scene) reserve exec.scene.time room
  RemembersSpans-from_scene =
      let scene = exec.scene in
      let cycle = exec.plan.cycle in
      let sporadics = exec.plan.tasks.sporadics in
      let from = scene.time + 1 in
      let proper = proper_scene exec plan stands in
      Remembers-same (need_by sporadics scene from) (need_until (spans_of cycle scene) reserve from) (work_by scene.jobs) (work_until (spans_of cycle scene)) scene.time (horizon cycle scene.time) (last_end scene.time (spans_of cycle scene)) room
      (λ x. sym (need_until-proper sporadics cycle scene reserve from x proper tasks nexts))
      (λ x. sym (work_until-proper cycle scene x proper))
      (sym (last_end-proper cycle scene scene.jobs (horizon cycle scene.time) proper))

  -- and the other way round
  pub RemembersScene-from_spans : RemembersSpans (spans_of exec.plan.cycle exec.scene) reserve exec.scene.time room → RemembersScene exec.plan.tasks.sporadics exec.plan.cycle exec.scene (exec.scene.time + 1) room
  RemembersScene-from_spans =
      let scene = exec.scene in
      let cycle = exec.plan.cycle in
      let sporadics = exec.plan.tasks.sporadics in
      let from = scene.time + 1 in
      let proper = proper_scene exec plan stands in
      Remembers-same (need_until (spans_of cycle scene) reserve from) (need_by sporadics scene from) (work_until (spans_of cycle scene)) (work_by scene.jobs) scene.time (last_end scene.time (spans_of cycle scene)) (horizon cycle scene.time) room
      (λ x. need_until-proper sporadics cycle scene reserve from x proper tasks nexts)
      (λ x. work_until-proper cycle scene x proper)
      (last_end-proper cycle scene scene.jobs (horizon cycle scene.time) proper)

-- jobs that are due after x bring no work by it
work_by-late : (jobs : List Job) (x : ℕ) → AllByRecursion (λ (j : Job). x < j.dl) jobs → work_by jobs x ≡ 0
work_by-late [] x late = refl
work_by-late (j ∷ jobs) x late =
    let none : cond (nat_le j.dl x) j.left 0 ≡ 0 = rw (lt-leb j.dl x late.0) refl in
    omega (arith, sum_by-cons (λ (o : Job). cond (nat_le o.dl x) o.left 0) j jobs, none, work_by-late jobs x late.1)

-- where all are due after s, the work due by x is that due after s
pub work_by-after : (jobs : List Job) (s x : ℕ) → AllByRecursion (λ (j : Job). s < j.dl) jobs → work_by jobs x ≡ work_between jobs s x
work_by-after [] s x late = refl
work_by-after (j ∷ jobs) s x late =
    let same : cond (nat_lt s j.dl && nat_le j.dl x) j.left 0 ≡ cond (nat_le j.dl x) j.left 0 = rw (lt-ltb s j.dl late.0) refl in
    omega (arith, sum_by-cons (λ (o : Job). cond (nat_le o.dl x) o.left 0) j jobs, sum_by-cons (λ (o : Job). cond (nat_lt s o.dl && nat_le o.dl x) o.left 0) j jobs, same, work_by-after jobs s x late.1)

-- the offline jobs of a cycle are due after its start
cycle_work-late : (set : TaskSet) (n x : ℕ) → is_sound set ≡ true → IsFeasible set (cycle_of set) → x ≤ n * cycle_of set → work_by (cycle_jobs set (cycle_of set) n) x ≡ 0
cycle_work-late set n x sound feasible early =
    let jobs = cycle_jobs set (cycle_of set) n in
    work_by-late jobs x (AllByRecursion-from_Has (λ (j : Job). x < j.dl) jobs (λ job at. omega (arith, cycle_job-due set n job sound feasible at)))

module _ (exec : Executive) (plan : IsPlan exec.plan) (stands : StandsForSome exec) where
  -- the set, its cycle, the time, and the jobs that the choice of the slot leaves
  abbrev set : TaskSet
  set = exec.plan.tasks

  abbrev cycle : ℕ
  cycle = exec.plan.cycle

  abbrev t : ℕ
  t = exec.scene.time

  abbrev left : List Job
  left = after_slot (choice_of exec) exec.scene.jobs

  -- the jobs of the cycle that comes in bring no work up to the horizon before it
  pub work_by-turn : (x : ℕ) → x ≤ horizon cycle t → work_by (after_ran set cycle (choice_of exec) exec.scene).jobs x ≡ work_by left x
  work_by-turn x within = by_test ((t + 1) % cycle == 0) refl
    where
      n : ℕ
      n = (t + 1) / cycle + 2

      late : (t + 1) % cycle ≡ 0 → x ≤ n * cycle
      late turns = by_slot (next_slot t cycle (plan_cycle-bounds exec.plan plan).0)
        where
          by_slot : NextSlot t cycle → x ≤ ((t + 1) / cycle + 2) * cycle
          by_slot (turn at_start next whole) =
              let number : (t + 1) / cycle ≡ suc (t / cycle) = ap (λ u. u / cycle) (add-one t) ∙ next in
              let end : ((t + 1) / cycle + 2) * cycle ≡ (suc (t / cycle) + 2) * cycle = ap (λ d. (d + 2) * cycle) number in
              omega arith
          by_slot (inside later same) =
              absurd (later (sym (ap (λ u. u % cycle) (add-one t)) ∙ turns))

      none : x ≤ n * cycle → work_by (cycle_jobs set cycle n) x ≡ 0
      none early =
          subst
          (λ c. IsFeasible set c → x ≤ n * c → work_by (cycle_jobs set c n) x ≡ 0)
          (sym plan.cycle)
          (λ feasible low. cycle_work-late set n x plan.sound feasible low)
          plan.feasible
          early

      by_test : (b : Bool) → ((t + 1) % cycle == 0) ≡ b → work_by (cond b (with_cycle set cycle n (one_slot_later (choice_of exec) exec.scene)) (one_slot_later (choice_of exec) exec.scene)).jobs x ≡ work_by left x
      by_test true e =
          let coming = none (late (eqb-true ((t + 1) % cycle) 0 e)) in
          omega (arith, work_by-both left (cycle_jobs set cycle n) x, coming)
      by_test false e = refl

  -- what has run a slot has a slot less due
  pub work_by-ran : (chosen : Chosen) → IsChosen exec chosen → (x : ℕ) → work_by exec.scene.jobs x ≡ work_by left x + ran_due chosen x
  work_by-ran Nothing is x =
      omega (arith, ap (λ js. work_by js x) (jobs_after-choice exec plan stands Nothing is))
  work_by-ran (Soft row) is x =
      omega (arith, ap (λ js. work_by js x) (jobs_after-choice exec plan stands (Soft row) is))
  work_by-ran (Guaranteed job) is x =
      let bounds = (every_executive_is_kept exec plan stands).bounds in
      let jobs = exec.scene.jobs in
      let some = AllByRecursion-from_Has (λ (j : Job). 1 ≤ j.left) jobs (λ j at. (bounds.left j (Contains-from_Has jobs j at)).1) in
      let later = AllByRecursion-from_Has (λ (j : Job). t < j.dl) jobs (λ j at. (bounds.left j (Contains-from_Has jobs j at)).0) in
      let ran = work_between-after_run jobs job bounds.apart some is.0 t x in
      let own : t < job.dl = (bounds.left job (Contains-from_Has jobs job is.0)).0 in
      let slot : cond {A = ℕ} (nat_lt t job.dl && nat_le job.dl x) 1 0 ≡ cond (nat_le job.dl x) 1 0 = rw (lt-ltb t job.dl own) refl in
      let after = after_run job.key jobs in
      let left_later : AllByRecursion (λ (j : Job). t < j.dl) after = subst (AllByRecursion (λ (j : Job). t < j.dl)) (sym (jobs_after-choice exec plan stands (Guaranteed job) is)) (AllByRecursion-weaker (λ (j : Job). t + 1 < j.dl) (λ (j : Job). t < j.dl) left (λ j h. omega arith) (later-after_choice exec plan stands)) in
      let both : work_by after x ≡ work_by left x = ap (λ js. work_by js x) (jobs_after-choice exec plan stands (Guaranteed job) is) in
      omega (arith, work_by-after jobs t x later, work_by-after after t x left_later, ran, slot, both)

  -- after the slot, what is then remembered of the next scene
  pub RemembersScene-slot : (scene : Scene) (chosen : Chosen) (turned : Bool) (room : Remembered) → IsChosen exec chosen → scene.time ≡ t + 1 → scene.nexts ≡ exec.scene.nexts → HaveSameItems scene.jobs (after_ran set cycle (choice_of exec) exec.scene).jobs → KeepsBounds set cycle (scene.time / cycle + 3) scene → turned ≡ ((t + 1) % cycle == 0) → RemembersScene set.sporadics cycle exec.scene (t + 1) room → RemembersScene set.sporadics cycle scene scene.time (room_after chosen turned room)
  RemembersScene-slot scene chosen turned room is next nexts same bounds turns =
      let works = λ (x : ℕ) (within : x ≤ horizon cycle t). same (λ (j : Job). cond (nat_le j.dl x) j.left 0) ∙ work_by-turn x within in
      Remembers-next (need_by set.sporadics exec.scene (t + 1)) (need_by set.sporadics scene scene.time) (work_by exec.scene.jobs) (work_by scene.jobs) t scene.time (horizon cycle t) (horizon cycle scene.time) chosen turned room next further stays
      (λ x within.
      let demand : sporadic_demand set.sporadics scene.nexts scene.time x ≡ sporadic_demand set.sporadics exec.scene.nexts (t + 1) x = ap (λ ns. sporadic_demand set.sporadics ns scene.time x) nexts ∙ ap (λ r. sporadic_demand set.sporadics exec.scene.nexts r x) next in
      omega (arith, works x within, work_by-ran chosen is x, demand))
      (λ x low high. bounds.fits x (omega arith) high)
      (λ x within. omega (arith, works x within, work_by-ran chosen is x))
    where
      at_next : horizon cycle scene.time ≡ horizon cycle (suc t)
      at_next = ap (horizon cycle) (next ∙ add-one t)

      further : horizon cycle t ≤ horizon cycle scene.time
      further = by_slot (next_slot t cycle (plan_cycle-bounds exec.plan plan).0)
        where
          by_slot : NextSlot t cycle → horizon cycle t ≤ horizon cycle scene.time
          by_slot (turn at_start at whole) = omega (arith, at_next, further_now t cycle at)
          by_slot (inside later at) =
              let there : horizon cycle (suc t) ≡ horizon cycle t = ap (λ d. (d + 3) * cycle) at in
              omega (arith, at_next, there)

      stays : turned ≡ false → horizon cycle scene.time ≡ horizon cycle t
      stays not = by_slot (next_slot t cycle (plan_cycle-bounds exec.plan plan).0)
        where
          by_slot : NextSlot t cycle → horizon cycle scene.time ≡ horizon cycle t
          by_slot (turn at_start at whole) =
              let other = eqb-false ((t + 1) % cycle) 0 (sym turns ∙ not) in
              absurd (other (ap (λ u. u % cycle) (add-one t) ∙ at_start))
          by_slot (inside later at) = at_next ∙ ap (λ d. (d + 3) * cycle) at
