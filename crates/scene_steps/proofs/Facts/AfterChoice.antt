-- Once the choice of a slot has run, the scene keeps its bounds up to the same end, so no job is due by the next slot.
use Rattle.std.proofs.Common.{◌≡◌, ℕ, ◌+◌, ◌/◌, ◌<◌, ◌≤◌, true, List, sym, ap, ◌∙◌, subst, inl, inr, arith}
use Rattle.std.specs.List.{AllByRecursion}
use Rattle.slot_core.specs.declared.jobs.Job.{Job}
use Rattle.slot_core.specs.declared.tasks.TaskSet.{TaskSet}
use Rattle.slot_core.specs.Sets.Cycles.{cycle_of}
use Rattle.slot_core.specs.Sets.Ranges.{is_sound}
use Rattle.slot_core.specs.Feasibility.Feasible.{IsFeasible}
use Rattle.slot_core.specs.Runs.Demand.{work_by}
use Rattle.slot_core.specs.Runs.Scenes.{Scene}
use Rattle.slot_core.specs.Runs.Choice.{soft_may_run, choice}
use Rattle.slot_core.specs.Claims.Safety.{after_slot}
use Rattle.slot_core.specs.Keeping.Kept.{KeepsBounds}
use Rattle.slot_core.specs.Keeping.Plans.{IsPlan}
use Rattle.slot_core.specs.Keeping.Executives.{Executive, StandsForSome}
use Rattle.slot_facts.proofs.Bounds.OneSlot.{one_slot_keeps_the_bounds}
use Rattle.slot_facts.proofs.Histories.Unended.{later-from_no_work}
use Rattle.slot_facts.proofs.Lists.Members.{Has-from_Contains, Contains-from_Has, AllByRecursion-from_Has}
use Rattle.slot_facts.proofs.Offline.Jobs.{cycle-positive}
use Rattle.slot_facts.proofs.Plans.Horizons.{past_now}
use Rattle.slot_facts.proofs.Legal.Executives.{every_executive_is_kept}
use Rattle.scene_steps.proofs.Facts.Choices.{choice-cases, soft_may_run-fits}
use Rattle.scene_steps.proofs.Facts.SceneWork.{all-not_soft, all-have_left}
use Rattle.scene_steps.proofs.Facts.SoftRuns.{after_run-soft}

-- the scene one slot later with these jobs
abbrev pub later_with : Scene → List Job → Scene
later_with scene jobs = record scene { time = scene.time + 1; jobs = jobs }

module _ (set : TaskSet) (scene : Scene) (sound : is_sound set ≡ true) (feasible : IsFeasible set (cycle_of set)) where
  abbrev cycle : ℕ
  cycle = cycle_of set

  abbrev cycles : ℕ
  cycles = scene.time / cycle_of set + 3

  -- a slot of soft work keeps the bounds
  soft-keeps : soft_may_run set.sporadics cycle scene ≡ true → KeepsBounds set cycle cycles scene → KeepsBounds set cycle cycles (later_with scene scene.jobs)
  soft-keeps may bounds =
      let t = scene.time in
      let past = past_now t cycle (cycle-positive set sound) in
      let now = soft_may_run-fits set.sporadics cycle scene (t + 1) may (omega arith) (omega arith) in
      let none : work_by scene.jobs (t + 1) ≤ 0 = omega (arith, now) in
      record {
        fits = λ x low high. omega (arith, soft_may_run-fits set.sporadics cycle scene x may low high);
        left = λ job at.
            let l = bounds.left job at in
            (later-from_no_work scene.jobs job (t + 1) none (Has-from_Contains scene.jobs job at) l.1, l.1, l.2);
        planned = bounds.planned;
        come = λ job at other.
            let c = bounds.come job at other in
            (c.0, omega (arith, c), omega (arith, c));
        untouched = λ job at late. bounds.untouched job at (omega arith);
        waiting = bounds.waiting;
        apart = bounds.apart;
        one_each = bounds.one_each;
        reach = λ i d within. omega (arith, bounds.reach i d within);
      }

  -- a slot of the choice keeps the bounds
  pub choice-keeps : KeepsBounds set cycle cycles scene → KeepsBounds set cycle cycles (later_with scene (after_slot (choice set.sporadics cycle scene) scene.jobs))
  choice-keeps bounds =
      let keeps = λ (jobs : List Job). KeepsBounds set cycle cycles (later_with scene jobs) in
      elim (choice-cases set.sporadics cycle scene) [
        | inl soft ↦
            let same = after_run-soft soft.soft.row scene.jobs (all-not_soft set cycle cycles scene bounds) (all-have_left set cycle cycles scene bounds) in
            let stay : after_slot (choice set.sporadics cycle scene) scene.jobs ≡ scene.jobs = ap (λ ran. after_slot ran scene.jobs) soft.chosen ∙ same in
            subst keeps (sym stay) (soft-keeps soft.may bounds)
        | inr other ↦
            let past = past_now scene.time cycle (cycle-positive set sound) in
            subst keeps (sym (ap (λ ran. after_slot ran scene.jobs) other)) (one_slot_keeps_the_bounds set cycles scene sound feasible bounds (omega (arith, past)))
      ]

-- the bounds of an executive's scene after the choice has run
pub bounds-after_choice : (exec : Executive) → IsPlan exec.plan → StandsForSome exec → KeepsBounds exec.plan.tasks exec.plan.cycle (exec.scene.time / exec.plan.cycle + 3) (later_with exec.scene (after_slot (choice exec.plan.tasks.sporadics exec.plan.cycle exec.scene) exec.scene.jobs))
bounds-after_choice exec plan stands =
    let set = exec.plan.tasks in
    let scene = exec.scene in
    subst
    (λ c. IsFeasible set c → KeepsBounds set c (scene.time / c + 3) scene → KeepsBounds set c (scene.time / c + 3) (later_with scene (after_slot (choice set.sporadics c scene) scene.jobs)))
    (sym plan.cycle)
    (λ feasible bounds. choice-keeps set scene plan.sound feasible bounds)
    plan.feasible
    (every_executive_is_kept exec plan stands).bounds

-- no job of the scene is due by the next slot, once the choice of the slot has run
pub later-after_choice : (exec : Executive) → IsPlan exec.plan → StandsForSome exec → let ran = choice exec.plan.tasks.sporadics exec.plan.cycle exec.scene in AllByRecursion (λ (j : Job). exec.scene.time + 1 < j.dl) (after_slot ran exec.scene.jobs)
later-after_choice exec plan stands =
    let after = after_slot (choice exec.plan.tasks.sporadics exec.plan.cycle exec.scene) exec.scene.jobs in
    let bounds = bounds-after_choice exec plan stands in
    AllByRecursion-from_Has (λ (j : Job). exec.scene.time + 1 < j.dl) after (λ job at. (bounds.left job (Contains-from_Has after job at)).0)
