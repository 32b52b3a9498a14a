-- What a slot runs: the first soft job where soft work may take the slot, else the earliest job that is ready.
use Rattle.std.proofs.Common.{◌≡◌, ℕ, ◌+◌, ◌-◌, ◌/◌, List, ◌∷◌, ap, sym, ◌∙◌, subst, false}
use Rattle.std.specs.Prelude.{nat_lt, slice_get, if◌then◌else◌}
use Rattle.std.specs.Option.{option_map_or}
use Rattle.slot_core.specs.declared.jobs.Key.TheVariants.{Soft as SoftKey}
use Rattle.slot_core.specs.declared.jobs.Job.{Job}
use Rattle.slot_core.specs.declared.jobs.SoftJob.{SoftJob}
use Rattle.slot_core.specs.declared.events.Ran.TheVariants.{Key as RanKey}
use Rattle.slot_core.specs.Runs.Choice.{choice, earliest_ready, soft_may_run}
use Rattle.slot_core.specs.Keeping.Executives.{Executive, StandsForSome}
use Rattle.slot_core.specs.Offline.Keys.{is_soft}
use Rattle.slot_core.specs.Keeping.Kept.{KeepsSoftOrder}
use Rattle.slot_core.specs.Keeping.Plans.{IsPlan}
use Rattle.slot_core.specs.Claims.Safety.{after_run}
use Rattle.slot_facts.proofs.Legal.Executives.{every_executive_is_kept}
use Rattle.slot_facts.proofs.Lists.Members.{Has, Contains-from_Has}
use Rattle.scene_steps.specs.Steps.{soft_after_run}
use Rattle.scene_steps.proofs.Facts.SceneWork.{all-have_left, all-not_soft, jobs-not_soft}
use Rattle.scene_steps.proofs.Facts.SoftRuns.{after_run-soft, first_soft-front, soft-have_left, soft_after_run-front, soft_after_run-other}

-- the choice is the first soft job where soft work may run, else the earliest job that is ready, else none
pub choice-by_front : (exec : Executive) → IsPlan exec.plan → StandsForSome exec → let other = earliest_ready exec.scene in option_map_or (λ (s : SoftJob). if soft_may_run exec.plan.tasks.sporadics exec.plan.cycle exec.scene then RanKey (SoftKey s.row) else other) (slice_get exec.scene.soft 0) other ≡ choice exec.plan.tasks.sporadics exec.plan.cycle exec.scene
choice-by_front exec plan stands =
    let kept = every_executive_is_kept exec plan stands in
    let other = earliest_ready exec.scene in
    ap
    (λ first. option_map_or (λ (s : SoftJob). if soft_may_run exec.plan.tasks.sporadics exec.plan.cycle exec.scene then RanKey (SoftKey s.row) else other) first other)
    (sym (first_soft-front exec.scene.soft kept.soft.rows))

-- a job of the scene is not soft
pub listed-not_soft : (exec : Executive) (job : Job) → IsPlan exec.plan → StandsForSome exec → Has exec.scene.jobs job → is_soft job.key ≡ false
listed-not_soft exec job plan stands at =
    let kept = every_executive_is_kept exec plan stands in
    jobs-not_soft exec.plan.tasks exec.plan.cycle (exec.scene.time / exec.plan.cycle + 3) exec.scene job kept.bounds (Contains-from_Has exec.scene.jobs job at)

-- a run of a soft job leaves the jobs of the scene
pub jobs-soft_run : (exec : Executive) (row : ℕ) → IsPlan exec.plan → StandsForSome exec → after_run (SoftKey row) exec.scene.jobs ≡ exec.scene.jobs
jobs-soft_run exec row plan stands =
    let bounds = (every_executive_is_kept exec plan stands).bounds in
    let cycles = exec.scene.time / exec.plan.cycle + 3 in
    after_run-soft row exec.scene.jobs (all-not_soft exec.plan.tasks exec.plan.cycle cycles exec.scene bounds) (all-have_left exec.plan.tasks exec.plan.cycle cycles exec.scene bounds)

-- a run of a job of the scene leaves the soft jobs
pub soft-job_run : (exec : Executive) (job : Job) → IsPlan exec.plan → StandsForSome exec → Has exec.scene.jobs job → soft_after_run job.key exec.scene.soft ≡ exec.scene.soft
soft-job_run exec job plan stands at =
    let kept = (every_executive_is_kept exec plan stands).soft in
    soft_after_run-other job.key exec.scene.soft (listed-not_soft exec job plan stands at) (soft-have_left exec.plan.tasks.soft_limit exec.scene.soft kept)

-- a run of the first soft job takes a slot of it, and it goes where that was its last
pub soft-front_run : (exec : Executive) (first : SoftJob) (rest : List SoftJob) → IsPlan exec.plan → StandsForSome exec → exec.scene.soft ≡ first ∷ rest → soft_after_run (SoftKey first.row) exec.scene.soft ≡ (if nat_lt 1 first.left then record first { left = first.left - 1 } ∷ rest else rest)
soft-front_run exec first rest plan stands is =
    let limit = exec.plan.tasks.soft_limit in
    let kept : KeepsSoftOrder limit (first ∷ rest) = subst (KeepsSoftOrder limit) is (every_executive_is_kept exec plan stands).soft in
    ap (soft_after_run (SoftKey first.row)) is ∙ soft_after_run-front first rest kept.rows (soft-have_left limit (first ∷ rest) kept)
