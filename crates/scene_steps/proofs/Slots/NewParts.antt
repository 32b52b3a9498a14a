-- The parts of an executive after a slot make the next scene.
use Rattle.std.proofs.Common.{◌≡◌, ℕ, ◌+◌, ◌/◌, ◌%◌, ◌==◌, Bool, true, false, cond, List, [], ◌∷◌, ◌++◌, map, refl, ap, sym, ◌∙◌, subst}
use Rattle.std.specs.Prelude.{if◌then◌else◌}
use Rattle.std.proofs.lemmas.Bool.{cond_both}
use Rattle.slot_core.specs.declared.jobs.Job.{Job}
use Rattle.slot_core.specs.declared.jobs.Span.{Span}
use Rattle.slot_core.specs.declared.tasks.TaskSet.{TaskSet}
use Rattle.slot_core.specs.Sets.Cycles.{cycle_of}
use Rattle.slot_core.specs.Runs.Matches.{HaveSameItems, IsSameScene}
use Rattle.slot_core.specs.Offline.OfflineJobs.{cycle_jobs, later_job}
use Rattle.slot_core.specs.Keeping.Plans.{PlanParts, IsPlan}
use Rattle.slot_core.specs.Runs.Scenes.{Scene, horizon}
use Rattle.slot_core.specs.Runs.Spans.{spans_between, spans_of}
use Rattle.slot_facts.proofs.Lists.SameItems.{same-append, same-from_permutation, same-sym}
use Rattle.slot_facts.proofs.Offline.LaterJobs.{later-permutation}
use Rattle.scene_steps.specs.Steps.{with_cycle, with_next_cycle}
use Rattle.interval_build.proofs.FirstJobFacts.{AreFirstJobs-from_plan}
use Rattle.scene_steps.proofs.Same.SameSpans.{spans_of-same}

-- the spans between points end at the points
pub ends-between : (jobs : List Job) (end start : ℕ) (points : List ℕ) → map (λ (s : Span). s.end) (spans_between jobs end start points) ≡ points
ends-between jobs end start [] = refl
ends-between jobs end start (e ∷ points) = ap (λ es. e ∷ es) (ends-between jobs end e points)

-- where spans are those of a scene, a scene with its parts, up to the order of its jobs, that ends its points where they
-- end is the same, and they are its own spans
pub parts-same : (cycle : ℕ) (own scene : Scene) (spans : List Span) → own.time ≡ scene.time → HaveSameItems own.jobs scene.jobs → own.nexts ≡ scene.nexts → own.soft ≡ scene.soft → own.points ≡ map (λ (s : Span). s.end) spans → spans ≡ spans_of cycle scene → IsSameScene own scene × (spans ≡ spans_of cycle own)
parts-same cycle own scene spans time jobs nexts soft ends is =
    let points = ends ∙ ap (map (λ (s : Span). s.end)) is ∙ ends-between scene.jobs (horizon cycle scene.time) scene.time scene.points in
    let same : IsSameScene own scene = record { time = time; jobs = jobs; nexts = nexts; soft = soft; points = points } in
    (same, is ∙ sym (spans_of-same cycle own scene same))

-- the plan's jobs, n cycles later, are the jobs of cycle n
pub cycle_jobs-same : (plan : PlanParts) (n : ℕ) → IsPlan plan → HaveSameItems (map (later_job plan.tasks plan.cycle n) plan.jobs) (cycle_jobs plan.tasks plan.cycle n)
cycle_jobs-same plan n is_plan =
    let first = AreFirstJobs-from_plan plan is_plan in
    let jobs = cycle_jobs plan.tasks (cycle_of plan.tasks) n in
    let later = map (later_job plan.tasks (cycle_of plan.tasks) n) plan.jobs in
    subst
    (λ c. HaveSameItems (map (later_job plan.tasks c n) plan.jobs) (cycle_jobs plan.tasks c n))
    (sym is_plan.cycle)
    (same-sym jobs later (same-from_permutation jobs later (later-permutation plan.tasks plan.jobs n first.sound first.feasible first.listed)))

-- what the jobs and the points of a cycle leave stays where a cycle comes in
pub next_cycle-stays : {X : Type 0} (f : Scene → X) (set : TaskSet) (cycle : ℕ) (scene : Scene) → ((n : ℕ) → f (with_cycle set cycle n scene) ≡ f scene) → f (with_next_cycle set cycle scene) ≡ f scene
next_cycle-stays f set cycle scene same =
    let n : ℕ = scene.time / cycle + 2 in
    cond_both (scene.time % cycle == 0) (with_cycle set cycle n scene) scene (λ s. f s ≡ f scene) (λ _. same n) (λ _. refl)

-- the plan's jobs of that cycle come in beside those that are there
pub jobs-next_cycle : (plan : PlanParts) (scene : Scene) (jobs : List Job) → IsPlan plan → HaveSameItems jobs scene.jobs → HaveSameItems (if scene.time % plan.cycle == 0 then jobs ++ map (later_job plan.tasks plan.cycle (scene.time / plan.cycle + 2)) plan.jobs else jobs) (with_next_cycle plan.tasks plan.cycle scene).jobs
jobs-next_cycle plan scene jobs is_plan same = by_test (scene.time % plan.cycle == 0)
  where
    by_test : (b : Bool) → HaveSameItems (cond b (jobs ++ map (later_job plan.tasks plan.cycle (scene.time / plan.cycle + 2)) plan.jobs) jobs) (cond b (with_cycle plan.tasks plan.cycle (scene.time / plan.cycle + 2) scene) scene).jobs
    by_test true =
        let n : ℕ = scene.time / plan.cycle + 2 in
        same-append jobs scene.jobs (map (later_job plan.tasks plan.cycle n) plan.jobs) (cycle_jobs plan.tasks plan.cycle n) same (cycle_jobs-same plan n is_plan)
    by_test false = same
