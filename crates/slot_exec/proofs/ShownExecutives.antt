-- The spans that the parts of an executive show.
use Rattle.std.proofs.Common.{◌≡◌, ℕ, ◌-◌, ◌*◌, ◌≤◌, List, length, take, sym, ap, ◌∙◌, subst, arith, true}
use Rattle.std.specs.Prelude.{slice_get, Some}
use Rattle.slot_core.specs.declared.TheConstants.{SHOWN_LIMIT}
use Rattle.slot_core.specs.declared.jobs.Span.{Span}
use Rattle.slot_core.specs.declared.tasks.Sporadic.{Sporadic}
use Rattle.slot_core.specs.Keeping.Executives.{Executive, Shows, StandsFor, StandsForSome}
use Rattle.slot_core.specs.Runs.Histories.{History}
use Rattle.slot_core.specs.Keeping.Plans.{IsPlan}
use Rattle.slot_core.specs.Runs.Arrivals.{key_in_set}
use Rattle.slot_core.specs.Runs.Matches.{HaveSameItems}
use Rattle.slot_core.specs.Runs.Scenes.{remaining, scene_of}
use Rattle.slot_core.specs.Runs.Traces.{IsLegal}
use Rattle.slot_core.specs.Sets.Cycles.{cycle_of}
use Rattle.slot_core.specs.declared.jobs.Job.{Job}
use Rattle.slot_core.specs.Runs.Spans.{spans_of}
use Rattle.scene_steps.proofs.Facts.ProperScenes.{proper_scene}
use Rattle.scene_steps.proofs.Same.SameSpans.{spans_of-same}
use Rattle.scene_steps.proofs.Spans.Proper.{horizon-at_most}
use Rattle.slot_core.specs.Runs.Scenes.{horizon}
use Rattle.slot_core.specs.Runs.ShownSpans.{ShownSpans}
use Rattle.slot_facts.proofs.Lists.Members.{Has-from_slice_get}
use Rattle.slot_facts.proofs.Plans.FirstSpans.{shown-first}
use Rattle.slot_facts.proofs.Replays.Named.{remaining-named}
use Rattle.scene_steps.proofs.Same.Events.{Shows-from_scene}
use Rattle.slot_exec.specs.declared.rooms.Remembered.{Remembered}
use Rattle.slot_exec.specs.Parts.{IsExecutive}

-- the first spans of its table are those that are shown at each history for which it stands
pub Shows-parts : (exec : Executive) (spans : List Span) (reserved : List Sporadic) (limit capacity most : ℕ) (shown : ShownSpans) {known : Remembered} → IsExecutive exec spans reserved limit capacity most known → shown ≡ record { spans = take SHOWN_LIMIT spans; more = length spans - SHOWN_LIMIT } → Shows exec shown
Shows-parts exec spans reserved limit capacity most shown parts is =
    let scene = exec.scene in
    let all = shown-first scene.jobs (horizon exec.plan.cycle scene.time) scene.time scene.points shown spans is parts.spans in
    subst (Shows exec) (sym all) (Shows-from_scene exec parts.plan parts.stands)

-- at most three cycles of jobs remain
pub few_jobs-stands : (exec : Executive) → IsPlan exec.plan → StandsForSome exec → length exec.scene.jobs ≤ 3 * exec.plan.cycle
few_jobs-stands exec plan stands =
    omega (arith, (proper_scene exec plan stands).few_jobs, horizon-at_most exec.plan.cycle exec.scene.time)

-- and there are at most three cycles of points
pub few_points-stands : (exec : Executive) → IsPlan exec.plan → StandsForSome exec → length exec.scene.points ≤ 3 * exec.plan.cycle
few_points-stands exec plan stands =
    omega (arith, (proper_scene exec plan stands).few_points, horizon-at_most exec.plan.cycle exec.scene.time)

-- a span of its scene is that of each history for which it stands
pub span-of_history : (exec : Executive) (h : History) (i : ℕ) (s : Span) → StandsFor exec h → slice_get (spans_of exec.plan.cycle exec.scene) i ≡ Some s → slice_get (spans_of exec.plan.cycle (scene_of exec.plan.tasks exec.plan.cycle h)) i ≡ Some s
span-of_history exec h i s stands is =
    ap (λ spans. slice_get spans i) (sym (spans_of-same exec.plan.cycle exec.scene (scene_of exec.plan.tasks exec.plan.cycle h) stands.same)) ∙ is

-- the key of each of its jobs lies in the set
pub job-named : (exec : Executive) (i : ℕ) (job : Job) → IsPlan exec.plan → StandsForSome exec → slice_get exec.scene.jobs i ≡ Some job → key_in_set exec.plan.tasks job.key ≡ true
job-named exec i job plan (h, stands) at =
    let set = exec.plan.tasks in
    let legal : IsLegal set (cycle_of set) h = subst (λ c. IsLegal set c h) plan.cycle stands.legal in
    let same : HaveSameItems exec.scene.jobs (remaining set (cycle_of set) h) = subst (λ c. HaveSameItems exec.scene.jobs (remaining set c h)) plan.cycle stands.same.jobs in
    remaining-named set h exec.scene.jobs job legal same (Has-from_slice_get exec.scene.jobs i job at)
