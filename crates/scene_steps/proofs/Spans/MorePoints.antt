-- A proper scene with one point more.
use Rattle.std.proofs.Common.{ℕ, ◌+◌, ◌<◌, ◌≤◌, ◌^◌, List, Contains, ◌∙◌, arith}
use Rattle.std.proofs.lemmas.List.Elements.{All-from_recursion}
use Rattle.std.specs.Prelude.{IsSomeAnd}
use Rattle.slot_core.specs.declared.TheConstants.{OFFER_LIMIT, SLOT_LIMIT}
use Rattle.slot_core.specs.declared.jobs.Job.{Job}
use Rattle.slot_core.specs.declared.jobs.Span.{Span}
use Rattle.slot_core.specs.declared.tasks.TaskSet.{TaskSet}
use Rattle.slot_core.specs.Keeping.Kept.{KeepsBounds}
use Rattle.slot_core.specs.Runs.Scenes.{Scene, horizon}
use Rattle.slot_facts.proofs.Lists.Members.{AllByRecursion-from_Has, Contains-from_Has}
use Rattle.slot_core.specs.Runs.Spans.{spans_of}
use Rattle.interval_row.specs.Changes.{span_ending}
use Rattle.scene_steps.specs.Scenes.{IsProperScene}
use Rattle.scene_steps.specs.Steps.{with_point}
use Rattle.scene_steps.proofs.Spans.Points.{AreRising-with_point, Has-with_point, Has-with_point_other, last_point-with_point, length-rising}
use Rattle.scene_steps.proofs.Spans.Proper.{charge-proper, point-from_job}

-- with a point more up to the horizon a scene stays proper
pub proper-with_point : (cycle : ℕ) (scene : Scene) (p : ℕ) → IsProperScene cycle scene → scene.time < p → p ≤ horizon cycle scene.time → IsProperScene cycle (record scene { points = with_point p scene.points })
proper-with_point cycle scene p proper after within =
    let points = with_point p scene.points in
    let rising = AreRising-with_point p scene.time scene.points after proper.rising in
    let last = last_point-with_point p scene.time scene.points after (omega (arith, proper.last)) ∙ proper.last in
    let Due : Job → Type 0 = λ (j : Job). Contains points j.dl in
    record {
      rising = rising;
      last = last;
      due = All-from_recursion Due scene.jobs (AllByRecursion-from_Has Due scene.jobs (λ j at. Contains-from_Has points j.dl (Has-with_point_other p scene.points j.dl (point-from_job cycle scene j proper at))));
      few_points = omega (arith, length-rising scene.time points rising, last);
      few_jobs = proper.few_jobs;
      left = proper.left;
    }

-- a span ends at the new point, with room for an offer beside its work
pub charge-with_point : (cycle : ℕ) (scene : Scene) (p slots : ℕ) → cycle ≤ SLOT_LIMIT → IsProperScene cycle scene → scene.time < p → p ≤ horizon cycle scene.time → slots ≤ OFFER_LIMIT → IsSomeAnd (span_ending p (spans_of cycle (record scene { points = with_point p scene.points }))) (λ (s : Span). s.work + slots ≤ 2 ^ 40)
charge-with_point cycle scene p slots short proper after within few =
    charge-proper cycle (record scene { points = with_point p scene.points }) p slots short (proper-with_point cycle scene p proper after within) (Has-with_point p scene.points) few

-- no bound speaks of the points
pub bounds-other_points : (set : TaskSet) (cycle cycles : ℕ) (scene : Scene) (points : List ℕ) → KeepsBounds set cycle cycles scene → KeepsBounds set cycle cycles (record scene { points = points })
bounds-other_points set cycle cycles scene points kept =
    record {
      fits = kept.fits;
      left = kept.left;
      planned = kept.planned;
      come = kept.come;
      untouched = kept.untouched;
      waiting = kept.waiting;
      apart = kept.apart;
      one_each = kept.one_each;
      reach = kept.reach;
    }
