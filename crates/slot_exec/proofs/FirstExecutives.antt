-- The parts that an executive starts with.
use Rattle.std.proofs.Common.{◌≡◌, ℕ, List, [], ◌++◌, map, refl, ap, ◌∙◌, arith}
use Rattle.slot_core.specs.declared.jobs.Job.{Job}
use Rattle.slot_core.specs.declared.jobs.Span.{Span}
use Rattle.slot_core.specs.declared.jobs.SoftJob.{SoftJob}
use Rattle.slot_core.specs.declared.tasks.Sporadic.{Sporadic}
use Rattle.slot_core.specs.Keeping.Executives.{Executive}
use Rattle.slot_core.specs.Runs.Matches.{HaveSameItems}
use Rattle.slot_core.specs.Keeping.Plans.{PlanParts, IsPlan}
use Rattle.sporadic_reserve.specs.Reserves.{without_name}
use Rattle.interval_row.specs.Changes.{copies_of}
use Rattle.scene_steps.proofs.Starts.FirstParts.{spans-start, IsFirst, StandsFor-start}
use Rattle.slot_exec.specs.Changes.{jobs_in_cycle}
use Rattle.slot_exec.proofs.SceneRooms.{nothing, Remembers-nothing}
use Rattle.slot_exec.specs.Parts.{ends_of, executive, job_room, span_room, IsExecutive}

-- three copies of the plan's spans, its jobs of three cycles, and sporadic tasks that may all come at once
pub IsFirst-parts : (plan : PlanParts) (time : ℕ) (rows : List Span) (jobs : List Job) (nexts : List ℕ) (soft : List SoftJob) → time ≡ 0 → rows ≡ copies_of plan.spans 3 → HaveSameItems jobs (jobs_in_cycle plan 0 ++ jobs_in_cycle plan 1 ++ jobs_in_cycle plan 2) → nexts ≡ map (λ (s : Sporadic). 0) plan.tasks.sporadics → soft ≡ [] → IsFirst (executive plan time rows jobs nexts soft 0)
IsFirst-parts plan time rows jobs nexts soft start copies same free none =
    record {
      time = start;
      jobs = same;
      nexts = free;
      soft = none;
      points = ap ends_of copies;
      last = refl;
    }

-- they agree, with room for three cycles
pub IsExecutive-first : (exec : Executive) (rows : List Span) (reserved : List Sporadic) (limit capacity most : ℕ) → IsPlan exec.plan → IsFirst exec → rows ≡ copies_of exec.plan.spans 3 → reserved ≡ map without_name exec.plan.tasks.sporadics → limit ≡ span_room exec.plan.cycle → capacity ≡ job_room exec.plan.cycle → most ≡ exec.plan.tasks.soft_limit → IsExecutive exec rows reserved limit capacity most nothing
IsExecutive-first exec rows reserved limit capacity most plan first copies tasks spans jobs soft =
    record {
      plan = plan;
      stands = ([], (StandsFor-start exec plan first).0);
      early = omega (arith, first.time);
      spans = copies ∙ spans-start exec plan first;
      sporadics = tasks;
      places = spans;
      queue = jobs;
      ring = soft;
      remembers = Remembers-nothing exec plan ([], (StandsFor-start exec plan first).0);
    }
