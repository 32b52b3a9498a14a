-- What the parts of an executive stand for, and how they agree.
use Rattle.std.specs.Prelude.{◌≡◌, ℕ, ◌+◌, ◌*◌, ◌≤◌, List, map}
use Rattle.slot_core.specs.declared.TheConstants.{TIME_LIMIT}
use Rattle.slot_core.specs.declared.jobs.Job.{Job}
use Rattle.slot_core.specs.declared.jobs.SoftJob.{SoftJob}
use Rattle.slot_core.specs.declared.jobs.Span.{Span}
use Rattle.slot_core.specs.declared.tasks.Sporadic.{Sporadic}
use Rattle.slot_core.specs.Keeping.Plans.{PlanParts, IsPlan}
use Rattle.slot_core.specs.Runs.Spans.{spans_of}
use Rattle.slot_core.specs.Keeping.Executives.{Executive, StandsForSome}
use Rattle.sporadic_reserve.specs.Reserves.{without_name}
use Rattle.slot_exec.specs.declared.rooms.Remembered.{Remembered}
use Rattle.slot_exec.specs.Rooms.{RemembersScene}

-- the points at which spans end
abbrev pub ends_of : List Span → List ℕ
ends_of spans = map (λ (s : Span). s.end) spans

-- the executive of a plan with a table at this time, with these spans, with these jobs in its
-- queue, next arrivals in its reserve, soft jobs in its ring, and last row
abbrev pub executive :
    PlanParts → ℕ → List Span → List Job → List ℕ → List SoftJob → ℕ → Executive
executive plan time spans jobs nexts soft row = record {
  plan = plan;
  scene = record { time = time; jobs = jobs; nexts = nexts; soft = soft; points = ends_of spans };
  last_row = row;
}

-- how many spans an executive has room for: one for each slot of three cycles, and one more
abbrev pub span_room : ℕ → ℕ
span_room cycle = 3 * cycle + 1

-- how many guaranteed jobs it has room for: one for each slot of three cycles
abbrev pub job_room : ℕ → ℕ
job_room cycle = 3 * cycle

-- the parts agree: the executive has a plan and stands for some legal history, the spans of the
-- table are those of the scene, the reserve has the plan's sporadic tasks, there is room for more,
-- and what is remembered of the room for soft work is so
pub record IsExecutive
    (exec : Executive) (rows : List Span) (reserved : List Sporadic)
    (limit capacity most : ℕ) (room : Remembered) : Type 0 where
  pub plan : IsPlan exec.plan
  pub stands : StandsForSome exec
  pub early : exec.scene.time ≤ TIME_LIMIT
  pub spans : rows ≡ spans_of exec.plan.cycle exec.scene
  pub sporadics : reserved ≡ map without_name exec.plan.tasks.sporadics
  pub places : limit ≡ span_room exec.plan.cycle
  pub queue : capacity ≡ job_room exec.plan.cycle
  pub ring : most ≡ exec.plan.tasks.soft_limit
  pub remembers :
      RemembersScene exec.plan.tasks.sporadics exec.plan.cycle exec.scene exec.scene.time room
