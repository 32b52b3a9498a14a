-- What came of each job of a trace.
use Rattle.std.specs.Prelude.{ℕ, ◌-◌, List, map, Option, Some, None, option_map}
use Rattle.slot_core.specs.declared.jobs.Key.{Key}
use Rattle.slot_core.specs.Keeping.Plans.{PlanParts}
use Rattle.trace_lines.specs.declared.line.TraceLine.{TraceLine}
use Rattle.trace_lines.specs.Traces.{time_of_last}
use Rattle.view_jobs.specs.declared.jobs.Listed.{Listed}
use Rattle.view_jobs.specs.declared.tallies.Tally.{Tally}
use Rattle.view_jobs.specs.Deeds.{deeds_of}
use Rattle.view_jobs.specs.JobRows.{end_of}
use Rattle.view_jobs.specs.Listing.{listed_jobs}
use Rattle.view_jobs.specs.Tallies.{tally_of}
use Rattle.view_stats.specs.declared.outcomes.Outcome.{Outcome}

-- two numbers, where there are both
abbrev pub both : Option ℕ → Option ℕ → Option (ℕ × ℕ)
both (Some a) (Some b) = Some (a, b)
both a b = None

-- what came of a job of which this is told: its response is from its release to its end, and 0
-- where it ended before
abbrev pub outcome_of : Listed → Tally → Outcome
outcome_of job tally =
    record {
      key = job.key;
      ran = tally.ran;
      response = option_map (λ end. end - job.release) (end_of job tally);
      due = both job.deadline (end_of job tally);
      start = tally.first;
      preemptions = tally.gaps;
    }

-- what came of jobs, with what is told of each
abbrev pub outcomes_with : (Key → Tally) → List Listed → List Outcome
outcomes_with told jobs = map (λ (job : Listed). outcome_of job (told job.key)) jobs

-- what came of the jobs of a trace over a plan: those of the table of jobs, in its order
abbrev pub outcomes_of : PlanParts → List TraceLine → List Outcome
outcomes_of plan lines =
    let deeds = deeds_of plan.tasks lines in
    outcomes_with (tally_of deeds) (listed_jobs plan (time_of_last lines) deeds)
