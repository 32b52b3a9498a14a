-- What is told of a change of plan.
use Rattle.std.specs.Prelude.{◌≡◌, ℕ, ◌+◌, List, None, Some, Result, Ok, Err}
use Rattle.std.specs.Option.{option_map_or}
use Rattle.slot_core.specs.declared.events.Arrival.{Arrival}
use Rattle.slot_core.specs.declared.jobs.Evidence.{Evidence}
use Rattle.slot_core.specs.declared.jobs.Job.{Job}
use Rattle.slot_core.specs.Keeping.Plans.{PlanParts}
use Rattle.slot_core.specs.Output.Texts.{trace_text}
use Rattle.slot_core.specs.Runs.Histories.{History, last_row}
use Rattle.slot_core.specs.Runs.Scenes.{remaining}
use Rattle.slot_core.specs.Runs.Traces.{history_of, trace}
use Rattle.change_laws.specs.Carried.{jobs_after}
use Rattle.change_laws.specs.Demand.{ShowsNoRoom, refusal_of}
use Rattle.change_laws.specs.Grants.{CanChange}
use Rattle.mode_switch.specs.Keeping.{carried_from}
use Rattle.mode_switch.specs.Runs.{IsServedAfter, after_change}
use Rattle.mode_switch.specs.Texts.{change_text}
use Rattle.command_line.specs.Writings.{Writing}

-- the history of the trace of so many slots
abbrev pub history_to : PlanParts → List Arrival → ℕ → History
history_to plan arrivals slots = history_of (trace plan.tasks arrivals slots)

-- the jobs that remain after a history, and are carried over
abbrev pub carried_after : PlanParts → History → List Job
carried_after plan h = carried_from (remaining plan.tasks plan.cycle h)

-- the text of a change to a second plan at time c with these jobs, and of the run after it up to
-- time n; or the evidence that there is no room for it
abbrev pub change_due : PlanParts → PlanParts → ℕ → List Job → ℕ → Result (List ℕ) Evidence
change_due plan second c carried n =
    option_map_or
    (λ e. Err e)
    (refusal_of second.tasks c carried)
    (Ok (change_text plan.tasks second.tasks c carried n))

-- what is told of a change after so many slots: their trace, and then the change
abbrev pub changed : PlanParts → PlanParts → List Arrival → ℕ → ℕ → Writing
changed plan second arrivals slots n = record {
  front = trace_text plan.tasks (trace plan.tasks arrivals slots);
  rest = change_due plan second slots (carried_after plan (history_to plan arrivals slots)) n;
}

-- a change that is granted after a history can be served, and serves the jobs that it carries over
-- and those of the second plan: at every time, each that is due has run its slots in its window and
-- in order, however many cycles are looked at
pub record IsGranted (plan second : PlanParts) (h : History) (c : ℕ) : Type 0 where
  pub can : CanChange second.tasks c (carried_after plan h) (last_row h + 1)
  pub served :
      (cycles n : ℕ)
      → IsServedAfter
      second.tasks
      (jobs_after second.tasks c (carried_after plan h) cycles)
      (after_change second.tasks c (carried_after plan h) n)

-- one that is refused with this evidence cannot be served, and the evidence shows it
pub record IsDenied (plan second : PlanParts) (h : History) (c : ℕ) (e : Evidence) : Type 0 where
  pub cannot : ¬ (CanChange second.tasks c (carried_after plan h) (last_row h + 1))
  pub shown : ShowsNoRoom second.tasks c (carried_after plan h) e

-- the answer to a change after a history is exact
pub record IsChangeExact (plan second : PlanParts) (h : History) (c : ℕ) : Type 0 where
  pub granted :
      refusal_of second.tasks c (carried_after plan h) ≡ None → IsGranted plan second h c
  pub refused :
      (e : Evidence) → refusal_of second.tasks c (carried_after plan h) ≡ Some e
      → IsDenied plan second h c e
