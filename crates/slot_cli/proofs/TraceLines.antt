-- The chart and the tally of a trace, from what takers took.
use Rattle.std.proofs.Common.{◌≡◌, ℕ, ◌<◌, ◌≤◌, ◌^◌, true, List, length, sym, ap, subst, ◌∙◌}
use Rattle.std.specs.Prelude.{nat_le}
use Rattle.std.proofs.lemmas.Bool.{and_parts, leb-true}
use Rattle.slot_core.specs.declared.TheConstants.{ARRIVAL_LIMIT, REPLAY_LIMIT}
use Rattle.slot_core.specs.declared.events.Arrival.{Arrival}
use Rattle.slot_core.specs.declared.events.Entry.{Entry}
use Rattle.slot_core.specs.declared.jobs.Key.{Key}
use Rattle.slot_core.specs.declared.tasks.TaskSet.{TaskSet}
use Rattle.slot_core.specs.Runs.Arrivals.{are_fitting, arrivals_follow}
use Rattle.slot_core.specs.Output.Charts.{Kind, number_of, runs_of, chart_of, chart_text, tally_text}
use Rattle.slot_core.specs.Keeping.Plans.{PlanParts}
use Rattle.slot_core.specs.Runs.Traces.{trace}
use Rattle.slot_facts.proofs.Replays.Lengths.{trace-short}
use Rattle.gantt_print.specs.Drawings.{Drawing, IsChartOf, drawing_text, drawing_with, empty_chart}
use Rattle.gantt_print.proofs.ChartLemmas.{IsChartOf-with, IsChartOf-empty}
use Rattle.load_gen.specs.Tallies.{count_of, grown}
use Rattle.load_gen.specs.declared.tally.Tally.{Tally}

-- a trace that may be replayed is short
pub short_trace : (set : TaskSet) (arrivals : List Arrival) (slots : ℕ) → slots ≤ REPLAY_LIMIT → are_fitting set slots arrivals ≡ true → length (trace set arrivals slots) < 2 ^ 64
short_trace set arrivals slots low fits =
    let few : length arrivals ≤ ARRIVAL_LIMIT = leb-true (length arrivals) ARRIVAL_LIMIT (and_parts (nat_le (length arrivals) ARRIVAL_LIMIT) (arrivals_follow set slots 1 0 arrivals) fits).0 in
    trace-short set arrivals slots few low

-- a tally that took the trace tells it
pub tally-told : (n : ℕ) (line : List ℕ) (before after : Tally) (set : TaskSet) (arrivals : List Arrival) (slots from : ℕ) → from ≡ slots → slots ≤ REPLAY_LIMIT → are_fitting set slots arrivals ≡ true → ((kind : Kind) → count_of before kind ≡ 0) → ((kind : Kind) → count_of after kind ≡ grown (count_of before kind) (number_of (trace set arrivals from) kind)) → ((told : List Entry) → length told < 2 ^ 64 → ((kind : Kind) → count_of after kind ≡ grown 0 (number_of told kind)) → line ≡ tally_text n slots told) → line ≡ tally_text n slots (trace set arrivals slots)
tally-told n line before after set arrivals slots from from_is low fits none took tells =
    tells (trace set arrivals slots) (short_trace set arrivals slots low fits) (λ kind. took kind ∙ ap (λ m. grown m (number_of (trace set arrivals from) kind)) (none kind) ∙ ap (λ m. grown 0 (number_of (trace set arrivals m) kind)) from_is)

-- a chart that took the trace has the marks of its runs
pub record IsDrawn (set : TaskSet) (plan : PlanParts) (arrivals : List Arrival) (slots : ℕ) (chart : Drawing) : Type 0 where
  pub drawn : chart ≡ drawing_with (runs_of (trace plan.tasks arrivals slots)) (empty_chart set slots)
  pub is_chart : IsChartOf set chart
  pub set_is : set ≡ plan.tasks

pub chart-drawn : (plan later : PlanParts) (set : TaskSet) (before after : Drawing) (arrivals : List Arrival) (slots from : ℕ) → later ≡ plan → set ≡ later.tasks → from ≡ slots → before ≡ empty_chart plan.tasks slots → after ≡ drawing_with (runs_of (trace plan.tasks arrivals from)) before → IsDrawn set plan arrivals slots after
chart-drawn plan later set before after arrivals slots from later_is tasks_is from_is empty took =
    let set_is : set ≡ plan.tasks = tasks_is ∙ ap (λ (p : PlanParts). p.tasks) later_is in
    let runs = runs_of (trace plan.tasks arrivals slots) in
    let drawn : after ≡ drawing_with runs (empty_chart set slots) = took ∙ ap (λ n. drawing_with (runs_of (trace plan.tasks arrivals n)) before) from_is ∙ ap (drawing_with runs) (empty ∙ ap (λ (s : TaskSet). empty_chart s slots) (sym set_is)) in
    let chart = IsChartOf-with set (empty_chart set slots) runs (IsChartOf-empty set slots) in
    record {
      drawn = drawn;
      is_chart = subst (IsChartOf set) (sym drawn) chart;
      set_is = set_is;
    }

-- so its text is the chart of the trace
pub chart-told : (set : TaskSet) (plan : PlanParts) (arrivals : List Arrival) (slots : ℕ) (chart : Drawing) → IsDrawn set plan arrivals slots chart → ((n : ℕ) (runs : List (ℕ × Key)) → chart ≡ drawing_with runs (empty_chart set n) → drawing_text set chart ≡ chart_of set n runs) → drawing_text set chart ≡ chart_text plan.tasks slots (trace plan.tasks arrivals slots)
chart-told set plan arrivals slots chart is tells =
    let runs = runs_of (trace plan.tasks arrivals slots) in
    tells slots runs is.drawn ∙ ap (λ (s : TaskSet). chart_of s slots runs) is.set_is
