-- The figures of a trace, of their parts.
use Rattle.std.proofs.Common.{◌≡◌, ◌≤◌, ℕ, true, List, [], length, Option, Some, None, refl, sym, ap, subst, ◌∙◌, inl, inr, arith}
use Rattle.std.specs.Prelude.{slice_get}
use Rattle.std.specs.List.{All}
use Rattle.std.specs.Option.{option_map_or}
use Rattle.slot_core.specs.Offline.OfflineJobs.{tasks_of}
use Rattle.std.proofs.lemmas.List.Elements.{All-get_or}
use Rattle.std.proofs.lemmas.Option.{slice_get_cases}
use Rattle.slot_core.specs.declared.TheConstants.{TASK_LIMIT}
use Rattle.slot_core.specs.declared.tasks.Graph.{Graph}
use Rattle.slot_core.specs.Sets.Ranges.{graph_in_range, is_sound}
use Rattle.slot_facts.proofs.Sets.Ranges.{few_tasks}
use Rattle.slot_facts.proofs.Sets.Sizes.{graphs-from_sound}
use Rattle.std.proofs.Math.Path.{fun_ext}
use Rattle.slot_core.specs.declared.jobs.Key.{Key}
use Rattle.slot_core.specs.declared.tasks.TaskSet.{TaskSet}
use Rattle.slot_core.specs.Keeping.Plans.{PlanParts}
use Rattle.trace_lines.specs.declared.line.TraceLine.{TraceLine}
use Rattle.trace_lines.specs.Traces.{time_of_last}
use Rattle.view_jobs.specs.declared.deeds.Deed.{Deed}
use Rattle.view_jobs.specs.declared.jobs.Listed.{Listed}
use Rattle.view_jobs.specs.declared.tallies.Tally.{Tally}
use Rattle.view_jobs.specs.Deeds.{deeds_of}
use Rattle.view_jobs.specs.Listing.{listed_jobs}
use Rattle.view_jobs.specs.Tallies.{tally_of}
use Rattle.view_stats.specs.declared.outcomes.Outcome.{Outcome}
use Rattle.view_stats.specs.Outcomes.{outcomes_of, outcomes_with}
use Rattle.view_stats.specs.Tables.{groups_text, stats_text}

-- what came of the jobs of a trace, where the parts are what they are to be
pub outcomes-from_parts : (plan : PlanParts) (lines : List TraceLine) (told : Key → Tally) (deeds : List Deed) (jobs : List Listed) (slots : ℕ) → deeds ≡ deeds_of plan.tasks lines → slots ≡ time_of_last lines → jobs ≡ listed_jobs plan slots deeds → ((key : Key) → told key ≡ tally_of deeds key) → outcomes_with told jobs ≡ outcomes_of plan lines
outcomes-from_parts plan lines told deeds jobs slots done last listed tells =
    ap (λ t. outcomes_with t jobs) (fun_ext tells)
    ∙ ap (λ js. outcomes_with (tally_of deeds) js) (listed ∙ ap (λ n. listed_jobs plan n deeds) last)
    ∙ ap (λ ds. outcomes_with (tally_of ds) (listed_jobs plan (time_of_last lines) ds)) done

-- the table, likewise
pub text-from_parts : (plan : PlanParts) (lines : List TraceLine) (set : TaskSet) (slots : ℕ) (outcomes : List Outcome) → set ≡ plan.tasks → slots ≡ time_of_last lines → outcomes ≡ outcomes_of plan lines → groups_text set slots outcomes ≡ stats_text plan lines
text-from_parts plan lines set slots outcomes own last came =
    ap (λ s. groups_text s slots outcomes) own
    ∙ ap (λ n. groups_text plan.tasks n outcomes) last
    ∙ ap (groups_text plan.tasks (time_of_last lines)) came

-- what holds of all holds of the one at a place
at_place : {X : Type 0} (P : X → Type 0) (xs : List X) (i : ℕ) (x : X) → All P xs → slice_get xs i ≡ Some x → P x
at_place P xs i x all at = elim (slice_get_cases xs i).1 [
  | inl (y, low, there, same) ↦
      (let one : y ≡ x = cc (sym there ∙ at) in
      subst P (same ∙ one) (All-get_or P xs i y low all))
  | inr (past, none) ↦ absurd (cc (sym none ∙ at))
]

-- a graph of a sound set has few tasks
pub few-tasks : (set : TaskSet) (i : ℕ) (graph : Graph) → is_sound set ≡ true → slice_get set.graphs i ≡ Some graph → length graph.tasks ≤ TASK_LIMIT
few-tasks set i graph sound at =
    few_tasks graph (at_place (λ g. graph_in_range g ≡ true) set.graphs i graph (graphs-from_sound set sound) at)

at-most : (found : Option Graph) → ((graph : Graph) → found ≡ Some graph → length graph.tasks ≤ TASK_LIMIT) → length (option_map_or (λ (graph : Graph). graph.tasks) found []) ≤ TASK_LIMIT
at-most None few = omega arith
at-most (Some graph) few = few graph refl

-- and so has what stands at a place of no graph
pub few-of : (set : TaskSet) (i : ℕ) → is_sound set ≡ true → length (tasks_of set i) ≤ TASK_LIMIT
few-of set i sound =
    at-most (slice_get set.graphs i) (λ graph at. few-tasks set i graph sound at)
