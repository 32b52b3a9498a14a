-- What is written of a plan.
use Rattle.std.specs.Prelude.{ℕ, List, length}
use Rattle.slot_core.specs.declared.events.Arrival.{Arrival}
use Rattle.slot_core.specs.Keeping.Plans.{PlanParts}
use Rattle.slot_core.specs.Output.Reports.{check_line, show_text}
use Rattle.table_codec.specs.Grammar.{spelling}
use Rattle.command_line.specs.declared.commands.PlanOutput.{PlanOutput}
use Rattle.command_line.specs.declared.commands.PlanOutput.TheVariants.{Counts, Table, Listing, Margins, Lines}
use Rattle.plan_reports.specs.Lines.{verified_line}
use Rattle.plan_reports.specs.MarginLines.{margin_text}

-- what is written of a plan, and of these arrivals over so many slots
abbrev pub plan_text : PlanOutput → ℕ → PlanParts → List Arrival → List ℕ
plan_text Counts slots plan arrivals = check_line plan.tasks
plan_text Table slots plan arrivals = spelling plan
plan_text Listing slots plan arrivals = show_text plan
plan_text Margins slots plan arrivals = margin_text plan.tasks
plan_text Lines slots plan arrivals = verified_line slots (length arrivals)
