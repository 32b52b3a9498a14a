-- How the run of a view comes out.
use Rattle.std.specs.Prelude.{◌≡◌, ◌⊎◌, ℕ, ⊤, List, Option, IfSome}
use Rattle.slot_core.specs.Keeping.Plans.{PlanParts}
use Rattle.slot_io.specs.Files.{Held}
use Rattle.command_line.specs.declared.refusal.Refusal.{Refusal}
use Rattle.command_line.specs.declared.refusal.Refusal.TheVariants.{Memory}
use Rattle.trace_lines.specs.declared.line.TraceLine.{TraceLine}
use Rattle.trace_lines.specs.Texts.{lines_text}
use Rattle.trace_lines.specs.Traces.{AreTrace}
use Rattle.view_run.specs.declared.views.View.{View}
use Rattle.view_run.specs.declared.views.View.TheVariants.{Lines, Planned, Stairs}
use Rattle.view_run.specs.Inputs.{HasFirst, Holds, IsInputRefusal, Told, shown_lines, shown_number}
use Rattle.view_run.specs.Plans.{IsPlanOf, IsPlanRefusal}
use Rattle.view_run.specs.Shown.{IsLinesRefusal, IsLinesText, IsPlanText, IsPlanViewRefusal}
use Rattle.view_run.specs.Views.{slots_in}
use Rattle.view_run.specs.Supplies.{IsStaircaseDue, IsSupplyRefusal, IsUndrawn}

-- the lines are those of a trace, whose text standard input holds, where it tells what it holds
abbrev pub AreInput : Option Held → List TraceLine → Type 0
AreInput held lines =
    AreTrace lines × IfSome held (λ files. Holds files (lines_text lines))

-- why a view has no plan: only one beside a plan asks for one
abbrev pub IsViewPlanRefusal :
    View → List (List ℕ) → Option Held → Told → ℕ → ℕ → Refusal → Type 0
IsViewPlanRefusal (Planned view source) names held told before after e =
    IsPlanRefusal source names held told before after e
IsViewPlanRefusal view names held told before after e = ⊥

-- there is the plan that a view asks for: only one beside a plan asks for one
abbrev pub HasPlan : View → List (List ℕ) → Option Held → Type 0
HasPlan (Planned view source) names held =
    (plan : PlanParts) × IsPlanOf source names held plan
HasPlan view names held = ⊤

-- why the input of a view is refused: that of a staircase is a supply, that of others a trace
abbrev pub IsViewInputRefusal : View → Option Held → Told → ℕ → ℕ → Refusal → Type 0
IsViewInputRefusal (Lines view slots) input told before after e =
    IsInputRefusal slots input told before after e
IsViewInputRefusal (Planned view source) input told before after e =
    IsInputRefusal (slots_in view) input told before after e
IsViewInputRefusal Stairs input told before after e = IsSupplyRefusal input told before after e

-- the text that is due: that of the view of the lines of the input, of which the trace has the first
-- slot that is asked for. A view beside a plan is over that of its file
abbrev pub IsTextDue : View → List (List ℕ) → Option Held → Option Held → List ℕ → Type 0
IsTextDue (Lines view slots) names files input text =
    (lines : List TraceLine) × AreInput input lines × HasFirst slots lines
    × IsLinesText view (shown_number slots lines) (shown_lines slots lines) text
IsTextDue (Planned view source) names files input text =
    (lines : List TraceLine) × AreInput input lines × HasFirst (slots_in view) lines
    × ((plan : PlanParts) × IsPlanOf source names files plan
    × IsPlanText view plan (shown_lines (slots_in view) lines) text)
IsTextDue Stairs names files input text = IsStaircaseDue input text

-- why the view of such lines is not written
abbrev pub IsUnviewed :
    View → List (List ℕ) → Option Held → Option Held → ℕ → ℕ → Refusal → Type 0
IsUnviewed (Lines view slots) names files input before after e =
    (lines : List TraceLine) × AreInput input lines
    × IsLinesRefusal view (shown_lines slots lines) before after e
IsUnviewed (Planned view source) names files input before after e =
    (lines : List TraceLine) × AreInput input lines
    × ((plan : PlanParts) × IsPlanOf source names files plan
    × IsPlanViewRefusal view plan (shown_number (slots_in view) lines)
    (shown_lines (slots_in view) lines) before after e)
IsUnviewed Stairs names files input before after e = IsUndrawn input before after e

-- why a run is refused, over files and an input that hold this, what these tell of their reads, and
-- over the counts of faults of the files, the input and the output before and after: memory ran out, or it
-- has no plan, or there is one, and then the input is refused, or the view is not written
abbrev pub IsRefused :
    View → List (List ℕ) → Option Held → Option Held → Told → Told → ℕ × ℕ → ℕ × ℕ → ℕ × ℕ
    → Refusal → Type 0
IsRefused view names files input files_told input_told of_files of_input of_output e =
    (e ≡ Memory)
    ⊎ (IsViewPlanRefusal view names files files_told of_files.0 of_files.1 e
    ⊎ ((HasPlan view names files
    × IsViewInputRefusal view input input_told of_input.0 of_input.1 e)
    ⊎ IsUnviewed view names files input of_output.0 of_output.1 e))
