-- The plan of a view beside one, and why there is none.
use Rattle.std.specs.Prelude.{◌≡◌, ℕ, ◌+◌, ⊤, true, List, Option, Some, Ok, Err, IfSome}
use Rattle.slot_core.specs.Calls.Counts.{Rose}
use Rattle.slot_core.specs.Keeping.Plans.{IsPlan, PlanParts}
use Rattle.slot_io.specs.Files.{Held}
use Rattle.command_line.specs.Commands.{is_file_of}
use Rattle.command_line.specs.Refusals.{is_found, limit_of, name_of}
use Rattle.command_line.specs.declared.refusal.Refusal.{Refusal}
use Rattle.command_line.specs.declared.refusal.Refusal.TheVariants.{Usage, TooLarge, Unreadable, WriteFault, Memory}
use Rattle.run_steps.specs.Readings.{plan_from}
use Rattle.view_run.specs.declared.views.Source.{Source}
use Rattle.view_run.specs.Inputs.{Told}
use Rattle.view_run.specs.Views.{plan_source}

-- a plan, and the one that the bytes of its file call for, where the files tell what they hold
abbrev pub IsPlanOf : Source → List (List ℕ) → Option Held → PlanParts → Type 0
IsPlanOf source names held plan =
    IsPlan plan
    × IfSome held (λ files. plan_from files names (plan_source source) ≡ Ok plan)

-- why a view has no plan: its file cannot be read, which is counted and blamed, or the last read
-- gave a byte more of it than its limit, or memory ran out, or the bytes of the file call for the
-- refusal
abbrev pub IsPlanRefusal :
    Source → List (List ℕ) → Option Held → Told → ℕ → ℕ → Refusal → Type 0
IsPlanRefusal source names held told before after (Unreadable file) =
    (is_file_of (plan_source source) file ≡ true)
    × Rose before after × (told.0 ≡ Some (name_of names file))
IsPlanRefusal source names held told before after (TooLarge file) =
    (is_file_of (plan_source source) file ≡ true)
    × (told.1 ≡ Some (name_of names file, limit_of file + 1))
    × IfSome held (λ files. plan_from files names (plan_source source) ≡ Err (TooLarge file))
IsPlanRefusal source names held told before after Memory = ⊤
IsPlanRefusal source names held told before after Usage = ⊥
IsPlanRefusal source names held told before after WriteFault = ⊥
IsPlanRefusal source names held told before after e =
    (is_found e ≡ true)
    × IfSome held (λ files. plan_from files names (plan_source source) ≡ Err e)
