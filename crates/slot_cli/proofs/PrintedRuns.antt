-- A run that is done has printed the text of its plan and arrivals.
use Rattle.std.proofs.Common.{◌≡◌, ℕ, List, Option, None, Some, Ok, Err, refl, subst, ap, sym, ◌∙◌}
use Rattle.std.specs.Prelude.{⊤}
use Rattle.std.specs.Option.{option_map_or}
use Rattle.std.specs.Io.KnownBytes.{Appends}
use Rattle.slot_core.specs.Calls.Results.{◌>>=◌}
use Rattle.slot_core.specs.Keeping.Plans.{PlanParts}
use Rattle.slot_io.specs.Files.{Held}
use Rattle.command_line.specs.declared.refusal.Refusal.TheVariants.{Usage}
use Rattle.command_line.specs.Refusals.{Outcome}
use Rattle.command_line.specs.Writings.{Writing, whole_of}
use Rattle.command_line.specs.declared.commands.Command.{Command}
use Rattle.command_line.specs.Commands.{command_of, slots_of}
use Rattle.run_steps.specs.Readings.{plan_from, second_from}
use Rattle.slot_cli.specs.Due.{arrivals_for, check_for, expected, output_due, plan_of_run, writing_for, writing_from, writing_of}
use Rattle.slot_cli.specs.Printed.{IsPrinted}
use Rattle.slot_cli.proofs.ExplainedRows.{row-shows_why}
use Rattle.command_line.specs.declared.commands.Output.{Output}
use Rattle.command_line.specs.declared.commands.Output.TheVariants.{Change}
use Rattle.command_line.proofs.CommandLemmas.{in_range-command}
use Rattle.run_steps.proofs.SourcePlans.{IsPlan-second}
use Rattle.slot_cli.proofs.ChangedRuns.{granted-of_text, second-there}
use Rattle.slot_cli.proofs.RunPlans.{fitting-run}
use Rattle.slot_cli.proofs.ServedRuns.{offers-run, served-run}
use Rattle.slot_cli.proofs.TextStages.{writing_after, writing_beside}

-- the value of a step that gives one
value_same : {X : Type 0} (x y : X) → (let o : Outcome X = Ok x in o) ≡ Ok y → x ≡ y
value_same x y same = cc

-- steps that give a value have each given one
tested-step : {Z : Type 0} (o : Outcome ⊤) (z end : Z) → (o >>= (λ checked. let r : Outcome Z = Ok z in r)) ≡ Ok end → z ≡ end
tested-step (Ok checked) z end given = value_same z end given
tested-step (Err e) z end given = cc

last-step : {Y Z : Type 0} (o : Outcome Y) (t : Y → Outcome ⊤) (w : Y → Z) (z : Z) → (o >>= (λ y. t y >>= (λ checked. let r : Outcome Z = Ok (w y) in r))) ≡ Ok z → (y : Y) × (o ≡ Ok y) × (w y ≡ z)
last-step (Ok y) t w z given = (y, refl, tested-step (t y) (w y) z given)
last-step (Err e) t w z given = cc

pub first-step : {X Z : Type 0} (o : Outcome X) (f : X → Outcome Z) (z : Z) → (o >>= f) ≡ Ok z → (x : X) × (o ≡ Ok x) × (f x ≡ Ok z)
first-step (Ok x) f z given = (x, refl, given)
first-step (Err e) f z given = cc

-- the command of a run that has something to write
asked-some : (held : Held) (words : List (List ℕ)) (o : Option Command) (w : Writing) → writing_for held words o ≡ Ok w → (command : Command) × (o ≡ Some command) × (writing_of held words command ≡ Ok w)
asked-some held words None w due = cc
asked-some held words (Some command) w due = (command, refl, due)

-- where the words write this command, its plan is that of the run
pub plan_of_run-asked : (held : Held) (words : List (List ℕ)) (command : Command) (plan : PlanParts) → command_of words ≡ Some command → plan_from held words command.source ≡ Ok plan → plan_of_run held words ≡ Ok plan
plan_of_run-asked held words command plan asked planned =
    ap (λ (o : Option Command). option_map_or (λ command. plan_from held words command.source) o (Err Usage)) asked ∙ planned

-- a text that is due and was written is printed
pub IsPrinted-due : (words : List (List ℕ)) (held : Held) (before after : Option (List ℕ)) (text : List ℕ) → Appends before after text → expected held words ≡ Ok text → IsPrinted words held before after
IsPrinted-due words held before after text appends due =
    let (writing, written, whole) = first-step (writing_for held words (command_of words)) whole_of text due in
    let (command, asked, told) = asked-some held words (command_of words) writing written in
    let (plan, from, later) = first-step (plan_from held words command.source) (writing_after held words command) writing told in
    let (second, seconded, last) = first-step (second_from held words command.second) (writing_beside held words command plan) writing later in
    let (arrivals, gathered, same) = last-step (arrivals_for held words command plan.tasks) (check_for held words command plan) (writing_from command plan second) writing last in
    let planned = plan_of_run-asked held words command plan asked from in
    let (is_plan, fits) = fitting-run held words command plan arrivals asked planned gathered in
    let served = served-run held words plan (slots_of command) arrivals planned fits in
    record {
      command = command;
      asked = asked;
      plan = plan;
      planned = planned;
      is_plan = is_plan;
      second = second;
      seconded = seconded;
      arrivals = arrivals;
      gathered = gathered;
      fitting = fits;
      text = text;
      tells = ap whole_of same ∙ whole;
      written = appends;
      served = served.0;
      ordered = served.1;
      offers = offers-run held words plan (slots_of command) arrivals planned fits;
      changes = λ n is.
          let (other, there) = second-there held words command.second second ((in_range-command words command asked).changed n is).1 seconded in
          let is_other = IsPlan-second held words command.second other (seconded ∙ ap Ok there) in
          let tells : whole_of (output_due (Change n) (slots_of command) plan (Some other) arrivals) ≡ Ok text = ap (λ (o : Output). whole_of (output_due o (slots_of command) plan (Some other) arrivals)) (sym is) ∙ ap (λ (s : Option PlanParts). whole_of (output_due command.output (slots_of command) plan s arrivals)) (sym there) ∙ ap whole_of same ∙ whole in
          (other, there, is_other, granted-of_text plan other arrivals (slots_of command) n text is_plan is_other fits tells);
      explains = λ row is. row-shows_why plan arrivals (slots_of command) row is_plan fits;
    }
