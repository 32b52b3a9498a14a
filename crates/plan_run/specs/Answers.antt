-- What the bytes of the task file call for.
use Rattle.std.specs.Prelude.{ℕ, List, Ok, Err}
use Rattle.std.specs.Option.{option_map_or}
use Rattle.slot_core.specs.Calls.Results.{◌>>=◌}
use Rattle.slot_io.specs.Files.{Held}
use Rattle.command_line.specs.declared.commands.Source.TheVariants.{Tasks}
use Rattle.command_line.specs.declared.refusal.Refusal.TheVariants.{Usage}
use Rattle.command_line.specs.Refusals.{Outcome}
use Rattle.run_steps.specs.Readings.{plan_from}
use Rattle.run_steps.specs.Sets.{set_from}
use Rattle.plan_answers.specs.Headers.{header_text}
use Rattle.plan_answers.specs.Loads.{load_text}
use Rattle.plan_answers.specs.Who.{who_text}
use Rattle.supply_lines.specs.Lines.{supply_text, within_text}
use Rattle.plan_run.specs.declared.questions.Question.{Question}
use Rattle.plan_run.specs.declared.questions.Question.TheVariants.{Load, Who, Header, Supply, SupplyWithin}
use Rattle.plan_run.specs.Questions.{question_of}

-- the text of the answer: of a load and of a window that fails over the sound set of the file, and
-- of a header and of a supply over its plan
abbrev pub answer_from : Held → List (List ℕ) → Question → Outcome (List ℕ)
answer_from held words Load = do
  set ← set_from held words Tasks
  Ok (load_text set)
answer_from held words Who = do
  set ← set_from held words Tasks
  Ok (who_text set)
answer_from held words Header = do
  plan ← plan_from held words Tasks
  Ok (header_text plan)
answer_from held words Supply = do
  plan ← plan_from held words Tasks
  Ok (supply_text plan.tasks)
answer_from held words (SupplyWithin within) = do
  plan ← plan_from held words Tasks
  Ok (within_text plan.tasks within)

-- the text of the answer to the question of the words
abbrev pub answer_due : Held → List (List ℕ) → Outcome (List ℕ)
answer_due held words = option_map_or (answer_from held words) (question_of words) (Err Usage)
