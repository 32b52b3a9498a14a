-- The command line: which words ask which question.
use Rattle.std.specs.Prelude.{ℕ, ◌==◌, List, codes, length, if◌then◌else◌, Option, Some, None}
use Rattle.std.specs.Option.{option_map}
use Rattle.std.specs.Str.{bytes_eq}
use Rattle.slot_core.specs.declared.TheConstants.{OFFER_LIMIT}
use Rattle.key_texts.specs.Numbers.{number_between}
use Rattle.command_line.specs.Refusals.{word_at}
use Rattle.plan_run.specs.declared.questions.Question.{Question}
use Rattle.plan_run.specs.declared.questions.Question.TheVariants.{Load, Who, Header, Supply, SupplyWithin}

-- the question of this name
abbrev pub question_named : List ℕ → Option Question
question_named word =
    if bytes_eq word (codes "load") then Some Load
    else if bytes_eq word (codes "who") then Some Who
    else if bytes_eq word (codes "header") then Some Header
    else if bytes_eq word (codes "supply") then Some Supply
    else None

-- the question for the supply within a number of slots, from 1 to the most that a request may name
abbrev pub within_question : List ℕ → Option Question
within_question number = option_map SupplyWithin (number_between 1 OFFER_LIMIT number)

-- the question of this name and this number
abbrev pub question_numbered : List ℕ → List ℕ → Option Question
question_numbered word number =
    if bytes_eq word (codes "supply") then within_question number else None

-- the question that the words ask, or none: load T, who T, header T, supply T, supply T D
abbrev pub question_of : List (List ℕ) → Option Question
question_of words =
    if length words == 2 then question_named (word_at words 0)
    else if length words == 3 then question_numbered (word_at words 0) (word_at words 2)
    else None
