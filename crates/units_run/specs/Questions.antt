-- The command line: which words ask which question.
use Rattle.std.specs.Prelude.{ℕ, ◌^◌, ◌-◌, ◌==◌, ◌&&◌, List, codes, length, nat_lt, if◌then◌else◌, Option, Some, None, option_map}
use Rattle.std.specs.Option.{option_and_then}
use Rattle.std.specs.Str.{bytes_eq}
use Rattle.command_line.specs.Refusals.{word_at}
use Rattle.time_texts.specs.Reading.{time_of_text}
use Rattle.units_run.specs.declared.questions.Question.{Question}
use Rattle.units_run.specs.declared.questions.Question.TheVariants.{Tasks, Check, Arrivals, Trace}

-- the question of this name, with no range
abbrev pub plain_question : List ℕ → Option Question
plain_question word =
    if bytes_eq word (codes "tasks") then Some Tasks
    else if bytes_eq word (codes "check") then Some (Check 0 (2 ^ 64 - 1))
    else if bytes_eq word (codes "trace") then Some Trace
    else None

-- the question with a range, where both words are times
abbrev pub range_question : List ℕ → List ℕ → Option Question
range_question from to =
    option_and_then
    (λ (low : ℕ). option_map (λ (high : ℕ). Check low high) (time_of_text to))
    (time_of_text from)

-- the question that the words ask, or none: tasks U, check U, check U FROM TO, arrivals U A,
-- trace U
abbrev pub question_of : List (List ℕ) → Option Question
question_of words =
    if length words == 2 then plain_question (word_at words 0)
    else if length words == 3 && bytes_eq (word_at words 0) (codes "arrivals") then Some Arrivals
    else if length words == 4 && bytes_eq (word_at words 0) (codes "check")
    then range_question (word_at words 2) (word_at words 3) else None

-- the name of the other file: A, or where there is none standard input
abbrev pub other_of : List (List ℕ) → List ℕ
other_of words = if nat_lt 2 (length words) then word_at words 2 else codes "standard input"
