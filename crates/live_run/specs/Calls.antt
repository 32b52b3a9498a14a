-- What the words of the command line ask for.
use Rattle.std.specs.Prelude.{◌≡◌, ◌⊎◌, ℕ, ◌-◌, ◌==◌, ⊤, Bool, true, false, List, [], ◌∷◌, length, codes, nat_eq, if◌then◌else◌, Option, None, Some}
use Rattle.std.specs.List.{starts_with}
use Rattle.std.specs.Str.{bytes_eq}
use Rattle.command_line.specs.Refusals.{word_at}
use Rattle.command_line.specs.declared.commands.Source.{Source}
use Rattle.command_line.specs.declared.commands.Source.TheVariants.{Tasks, Spelled, Load}
use Rattle.live_run.specs.declared.call.LiveCall.{LiveCall}

-- the word is an option: it begins with two hyphens
abbrev pub is_option : List ℕ → Bool
is_option word = starts_with nat_eq word (codes "--")

-- the call over the task file of this name, which is no option
abbrev pub of_tasks : List ℕ → Bool → Option LiveCall
of_tasks name is_recorded =
    if is_option name then None else Some (record { source = Tasks; is_recorded = is_recorded })

-- the call over a table file, where this word asks for one
abbrev pub of_table : List ℕ → Bool → Option LiveCall
of_table word is_recorded =
    if bytes_eq word (codes "--table") then
    Some (record { source = Spelled; is_recorded = is_recorded })
    else None

-- the call over the plan of a file, where this word asks for a record in a file of another name
abbrev pub recorded_call : List ℕ → List ℕ → List ℕ → Option LiveCall → Option LiveCall
recorded_call plan word file call =
    if bytes_eq file plan then None
    else if bytes_eq word (codes "--record") then call
    else None

-- the call that the words write: `T`, `--table B`, and each with `--record FILE` behind it, where
-- FILE is another word than T or B
abbrev pub live_call_of : List (List ℕ) → Option LiveCall
live_call_of words =
    if length words == 1 then of_tasks (word_at words 0) false
    else if length words == 2 then of_table (word_at words 0) false
    else if length words == 3 then
    recorded_call (word_at words 0) (word_at words 1) (word_at words 2)
    (of_tasks (word_at words 0) true)
    else if length words == 4 then
    recorded_call (word_at words 1) (word_at words 2) (word_at words 3)
    (of_table (word_at words 0) true)
    else None

-- the words ask for the record of a plan in the file of this name, the word after --record
abbrev pub AsksRecord : List (List ℕ) → List ℕ → List ℕ → Type 0
AsksRecord words plan name =
    (words ≡ plan ∷ codes "--record" ∷ name ∷ [])
    ⊎ (words ≡ codes "--table" ∷ plan ∷ codes "--record" ∷ name ∷ [])

-- the words name the file of the plan a second time, as the record
abbrev pub IsRecordOverPlan : List (List ℕ) → List ℕ → Type 0
IsRecordOverPlan words name = AsksRecord words name name

-- a plan comes from a file
abbrev pub IsFile : Source → Type 0
IsFile Tasks = ⊤
IsFile Spelled = ⊤
IsFile (Load n) = ⊥

-- so the plan of a call does
abbrev pub HasPlan : LiveCall → Type 0
HasPlan call = IsFile call.source

-- the word that names the plan's file: the first, or the one after the option
abbrev pub named_by : List (List ℕ) → Source → List ℕ
named_by words Spelled = word_at words 1
named_by words source = word_at words 0

-- the name of the plan's file
abbrev pub plan_name : List (List ℕ) → LiveCall → List ℕ
plan_name words call = named_by words call.source

-- the words by which the plan is read and blamed: one that nobody reads, and the name of its file
abbrev pub plan_words : List (List ℕ) → LiveCall → List (List ℕ)
plan_words words call = [] ∷ plan_name words call ∷ []

-- the name of the record, the last word
abbrev pub record_name : List (List ℕ) → List ℕ
record_name words = word_at words (length words - 1)

-- the names of the record and of the plan's file
abbrev pub record_names : List (List ℕ) → LiveCall → List ℕ × List ℕ
record_names words call = (record_name words, plan_name words call)
