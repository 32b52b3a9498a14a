-- The words of commands, and what is read of the files that they name.
use Rattle.std.proofs.Common.{◌≡◌, ℕ, ◌+◌, ◌≤◌, Bool, true, false, List, [], ◌∷◌, length, take, Option, Some, Ok, Err, refl, ap, ◌∙◌, arith}
use Rattle.std.specs.Prelude.{codes, nat_lt, option_map, if◌then◌else◌}
use Rattle.std.specs.Option.{option_map_or}
use Rattle.std.proofs.lemmas.Bool.{le-ltb}
use Rattle.std.proofs.lemmas.List.{take_all}
use Rattle.slot_core.specs.Calls.Results.{◌>>=◌}
use Rattle.slot_core.specs.declared.events.Arrival.{Arrival}
use Rattle.slot_core.specs.declared.tasks.TaskSet.{TaskSet}
use Rattle.command_line.specs.declared.file.File.{File}
use Rattle.command_line.specs.declared.file.File.TheVariants.{Arrivals as ArrivalsFile}
use Rattle.command_line.specs.declared.refusal.Refusal.TheVariants.{Unreadable, TooLarge}
use Rattle.command_line.specs.Refusals.{Outcome, limit_of}
use Rattle.run_steps.specs.Readings.{limited_bytes, fitting_arrivals}

-- the words of a table, and those of a replay and of a verification: the file of a plan, that of
-- arrivals, that of a trace, and the number of slots
abbrev pub words_of_table : List ℕ → List (List ℕ)
words_of_table t = codes "table" ∷ t ∷ []

abbrev pub words_of_replay : List ℕ → List ℕ → List ℕ → List (List ℕ)
words_of_replay t a n = codes "replay" ∷ t ∷ a ∷ n ∷ []

abbrev pub words_of_replay_table : List ℕ → List ℕ → List ℕ → List (List ℕ)
words_of_replay_table b a n = codes "replay-table" ∷ b ∷ a ∷ n ∷ []

abbrev pub words_of_verify : List ℕ → List ℕ → List ℕ → List ℕ → List (List ℕ)
words_of_verify t a x n = codes "verify" ∷ t ∷ a ∷ x ∷ n ∷ []

-- what is read of a file that is held so: one byte more than the limit tells that it is too large
abbrev pub read_of : File → Option (List ℕ) → Outcome (List ℕ)
read_of file o =
    option_map_or (limited_bytes file) (option_map (take (limit_of file + 1)) o) (Err (Unreadable file))

within_limit : (file : File) (bytes : List ℕ) (b : Bool) → b ≡ false → (let o : Outcome (List ℕ) = if b then Err (TooLarge file) else Ok bytes in o) ≡ Ok bytes
within_limit file bytes true is = cc
within_limit file bytes false is = refl

-- a short file is read whole
pub read-whole : (file : File) (bytes : List ℕ) (o : Option (List ℕ)) → o ≡ Some bytes → length bytes ≤ limit_of file → read_of file o ≡ Ok bytes
read-whole file bytes o is short =
    let all : take (limit_of file + 1) bytes ≡ bytes = take_all (limit_of file + 1) bytes (omega (arith, short)) in
    ap (read_of file) is
    ∙ ap (limited_bytes file) all
    ∙ within_limit file bytes (nat_lt (limit_of file) (length bytes)) (le-ltb (limit_of file) (length bytes) short)

-- the arrivals that are read of a file that is held so
abbrev pub arrivals_read : Option (List ℕ) → ℕ → TaskSet → Outcome (List Arrival)
arrivals_read o slots set = read_of ArrivalsFile o >>= (λ bytes. fitting_arrivals bytes slots set)
