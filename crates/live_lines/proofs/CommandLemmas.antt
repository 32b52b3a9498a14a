-- Whether bytes are text, and that a command that is read fits the set.
use Rattle.std.proofs.Common.{◌≡◌, ℕ, true, List, Option, Some, None, Result, Ok, Err, MatchResult, IfOk, inl, inr, refl, sym}
use Rattle.std.specs.Prelude.{codes, ok_or}
use Rattle.std.specs.Option.{option_map_or}
use Rattle.std.specs.Result.{is_ok, result_map_both}
use Rattle.std.specs.Str.{bytes_eq, IsUtf8, is_utf8}
use Rattle.std.proofs.lemmas.Bool.{cases_Bool}
use Rattle.std.proofs.lemmas.Str.{IsUtf8-from_is_utf8, is_utf8-from_IsUtf8}
use Rattle.slot_core.specs.declared.TheConstants.{REPLAY_LIMIT}
use Rattle.slot_core.specs.declared.events.Event.{Event}
use Rattle.slot_core.specs.declared.tasks.TaskSet.{TaskSet}
use Rattle.slot_core.specs.Calls.Results.{◌>>=◌}
use Rattle.key_texts.specs.KeyTexts.{cut_at}
use Rattle.key_texts.specs.Numbers.{number_between}
use Rattle.key_texts.proofs.DigitLemmas.{number_between-Some}
use Rattle.plan_change.specs.declared.keep.Keep.{Keep}
use Rattle.arrival_csv.specs.declared.kinds.Kind.{Kind}
use Rattle.arrival_csv.specs.Kinds.{kind_of}
use Rattle.arrival_csv.specs.Reading.{Read, event_of}
use Rattle.arrival_csv.proofs.FittingLemmas.{event_of-fits}
use Rattle.live_lines.specs.Commands.{Asked, command_of_text, command_of_two, command_of_word, event_of_fields, fields_of, fits_set, keep_of}
use Rattle.live_lines.specs.FaultTexts.{line_fault}
use Rattle.live_lines.specs.declared.commands.LiveCommand.TheVariants.{Arrive, Pass, Ahead, Carried}
use Rattle.live_lines.specs.declared.line_fault.LineFault.TheVariants.{NoCommand, BadNumber}

-- the test for text that answers by a result is the test
pub is_ok-is_utf8 : {X E : Type 0} (P : X → Type 0) (Q : E → Type 0) (r : Result X E) (bytes : List ℕ)
    → MatchResult r (λ s. P s × IsUtf8 bytes) (λ e. (¬ IsUtf8 bytes) × Q e) → is_ok r ≡ is_utf8 bytes
is_ok-is_utf8 P Q (Ok s) bytes h = sym (is_utf8-from_IsUtf8 bytes h.1)
is_ok-is_utf8 P Q (Err e) bytes h =
    elim (cases_Bool (is_utf8 bytes)) [
      | inl text ↦ absurd (h.0 (IsUtf8-from_is_utf8 bytes text))
      | inr other ↦ sym other
    ]

-- a command that is read fits the set
abbrev Fits : TaskSet → Asked → Type 0
Fits set asked = IfOk asked (λ command. fits_set set command ≡ true)

-- slots that are read are no more than a replay has
slots-fit : (set : TaskSet) (number : List ℕ) (found : Option ℕ) → number_between 1 REPLAY_LIMIT number ≡ found
    → Fits set (ok_or found (BadNumber 2) >>= (λ slots. Ok (Pass slots)))
slots-fit set number None same = tt
slots-fit set number (Some slots) same = number_between-Some 1 REPLAY_LIMIT slots number same

-- and so are those of a look ahead
ahead-fits : (set : TaskSet) (number : List ℕ) (found : Option ℕ) → number_between 1 REPLAY_LIMIT number ≡ found
    → Fits set (ok_or found (BadNumber 2) >>= (λ slots. Ok (Ahead slots)))
ahead-fits set number None same = tt
ahead-fits set number (Some slots) same = number_between-Some 1 REPLAY_LIMIT slots number same

-- what is told of a change fits any set
carried-fits : (set : TaskSet) (found : Option Keep) → Fits set (ok_or found NoCommand >>= (λ keep. Ok (Carried keep)))
carried-fits set None = tt
carried-fits set (Some keep) = refl

-- an event that is read fits the set
event-fits : (set : TaskSet) (kind : Kind) (fields : List (List ℕ)) (read : Read Event) → event_of set 0 kind fields ≡ read
    → Fits set (result_map_both Arrive line_fault read)
event-fits set kind fields (Err fault) same = tt
event-fits set kind fields (Ok event) same = event_of-fits set 0 kind fields event same

-- an arrival of a kind that is known fits the set
arrival-fits : (set : TaskSet) (known : Option Kind) (rest : List ℕ)
    → Fits set (option_map_or (λ kind. result_map_both Arrive line_fault (event_of_fields set kind rest)) known (Err NoCommand))
arrival-fits set None rest = tt
arrival-fits set (Some kind) rest = event-fits set kind (fields_of rest) (event_of_fields set kind rest) refl

command_of_two-fits : (set : TaskSet) (word rest : List ℕ) → Fits set (command_of_two set word rest)
command_of_two-fits set word rest =
    elim (cases_Bool (bytes_eq word (codes "slots"))) [
      | inl is ↦ rw is (slots-fit set rest (number_between 1 REPLAY_LIMIT rest) refl)
      | inr other ↦ elim (cases_Bool (bytes_eq word (codes "ahead"))) [
        | inl is ↦ rw (other, is) (ahead-fits set rest (number_between 1 REPLAY_LIMIT rest) refl)
        | inr none ↦ elim (cases_Bool (bytes_eq word (codes "carried"))) [
          | inl is ↦ rw (other, none, is) (carried-fits set (keep_of rest))
          | inr neither ↦ rw (other, none, neither) (arrival-fits set (kind_of word) rest)
        ]
      ]
    ]

command_of_word-fits : (set : TaskSet) (word : List ℕ) → Fits set (command_of_word word)
command_of_word-fits set word =
    elim (cases_Bool (bytes_eq word (codes "slot"))) [
      | inl is ↦ rw is refl
      | inr other ↦ elim (cases_Bool (bytes_eq word (codes "end"))) [
        | inl is ↦ rw (other, is) refl
        | inr none ↦ rw (other, none) tt
      ]
    ]

text-fits : (set : TaskSet) (line : List ℕ) (parts : Option (List ℕ × List ℕ))
    → Fits set (option_map_or (λ parts. command_of_two set parts.0 parts.1) parts (command_of_word line))
text-fits set line None = command_of_word-fits set line
text-fits set line (Some parts) = command_of_two-fits set parts.0 parts.1

-- the command of a line that is text fits the set
pub command_of_text-fits : (set : TaskSet) (line : List ℕ) → IfOk (command_of_text set line) (λ command. fits_set set command ≡ true)
command_of_text-fits set line = text-fits set line (cut_at 32 line)
