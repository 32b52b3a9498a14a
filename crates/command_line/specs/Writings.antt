-- How the writing of an output ends.
use Rattle.std.specs.Prelude.{◌≡◌, ◌⊎◌, ℕ, Bool, true, false, not, List, [], ◌++◌, Option, Result, Ok, Err}
use Rattle.std.specs.Io.KnownBytes.{Appends}
use Rattle.std.specs.Result.{result_map_both}
use Rattle.slot_core.specs.declared.jobs.Evidence.{Evidence}
use Rattle.slot_core.specs.Calls.Counts.{Rose}
use Rattle.slot_io.specs.Sinks.{AppendsPart}
use Rattle.command_line.specs.declared.refusal.Refusal.{Refusal}
use Rattle.command_line.specs.declared.refusal.Refusal.TheVariants.{NoChange, WriteFault, Memory}
use Rattle.command_line.specs.Refusals.{Outcome}

-- how the writing of a text ends, over an output of which contracts see `written` and `failed`: all
-- of it is written, or a part where a fault is counted, or nothing is done to the output where
-- memory ran out
abbrev pub IsWriting : {T X : Type 0} → (T → Option (List ℕ)) → (T → ℕ)
    → List ℕ → Outcome X → T → T → Type 0
IsWriting written failed text (Ok done) before after =
    Appends (written before) (written after) text
IsWriting written failed text (Err WriteFault) before after =
    AppendsPart (written before) (written after) text × Rose (failed before) (failed after)
IsWriting written failed text (Err Memory) before after = after ≡ before
IsWriting written failed text (Err _) before after = ⊥

-- what is written in two parts: a text that comes first, and then the rest, or the evidence that
-- there is none
pub record Writing : Type 0 where
  pub front : List ℕ
  pub rest : Result (List ℕ) Evidence

-- a text that is written whole
abbrev pub in_whole : List ℕ → Writing
in_whole text = record { front = []; rest = Ok text }

-- the whole text, or the refusal that ends the run after the front
abbrev pub whole_of : Writing → Outcome (List ℕ)
whole_of w = result_map_both (λ rest. w.front ++ rest) NoChange w.rest

-- all that is put of it
abbrev pub all_after : List ℕ → Result (List ℕ) Evidence → List ℕ
all_after front (Ok rest) = front ++ rest
all_after front (Err e) = front

abbrev pub all_of : Writing → List ℕ
all_of w = all_after w.front w.rest

-- what stands on the output where a run comes out so: all of it where it is done, the front where
-- the rest is refused, nothing or the front where memory ran out, a part of it where a write
-- failed, and else nothing
abbrev pub IsPut : {X : Type 0} → Outcome X → Writing → Option (List ℕ) → Option (List ℕ) → Type 0
IsPut (Ok done) w before after = Appends before after (all_of w)
IsPut (Err (NoChange e)) w before after = Appends before after w.front
IsPut (Err Memory) w before after = (after ≡ before) ⊎ Appends before after w.front
IsPut (Err WriteFault) w before after = AppendsPart before after (all_of w)
IsPut (Err _) w before after = after ≡ before

-- how the writing of both parts ends: as a writing of the whole text; but where it is put in parts,
-- the front may stand where memory ran out, and stands where the rest is refused
abbrev pub IsPartWriting : {T X : Type 0} → (T → Option (List ℕ)) → (T → ℕ)
    → Bool → Writing → Outcome X → T → T → Type 0
IsPartWriting written failed in_parts w (Ok done) before after =
    (rest : List ℕ) × (w.rest ≡ Ok rest)
    × Appends (written before) (written after) (w.front ++ rest)
IsPartWriting written failed in_parts w (Err WriteFault) before after =
    AppendsPart (written before) (written after) (all_of w) × Rose (failed before) (failed after)
IsPartWriting written failed in_parts w (Err Memory) before after =
    (after ≡ before)
    ⊎ ((in_parts ≡ true) × Appends (written before) (written after) w.front)
IsPartWriting written failed in_parts w (Err (NoChange e)) before after =
    (in_parts ≡ true) × (w.rest ≡ Err e) × Appends (written before) (written after) w.front
IsPartWriting written failed in_parts w (Err _) before after = ⊥

-- the refusal leaves the output as it was, where the text is put in parts or not
abbrev pub leaves_output : Bool → Refusal → Bool
leaves_output in_parts WriteFault = false
leaves_output in_parts (NoChange e) = not in_parts
leaves_output in_parts Memory = not in_parts
leaves_output in_parts _ = true

-- how the writing of the second part ends: all of the rest is written, or a part where a fault is
-- counted; or nothing is done to the output, where there is no rest or memory ran out
abbrev pub IsRestWriting : {T X : Type 0} → (T → Option (List ℕ)) → (T → ℕ)
    → Result (List ℕ) Evidence → Outcome X → T → T → Type 0
IsRestWriting written failed rest (Ok done) before after =
    (text : List ℕ) × (rest ≡ Ok text) × Appends (written before) (written after) text
IsRestWriting written failed rest (Err WriteFault) before after =
    (text : List ℕ) × (rest ≡ Ok text)
    × AppendsPart (written before) (written after) text × Rose (failed before) (failed after)
IsRestWriting written failed rest (Err Memory) before after = after ≡ before
IsRestWriting written failed rest (Err (NoChange e)) before after =
    (rest ≡ Err e) × (after ≡ before)
IsRestWriting written failed rest (Err _) before after = ⊥
