-- What standard input holds, and why it is refused.
use Rattle.std.specs.Prelude.{◌≡◌, ◌<◌, ◌≤◌, ◌⊎◌, ℕ, ◌+◌, ⊤, List, codes, length, Option, Some, None, IfSome}
use Rattle.slot_core.specs.Calls.Counts.{Rose}
use Rattle.slot_io.specs.Files.{Held, first_bytes}
use Rattle.command_line.specs.declared.file.File.TheVariants.{Trace}
use Rattle.command_line.specs.declared.refusal.Refusal.{Refusal}
use Rattle.command_line.specs.declared.refusal.Refusal.TheVariants.{Unreadable, TooLarge, Memory}
use Rattle.trace_lines.specs.declared.line.TraceLine.{TraceLine}
use Rattle.trace_lines.specs.declared.part.Slots.{Slots}
use Rattle.trace_lines.specs.declared.part.TheConstants.{ALL_SLOTS}
use Rattle.trace_lines.specs.Parts.{IsLong, IsTraceText, number_of_first, part_of}
use Rattle.trace_lines.specs.Traces.{Breaks, time_of_last}
use Rattle.view_run.specs.declared.TheConstants.{INPUT_LIMIT}
use Rattle.view_run.specs.Refusals.{no_line, no_slot, too_many_lines}

-- standard input begins with this text, up to one byte more than the limit
abbrev pub BeginsWith : Held → List ℕ → Type 0
BeginsWith held text = first_bytes held (codes "standard input") INPUT_LIMIT ≡ Some text

-- standard input holds this text, which is within the limit
abbrev pub Holds : Held → List ℕ → Type 0
Holds held text = BeginsWith held text × (length text ≤ INPUT_LIMIT)

-- standard input holds such a text, where it tells what it holds
abbrev pub HoldsSuch : Option Held → (List ℕ → Type 0) → Type 0
HoldsSuch held IsSo = IfSome held (λ files. (text : List ℕ) × Holds files text × IsSo text)

-- the slots of which lines are kept: these, or all
abbrev pub slots_kept : Option Slots → Slots
slots_kept None = ALL_SLOTS
slots_kept (Some slots) = slots

-- the text is that of a trace that ends before this slot has passed
abbrev pub EndsBefore : ℕ → List ℕ → Type 0
EndsBefore slot text =
    (lines : List TraceLine) × IsTraceText text lines × (time_of_last lines ≤ slot)

-- why a part of a trace is not shown: the first of its slots does not pass
abbrev pub IsPast : Option Slots → ((List ℕ → Type 0) → Type 0) → Refusal → Type 0
IsPast None OfText e = ⊥
IsPast (Some slots) OfText e = (e ≡ no_slot slots.from) × OfText (EndsBefore slots.from)

-- why a text is not shown, of which such things hold: it breaks at a line, or too many lines tell of
-- the slots, or it is that of a trace that is too short
abbrev pub IsUnread : Option Slots → ((List ℕ → Type 0) → Type 0) → Refusal → Type 0
IsUnread slots OfText e =
    ((n : ℕ) × (e ≡ no_line n) × OfText (λ text. Breaks text n))
    ⊎ (((e ≡ too_many_lines) × OfText (IsLong (slots_kept slots))) ⊎ IsPast slots OfText e)

-- what files tell of their reads: the name of the last one that failed, or none, and that of the
-- last one that gave bytes, with how many, or none
abbrev pub Told : Type 0
Told = Option (List ℕ) × Option (List ℕ × ℕ)

-- why the bytes of standard input are refused: a fault is counted, and it is blamed; or the last
-- read gave a byte more than the limit; or memory ran out
abbrev pub IsByteRefusal : Option Held → Told → ℕ → ℕ → Refusal → Type 0
IsByteRefusal held told before after (Unreadable Trace) =
    Rose before after × (told.0 ≡ Some (codes "standard input"))
IsByteRefusal held told before after (TooLarge Trace) =
    (told.1 ≡ Some (codes "standard input", INPUT_LIMIT + 1))
    × IfSome held (λ files. (text : List ℕ) × BeginsWith files text × (INPUT_LIMIT < length text))
IsByteRefusal held told before after Memory = ⊤
IsByteRefusal held told before after refusal = ⊥

-- why standard input is refused: its bytes are, or the text is not shown
abbrev pub IsInputRefusal : Option Slots → Option Held → Told → ℕ → ℕ → Refusal → Type 0
IsInputRefusal slots held told before after e =
    IsByteRefusal held told before after e ⊎ IsUnread slots (HoldsSuch held) e

-- what is shown of the lines of a trace: all, or the part that tells of the slots
abbrev pub shown_lines : Option Slots → List TraceLine → List TraceLine
shown_lines None lines = lines
shown_lines (Some slots) lines = part_of slots lines

-- the number of the first of them
abbrev pub shown_number : Option Slots → List TraceLine → ℕ
shown_number None lines = 1
shown_number (Some slots) lines = number_of_first slots lines

-- the trace has the first of the slots, where some are asked for, or that is the first of all
abbrev pub HasFirst : Option Slots → List TraceLine → Type 0
HasFirst None lines = ⊤
HasFirst (Some slots) lines = (slots.from ≡ 0) ⊎ (slots.from < time_of_last lines)

-- what is kept of the lines of a trace is what is shown of them
abbrev pub IsShown : Option Slots → List TraceLine → List TraceLine → ℕ → Type 0
IsShown slots lines shown number =
    (shown ≡ shown_lines slots lines) × (number ≡ shown_number slots lines)
    × HasFirst slots lines
