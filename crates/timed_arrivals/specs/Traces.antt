-- A line of a trace, and the line with a time that stands for it.
use Rattle.std.specs.Prelude.{ℕ, ◌*◌, List, ◌++◌, codes, nat_lt, if◌then◌else◌, Ok, Err, ok_or}
use Rattle.slot_core.specs.Calls.Results.{◌>>=◌}
use Rattle.key_texts.specs.KeyTexts.{cut_at}
use Rattle.key_texts.specs.Numbers.{number_of}
use Rattle.time_texts.specs.declared.TheConstants.{NANOS_LIMIT}
use Rattle.time_texts.specs.Writing.{time_text}
use Rattle.timed_arrivals.specs.declared.timed_fault.TimedFault.TheVariants.{NoLine, TooLate}
use Rattle.timed_arrivals.specs.Rows.{Timed}

-- the front of a line: its slot, and what stands after the space behind it
pub record FrontParts : Type 0 where
  pub slot : ℕ
  pub told : List ℕ

-- the front of the line of a number (byte 32 is the space)
abbrev pub front_of : ℕ → List ℕ → Timed FrontParts
front_of number line = do
  parts ← ok_or (cut_at 32 line) (NoLine number)
  slot ← ok_or (number_of parts.0) (NoLine number)
  Ok (record { slot = slot; told = parts.1 })

-- the time at which a slot begins, where a text can write it
abbrev pub time_at : ℕ → ℕ → ℕ → Timed ℕ
time_at number length slot =
    if nat_lt (length * slot) NANOS_LIMIT then Ok (length * slot) else Err (TooLate number)

-- a line with a time in front
abbrev pub line_text : ℕ → List ℕ → List ℕ
line_text time told = time_text time ++ codes " " ++ told ++ codes "\n"

-- the line of a number, with the time at which its slot begins in place of the slot
abbrev pub line_in_times : ℕ → ℕ → List ℕ → Timed (List ℕ)
line_in_times length number line = do
  front ← front_of number line
  time ← time_at number length front.slot
  Ok (line_text time front.told)
