-- What a trace in times says.
use Rattle.std.specs.Prelude.{◌≡◌, ◌/◌, ◌<◌, ℕ, List, Ok, Some}
use Rattle.time_texts.specs.Reading.{time_of_text}
use Rattle.time_texts.specs.Writing.{time_text}
use Rattle.timed_arrivals.specs.Traces.{front_of, line_in_times, line_text, FrontParts}

-- a line in times begins with a time from which its slot is read back, and goes on as the line did
abbrev pub SlotsAreReadBack : Type 0
SlotsAreReadBack =
    (length number : ℕ) (line text : List ℕ)
    → 0 < length → line_in_times length number line ≡ Ok text
    → (front : FrontParts) × (time : ℕ) × (front_of number line ≡ Ok front)
    × (text ≡ line_text time front.told) × (time_of_text (time_text time) ≡ Some time)
    × (time / length ≡ front.slot)
