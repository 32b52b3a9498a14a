-- The text of a time.
use Rattle.std.specs.Prelude.{◌≡◌, ℕ, zero, suc, ◌+◌, ◌/◌, ◌%◌, ◌^◌, ◌<◌, ◌==◌, List, [], ◌∷◌, ◌++◌, codes, decimal, nat_lt, if◌then◌else◌, Some}
use Rattle.time_texts.specs.declared.TheConstants.{NANOS_LIMIT}
use Rattle.time_texts.specs.Reading.{time_of_text, with_point}

-- how many decimal places the greatest unit has that is no longer than the time; none where that is
-- 0
abbrev pub places_of_time : ℕ → ℕ
places_of_time time =
    if nat_lt time (10 ^ 3) then 0
    else if nat_lt time (10 ^ 6) then 3
    else if nat_lt time (10 ^ 9) then 6
    else 9

-- the unit of so many places
abbrev pub unit_of_places : ℕ → List ℕ
unit_of_places places =
    if places == 0 then codes "ns"
    else if places == 3 then codes "us"
    else if places == 6 then codes "ms"
    else codes "s"

-- the digits of a fraction in so many places, without the zeros at its end
abbrev pub fraction_text : ℕ → ℕ → List ℕ
fraction_text zero fraction = []
fraction_text (suc places) fraction =
    if fraction == 0 then []
    else (48 + fraction / 10 ^ places) ∷ fraction_text places (fraction % 10 ^ places)

-- a time as a text, in units of so many places
abbrev pub text_in_units : ℕ → ℕ → List ℕ
text_in_units places time =
    decimal (time / 10 ^ places)
    ++ with_point (fraction_text places (time % 10 ^ places))
    ++ unit_of_places places

-- a time as a text
abbrev pub time_text : ℕ → List ℕ
time_text time = text_in_units (places_of_time time) time

-- the text of a time writes it
abbrev pub TimesAreReadBack : Type 0
TimesAreReadBack = (time : ℕ) → time < NANOS_LIMIT → time_of_text (time_text time) ≡ Some time
