-- Times that texts write: digits, a point and more digits where there is a fraction, and a unit.
use Rattle.std.specs.Prelude.{◌≡◌, ℕ, ◌+◌, ◌-◌, ◌*◌, ◌^◌, ◌≤◌, true, ◌&&◌, ◌==◌, List, [], ◌∷◌, ◌++◌, length, take, drop, codes, nat_le, if◌then◌else◌, Option, Some, None}
use Rattle.std.specs.Char.{is_ascii_digit}
use Rattle.std.specs.List.{list_all, prefix_len}
use Rattle.std.specs.Option.{option_and_then}
use Rattle.std.specs.Str.{bytes_eq}
use Rattle.std.specs.Str.Parse.{digits_value}
use Rattle.slot_core.specs.Sets.Ranges.{is_between}
use Rattle.time_texts.specs.declared.TheConstants.{WHOLE_LIMIT}

-- how many decimal places a unit has above a nanosecond
abbrev pub places_of_unit : List ℕ → Option ℕ
places_of_unit unit =
    if bytes_eq unit (codes "ns") then Some 0
    else if bytes_eq unit (codes "us") then Some 3
    else if bytes_eq unit (codes "ms") then Some 6
    else if bytes_eq unit (codes "s") then Some 9
    else None

-- so many units, and such a fraction of one, in nanoseconds
abbrev pub time_value : ℕ → List ℕ → List ℕ → ℕ
time_value places whole fraction =
    digits_value 10 whole * 10 ^ places
    + digits_value 10 fraction * 10 ^ (places - length fraction)

-- the digits in front of a text
abbrev pub digits_before : List ℕ → List ℕ
digits_before text = take (prefix_len is_ascii_digit text) text

-- what stands after them
abbrev pub after_digits : List ℕ → List ℕ
after_digits text = drop (prefix_len is_ascii_digit text) text

-- the digits of a fraction and what stands after them: 46 is the point, which at least one digit
-- follows
abbrev pub fraction_of : List ℕ → Option (List ℕ × List ℕ)
fraction_of [] = Some ([], [])
fraction_of (byte ∷ rest) =
    if byte == 46 then
    (if prefix_len is_ascii_digit rest == 0 then None
    else Some (digits_before rest, after_digits rest))
    else Some ([], byte ∷ rest)

-- the time, where there are digits, not too many, and no more of a fraction than the unit has
-- places
abbrev pub time_from : List ℕ → List ℕ → ℕ → Option ℕ
time_from whole fraction places =
    if is_between 1 WHOLE_LIMIT (length whole) && nat_le (length fraction) places
    then Some (time_value places whole fraction) else None

-- the time that a text writes
abbrev pub time_of_text : List ℕ → Option ℕ
time_of_text text =
    option_and_then
    (λ (parts : List ℕ × List ℕ).
    option_and_then (time_from (digits_before text) parts.0) (places_of_unit parts.1))
    (fraction_of (after_digits text))

-- a fraction with its point, or nothing
abbrev pub with_point : List ℕ → List ℕ
with_point [] = []
with_point (digit ∷ digits) = 46 ∷ digit ∷ digits

-- the text writes the time: digits, a fraction and a unit
pub record IsTime (text : List ℕ) (time : ℕ) : Type 0 where
  pub whole : List ℕ
  pub fraction : List ℕ
  pub unit : List ℕ
  pub places : ℕ
  pub text_is : text ≡ whole ++ with_point fraction ++ unit
  pub whole_digits : list_all is_ascii_digit whole ≡ true
  pub fraction_digits : list_all is_ascii_digit fraction ≡ true
  pub unit_is : places_of_unit unit ≡ Some places
  pub some : 1 ≤ length whole
  pub few : length whole ≤ WHOLE_LIMIT
  pub exact : length fraction ≤ places
  pub time_is : time ≡ time_value places whole fraction
