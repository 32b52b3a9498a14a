-- The numbers that texts write.
use Rattle.std.specs.Prelude.{ℕ, Bool, false, ◌&&◌, ◌||◌, ◌==◌, not, List, [], ◌∷◌, length, nat_lt, if◌then◌else◌, Option, Some, None}
use Rattle.std.specs.Char.{is_ascii_digit}
use Rattle.std.specs.List.{list_all}
use Rattle.std.specs.Str.Parse.{digits_value}
use Rattle.slot_core.specs.declared.TheConstants.{ARRIVAL_LIMIT, NUMBER_LIMIT}
use Rattle.slot_core.specs.Sets.Ranges.{is_between}
use Rattle.key_texts.specs.declared.TheConstants.{DIGIT_LIMIT}

-- from one byte to the limit of digits; 0 (byte 48) stands first only where it stands alone
abbrev pub is_plain : List ℕ → Bool
is_plain [] = false
is_plain (first ∷ rest) =
    nat_lt (length rest) DIGIT_LIMIT && (length rest == 0 || not (first == 48))

-- a plain text of digits alone
abbrev pub is_number : List ℕ → Bool
is_number text = is_plain text && list_all is_ascii_digit text

-- the number, where it is from low to high
abbrev pub within : ℕ → ℕ → ℕ → Option ℕ
within low high n = if is_between low high n then Some n else None

-- the number that the text writes, from low to high
abbrev pub number_between : ℕ → ℕ → List ℕ → Option ℕ
number_between low high text =
    if is_number text then within low high (digits_value 10 text) else None

-- the number that the text writes
abbrev pub number_of : List ℕ → Option ℕ
number_of = number_between 0 NUMBER_LIMIT

-- the row that a key names
abbrev pub row_number : List ℕ → Option ℕ
row_number = number_between 1 ARRIVAL_LIMIT
