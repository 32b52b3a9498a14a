-- What `parse` gives of a number on the command line.
use Rattle.std.proofs.Common.{◌≡◌, ◌≢◌, ℕ, ◌+◌, ◌<◌, ◌≤◌, ◌^◌, true, not, ◌&&◌, ◌==◌, nat_lt, List, [], ◌∷◌, length, Result, Ok, arith}
use Rattle.std.specs.Char.{is_ascii_digit, digit_value}
use Rattle.std.specs.Int.{IsInRange}
use Rattle.std.specs.List.{list_all}
use Rattle.std.specs.Str.Parse.{digits_value, ParsesUnsigned}
use Rattle.std.proofs.lemmas.Bool.{and_parts}
use Rattle.std.proofs.lemmas.Bool.Decides.{nat_tests}
use Rattle.std.proofs.lemmas.Str.{digit_value_digit}
use Rattle.std.proofs.lemmas.Str.Parse.{parse_gives, digits_value_short, digits_value-take-le}
use Rattle.key_texts.proofs.DigitLemmas.{digits}
use Rattle.command_line.specs.declared.TheConstants.{WORD_DIGIT_LIMIT}
use Rattle.command_line.specs.Commands.{is_positive_number}

-- a number of at most the limit of digits is read whole
pub parse_number : {E : Type 0} (bs : List ℕ) (r : Result ℕ E) → is_positive_number bs ≡ true → ParsesUnsigned 32 10 bs r → r ≡ Ok (digits_value 10 bs)
parse_number [] r number parsed = cc
parse_number (b ∷ bs) r number parsed =
    let parts = and_parts (nat_lt (length bs) WORD_DIGIT_LIMIT && not (b == 48)) (list_all is_ascii_digit (b ∷ bs)) number in
    let short = and_parts (nat_lt (length bs) WORD_DIGIT_LIMIT) (not (b == 48)) parts.0 in
    let few : length (b ∷ bs) ≤ WORD_DIGIT_LIMIT = grind (arith, nat_tests, short.0) in
    let small : digits_value 10 (b ∷ bs) < 10 ^ WORD_DIGIT_LIMIT = digits_value_short digits (b ∷ bs) WORD_DIGIT_LIMIT parts.1 few in
    parse_gives digits 32 (b ∷ bs) r parsed parts.1 (omega arith) (omega arith)

-- its first digit is not 0, so neither is the number
pub some_number : (bs : List ℕ) → is_positive_number bs ≡ true → 1 ≤ digits_value 10 bs
some_number [] number = cc
some_number (b ∷ bs) number =
    let parts = and_parts (nat_lt (length bs) WORD_DIGIT_LIMIT && not (b == 48)) (list_all is_ascii_digit (b ∷ bs)) number in
    let (_, other) = and_parts (nat_lt (length bs) WORD_DIGIT_LIMIT) (not (b == 48)) parts.0 in
    let (digit, _) = and_parts (is_ascii_digit b) (list_all is_ascii_digit bs) parts.1 in
    let range : IsInRange 48 57 b = (grind (arith, nat_tests, digit), grind (arith, nat_tests, digit)) in
    let apart : b ≢ 48 = grind (arith, nat_tests, other) in
    let front : 0 + digit_value b ≤ digits_value 10 (b ∷ bs) = digits_value-take-le 10 (b ∷ bs) 1 (omega arith) in
    omega (arith, front, apart, digit_value_digit b range)
