-- A number that is read is the decimal text of its value, and the other way round.
use Rattle.std.proofs.Common.{◌≡◌, ℕ, ◌+◌, ◌<◌, ◌≤◌, ◌^◌, true, false, not, ◌&&◌, ◌||◌, ◌==◌, nat_le, nat_lt, List, [], ◌∷◌, length, get_or, Result, Some, None, Ok, Err, refl, sym, inl, inr, arith, rules}
use Rattle.std.specs.Char.{is_ascii_digit}
use Rattle.std.specs.List.{list_all}
use Rattle.std.specs.Prelude.{decimal}
use Rattle.std.specs.Str.Parse.{digits_value}
use Rattle.std.proofs.lemmas.Bool.{and_parts, and_from, cases_Bool, cases_lt, le-leb}
use Rattle.std.proofs.lemmas.Bool.Decides.{nat_tests}
use Rattle.std.proofs.lemmas.Fmt.{decimal-digits_value, digits_decimal, digits_value-decimal, decimal_digit, decimal_nonempty, first_decimal, length-decimal-le}
use Rattle.std.proofs.lemmas.Str.Parse.{IsNumeralModel, numerals_by_value}
use Rattle.slot_core.specs.declared.TheConstants.{NUMBER_LIMIT}
use Rattle.slot_core.specs.Sets.Ranges.{is_between}
use Rattle.key_texts.specs.declared.TheConstants.{DIGIT_LIMIT}
use Rattle.slot_facts.proofs.Sets.Ranges.{bounds}
use Rattle.key_texts.specs.Numbers.{is_number, within, number_between, number_of}

-- digits are read as `digits_value` reads them
pub digits : IsNumeralModel (λ ds. list_all is_ascii_digit ds ≡ true) (digits_value 10)
digits = numerals_by_value _ (search rules)

-- the parts of what makes a text a number
pub record NumberParts (text : List ℕ) : Type 0 where
  pub some : 0 < length text
  pub few : length text ≤ DIGIT_LIMIT
  pub plain : get_or text 0 0 ≡ 48 → length text ≡ 1
  pub all : list_all is_ascii_digit text ≡ true

-- the parts of a text that is a number
pub NumberParts-from_test : (text : List ℕ) → is_number text ≡ true → NumberParts text
NumberParts-from_test [] number = cc
NumberParts-from_test (first ∷ rest) number =
    let (front, all) = and_parts (nat_lt (length rest) DIGIT_LIMIT && (length rest == 0 || not (first == 48))) (list_all is_ascii_digit (first ∷ rest)) number in
    let (short, plain) = and_parts (nat_lt (length rest) DIGIT_LIMIT) (length rest == 0 || not (first == 48)) front in
    record {
      some = omega arith;
      few = grind (arith, nat_tests, short);
      plain = λ zero. grind (arith, nat_tests, plain);
      all = all;
    }

-- a text of those parts is a number
pub is_number-from_parts : (text : List ℕ) → NumberParts text → is_number text ≡ true
is_number-from_parts [] parts = absurd (omega (arith, parts.some))
is_number-from_parts (first ∷ rest) parts =
    let short : nat_lt (length rest) DIGIT_LIMIT ≡ true = grind (arith, nat_tests, parts.few) in
    let plain : (length rest == 0 || not (first == 48)) ≡ true = grind (arith, nat_tests, parts.plain) in
    rw (short, plain, parts.all) refl

-- what a number within bounds says
pub within-Some : (low high v n : ℕ) → within low high v ≡ Some n → (is_between low high v ≡ true) × (v ≡ n)
within-Some low high v n h =
    elim (cases_Bool (is_between low high v)) [
      | inl inside ↦ let same = rw inside at h in (inside, cc)
      | inr outside ↦ let none = rw outside at h in cc
    ]

-- a number from low to high is in that range
pub number_between-Some : (low high n : ℕ) (text : List ℕ) → number_between low high text ≡ Some n → is_between low high n ≡ true
number_between-Some low high n text h =
    elim (cases_Bool (is_number text)) [
      | inl number ↦
          let (inside, same) = within-Some low high (digits_value 10 text) n (rw number at h) in
          rw (← same) inside
      | inr other ↦ let none = rw other at h in cc
    ]

-- a number from low to high is written by its decimal text
pub number_between-decimal : (low high n : ℕ) (text : List ℕ) → high ≤ NUMBER_LIMIT → number_between low high text ≡ Some n → (is_between low high n ≡ true) × (text ≡ decimal n)
number_between-decimal low high n text small h =
    elim (cases_Bool (is_number text)) [
      | inl number ↦
          let (inside, same) = within-Some low high (digits_value 10 text) n (rw number at h) in
          let parts = NumberParts-from_test text number in
          let below : digits_value 10 text < 2 ^ 64 = grind (arith, nat_tests, inside) in
          let written = decimal-digits_value digits text parts.all parts.some parts.plain below in
          (rw (← same) inside, sym (rw same at written))
      | inr other ↦ let none = rw other at h in cc
    ]

-- the decimal text that begins with 0 is that of 0
plain-decimal : (n : ℕ) → n < 2 ^ 64 → get_or (decimal n) 0 0 ≡ 48 → length (decimal n) ≡ 1
plain-decimal n below zero =
    elim (cases_lt 0 n) [
      | inl above ↦ absurd (omega (arith, first_decimal n above below))
      | inr none ↦
          let digit : decimal n ≡ (48 + n) ∷ [] = decimal_digit n (omega arith) in
          rw digit refl
    ]

-- the decimal text of a number from low to high writes it
pub decimal-number_between : (low high n : ℕ) (text : List ℕ) → high ≤ NUMBER_LIMIT → is_between low high n ≡ true → text ≡ decimal n → number_between low high text ≡ Some n
decimal-number_between low high n text small range is =
    let below : n < 2 ^ 64 = grind (arith, nat_tests, range) in
    let few : n < 10 ^ 10 = grind (arith, nat_tests, range) in
    let parts : NumberParts (decimal n) = record {
      some = decimal_nonempty n below;
      few = length-decimal-le 10 n (omega arith) few below;
      plain = plain-decimal n below;
      all = digits_decimal digits n below;
    } in
    rw (is, is_number-from_parts (decimal n) parts, digits_value-decimal digits n below, range) refl

-- a number is written by its decimal text
pub number_of-decimal : (n : ℕ) (text : List ℕ) → number_of text ≡ Some n → (n ≤ NUMBER_LIMIT) × (text ≡ decimal n)
number_of-decimal n text found =
    let (range, is) = number_between-decimal 0 NUMBER_LIMIT n text (omega arith) found in
    ((bounds 0 NUMBER_LIMIT n range).1, is)

-- the decimal text of a number writes it
pub decimal-number_of : (n : ℕ) (text : List ℕ) → n ≤ NUMBER_LIMIT → text ≡ decimal n → number_of text ≡ Some n
decimal-number_of n text small is =
    decimal-number_between 0 NUMBER_LIMIT n text (omega arith) (and_from (nat_le 0 n) (nat_le n NUMBER_LIMIT) (le-leb 0 n (omega arith)) (le-leb n NUMBER_LIMIT small)) is

-- the decimal text of a number is digits
pub all_digits : (n : ℕ) → n ≤ NUMBER_LIMIT → list_all is_ascii_digit (decimal n) ≡ true
all_digits n small = digits_decimal digits n (omega arith)
