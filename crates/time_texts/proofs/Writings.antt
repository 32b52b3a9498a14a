-- The text of a time writes it.
use Rattle.std.proofs.Common.{◌≡◌, ℕ, zero, suc, ◌+◌, ◌*◌, ◌-◌, ◌/◌, ◌%◌, ◌^◌, ◌≤◌, ◌<◌, Bool, true, false, cond, ◌&&◌, ◌==◌, nat_lt, List, [], ◌∷◌, length, Some, refl, sym, ap, ◌∙◌, inl, inr, arith}
use Rattle.std.specs.Prelude.{decimal}
use Rattle.std.specs.Char.{is_ascii_digit, digit_value}
use Rattle.std.specs.List.{list_all}
use Rattle.std.specs.Str.Parse.{digits_value, digits_value_after}
use Rattle.std.proofs.Math.Nat.{pow-zero, pow-succ', one-le-pow}
use Rattle.std.proofs.lemmas.Bool.{cases_Bool, and_from, ltb-true}
use Rattle.std.proofs.lemmas.Bool.Decides.{nat_tests}
use Rattle.std.proofs.lemmas.Fmt.{digits_decimal, digits_value-decimal, decimal_nonempty, length-decimal-le}
use Rattle.std.proofs.lemmas.Nat.{div-add-mod', div_below, mod_below, pow-add}
use Rattle.time_texts.specs.declared.TheConstants.{NANOS_LIMIT, WHOLE_LIMIT}
use Rattle.time_texts.specs.Reading.{places_of_unit, time_value, with_point, IsTime}
use Rattle.time_texts.specs.Writing.{places_of_time, unit_of_places, fraction_text, text_in_units, time_text, TimesAreReadBack}
use Rattle.time_texts.proofs.Readings.{time_of_text-from_IsTime}
use Rattle.time_texts.proofs.Values.{digits}

-- a digit and its value
record IsDigit (n : ℕ) : Type 0 where
  pub test : is_ascii_digit (48 + n) ≡ true
  pub value : digit_value (48 + n) ≡ n

IsDigit-below : (n : ℕ) → n < 10 → IsDigit n
IsDigit-below n below = record { test = grind (arith, nat_tests); value = grind (arith, nat_tests) }

-- the first digit of a fraction, and the rest of it
pub fraction_text-more : (left rest : ℕ) → 0 < rest → rest < 10 ^ left → fraction_text left rest ≡ (48 + rest / 10 ^ (left - 1)) ∷ fraction_text (left - 1) (rest % 10 ^ (left - 1))
fraction_text-more zero rest some below = absurd (omega (arith, pow-zero 10))
fraction_text-more (suc left) rest some below =
    let not_zero : (rest == 0) ≡ false = grind (arith, nat_tests) in
    let same : suc left - 1 ≡ left = omega arith in
    rw (same, not_zero) refl

-- nothing is written where the fraction is 0
pub fraction_text-none : (left rest : ℕ) → rest ≡ 0 → fraction_text left rest ≡ []
fraction_text-none zero rest none = refl
fraction_text-none (suc left) rest none = rw none refl

-- the digits are a fraction of so many places: digits alone, no more than places, and what they write behind others
record IsFraction (digits : List ℕ) (places fraction : ℕ) : Type 0 where
  pub all : list_all is_ascii_digit digits ≡ true
  pub few : length digits ≤ places
  pub value : (n : ℕ) → digits_value_after 10 n digits * 10 ^ (places - length digits) ≡ n * 10 ^ places + fraction

-- nothing is left where the fraction is 0
value-none : (n places fraction : ℕ) → fraction ≡ 0 → n * 10 ^ (places - 0) ≡ n * 10 ^ places + fraction
value-none n places fraction none = let whole : places - 0 ≡ places = omega arith in rw whole (omega arith)

-- one digit more in front
value-more : (n q r places fraction written : ℕ) → fraction ≡ q * 10 ^ places + r → written ≡ (n * 10 + q) * 10 ^ places + r → written ≡ n * 10 ^ suc places + fraction
value-more n q r places fraction written parts rest =
    omega (arith, ap (λ p. n * p) (pow-succ' 10 places), parts, rest)

value-step : (n q r places fraction : ℕ) (digits : List ℕ) → digit_value (48 + q) ≡ q → fraction ≡ q * 10 ^ places + r → digits_value_after 10 (n * 10 + q) digits * 10 ^ (places - length digits) ≡ (n * 10 + q) * 10 ^ places + r
    → digits_value_after 10 n ((48 + q) ∷ digits) * 10 ^ (suc places - length ((48 + q) ∷ digits)) ≡ n * 10 ^ suc places + fraction
value-step n q r places fraction digits first parts rest =
    let left : suc places - suc (length digits) ≡ places - length digits = omega arith in
    ap (λ d. digits_value_after 10 (n * 10 + d) digits * 10 ^ (suc places - suc (length digits))) first
    ∙ ap (λ k. digits_value_after 10 (n * 10 + q) digits * 10 ^ k) left
    ∙ value-more n q r places fraction (digits_value_after 10 (n * 10 + q) digits * 10 ^ (places - length digits)) parts rest

IsFraction-below : (places fraction : ℕ) → fraction < 10 ^ places → IsFraction (fraction_text places fraction) places fraction
IsFraction-below zero fraction below =
    record { all = refl; few = omega arith; value = λ n. omega (arith, below) }
IsFraction-below (suc places) fraction below =
    elim (cases_Bool (fraction == 0)) [
      | inl none ↦
          let zero_is : fraction ≡ 0 = grind (arith, nat_tests) in
          rw none (record { all = refl; few = omega arith; value = λ n. value-none n (suc places) fraction zero_is })
      | inr some ↦
          let unit = 10 ^ places in
          let positive : 0 < unit = one-le-pow places 10 (omega arith) in
          let q = fraction / unit in
          let r = fraction % unit in
          let first = IsDigit-below q (div_below fraction unit 10 positive (omega (arith, below, pow-succ' 10 places))) in
          let rest = IsFraction-below places r (mod_below fraction unit positive) in
          let digits = fraction_text places r in
          rw some (record {
            all = and_from (is_ascii_digit (48 + q)) (list_all is_ascii_digit digits) first.test rest.all;
            few = omega (arith, rest.few);
            value = λ n.
                value-step n q r places fraction digits first.value (sym (div-add-mod' fraction unit)) (rest.value (n * 10 + q));
          })
    ]

-- the text of a time in units of so many places writes it
IsTime-in_units : (places time : ℕ) → places_of_unit (unit_of_places places) ≡ Some places → time < 10 ^ (WHOLE_LIMIT + places) → IsTime (text_in_units places time) time
IsTime-in_units places time unit_is below =
    let unit = 10 ^ places in
    let positive : 0 < unit = one-le-pow places 10 (omega arith) in
    let whole = time / unit in
    let few : whole < 10 ^ WHOLE_LIMIT = div_below time unit (10 ^ WHOLE_LIMIT) positive (omega (arith, below, pow-add 10 WHOLE_LIMIT places)) in
    let small : whole < 2 ^ 64 = omega (arith, few) in
    let fraction = IsFraction-below places (time % unit) (mod_below time unit positive) in
    let value = ap (λ v. v * unit) (digits_value-decimal digits whole small) in
    record {
      whole = decimal whole;
      fraction = fraction_text places (time % unit);
      unit = unit_of_places places;
      places = places;
      text_is = refl;
      whole_digits = digits_decimal digits whole small;
      fraction_digits = fraction.all;
      unit_is = unit_is;
      some = omega (arith, decimal_nonempty whole small);
      few = length-decimal-le WHOLE_LIMIT whole (omega arith) few small;
      exact = fraction.few;
      time_is = omega (arith, value, fraction.value 0, div-add-mod' time unit);
    }

pub times_are_read_back : TimesAreReadBack
times_are_read_back time below =
    time_of_text-from_IsTime (time_text time) time (by_tests (nat_lt time (10 ^ 3)) (nat_lt time (10 ^ 6)) (nat_lt time (10 ^ 9)) refl refl refl)
  where
    by_tests : (a b c : Bool) → nat_lt time (10 ^ 3) ≡ a → nat_lt time (10 ^ 6) ≡ b → nat_lt time (10 ^ 9) ≡ c → IsTime (text_in_units (cond a 0 (cond b 3 (cond c 6 9))) time) time
    by_tests true b c p q r = IsTime-in_units 0 time refl (omega (arith, ltb-true time (10 ^ 3) p))
    by_tests false true c p q r = IsTime-in_units 3 time refl (omega (arith, ltb-true time (10 ^ 6) q))
    by_tests false false true p q r = IsTime-in_units 6 time refl (omega (arith, ltb-true time (10 ^ 9) r))
    by_tests false false false p q r = IsTime-in_units 9 time refl (omega (arith, below))
