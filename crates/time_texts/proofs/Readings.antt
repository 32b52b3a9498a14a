-- A text writes the time that is read of it, and no other.
use Rattle.std.proofs.Common.{◌≡◌, ℕ, suc, ◌+◌, ◌≤◌, Bool, true, false, cond, ◌&&◌, ◌==◌, nat_le, List, [], ◌∷◌, ◌++◌, length, take, drop, Option, Some, None, refl, sym, ap, subst, ◌∙◌, append_assoc, inl, inr, arith}
use Rattle.std.specs.Prelude.{codes}
use Rattle.std.specs.Char.{is_ascii_digit}
use Rattle.std.specs.List.{list_all, prefix_len, take_while}
use Rattle.std.specs.Option.{option_and_then}
use Rattle.std.specs.Str.{bytes_eq}
use Rattle.std.proofs.Math.Seq.{take-append_seam, drop-append_seam}
use Rattle.std.proofs.lemmas.Bool.{and_parts, cases_Bool, cond-true, cond-false}
use Rattle.std.proofs.lemmas.Bool.Decides.{nat_tests}
use Rattle.std.proofs.lemmas.List.{take-append-drop}
use Rattle.std.proofs.lemmas.List.Folds.{length-prefix_len}
use Rattle.std.proofs.lemmas.List.Sums.{take_while-cons}
use Rattle.std.proofs.lemmas.Option.{cond_some, option_and_then_some}
use Rattle.std.proofs.lemmas.Slice.Eq.{bytes_eq-Decides}
use Rattle.slot_core.specs.Sets.Ranges.{is_between}
use Rattle.time_texts.specs.declared.TheConstants.{WHOLE_LIMIT}
use Rattle.time_texts.specs.Reading.{places_of_unit, time_value, digits_before, after_digits, fraction_of, time_from, time_of_text, with_point, IsTime}

-- digits in front of what begins with no digit are counted whole
prefix_len-digits : (xs ys : List ℕ) → list_all is_ascii_digit xs ≡ true → prefix_len is_ascii_digit ys ≡ 0 → prefix_len is_ascii_digit (xs ++ ys) ≡ length xs
prefix_len-digits [] ys all none = none
prefix_len-digits (x ∷ xs) ys all none =
    let (here, rest) = and_parts (is_ascii_digit x) (list_all is_ascii_digit xs) all in
    let more = prefix_len-digits xs ys rest none in
    cond-true (is_ascii_digit x) (1 + prefix_len is_ascii_digit (xs ++ ys)) 0 here ∙ omega arith

-- what stands before the first byte that is no digit are digits
pub digits_before-digits : (text : List ℕ) → list_all is_ascii_digit (digits_before text) ≡ true
digits_before-digits [] = refl
digits_before-digits (b ∷ text) =
    elim (cases_Bool (is_ascii_digit b)) [
      | inl digit ↦ rw (take_while-cons is_ascii_digit b text, digit, digit) (digits_before-digits text)
      | inr other ↦ rw (take_while-cons is_ascii_digit b text, other) refl
    ]

-- digits, and what begins with no digit, are told apart
parted-digits : (xs ys : List ℕ) → list_all is_ascii_digit xs ≡ true → prefix_len is_ascii_digit ys ≡ 0 → (digits_before (xs ++ ys) ≡ xs) × (after_digits (xs ++ ys) ≡ ys)
parted-digits xs ys all none =
    let count = prefix_len-digits xs ys all none in
    (ap (λ n. take n (xs ++ ys)) count ∙ take-append_seam xs ys, ap (λ n. drop n (xs ++ ys)) count ∙ drop-append_seam xs ys)

-- a unit begins with no digit, and with no point
record StartsPlain (unit : List ℕ) : Type 0 where
  pub no_digit : prefix_len is_ascii_digit unit ≡ 0
  pub no_point : fraction_of unit ≡ Some ([], unit)

StartsPlain-unit : (unit : List ℕ) (places : ℕ) → places_of_unit unit ≡ Some places → StartsPlain unit
StartsPlain-unit unit places is =
    by_tests (bytes_eq unit (codes "ns")) (bytes_eq unit (codes "us")) (bytes_eq unit (codes "ms")) (bytes_eq unit (codes "s")) refl refl refl refl is
  where
    plain : (word : List ℕ) → StartsPlain word → bytes_eq unit word ≡ true → StartsPlain unit
    plain word starts same = subst StartsPlain (sym ((bytes_eq-Decides unit word).0 same)) starts

    by_tests : (a b c d : Bool) → bytes_eq unit (codes "ns") ≡ a → bytes_eq unit (codes "us") ≡ b → bytes_eq unit (codes "ms") ≡ c → bytes_eq unit (codes "s") ≡ d → cond a (Some 0) (cond b (Some 3) (cond c (Some 6) (cond d (Some 9) None))) ≡ Some places → StartsPlain unit
    by_tests true b c d p q r s is = plain (codes "ns") (record { no_digit = refl; no_point = refl }) p
    by_tests false true c d p q r s is = plain (codes "us") (record { no_digit = refl; no_point = refl }) q
    by_tests false false true d p q r s is = plain (codes "ms") (record { no_digit = refl; no_point = refl }) r
    by_tests false false false true p q r s is = plain (codes "s") (record { no_digit = refl; no_point = refl }) s
    by_tests false false false false p q r s is = cc

-- a fraction and a unit are read as these, and begin with no digit
fraction_of-parts : (fraction unit : List ℕ) → list_all is_ascii_digit fraction ≡ true → StartsPlain unit → (fraction_of (with_point fraction ++ unit) ≡ Some (fraction, unit)) × (prefix_len is_ascii_digit (with_point fraction ++ unit) ≡ 0)
fraction_of-parts [] unit all plain = (plain.no_point, plain.no_digit)
fraction_of-parts (d ∷ ds) unit all plain =
    let count : prefix_len is_ascii_digit ((d ∷ ds) ++ unit) ≡ suc (length ds) = prefix_len-digits (d ∷ ds) unit all plain.no_digit in
    let some : (prefix_len is_ascii_digit ((d ∷ ds) ++ unit) == 0) ≡ false = grind (arith, nat_tests) in
    let (front, rest) = parted-digits (d ∷ ds) unit all plain.no_digit in (
      cond-false (prefix_len is_ascii_digit ((d ∷ ds) ++ unit) == 0) None (Some (digits_before ((d ∷ ds) ++ unit), after_digits ((d ∷ ds) ++ unit))) some
          ∙ ap (λ (parts : List ℕ × List ℕ). Some parts) (pair front rest),
      refl,
    )
  where
    pair : {a b c e : List ℕ} → a ≡ c → b ≡ e → ◌≡◌ {A = List ℕ × List ℕ} (a, b) (c, e)
    pair p q = cc

-- a text that writes a time is read as it
pub time_of_text-from_IsTime : (text : List ℕ) (time : ℕ) → IsTime text time → time_of_text text ≡ Some time
time_of_text-from_IsTime text time is =
    let plain = StartsPlain-unit is.unit is.places is.unit_is in
    let rest = with_point is.fraction ++ is.unit in
    let (fraction, none) = fraction_of-parts is.fraction is.unit is.fraction_digits plain in
    let text_is : text ≡ is.whole ++ rest = is.text_is ∙ append_assoc is.whole (with_point is.fraction) is.unit in
    let (front, after) = parted-digits is.whole rest is.whole_digits none in
    let fits : (is_between 1 WHOLE_LIMIT (length is.whole) && nat_le (length is.fraction) is.places) ≡ true = grind (arith, nat_tests, is.some, is.few, is.exact) in
    rw (text_is, front, after, fraction, is.unit_is, fits) (ap Some (sym is.time_is))

-- what a fraction with its unit was read as
record FractionParts (text : List ℕ) (parts : List ℕ × List ℕ) : Type 0 where
  pub text_is : text ≡ with_point parts.0 ++ parts.1
  pub digits : list_all is_ascii_digit parts.0 ≡ true

FractionParts-from_read : (text : List ℕ) (parts : List ℕ × List ℕ) → fraction_of text ≡ Some parts → FractionParts text parts
FractionParts-from_read [] parts is =
    let same : ([], []) ≡ parts = cc in
    subst (FractionParts []) same (record { text_is = refl; digits = refl })
FractionParts-from_read (b ∷ rest) parts is = by_point (b == 46) (prefix_len is_ascii_digit rest == 0) refl refl is
  where
    pointed : (front : List ℕ) → (length front ≡ 0 → ⊥) → 46 ∷ front ≡ with_point front
    pointed [] some = absurd (some refl)
    pointed (d ∷ ds) some = refl

    by_point : (p z : Bool) → (b == 46) ≡ p → (prefix_len is_ascii_digit rest == 0) ≡ z → cond p (cond z None (Some (digits_before rest, after_digits rest))) (Some ([], b ∷ rest)) ≡ Some parts → FractionParts (b ∷ rest) parts
    by_point false z e f is =
        let same : ([], b ∷ rest) ≡ parts = cc in
        subst (FractionParts (b ∷ rest)) same (record { text_is = refl; digits = refl })
    by_point true true e f is = cc
    by_point true false e f is =
        let same : (digits_before rest, after_digits rest) ≡ parts = cc in
        let point : b ≡ 46 = grind (arith, nat_tests) in
        let counted = length-prefix_len is_ascii_digit rest in
        let some : length (digits_before rest) ≡ 0 → ⊥ = λ none. grind (arith, nat_tests) in
        let whole : 46 ∷ rest ≡ with_point (digits_before rest) ++ after_digits rest =
        ap (λ (r : List ℕ). 46 ∷ r) (sym (take-append-drop (prefix_len is_ascii_digit rest) rest))
        ∙ ap (λ (front : List ℕ). front ++ after_digits rest) (pointed (digits_before rest) some) in
        subst (FractionParts (b ∷ rest)) same (record { text_is = ap (λ (n : ℕ). n ∷ rest) point ∙ whole; digits = digits_before-digits rest })

-- a text that is read as a time writes it
pub IsTime-from_read : (text : List ℕ) (time : ℕ) → time_of_text text ≡ Some time → IsTime text time
IsTime-from_read text time is =
    option_and_then_some
    (λ (parts : List ℕ × List ℕ). option_and_then (time_from (digits_before text) parts.0) (places_of_unit parts.1))
    (fraction_of (after_digits text)) time is
    (λ parts fraction more.
    option_and_then_some (time_from (digits_before text) parts.0) (places_of_unit parts.1) time more
    (λ places unit last.
    let whole = digits_before text in
    let (fits, value) = cond_some (is_between 1 WHOLE_LIMIT (length whole) && nat_le (length parts.0) places) (time_value places whole parts.0) time last in
    let (counted, exact) = and_parts (is_between 1 WHOLE_LIMIT (length whole)) (nat_le (length parts.0) places) fits in
    let found = FractionParts-from_read (after_digits text) parts fraction in
    let text_is : text ≡ whole ++ with_point parts.0 ++ parts.1 =
    sym (take-append-drop (prefix_len is_ascii_digit text) text)
    ∙ ap (λ (rest : List ℕ). whole ++ rest) found.text_is
    ∙ sym (append_assoc whole (with_point parts.0) parts.1) in
    record {
      whole = whole;
      fraction = parts.0;
      unit = parts.1;
      places = places;
      text_is = text_is;
      whole_digits = digits_before-digits text;
      fraction_digits = found.digits;
      unit_is = unit;
      some = grind (arith, nat_tests, counted);
      few = grind (arith, nat_tests, counted);
      exact = grind (arith, nat_tests, exact);
      time_is = sym value;
    }))
