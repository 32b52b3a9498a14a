-- Searches along a range in parts.
use Rattle.std.proofs.Common.{◌≡◌, ℕ, zero, suc, ◌+◌, ◌-◌, ◌<◌, ◌≤◌, Bool, true, false, cond, Some, None, refl, sym, ap, ◌∙◌, inl, inr, arith}
use Rattle.std.specs.Prelude.{find}
use Rattle.std.specs.Option.{option_map, option_or}
use Rattle.std.specs.List.{range_with_len}
use Rattle.std.proofs.lemmas.Bool.{cases_Bool, cases_lt}
use Rattle.std.proofs.lemmas.List.Folds.{find-append}
use Rattle.slot_facts.proofs.Lists.RangeFilters.{range-parts}

-- numbers that fail at the front are passed over
skip : (p : ℕ → Bool) (a k last : ℕ) → ((x : ℕ) → a ≤ x → x < a + k → p x ≡ false) → find p (range_with_len a (last - a)) ≡ find p (range_with_len (a + k) (last - (a + k)))
skip p a zero last fails =
    let same : a ≡ a + 0 = omega arith in
    ap (λ b. find p (range_with_len b (last - b))) same
skip p a (suc k) last fails =
    elim (cases_lt a last) [
      | inl more ↦
          let rest : last - a ≡ suc (last - (a + 1)) = omega arith in
          let here : p a ≡ false = fails a (omega arith) (omega arith) in
          let later = skip p (a + 1) k last (λ x low high. fails x (omega arith) (omega arith)) in
          let same : a + 1 + k ≡ a + suc k = omega arith in
          ap (λ n. find p (range_with_len a n)) rest
          ∙ ap (λ b. cond b (Some a) (find p (range_with_len (a + 1) (last - (a + 1))))) here
          ∙ later
          ∙ ap (λ b. find p (range_with_len b (last - b))) same
      | inr none ↦
          let here : last - a ≡ 0 = omega arith in
          let there : last - (a + suc k) ≡ 0 = omega arith in
          ap (λ n. find p (range_with_len a n)) here ∙ sym (ap (λ n. find p (range_with_len (a + suc k) n)) there)
    ]

pub find-skip : (p : ℕ → Bool) (a b last : ℕ) → a ≤ b → ((x : ℕ) → a ≤ x → x < b → p x ≡ false) → find p (range_with_len a (last - a)) ≡ find p (range_with_len b (last - b))
find-skip p a b last le fails =
    let whole : a + (b - a) ≡ b = omega arith in
    skip p a (b - a) last (λ x low high. fails x low (omega arith)) ∙ ap (λ n. find p (range_with_len n (last - n))) whole

-- a number at the front that passes is found
pub find-here : (p : ℕ → Bool) (a last : ℕ) → a < last → p a ≡ true → find p (range_with_len a (last - a)) ≡ Some a
find-here p a last more passes =
    let rest : last - a ≡ suc (last - (a + 1)) = omega arith in
    ap (λ n. find p (range_with_len a n)) rest
    ∙ ap (λ b. cond b (Some a) (find p (range_with_len (a + 1) (last - (a + 1))))) passes

-- a range is searched to its end where all fails
pub find-none : (p : ℕ → Bool) (a last : ℕ) → ((x : ℕ) → a ≤ x → x < last → p x ≡ false) → find p (range_with_len a (last - a)) ≡ None
find-none p a last fails =
    elim (cases_lt a last) [
      | inl more ↦ let empty : last - last ≡ 0 = omega arith in
          find-skip p a last last (omega arith) fails ∙ ap (λ n. find p (range_with_len last n)) empty
      | inr none ↦ let empty : last - a ≡ 0 = omega arith in
          ap (λ n. find p (range_with_len a n)) empty
    ]

-- what is found passes, and where nothing is all fails
pub find-passes : (p : ℕ → Bool) (a n x : ℕ) → find p (range_with_len a n) ≡ Some x → (a ≤ x) × (x < a + n) × (p x ≡ true)
find-passes p a zero x found = absurd (cc found)
find-passes p a (suc n) x found =
    let rest = find-passes p (a + 1) n x in
    elim (cases_Bool (p a)) [
      | inl passes ↦ let same : a ≡ x = cc (rw passes at found) in
          (omega arith, omega arith, ap p (sym same) ∙ passes)
      | inr fails ↦ let later = rest (rw fails at found) in
          (omega (arith, later.0), omega (arith, later.1), later.2)
    ]

pub fails-from_none : (p : ℕ → Bool) (a n : ℕ) → find p (range_with_len a n) ≡ None → (x : ℕ) → a ≤ x → x < a + n → p x ≡ false
fails-from_none p a zero none x low high = absurd (omega arith)
fails-from_none p a (suc n) none x low high =
    let rest = fails-from_none p (a + 1) n in
    elim (cases_Bool (p a)) [
      | inl passes ↦ absurd (cc (rw passes at none))
      | inr fails ↦ elim (cases_lt a x) [
        | inl later ↦ rest (rw fails at none) x (omega arith) (omega arith)
        | inr here ↦ let same : a ≡ x = omega arith in ap p (sym same) ∙ fails
      ]
    ]

-- searches whose tests and answers agree along the range
pub search-same : {X : Type 0} (p q : ℕ → Bool) (f g : ℕ → X) (a n : ℕ) → ((x : ℕ) → a ≤ x → x < a + n → p x ≡ q x) → ((x : ℕ) → a ≤ x → x < a + n → f x ≡ g x) → option_map f (find p (range_with_len a n)) ≡ option_map g (find q (range_with_len a n))
search-same p q f g a zero tests answers = refl
search-same p q f g a (suc n) tests answers =
    let here : p a ≡ q a = tests a (omega arith) (omega arith) in
    let told : f a ≡ g a = answers a (omega arith) (omega arith) in
    let later = search-same p q f g (a + 1) n (λ x low high. tests x (omega arith) (omega arith)) (λ x low high. answers x (omega arith) (omega arith)) in
    elim (cases_Bool (q a)) [
      | inl passes ↦ rw (here, passes, told) refl
      | inr fails ↦ rw (here, fails) later
    ]

-- a search up to a place, and on from there
pub search-parts : (p : ℕ → Bool) (a b last : ℕ) → a ≤ b → b ≤ last → find p (range_with_len a (last - a)) ≡ option_or (find p (range_with_len a (b - a))) (find p (range_with_len b (last - b)))
search-parts p a b last low high =
    let parts : range_with_len a ((b - a) + (last - b)) ≡ _ = range-parts a b (b - a) (last - b) (omega arith) in
    let whole : last - a ≡ (b - a) + (last - b) = omega arith in
    ap (λ n. find p (range_with_len a n)) whole
    ∙ ap (find p) parts
    ∙ find-append p (range_with_len a (b - a)) (range_with_len b (last - b))
