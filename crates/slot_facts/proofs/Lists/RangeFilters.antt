-- Ranges in parts, and the numbers of a range that pass a test.
use Rattle.std.proofs.Common.{◌≡◌, ℕ, zero, suc, ◌+◌, ◌<◌, ◌≤◌, Bool, true, false, List, [], ◌∷◌, ◌++◌, map, filter, refl, ap, ap₂, ◌∙◌, arith, length, inl, inr}
use Rattle.std.specs.List.{range_with_len}
use Rattle.std.proofs.lemmas.Bool.{cond-true, cond-false}
use Rattle.std.proofs.lemmas.List.Elements.{filter-append}
use Rattle.std.proofs.lemmas.List.Sums.{length-filter, count_by-le-length}
use Rattle.std.proofs.lemmas.List.FromFn.{length-range_with_len}
use Rattle.slot_facts.proofs.Lists.Members.{Has}

-- a range is two ranges, one after the other
pub range-parts : (a b m n : ℕ) → b ≡ a + m → range_with_len a (m + n) ≡ range_with_len a m ++ range_with_len b n
range-parts a b zero n e =
    let here : a ≡ b = omega arith in
    let all : 0 + n ≡ n = omega arith in
    ap₂ range_with_len here all
range-parts a b (suc m) n e =
    let all : suc m + n ≡ suc (m + n) = omega arith in
    ap (range_with_len a) all ∙ ap (λ xs. a ∷ xs) (range-parts (a + 1) b m n (omega arith))

-- one more number
pub range-more : (n : ℕ) → range_with_len 0 (n + 1) ≡ range_with_len 0 n ++ n ∷ []
range-more n = range-parts 0 n n 1 (omega arith)

-- the numbers that pass in a range are those of the two ranges that make it
pub filter-parts : (p : ℕ → Bool) (a b m n k : ℕ) → b ≡ a + m → k ≡ m + n → filter p (range_with_len a k) ≡ filter p (range_with_len a m) ++ filter p (range_with_len b n)
filter-parts p a b m n k at_b at_k =
    ap (λ l. filter p (range_with_len a l)) at_k ∙ (ap (filter p) (range-parts a b m n at_b) ∙ filter-append p (range_with_len a m) (range_with_len b n))

-- where only the last number passes
pub filter-last : (p : ℕ → Bool) (a n j : ℕ) → j ≡ a + n → ((x : ℕ) → a ≤ x → x < j → p x ≡ false) → p j ≡ true → filter p (range_with_len a (n + 1)) ≡ j ∷ []
filter-last p a zero j e none passes =
    let here : a ≡ j = omega arith in
    let at_a : p a ≡ true = ap p here ∙ passes in
    cond-true (p a) (a ∷ []) [] at_a ∙ ap (λ x. x ∷ []) here
filter-last p a (suc n) j e none passes =
    let fails : p a ≡ false = none a (omega arith) (omega arith) in
    let all : suc n + 1 ≡ suc (n + 1) = omega arith in
    let rest = filter p (range_with_len (a + 1) (n + 1)) in
    ap (λ l. filter p (range_with_len a l)) all ∙ (cond-false (p a) (a ∷ rest) rest fails ∙ filter-last p (a + 1) n j (omega arith) (λ x low high. none x (omega arith) high) passes)

-- the numbers that pass in a shifted range, where the test shifts with it
filter-shifted_cons : (p : ℕ → Bool) (a b d : ℕ) (xs ys : List ℕ) → b ≡ a + d → p b ≡ p a → filter p xs ≡ map (λ x. x + d) (filter p ys) → filter p (b ∷ xs) ≡ map (λ x. x + d) (filter p (a ∷ ys))
filter-shifted_cons p a b d xs ys at_b same rest = go (p a) refl
  where
    go : (t : Bool) → p a ≡ t → filter p (b ∷ xs) ≡ map (λ x. x + d) (filter p (a ∷ ys))
    go true e = rw (same, e) (ap₂ (λ z zs. z ∷ zs) at_b rest)
    go false e = rw (same, e) rest

pub filter-shifted : (p : ℕ → Bool) (a b d n : ℕ) → b ≡ a + d → ((x : ℕ) → a ≤ x → p (x + d) ≡ p x) → filter p (range_with_len b n) ≡ map (λ x. x + d) (filter p (range_with_len a n))
filter-shifted p a b d zero at_b same = refl
filter-shifted p a b d (suc n) at_b same =
    filter-shifted_cons
    p
    a
    b
    d
    (range_with_len (b + 1) n)
    (range_with_len (a + 1) n)
    at_b
    (ap p at_b ∙ same a (omega arith))
    (filter-shifted p (a + 1) (b + 1) d n (omega arith) (λ x low. same x (omega arith)))

-- they are at most as many as the range has
pub length-filter_range : (p : ℕ → Bool) (a n : ℕ) → length (filter p (range_with_len a n)) ≤ n
length-filter_range p a n =
    omega (arith, length-filter p (range_with_len a n), count_by-le-length p (range_with_len a n), length-range_with_len a n)

-- of the points of three cycles, those up to the end of the first
pub filter-all : (p : ℕ → Bool) (xs : List ℕ) → ((x : ℕ) → Has xs x → p x ≡ true) → filter p xs ≡ xs
filter-all p [] each = refl
filter-all p (x ∷ xs) each = rw (each x (inl refl)) (ap (λ ys. x ∷ ys) (filter-all p xs (λ y at. each y (inr at))))

pub filter-none : (p : ℕ → Bool) (xs : List ℕ) → ((x : ℕ) → Has xs x → p x ≡ false) → filter p xs ≡ []
filter-none p [] each = refl
filter-none p (x ∷ xs) each = rw (each x (inl refl)) (filter-none p xs (λ y at. each y (inr at)))
