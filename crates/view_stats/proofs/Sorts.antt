-- Numbers in ascending order: a list that does not fall is the one that its items make.
use Rattle.std.proofs.Common.{◌≡◌, ℕ, suc, ◌+◌, ◌-◌, ◌<◌, ◌≤◌, Bool, true, false, cond, List, [], ◌∷◌, ◌++◌, get_or, length, nat_le, refl, take, sym, ap, ◌∙◌, inl, inr, arith}
use Rattle.std.specs.Prelude.{sum_by, IsPermutation}
use Rattle.std.specs.List.{AllByRecursion}
use Rattle.std.specs.List.Sorted.{IsNonDecreasing, IsNonDecreasingBy}
use Rattle.std.proofs.lemmas.Bool.{cases_Bool}
use Rattle.std.proofs.lemmas.Bool.Decides.{nat_tests}
use Rattle.std.proofs.lemmas.List.Elements.{All-from_get_or, recursion_from_All}
use Rattle.std.proofs.lemmas.List.Sorted.{IsNonDecreasingBy-drop, sum_by-IsPermutation}
use Rattle.std.proofs.lemmas.List.Sums.{sum_by-cons}
use Rattle.std.proofs.lemmas.List.{take_more}
use Rattle.view_stats.specs.Ordered.{ascending, distances, inserted}

-- each of the numbers is at least this
abbrev pub AtLeast : ℕ → List ℕ → Type 0
AtLeast x ys = AllByRecursion (λ y. x ≤ y) ys

-- no number is above a later one
abbrev pub Rise : List ℕ → Type 0
Rise [] = AtLeast 0 []
Rise (x ∷ xs) = AtLeast x xs × Rise xs

-- a sum over one number more
inserted-sum : (f : ℕ → ℕ) (x : ℕ) (ys : List ℕ) → sum_by f (inserted x ys) ≡ f x + sum_by f ys
inserted-sum f x [] = sum_by-cons f x []
inserted-sum f x (y ∷ ys) = elim (cases_Bool (nat_le x y)) [
  | inl low ↦ rw low (sum_by-cons f x (y ∷ ys))
  | inr high ↦ rw high (omega (arith, sum_by-cons f y (inserted x ys), sum_by-cons f y ys, inserted-sum f x ys))
]

pub ascending-sum : (f : ℕ → ℕ) (xs : List ℕ) → sum_by f (ascending xs) ≡ sum_by f xs
ascending-sum f [] = refl
ascending-sum f (x ∷ xs) =
    omega (arith, inserted-sum f x (ascending xs), ascending-sum f xs, sum_by-cons f x xs)

at_least-lower : (x y : ℕ) (ys : List ℕ) → x ≤ y → AtLeast y ys → AtLeast x ys
at_least-lower x y [] low all = tt
at_least-lower x y (z ∷ zs) low (here, all) =
    (omega (arith, low, here), at_least-lower x y zs low all)

at_least-inserted : (z x : ℕ) (ys : List ℕ) → z ≤ x → AtLeast z ys → AtLeast z (inserted x ys)
at_least-inserted z x [] low all = (low, tt)
at_least-inserted z x (y ∷ ys) low (here, all) = elim (cases_Bool (nat_le x y)) [
  | inl before ↦ rw before (low, (here, all))
  | inr after ↦ rw after (here, at_least-inserted z x ys low all)
]

inserted-rises : (x : ℕ) (ys : List ℕ) → Rise ys → Rise (inserted x ys)
inserted-rises x [] rise = (tt, tt)
inserted-rises x (y ∷ ys) (all, rise) = elim (cases_Bool (nat_le x y)) [
  | inl before ↦
      (let low : x ≤ y = grind (arith, nat_tests, before) in
      rw before ((low, at_least-lower x y ys low all), (all, rise)))
  | inr after ↦
      (let low : y ≤ x = grind (arith, nat_tests, after) in
      rw after (at_least-inserted y x ys low all, inserted-rises x ys rise))
]

pub ascending-rises : (xs : List ℕ) → Rise (ascending xs)
ascending-rises [] = tt
ascending-rises (x ∷ xs) = inserted-rises x (ascending xs) (ascending-rises xs)

-- what does not fall by places rises
rise-from_places : (xs : List ℕ) → IsNonDecreasing xs → Rise xs
rise-from_places [] up = tt
rise-from_places (x ∷ xs) up = (
  recursion_from_All (λ y. x ≤ y) xs (All-from_get_or (λ y. x ≤ y) xs 0 (λ i low. up 0 (suc i) 0 (omega arith) (omega (arith, low)))),
  rise-from_places xs (IsNonDecreasingBy-drop (λ y. y) 1 (x ∷ xs) up),
)

-- whether a number is at most this, as a number
abbrev low : ℕ → ℕ → ℕ
low x y = cond (nat_le y x) 1 0

-- above it no number is
none-low : (x y : ℕ) (ys : List ℕ) → x < y → AtLeast y ys → sum_by (low x) ys ≡ 0
none-low x y [] above all = refl
none-low x y (z ∷ zs) above (here, all) =
    let past : nat_le z x ≡ false = grind (arith, nat_tests, above, here) in
    omega (arith, sum_by-cons (low x) z zs, ap {B = ℕ} (λ b. cond b 1 0) past, none-low x y zs above all)

-- of two rising lists with the same sums the first item of one is not below that of the other
first-low : (x y : ℕ) (xs ys : List ℕ) → AtLeast y ys → sum_by (low x) (x ∷ xs) ≡ sum_by (low x) (y ∷ ys) → x < y → x ≡ y
first-low x y xs ys all same above =
    let own : nat_le x x ≡ true = grind (arith, nat_tests) in
    let past : nat_le y x ≡ false = grind (arith, nat_tests, above) in
    absurd (omega (
      arith,
      same,
      sum_by-cons (low x) x xs,
      sum_by-cons (low x) y ys,
      ap {B = ℕ} (λ b. cond b 1 0) own,
      ap {B = ℕ} (λ b. cond b 1 0) past,
      none-low x y ys above all,
    ))

-- rising lists with the same sums are one
pub one_list : (xs ys : List ℕ) → Rise xs → Rise ys → ((f : ℕ → ℕ) → sum_by f xs ≡ sum_by f ys) → xs ≡ ys
one_list [] [] rise other same = refl
one_list [] (y ∷ ys) rise other same =
    absurd (omega (arith, same (λ z. 1), sum_by-cons (λ z. 1) y ys))
one_list (x ∷ xs) [] rise other same =
    absurd (omega (arith, same (λ z. 1), sum_by-cons (λ z. 1) x xs))
one_list (x ∷ xs) (y ∷ ys) (low_x, rise) (low_y, other) same =
    let first : x ≡ y = elim (cases_Bool (nat_le x y)) [
      | inl before ↦
          elim (cases_Bool (nat_le y x)) [
            | inl after ↦ grind (arith, nat_tests, before, after)
            | inr above ↦ first-low x y xs ys low_y (same (low x)) (grind (arith, nat_tests, above))
          ]
      | inr above ↦ sym (first-low y x ys xs low_x (sym (same (low y))) (grind (arith, nat_tests, above)))
    ] in
    let rest : (f : ℕ → ℕ) → sum_by f xs ≡ sum_by f ys =
    λ f. omega (arith, same f, sum_by-cons f x xs, sum_by-cons f y ys, ap f first) in
    ap (λ (z : ℕ). z ∷ xs) first ∙ ap (λ zs. y ∷ zs) (one_list xs ys rise other rest)

-- numbers that are sorted are those in ascending order
pub sorted-ascending : (xs ys : List ℕ) → IsPermutation xs ys → IsNonDecreasing ys → ys ≡ ascending xs
sorted-ascending xs ys same up =
    one_list ys (ascending xs) (rise-from_places ys up) (ascending-rises xs)
    (λ f. sum_by-IsPermutation f xs ys same ∙ sym (ascending-sum f xs))

-- one number more
pub distances-push : (xs : List ℕ) (x y : ℕ) → distances ((xs ++ x ∷ []) ++ y ∷ []) ≡ distances (xs ++ x ∷ []) ++ (y - x) ∷ []
distances-push [] x y = refl
distances-push (a ∷ []) x y = refl
distances-push (a ∷ b ∷ bs) x y = ap (λ ds. (b - a) ∷ ds) (distances-push (b ∷ bs) x y)

pub distances-more : (xs : List ℕ) (i : ℕ) (d : ℕ) → 1 ≤ i → i < length xs → distances (take (i + 1) xs) ≡ distances (take i xs) ++ (get_or xs i d - get_or xs (i - 1) d) ∷ []
distances-more xs i d some low =
    let before : i - 1 + 1 ≡ i = omega (arith, some) in
    let front : take i xs ≡ take (i - 1) xs ++ get_or xs (i - 1) d ∷ [] =
    ap (λ n. take n xs) (sym before) ∙ take_more xs (i - 1) d (omega (arith, some, low)) in
    ap distances (take_more xs i d low ∙ ap (λ ys. ys ++ get_or xs i d ∷ []) front)
    ∙ distances-push (take (i - 1) xs) (get_or xs (i - 1) d) (get_or xs i d)
    ∙ ap (λ ys. distances ys ++ (get_or xs i d - get_or xs (i - 1) d) ∷ []) (sym front)
