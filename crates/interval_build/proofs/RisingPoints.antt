-- The numbers of a range that pass a test rise, to the last one where it passes.
use Rattle.std.proofs.Common.{◌≡◌, ℕ, zero, suc, ◌+◌, ◌<◌, ◌≤◌, Bool, true, false, cond, List, [], ◌∷◌, ◌++◌, filter, refl, ap, ◌∙◌, arith}
use Rattle.std.specs.List.{range_with_len}
use Rattle.slot_core.specs.Runs.Rising.{AreRising, last_point}
use Rattle.slot_facts.proofs.Lists.RangeFilters.{filter-parts, filter-last}

-- one number more in front, where it passes
AreRising-cond : (b : Bool) (s a : ℕ) (xs : List ℕ) → s < a → AreRising a xs → AreRising s xs → AreRising s (cond b (a ∷ xs) xs)
AreRising-cond true s a xs low after from = (low, after)
AreRising-cond false s a xs low after from = from

pub AreRising-filter : (p : ℕ → Bool) (s a n : ℕ) → s < a → AreRising s (filter p (range_with_len a n))
AreRising-filter p s a zero low = tt
AreRising-filter p s a (suc n) low =
    AreRising-cond (p a) s a (filter p (range_with_len (a + 1) n)) low (AreRising-filter p a (a + 1) n (omega arith)) (AreRising-filter p s (a + 1) n (omega arith))

-- the last point of a list that a number closes
last_point_push : (s : ℕ) (xs : List ℕ) (x : ℕ) → last_point s (xs ++ x ∷ []) ≡ x
last_point_push s [] x = refl
last_point_push s (y ∷ xs) x = last_point_push y xs x

pub last_point-filter : (p : ℕ → Bool) (s n : ℕ) → 1 ≤ n → p n ≡ true → last_point s (filter p (range_with_len 1 n)) ≡ n
last_point-filter p s zero some passes = absurd (omega arith)
last_point-filter p s (suc n) some passes =
    let last = filter-last p (suc n) 0 (suc n) (omega arith) (λ x low high. absurd (omega arith)) passes in
    ap (last_point s) (filter-parts p 1 (suc n) n 1 (suc n) (omega arith) (omega arith) ∙ ap (λ xs. filter p (range_with_len 1 n) ++ xs) last) ∙ last_point_push s (filter p (range_with_len 1 n)) (suc n)
