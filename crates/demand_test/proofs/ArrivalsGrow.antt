-- The densest arrivals need no less by a later end.
use Rattle.std.proofs.Common.{◌≡◌, ℕ, zero, suc, ◌+◌, ◌*◌, ◌≤◌, max, Bool, true, false, List, [], ◌∷◌, cond, arith}
use Rattle.std.specs.Prelude.{count_by, nat_le}
use Rattle.std.specs.List.{range_with_len}
use Rattle.std.proofs.Math.Nat.{mul-le-mul_left}
use Rattle.std.proofs.lemmas.Bool.{le-leb, leb-true, false≢true}
use Rattle.std.proofs.lemmas.List.Sums.{sum_by-cons}
use Rattle.slot_core.specs.declared.tasks.Sporadic.{Sporadic}
use Rattle.slot_core.specs.Feasibility.Sporadics.{arrivals_due, sporadic_demand}

-- a weaker test passes no less often along a longer range
count_range-le : (p q : ℕ → Bool) → ((m : ℕ) → p m ≡ true → q m ≡ true) → (a n k : ℕ) → n ≤ k → count_by p (range_with_len a n) ≤ count_by q (range_with_len a k)
count_range-le p q weaker a zero k low = omega arith
count_range-le p q weaker a (suc n) zero low = absurd (omega arith)
count_range-le p q weaker a (suc n) (suc k) low =
    let later = count_range-le p q weaker (a + 1) n k (omega arith) in
    let here : cond (p a) 1 0 ≤ cond (q a) 1 0 = one (p a) (q a) (weaker a) in
    omega (
      arith,
      sum_by-cons (λ m. cond (p m) 1 0) a (range_with_len (a + 1) n),
      sum_by-cons (λ m. cond (q m) 1 0) a (range_with_len (a + 1) k),
    )
  where
    one : (s t : Bool) → (s ≡ true → t ≡ true) → cond s 1 0 ≤ cond t 1 0
    one false t h = omega arith
    one true true h = omega arith
    one true false h = absurd (false≢true (h (λ i. true)))

-- by a later end no fewer arrivals are due
arrivals_due-grows : (s : Sporadic) (next r x y : ℕ) → x ≤ y → arrivals_due s next r x ≤ arrivals_due s next r y
arrivals_due-grows s next r x y later =
    count_range-le
    (λ m. nat_le (max r next + m * s.separation + s.deadline) x)
    (λ m. nat_le (max r next + m * s.separation + s.deadline) y)
    (λ m due. le-leb (max r next + m * s.separation + s.deadline) y (omega (arith, leb-true (max r next + m * s.separation + s.deadline) x due)))
    0
    (x + 1)
    (y + 1)
    (omega arith)

pub sporadic_demand-grows : (ss : List Sporadic) (r x y : ℕ) → x ≤ y → sporadic_demand ss [] r x ≤ sporadic_demand ss [] r y
sporadic_demand-grows [] r x y later = omega arith
sporadic_demand-grows (s ∷ ss) r x y later =
    omega (arith, mul-le-mul_left s.wcet (arrivals_due-grows s 0 r x y later), sporadic_demand-grows ss r x y later)
