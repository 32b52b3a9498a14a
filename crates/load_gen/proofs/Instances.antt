-- How many instances of a period lie in a window.
use Rattle.std.proofs.Common.{◌≡◌, ℕ, zero, suc, ◌+◌, ◌-◌, ◌*◌, ◌≤◌, max, min, ◌&&◌, ◌∷◌, ◌⊎◌, inl, inr, sym, ap, arith}
use Rattle.std.specs.Prelude.{sum_by, nat_le, if◌then◌else◌}
use Rattle.std.specs.List.{range_with_len}
use Rattle.std.proofs.lemmas.Bool.Decides.{nat_tests}
use Rattle.std.proofs.lemmas.List.Sums.{sum_by-cons}

-- 1 where the instance released at x may have a job in the window [a, b): it begins at most two
-- slots before, and ends at most two slots after
abbrev pub touches : ℕ → ℕ → ℕ → ℕ → ℕ
touches a b period x = if nat_le a (x + 2) && nat_le (x + period) (b + 2) then 1 else 0

-- either it does not touch, or it lies in the window made two slots longer at each end
touches-cases : (a b period x : ℕ) → (touches a b period x ≡ 0) ⊎ ((touches a b period x ≡ 1) × (a ≤ x + 2) × (x + period ≤ b + 2))
touches-cases a b period x = grind (arith, nat_tests)

-- the instances of a range that touch, moved by s, fit side by side
pub touching-fit : (a b period s lo n x : ℕ) → x ≡ lo * period + s → period * sum_by (λ k. touches a b period (k * period + s)) (range_with_len lo n) ≤ min (b + 2) (x + n * period) - max (a - 2) x
touching-fit a b period s lo zero x at = omega arith
touching-fit a b period s lo (suc n) x at =
    let f = λ (k : ℕ). touches a b period (k * period + s) in
    let rest = sum_by f (range_with_len (lo + 1) n) in
    let all = sum_by-cons f lo (range_with_len (lo + 1) n) in
    let later : period * rest ≤ min (b + 2) (x + period + n * period) - max (a - 2) (x + period) = touching-fit a b period s (lo + 1) n (x + period) (omega arith) in
    let at_x : f lo ≡ touches a b period x = ap (touches a b period) (sym at) in
    elim (touches-cases a b period x) [
      | inl none ↦
          let same : sum_by f (lo ∷ range_with_len (lo + 1) n) ≡ rest = omega (arith, all, at_x, none) in
          rw same (omega arith)
      | inr one ↦
          let same : sum_by f (lo ∷ range_with_len (lo + 1) n) ≡ 1 + rest = omega (arith, all, at_x, one.0) in
          rw same (omega (arith, one.1, one.2))
    ]

-- those of one cycle and the next fit in the window made two slots longer at each end
pub two_cycles-fit : (a b period n cycle : ℕ) → n * period ≡ cycle → a ≤ b → period * (sum_by (λ k. touches a b period (k * period + 0)) (range_with_len 0 n) + sum_by (λ k. touches a b period (k * period + cycle)) (range_with_len 0 n)) ≤ b - a + 4
two_cycles-fit a b period n cycle whole low =
    let first = touching-fit a b period 0 0 n 0 (omega arith) in
    let second = touching-fit a b period cycle 0 n cycle (omega arith) in
    omega (arith, first, second)

-- a job of an instance that lies in the window, where its task has at most two slots before it and
-- after it in the instance, tells that the instance touches
pub job-touches : (a b period x s before after : ℕ) → before ≤ 2 → after ≤ 2 → (if nat_le a (x + 0 + before + s) && nat_le (x + 0 + period - after + s) b then 1 else 0) ≤ touches a b period (x + s)
job-touches a b period x s before after few_before few_after = grind (arith, nat_tests)
