-- How the numbers between two flat ends of a table are read.
use Rattle.std.proofs.Common.{◌≡◌, ℕ, zero, suc, ◌+◌, ◌-◌, ◌<◌, ◌≤◌, min, false, ◌==◌, ◌&&◌, ◌⊎◌, List, length, slice_index, ap, ◌∙◌, inl, inr, arith}
use Rattle.std.specs.Prelude.{nat_lt}
use Rattle.std.proofs.lemmas.Bool.{both_ways, cases_eq, cases_lt, eq-eqb, lt-ltb, or_parts, and_from}
use Rattle.supply_find.specs.Stairs.{is_flat_end, RiseSlowly, NumbersAreReadBetween}

module _ (numbers : List ℕ) (low high : ℕ) (rise : RiseSlowly numbers) (within : high < length numbers) (none : (between : ℕ) → low < between → between < high → is_flat_end numbers between ≡ false) where
  abbrev f : ℕ → ℕ
  f k = slice_index numbers k

  -- where it is flat before a place between, it is flat after it
  stays : (k : ℕ) → low < k → k < high → f (k - 1) ≡ f k → f k ≡ f (k + 1)
  stays k past before flat =
      let step = rise k (omega (arith, within)) in
      elim (cases_lt (f k) (f (k + 1))) [
        | inr same ↦ omega (arith, step, same)
        | inl more ↦
            let test = and_from (f (k - 1) == f k) (nat_lt (f k) (f (k + 1))) (eq-eqb (f (k - 1)) (f k) flat) (lt-ltb (f k) (f (k + 1)) more) in
            let parts = or_parts (k + 1 == length numbers) (f (k - 1) == f k && nat_lt (f k) (f (k + 1))) (none k past before) in
            absurd (both_ways (f (k - 1) == f k && nat_lt (f k) (f (k + 1))) parts.1 test)
      ]

  -- up to a place it rose by one at each, or it is flat at it
  rose : (n : ℕ) → low + n ≤ high → (f (low + n) ≡ f low + n) ⊎ ((1 ≤ n) × (f (low + n - 1) ≡ f (low + n)))
  rose zero le =
      let same : low + 0 ≡ low = omega arith in
      inl (omega (arith, ap f same))
  rose (suc n) le =
      let k : ℕ = low + n in
      let step = rise k (omega (arith, within)) in
      let next : k + 1 ≡ low + suc n = omega arith in
      let last : low + suc n - 1 ≡ k = omega arith in
      let at = ap f next in
      let back = ap f last in
      elim (cases_eq (f k) (f (k + 1))) [
        | inl same ↦ inr (omega arith, omega (arith, back, same, at))
        | inr differs ↦ elim (rose n (omega arith)) [
          | inl up ↦ inl (omega (arith, up, step, differs, at))
          | inr flat ↦ absurd (differs (stays k (omega (arith, flat.0)) (omega arith) flat.1))
        ]
      ]

  -- and from there on it is
  flat_on : (n k : ℕ) → low < k → k + n ≤ high → f (k - 1) ≡ f k → f k ≡ f (k + n)
  flat_on zero k past le flat = ap f (omega arith)
  flat_on (suc n) k past le flat =
      let here = stays k past (omega arith) flat in
      let back : f (k + 1 - 1) ≡ f k = ap f (omega arith) in
      let rest = flat_on n (k + 1) (omega arith) (omega arith) (back ∙ here) in
      here ∙ rest ∙ ap f (omega arith)

  -- it never rises faster
  slow : (n k : ℕ) → k + n ≤ high → (f k ≤ f (k + n)) × (f (k + n) ≤ f k + n)
  slow zero k le =
      let same : f (k + 0) ≡ f k = ap f (omega arith) in
      (omega (arith, same), omega (arith, same))
  slow (suc n) k le =
      let step = rise (k + n) (omega (arith, within)) in
      let rest = slow n k (omega arith) in
      let same : f (k + n + 1) ≡ f (k + suc n) = ap f (omega arith) in
      (omega (arith, step, rest, same), omega (arith, step, rest, same))

  pub read : (place : ℕ) → low ≤ place → place ≤ high → f place ≡ min (f high) (f low + (place - low))
  read place from upto =
      let n : ℕ = place - low in
      let m : ℕ = high - place in
      let here : f (low + n) ≡ f place = ap f (omega arith) in
      let end : f (place + m) ≡ f high = ap f (omega arith) in
      let up = slow m place (omega arith) in
      let start = slow n low (omega arith) in
      elim (rose n (omega arith)) [
        | inl risen ↦ omega (arith, risen, here, end, up)
        | inr flat ↦
            let before : f (place - 1) ≡ f place = ap f (omega arith) ∙ flat.1 ∙ here in
            let on = flat_on m place (omega (arith, flat.0)) (omega arith) before in
            omega (arith, on, end, here, start)
      ]

pub numbers_are_read_between : NumbersAreReadBetween
numbers_are_read_between numbers low high place rise within none from upto = read numbers low high rise within none place from upto
