-- The points of a cycle are those of the first one, so many cycles later.
use Rattle.std.proofs.Common.{◌≡◌, ℕ, zero, suc, ◌+◌, ◌-◌, ◌*◌, ◌%◌, ◌<◌, ◌≤◌, Bool, true, false, ◌&&◌, ◌||◌, ◌==◌, eqb, List, [], map, filter, refl, ap, ◌∙◌, ◌⊎◌, inl, inr, arith}
use Rattle.std.specs.Prelude.{nat_le}
use Rattle.std.specs.List.{range_with_len}
use Rattle.std.proofs.Math.Nat.{add-mul-mod_self_right, mod-eq_of_lt}
use Rattle.std.proofs.lemmas.Bool.{cases_lt, ne_eqb, le-leb, lt-leb, leb-true}
use Rattle.slot_core.specs.Runs.Points.{is_point}
use Rattle.slot_facts.proofs.Lists.Members.{Has}
use Rattle.slot_facts.proofs.Lists.Tests.{list_any-same}
use Rattle.slot_facts.proofs.Lists.RangeFilters.{filter-shifted}

-- a number at or after q is as far past a multiple of the cycle as one that is whole cycles later
at_cycle : (cycle n p q : ℕ) → q ≤ p → (p + n * cycle - q) % cycle ≡ (p - q) % cycle
at_cycle cycle n p q le =
    let distance : p + n * cycle - q ≡ p - q + n * cycle = omega arith in
    rw distance (add-mul-mod_self_right (p - q) n cycle)

-- a number before q, which is in the first cycle, is no whole cycles before or after q
no_earlier : (cycle n p q : ℕ) → 1 ≤ p → p < q → q ≤ cycle → q ≤ p + suc n * cycle → (p + suc n * cycle - q) % cycle ≡ 0 → ⊥
no_earlier cycle n p q some lt most le even =
    let distance : p + suc n * cycle - q ≡ p + cycle - q + n * cycle = omega arith in
    let low : p + cycle - q < cycle = omega arith in
    let rest : (p + suc n * cycle - q) % cycle ≡ p + cycle - q = rw distance (add-mul-mod_self_right (p + cycle - q) n cycle ∙ mod-eq_of_lt low) in
    absurd (omega arith)

later_test : (cycle n p q : ℕ) → 1 ≤ p → q ≤ cycle → (nat_le q (p + n * cycle) && (p + n * cycle - q) % cycle == 0) ≡ (nat_le q p && (p - q) % cycle == 0)
later_test cycle n p q some most = by_order (cases_lt p q)
  where
    later : (n : ℕ) → p < q → nat_le q (p + n * cycle) ≡ true → eqb ((p + n * cycle - q) % cycle) 0 ≡ false
    later zero lt passes = absurd (omega (arith, leb-true q (p + 0 * cycle) passes))
    later (suc n) lt passes = ne_eqb ((p + suc n * cycle - q) % cycle) 0 (no_earlier cycle n p q some lt most (leb-true q (p + suc n * cycle) passes))

    by_test : (b : Bool) → nat_le q (p + n * cycle) ≡ b → p < q → (b && (p + n * cycle - q) % cycle == 0) ≡ false
    by_test true e lt = later n lt e
    by_test false e lt = refl

    by_order : (p < q) ⊎ (q ≤ p) → (nat_le q (p + n * cycle) && (p + n * cycle - q) % cycle == 0) ≡ (nat_le q p && (p - q) % cycle == 0)
    by_order (inl lt) = rw (lt-leb q p lt) (by_test (nat_le q (p + n * cycle)) refl lt)
    by_order (inr le) =
        rw (le-leb q p le, le-leb q (p + n * cycle) (omega arith), at_cycle cycle n p q le) refl

-- points come back every cycle, where the planned ones lie in the first
pub is_point-later : (cycle : ℕ) (planned : List ℕ) (n p : ℕ) → ((q : ℕ) → Has planned q → q ≤ cycle) → 1 ≤ p → is_point cycle planned [] (p + n * cycle) ≡ is_point cycle planned [] p
is_point-later cycle planned n p within some =
    ap
    (λ b. b || false)
    (list_any-same
    (λ q. nat_le q (p + n * cycle) && (p + n * cycle - q) % cycle == 0)
    (λ q. nat_le q p && (p - q) % cycle == 0)
    planned
    (λ q at. later_test cycle n p q some (within q at)))

-- the points of cycle n are those of the first, n cycles later
pub points_of_cycle : (cycle : ℕ) (planned : List ℕ) (n a : ℕ) → ((q : ℕ) → Has planned q → q ≤ cycle) → a ≡ 1 + n * cycle → filter (is_point cycle planned []) (range_with_len a cycle) ≡ map (λ e. e + n * cycle) (filter (is_point cycle planned []) (range_with_len 1 cycle))
points_of_cycle cycle planned n a within at =
    filter-shifted (is_point cycle planned []) 1 a (n * cycle) cycle at (λ p some. is_point-later cycle planned n p within some)
