-- The lines of a set tell its supply.
use Rattle.std.proofs.Common.{◌≡◌, ℕ, zero, suc, ◌+◌, ◌-◌, ◌<◌, ◌≤◌, min, Bool, true, false, List, [], ◌∷◌, length, map, slice_index, refl, sym, ap, subst, ◌∙◌, inl, inr, arith}
use Rattle.std.specs.Prelude.{filter, nat_le}
use Rattle.std.specs.List.{AllByRecursion, range_with_len}
use Rattle.std.proofs.lemmas.Bool.{both_ways, cases_eq, cases_lt, eq-eqb}
use Rattle.std.proofs.lemmas.Bool.Decides.{nat_tests}
use Rattle.std.proofs.lemmas.List.Elements.{All-from_recursion}
use Rattle.std.proofs.lemmas.List.FromFn.{get_or-map-range_with_len, length-map-range_with_len}
use Rattle.slot_core.specs.declared.tasks.TaskSet.{TaskSet}
use Rattle.slot_core.specs.Sets.Cycles.{cycle_of}
use Rattle.slot_core.specs.Sets.Ranges.{is_sound}
use Rattle.slot_core.specs.Feasibility.Feasible.{IsFeasible}
use Rattle.slot_facts.proofs.Offline.Jobs.{cycle-positive}
use Rattle.supply_laws.specs.Windows.{IsSupply}
use Rattle.supply_laws.specs.Laws.{SupplyIsTheMost}
use Rattle.supply_find.specs.declared.supply.Supply.{Supply}
use Rattle.supply_find.specs.Found.{supply_of, supply_slots, SupplyIsFound, SupplyRisesSlowly}
use Rattle.supply_find.specs.Stairs.{is_flat_end, NumbersAreReadBetween, RiseSlowly}
use Rattle.supply_lines.proofs.Tables.{ends-inside}
use Rattle.supply_lines.specs.Lines.{ends_of, lines_of, read_from, read_at, IsExact, TellSupply, LineTellsWithin, LinesTellSupply}

-- ---- the numbers of a table are read of the lines at its flat ends

module _ (numbers : List ℕ) (line : ℕ → Supply) (between : NumbersAreReadBetween) (rise : RiseSlowly numbers) (tells : (k : ℕ) → k < length numbers → (line k).slots ≡ slice_index numbers k) where
  abbrev f : ℕ → ℕ
  f k = slice_index numbers k

  abbrev pair : ℕ → ℕ × Supply
  pair k = (k, line k)

  abbrev ends : ℕ → ℕ → List ℕ
  ends a n = filter (is_flat_end numbers) (range_with_len a n)

  -- the last place is an end
  last-end : (k : ℕ) → k + 1 ≡ length numbers → is_flat_end numbers k ≡ true
  last-end k last = rw (eq-eqb (k + 1) (length numbers) last) refl

  near-true : (a b : ℕ) → nat_le a b ≡ true → a ≤ b
  near-true a b is = grind (arith, nat_tests)

  near-false : (a b : ℕ) → nat_le a b ≡ false → b < a
  near-false a b is = grind (arith, nat_tests)

  -- a line more, or none
  read-here : (low a within : ℕ) (rest : List ℕ) (near : Bool) → nat_le within a ≡ near → (within ≤ a → min (f a) (f low + (within - low)) ≡ f within) → (a < within → read_from a (f a) (map pair rest) within ≡ f within) → a < length numbers → read_from low (f low) (map pair (a ∷ rest)) within ≡ f within
  read-here low a within rest true is here later low_enough = rw is (ap (λ s. min s (f low + (within - low))) (tells a low_enough) ∙ here (near-true within a is))
  read-here low a within rest false is here later low_enough = rw is (ap (λ s. read_from a s (map pair rest) within) (tells a low_enough) ∙ later (near-false within a is))

  -- what is read after a line, of the ends from a place on
  abbrev IsRead : ℕ → ℕ → ℕ → ℕ → Type 0
  IsRead n low a within = read_from low (f low) (map pair (ends a n)) within ≡ f within

  step : (n low a within : ℕ) (b : Bool) → is_flat_end numbers a ≡ b → a < length numbers → ((k : ℕ) → low < k → k < a → is_flat_end numbers k ≡ false) → low ≤ within → (is_flat_end numbers a ≡ true → a < within → IsRead n a (a + 1) within) → (is_flat_end numbers a ≡ false → IsRead n low (a + 1) within) → IsRead (suc n) low a within
  step n low a within true is inside none from past over =
      rw is (
      read-here
      low
      a
      within
      (ends (a + 1) n)
      (nat_le within a)
      refl
      (λ near. sym (between numbers low a within rise inside none from near))
      (past is)
      inside
      )
  step n low a within false is inside none from past over = rw is (over is)

  -- no end lies between this place and the next
  none-yet : (low a k : ℕ) → is_flat_end numbers a ≡ false → ((k : ℕ) → low < k → k < a → is_flat_end numbers k ≡ false) → low < k → k < a + 1 → is_flat_end numbers k ≡ false
  none-yet low a k is none past early =
      elim (cases_lt k a) [
        | inl here ↦ none k past here
        | inr at ↦
            let same : a ≡ k = omega (arith, at, early) in
            subst (λ x. is_flat_end numbers x ≡ false) same is
      ]

  pub reads : (n low a within : ℕ) → a + n ≡ length numbers → low < a → ((k : ℕ) → low < k → k < a → is_flat_end numbers k ≡ false) → low ≤ within → within < length numbers → IsRead n low a within
  reads zero low a within all before none from upto =
      elim (cases_eq low within) [
        | inl same ↦ ap f same
        | inr apart ↦
            let k : ℕ = a - 1 in
            absurd (both_ways (is_flat_end numbers k) (none k (omega (arith, apart, from, upto, all)) (omega (arith, before))) (last-end k (omega (arith, all, before))))
      ]
  reads (suc n) low a within all before none from upto =
      step
      n
      low
      a
      within
      (is_flat_end numbers a)
      refl
      (omega (arith, all))
      none
      from
      (λ is far. reads n a (a + 1) within (omega (arith, all)) (omega arith) (λ k past early. absurd (omega (arith, past, early))) (omega (arith, far)) upto)
      (λ is. reads n low (a + 1) within (omega (arith, all)) (omega (arith, before)) (λ k past early. none-yet low a k is none past early) from upto)

-- ---- the lines of a set

module _ (found : SupplyIsFound) (slowly : SupplyRisesSlowly) (between : NumbersAreReadBetween) (most : SupplyIsTheMost) (set : TaskSet) (sound : is_sound set ≡ true) (feasible : IsFeasible set (cycle_of set)) where
  abbrev cycle : ℕ
  cycle = cycle_of set

  abbrev numbers : List ℕ
  numbers = map (supply_slots set) (range_with_len 0 (cycle + 1))

  long : length numbers ≡ cycle + 1
  long = length-map-range_with_len (supply_slots set) 0 (cycle + 1)

  at : (k : ℕ) → k ≤ cycle → slice_index numbers k ≡ supply_slots set k
  at k near = get_or-map-range_with_len (supply_slots set) 0 (cycle + 1) k k 0 (omega (arith, near)) (omega arith)

  rise : RiseSlowly numbers
  rise k within =
      let slow = slowly set k sound feasible in
      let here = at k (omega (arith, within, long)) in
      let next = at (k + 1) (omega (arith, within, long)) in
      (omega (arith, slow.0, here, next), omega (arith, slow.1, here, next))

  -- within no slots there is none
  start : slice_index numbers 0 ≡ 0
  start =
      let none = (found set 0 sound feasible (omega arith)).0.free 0 0 (cycle-positive set sound) (omega arith) (omega arith) in
      at 0 (omega arith) ∙ nothing (supply_slots set 0) _ none
    where
      nothing : (n need : ℕ) → n + need ≤ 0 - 0 → n ≡ 0
      nothing n need le = omega (arith, le)

  read-is : (within : ℕ) → within ≤ cycle → read_at (lines_of set) within ≡ supply_slots set within
  read-is within near =
      let read = reads numbers (supply_of set) between rise (λ k low. sym (at k (omega (arith, low, long)))) (length numbers - 1) 0 1 within (omega (arith, long)) (omega arith) (λ k past early. absurd (omega (arith, past, early))) (omega arith) (omega (arith, near, long)) in
      subst (λ n. read_from 0 n (lines_of set) within ≡ slice_index numbers within) start read ∙ at within near

  -- each line is exact
  each-exact : (ends : List ℕ) → AllByRecursion (λ k. k < cycle + 1) ends → AllByRecursion (IsExact set) (map (λ within. (within, supply_of set within)) ends)
  each-exact [] all = tt
  each-exact (k ∷ ends) all = (found set k sound feasible (omega (arith, all.0)), each-exact ends all.1)

  pub told : TellSupply set (lines_of set)
  told =
      let supply = λ (within : ℕ) (near : within ≤ cycle).
      let is : IsSupply set within (read_at (lines_of set) within) = subst (IsSupply set within) (sym (read-is within near)) (found set within sound feasible near).0 in
      is in
      record {
        exact = All-from_recursion (IsExact set) (lines_of set) (each-exact (ends_of set) (ends-inside set));
        read = supply;
        always = λ offer within some near. most set offer within (read_at (lines_of set) within) sound feasible some near (supply within near);
      }

pub tell-supply : SupplyIsFound → SupplyRisesSlowly → NumbersAreReadBetween → SupplyIsTheMost → LinesTellSupply
tell-supply found slowly between most set sound feasible = told found slowly between most set sound feasible

pub tells-within : SupplyIsFound → SupplyIsTheMost → LineTellsWithin
tells-within found most set within sound feasible some near =
    let exact = found set within sound feasible near in
    record {
      exact = exact;
      always = λ offer. most set offer within (supply_slots set within) sound feasible some near exact.0;
    }
