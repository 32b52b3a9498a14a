-- The lines of a set are those of a staircase.
use Rattle.std.proofs.Common.{◌≡◌, ◌≢◌, ℕ, zero, suc, ◌+◌, ◌-◌, ◌<◌, ◌≤◌, Bool, true, false, ◌&&◌, nat_lt, List, [], ◌∷◌, ◌++◌, length, map, refl, ap, subst, arith}
use Rattle.std.specs.Prelude.{filter, flat_map, nat_le}
use Rattle.std.specs.List.{range_with_len}
use Rattle.std.proofs.lemmas.Bool.{both_ways, eq-eqb}
use Rattle.std.proofs.lemmas.Bool.Decides.{nat_tests}
use Rattle.std.proofs.lemmas.List.FromFn.{length-map-range_with_len}
use Rattle.slot_core.specs.declared.TheConstants.{SLOT_LIMIT}
use Rattle.slot_core.specs.declared.tasks.TaskSet.{TaskSet}
use Rattle.slot_core.specs.Sets.Cycles.{cycle_of}
use Rattle.slot_core.specs.Sets.Ranges.{is_sound}
use Rattle.slot_core.specs.Feasibility.Feasible.{IsFeasible}
use Rattle.slot_facts.proofs.Offline.Jobs.{cycle-at_most, cycle-positive}
use Rattle.supply_find.specs.Found.{supply_of, supply_slots, SupplyIsFound, SupplyRisesSlowly}
use Rattle.supply_find.specs.Stairs.{is_flat_end}
use Rattle.supply_lines.specs.Lines.{ends_of, line_of}
use Rattle.view_stairs.specs.declared.lines.Step.{Step}
use Rattle.view_stairs.specs.Steps.{follows, foot, is_written, step_within, steps_of, steps_text, AreStairs, Leads, LinesAreStairs}
use Rattle.view_stairs.proofs.StepReads.{written-to}

-- a step may stand after another, from what it takes
may-follow : (low base within slots limit : ℕ) → low < within → within ≤ limit → base ≤ slots → slots ≤ base + (within - low) → (nat_lt low within && nat_le within limit && nat_le base slots && nat_le slots (base + (within - low))) ≡ true
may-follow low base within slots limit later near more slow = grind (arith, nat_tests)

-- the text of steps is that of their pairs
text-same : (set : TaskSet) (ends : List ℕ) → steps_text (map (step_within set) ends) ≡ flat_map line_of (map (λ within. (within, supply_of set within)) ends)
text-same set [] = refl
text-same set (k ∷ ends) = ap (λ l. line_of (k, supply_of set k) ++ l) (text-same set ends)

module _ (found : SupplyIsFound) (slowly : SupplyRisesSlowly) (set : TaskSet) (sound : is_sound set ≡ true) (feasible : IsFeasible set (cycle_of set)) where
  abbrev cycle : ℕ
  cycle = cycle_of set

  abbrev f : ℕ → ℕ
  f k = supply_slots set k

  abbrev numbers : List ℕ
  numbers = map (supply_slots set) (range_with_len 0 (cycle + 1))

  long : length numbers ≡ cycle + 1
  long = length-map-range_with_len (supply_slots set) 0 (cycle + 1)

  -- it rises by at most one a slot
  slow : (n k : ℕ) → (f k ≤ f (k + n)) × (f (k + n) ≤ f k + n)
  slow zero k =
      let same : f (k + 0) ≡ f k = ap f (omega arith) in
      (omega (arith, same), omega (arith, same))
  slow (suc n) k =
      let one = slowly set (k + n) sound feasible in
      let rest = slow n k in
      let same : f (k + n + 1) ≡ f (k + suc n) = ap f (omega arith) in
      (omega (arith, one, rest, same), omega (arith, one, rest, same))

  -- within no slots there is none
  start : f 0 ≡ 0
  start = nothing (f 0) _ ((found set 0 sound feasible (omega arith)).0.free 0 0 (cycle-positive set sound) (omega arith) (omega arith))
    where
      nothing : (n need : ℕ) → n + need ≤ 0 - 0 → n ≡ 0
      nothing n need le = omega (arith, le)

  abbrev step_at : ℕ → Step
  step_at = step_within set

  -- each step may be written
  written : (k : ℕ) → k ≤ cycle → is_written (step_at k) ≡ true
  written k near =
      let short = cycle-at_most set sound in
      let worst = (found set k sound feasible near).1 in
      let rise = slow k 0 in
      let same : f (0 + k) ≡ f k = ap f (omega arith) in
      written-to (step_at k) (
      record {
        within = omega (arith, near, short);
        slots = omega (arith, near, short, rise, same, start);
        from = omega (arith, worst.start, short);
        until = omega (arith, worst.end, short);
      }
      )

  -- and stands after each earlier one
  after : (low k : ℕ) → low < k → k ≤ cycle → follows (step_at low) (step_at k) ≡ true
  after low k later near =
      let short = cycle-at_most set sound in
      let rise = slow (k - low) low in
      let same : f (low + (k - low)) ≡ f k = ap f (omega arith) in
      may-follow low (f low) k (f k) SLOT_LIMIT later (omega (arith, near, short)) (omega (arith, rise, same)) (omega (arith, rise, same))

  abbrev ends : ℕ → ℕ → List ℕ
  ends a n = filter (is_flat_end numbers) (range_with_len a n)

  leads-here : (n low a : ℕ) (b : Bool) → is_flat_end numbers a ≡ b → low < a → a ≤ cycle → ((from : ℕ) → from < a + 1 → (last : Step) × Leads (step_at from) (map step_at (ends (a + 1) n)) last) → (last : Step) × Leads (step_at low) (map step_at (ends a (suc n))) last
  leads-here n low a true is later near rest =
      let (last, leads) = rest a (omega arith) in
      (last, rw is (written a near, after low a later near, leads))
  leads-here n low a false is later near rest =
      let (last, leads) = rest low (omega (arith, later)) in
      (last, rw is leads)

  leads : (n low a : ℕ) → a + n ≡ cycle + 1 → low < a → (last : Step) × Leads (step_at low) (map step_at (ends a n)) last
  leads zero low a all later = (step_at low, refl)
  leads (suc n) low a all later =
      leads-here n low a (is_flat_end numbers a) refl later (omega (arith, all)) (λ from before. leads n from (a + 1) (omega (arith, all)) before)

  -- the last place is an end
  some-here : (n a : ℕ) (b : Bool) → is_flat_end numbers a ≡ b → (b ≡ false → map step_at (ends (a + 1) n) ≢ []) → map step_at (ends a (suc n)) ≢ []
  some-here n a true is rest = λ empty. absurd (let none = rw is at empty in cc)
  some-here n a false is rest = λ empty. rest refl (rw is at empty)

  some : (n a : ℕ) → a + suc n ≡ cycle + 1 → map step_at (ends a (suc n)) ≢ []
  some zero a all =
      let last : is_flat_end numbers a ≡ true = rw (eq-eqb (a + 1) (length numbers) (omega (arith, all, long))) refl in
      some-here zero a (is_flat_end numbers a) refl (λ none. absurd (both_ways (is_flat_end numbers a) none last))
  some (suc n) a all = some-here (suc n) a (is_flat_end numbers a) refl (λ none. some n (a + 1) (omega (arith, all)))

  -- the first stands after the foot
  from-foot : (steps : List Step) (last : Step) → steps ≢ [] → Leads (step_at 0) steps last → Leads foot steps last
  from-foot [] last filled leads = absurd (filled refl)
  from-foot (s ∷ steps) last filled (is, stands, leads) = (
    is,
    subst (λ (n : ℕ). (nat_lt 0 s.within && nat_le s.within SLOT_LIMIT && nat_le n s.supply.slots && nat_le s.supply.slots (n + (s.within - 0))) ≡ true) start stands,
    leads,
  )

  pub stairs : AreStairs (steps_of set)
  stairs =
      let n : ℕ = length numbers - 1 in
      let m : ℕ = cycle - 1 in
      let positive = cycle-positive set sound in
      let same : suc m ≡ n = omega (arith, long, positive) in
      let filled : map step_at (ends 1 n) ≢ [] = subst (λ k. map step_at (ends 1 k) ≢ []) same (some m 1 (omega (arith, positive))) in
      let (last, led) = leads n 0 1 (omega (arith, long)) (omega arith) in
      (filled, last, from-foot (map step_at (ends 1 n)) last filled led)

pub are-stairs : SupplyIsFound → SupplyRisesSlowly → LinesAreStairs
are-stairs found slowly set sound feasible = (text-same set (ends_of set), stairs found slowly set sound feasible)
