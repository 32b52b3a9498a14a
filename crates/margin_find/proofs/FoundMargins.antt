-- The margin that was found is the first growth that has a counterexample.
use Rattle.std.proofs.Common.{◌≡◌, ℕ, zero, suc, ◌+◌, ◌-◌, ◌*◌, ◌≤◌, ◌<◌, true, Option, None, Some, refl, subst, ap, arith}
use Rattle.std.specs.Prelude.{option_map}
use Rattle.std.proofs.Math.Nat.{mul-le-mul}
use Rattle.slot_core.specs.declared.faults.Part.{Part}
use Rattle.slot_core.specs.declared.jobs.Window.{Window}
use Rattle.slot_core.specs.declared.tasks.TaskSet.{TaskSet}
use Rattle.slot_core.specs.Claims.Growth.{IsMargin, StillFits, grown}
use Rattle.slot_core.specs.Feasibility.Feasible.{IsFeasible, counterexample, demand}
use Rattle.slot_core.specs.Sets.Cycles.{cycle_of}
use Rattle.slot_core.specs.Sets.Ranges.{is_sound}
use Rattle.slot_facts.proofs.Demand.Feasible.{IsFeasible-from_none, none-from_feasible}
use Rattle.slot_facts.proofs.Lists.FirstSome.{first_some-found}
use Rattle.slot_facts.proofs.Offline.Jobs.{cycle-positive}
use Rattle.margin_find.specs.declared.margin.TaskMargin.{TaskMargin}
use Rattle.margin_find.specs.Parts.{IsTaskOf, jobs_in_cycle}
use Rattle.margin_find.specs.Margins.{margin_of}
use Rattle.margin_find.specs.Laws.{EachTaskHasItsMargin}
use Rattle.margin_find.proofs.Growths.{IsMargin-from_search, cycle_stays, fits_itself}
use Rattle.margin_find.proofs.WholeCycle.{jobs_in_cycle-positive, whole-grows}

module _ (set : TaskSet) (sound : is_sound set ≡ true) where
  -- a growth with which the set still fits is at most the cycle
  growth-at_most : (part : Part) (growth : ℕ) → IsTaskOf set part → StillFits set part growth → growth ≤ cycle_of set
  growth-at_most part growth of fits =
      let cycle = cycle_of set in
      let stays : cycle_of (grown set part growth) ≡ cycle = cycle_stays set part growth in
      let some = cycle-positive set sound in
      let feasible : IsFeasible (grown set part growth) cycle = subst (λ c. IsFeasible (grown set part growth) c) stays fits in
      let whole : demand (grown set part growth) cycle 0 cycle ≤ cycle - 0 = feasible 0 cycle (omega (arith, some)) (omega (arith, some)) (omega arith) in
      let grows = whole-grows set part growth sound of in
      let each : 1 * growth ≤ jobs_in_cycle set cycle part * growth = mul-le-mul {n₂ = jobs_in_cycle set cycle part} {m₂ = growth} (jobs_in_cycle-positive set part sound of) (omega arith) in
      omega (arith, whole, grows, each)

  -- with a growth that still fits nothing is found
  none-from_fits : (part : Part) (growth : ℕ) → StillFits set part growth → counterexample (grown set part growth) (cycle_of (grown set part growth)) ≡ None
  none-from_fits part growth fits =
      let positive : 0 < cycle_of (grown set part growth) = omega (arith, cycle_stays set part growth, cycle-positive set sound) in
      none-from_feasible (grown set part growth) (cycle_of (grown set part growth)) positive fits

  -- a margin is the one of the definition
  pub margin_of-from_IsMargin : (m : TaskMargin) → IsTaskOf set m.at → IsMargin set m.at m.margin.growth m.margin.window → margin_of set m.at ≡ Some m
  margin_of-from_IsMargin m of is =
      let low : m.margin.growth < 0 + (cycle_of set + 1) = omega (arith, growth-at_most m.at m.margin.growth of (is.fits m.margin.growth (omega arith))) in
      let found = λ (g : ℕ). option_map (λ (w : Window). let r : TaskMargin = record { at = m.at; margin = record { growth = g; window = w } } in r) (counterexample (grown set m.at (g + 1)) (cycle_of (grown set m.at (g + 1)))) in
      let before = λ (g : ℕ) (from : 0 ≤ g) (less : g < m.margin.growth). ap (option_map (λ (w : Window). let r : TaskMargin = record { at = m.at; margin = record { growth = g; window = w } } in r)) (none-from_fits m.at (g + 1) (is.fits (g + 1) (omega (arith, less)))) in
      first_some-found found m 0 (cycle_of set + 1) m.margin.growth (omega arith) low before (ap (option_map (λ (w : Window). let r : TaskMargin = record { at = m.at; margin = record { growth = m.margin.growth; window = w } } in r)) is.first)

  -- from a growth that fits on, the first that has a counterexample is found within the cycle
  margin-from : (part : Part) → IsTaskOf set part → (n growth : ℕ) → growth + n ≡ cycle_of set + 1 → StillFits set part growth → (found : ℕ) × (window : Window) × IsMargin set part found window
  margin-from part of zero growth end fits = absurd (omega (arith, growth-at_most part growth of fits, end))
  margin-from part of (suc n) growth end fits =
      by_found (counterexample longer (cycle_of longer)) refl (λ none. margin-from part of n (growth + 1) (omega (arith, end)) (IsFeasible-from_none longer (cycle_of longer) none))
    where
      longer : TaskSet
      longer = grown set part (growth + 1)

      by_found : (o : Option Window) → counterexample longer (cycle_of longer) ≡ o → (counterexample longer (cycle_of longer) ≡ None → (found : ℕ) × (window : Window) × IsMargin set part found window) → (found : ℕ) × (window : Window) × IsMargin set part found window
      by_found None none later = later none
      by_found (Some window) found later =
          let positive : 0 < cycle_of longer = omega (arith, cycle_stays set part (growth + 1), cycle-positive set sound) in
          (growth, window, IsMargin-from_search set part growth window positive fits found)

-- each task of a feasible set has a margin
pub each_task_has_its_margin : EachTaskHasItsMargin
each_task_has_its_margin set part sound feasible of =
    let (growth, window, is) = margin-from set sound part of (cycle_of set + 1) 0 (omega arith) (fits_itself set part feasible) in
    let m : TaskMargin = record { at = part; margin = record { growth = growth; window = window } } in
    (m, margin_of-from_IsMargin set sound m of is, refl, is)
