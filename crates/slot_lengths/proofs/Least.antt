-- What a plan says: its set fits, and the least margin that is found is that of the definition.
use Rattle.std.proofs.Common.{◌≡◌, ℕ, true, List, [], ◌∷◌, map, refl, ap, subst, ◌∙◌}
use Rattle.std.specs.Prelude.{All, None}
use Rattle.std.proofs.lemmas.List.Elements.{All-head, All-tail}
use Rattle.slot_core.specs.declared.tasks.TaskSet.{TaskSet}
use Rattle.slot_core.specs.Claims.Growth.{IsMargin}
use Rattle.slot_core.specs.Feasibility.Feasible.{IsFeasible, counterexample}
use Rattle.slot_core.specs.Keeping.Plans.{IsPlan, PlanParts}
use Rattle.slot_core.specs.Sets.Cycles.{cycle_of}
use Rattle.slot_core.specs.Sets.Ranges.{is_sound}
use Rattle.margin_find.specs.declared.margin.TaskMargin.{TaskMargin}
use Rattle.margin_find.specs.Parts.{IsTaskOf}
use Rattle.margin_find.specs.Margins.{AreMargins, parts_of}
use Rattle.margin_find.proofs.FoundMargins.{margin_of-from_IsMargin}
use Rattle.margin_find.proofs.MarginLists.{tasks-AreMargins}
use Rattle.slot_facts.proofs.Demand.Feasible.{none-from_feasible}
use Rattle.slot_facts.proofs.Offline.Jobs.{cycle-positive}
use Rattle.clock_units.specs.declared.sets.PhysicalSet.{PhysicalSet}
use Rattle.slot_lengths.specs.declared.loads.Load.{Load}
use Rattle.slot_lengths.specs.declared.checks.SlotCheck.TheVariants.{Fits}
use Rattle.slot_lengths.specs.Checks.{sound_check}
use Rattle.slot_lengths.specs.Loads.{load_of}
use Rattle.slot_lengths.specs.Growths.{growth_in, growth_of, least_growth, least_of}

module _ (set : TaskSet) (sound : is_sound set ≡ true) where
  growths-of : (found : List TaskMargin) → All (λ (m : TaskMargin). IsTaskOf set m.at) found → All (λ (m : TaskMargin). IsMargin set m.at m.margin.growth m.margin.window) found → map growth_in found ≡ map (growth_of set) (map (λ (m : TaskMargin). m.at) found)
  growths-of [] of are = refl
  growths-of (m ∷ found) of are =
      let here = margin_of-from_IsMargin set sound m (All-head (λ (m : TaskMargin). IsTaskOf set m.at) m found of) (All-head (λ (m : TaskMargin). IsMargin set m.at m.margin.growth m.margin.window) m found are) in
      let more = growths-of found (All-tail (λ (m : TaskMargin). IsTaskOf set m.at) m found of) (All-tail (λ (m : TaskMargin). IsMargin set m.at m.margin.growth m.margin.window) m found are) in
      rw (here, more) refl

  pub least-from_margins : (found : List TaskMargin) → AreMargins set (parts_of set) found → least_of (map growth_in found) ≡ least_growth set
  least-from_margins found are =
      ap least_of (growths-of found (tasks-AreMargins set found are) are.margins ∙ ap (map (growth_of set)) are.places)

-- the set of a plan has no window that fails
pub none-from_plan : (plan : PlanParts) (set : TaskSet) → IsPlan plan → plan.tasks ≡ set → counterexample set (cycle_of set) ≡ None
none-from_plan plan set is same =
    let feasible : IsFeasible plan.tasks (cycle_of plan.tasks) = subst (IsFeasible plan.tasks) is.cycle is.feasible in
    subst (λ (s : TaskSet). counterexample s (cycle_of s) ≡ None) same (none-from_feasible plan.tasks (cycle_of plan.tasks) (cycle-positive plan.tasks is.sound) feasible)

-- what a set comes to that has none
pub fits-from_none : (physical : PhysicalSet) (set : TaskSet) (load : Load) (growth : ℕ) → counterexample set (cycle_of set) ≡ None → load ≡ load_of physical set → growth ≡ least_growth set → Fits load growth ≡ sound_check physical set
fits-from_none physical set load growth none is least = rw (none, is, least) refl
