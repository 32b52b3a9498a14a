-- Alarms in physical time, each handed over at the next boundary.
use Rattle.std.specs.Prelude.{◌≡◌, ℕ, ◌+◌, ◌*◌, ◌%◌, ◌≤◌, ◌<◌, true, List, [], length, map, slice_get, Some, Ok, All}
use Rattle.slot_core.specs.declared.tasks.Sporadic.{Sporadic}
use Rattle.slot_core.specs.declared.tasks.TaskSet.{TaskSet}
use Rattle.slot_core.specs.declared.events.Spo.TheVariants.{Taken}
use Rattle.slot_core.specs.declared.events.What.TheVariants.{Sporadic as SporadicEntry}
use Rattle.slot_core.specs.Sets.Cycles.{cycle_of}
use Rattle.slot_core.specs.Feasibility.Sporadics.{AreSpaced, times_of, IsLegalPattern}
use Rattle.slot_core.specs.Runs.Histories.{History, Follows, time_of}
use Rattle.slot_core.specs.Runs.Scenes.{scene_of}
use Rattle.slot_core.specs.Runs.Answers.{relative_deadline, sporadic_answer}
use Rattle.clock_units.specs.declared.sets.PhysicalSporadic.{PhysicalSporadic}
use Rattle.clock_units.specs.declared.sets.PhysicalSet.{PhysicalSet}
use Rattle.clock_units.specs.Rounding.{up}
use Rattle.clock_units.specs.Derived.{derived_set}

-- alarms, as pairs of a sporadic task and a time in nanoseconds, of which each task keeps its
-- separation
pub record AreKept (sporadics : List PhysicalSporadic) (alarms : List (ℕ × ℕ)) : Type 0 where
  pub named : All (λ (a : ℕ × ℕ). a.0 < length sporadics) alarms
  pub spaced :
      (index : ℕ) (s : PhysicalSporadic) → slice_get sporadics index ≡ Some s
      → AreSpaced s.separation 0 (times_of index alarms)

-- the same alarms, each at the next boundary
abbrev pub handed_over : ℕ → List (ℕ × ℕ) → List (ℕ × ℕ)
handed_over slot alarms = map (λ (a : ℕ × ℕ). (a.0, up slot a.1)) alarms

-- alarms that keep their separations are, handed over, a legal pattern of the derived set
abbrev pub AlarmsStayLegal : Type 0
AlarmsStayLegal =
    (physical : PhysicalSet) (set : TaskSet) (alarms : List (ℕ × ℕ))
    → derived_set physical ≡ Ok set → AreKept physical.sporadics alarms
    → IsLegalPattern set.sporadics [] 0 (handed_over physical.slot alarms)

-- it comes at a boundary
abbrev pub IsAtBoundary : ℕ → ℕ → Type 0
IsAtBoundary slot time = time % slot ≡ 0

-- an alarm whose job ends by its deadline in slots, counted from where it is handed over, ends by
-- its physical deadline
abbrev pub AlarmsAreInTime : Type 0
AlarmsAreInTime =
    (physical : PhysicalSet) (set : TaskSet) (index at end : ℕ) (own : PhysicalSporadic)
    (s : Sporadic)
    → derived_set physical ≡ Ok set
    → slice_get physical.sporadics index ≡ Some own → slice_get set.sporadics index ≡ Some s
    → (own.at_boundaries ≡ true → IsAtBoundary physical.slot at)
    → end ≤ up physical.slot at + s.deadline
    → end * physical.slot ≤ at + own.deadline

-- each alarm of a task that a history took was handed over at the next boundary, at least a
-- separation before this time
abbrev pub CameBefore : ℕ → ℕ → ℕ → ℕ → History → Type 0
CameBefore slot separation index at h =
    (row due : ℕ) (earlier : History) → Follows h (SporadicEntry row index (Taken due)) earlier
    → (before : ℕ) × (time_of earlier ≡ up slot before) × (before + separation ≤ at)

-- so an alarm that keeps its separation is taken, and never told to come later
abbrev pub AlarmsAreTaken : Type 0
AlarmsAreTaken =
    (physical : PhysicalSet) (set : TaskSet) (h : History) (index at : ℕ) (own : PhysicalSporadic)
    → derived_set physical ≡ Ok set → slice_get physical.sporadics index ≡ Some own
    → time_of h ≡ up physical.slot at
    → CameBefore physical.slot own.separation index at h
    → sporadic_answer set.sporadics (scene_of set (cycle_of set) h) index
    ≡ Taken (time_of h + relative_deadline set.sporadics index)
