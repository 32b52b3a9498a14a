-- The laws of the guaranteed supply: which firm requests are always accepted.
use Rattle.std.specs.Prelude.{◌≡◌, ◌↔◌, ℕ, ◌+◌, ◌-◌, ◌*◌, ◌≤◌, ◌<◌, true}
use Rattle.slot_core.specs.declared.jobs.Evidence.{Evidence}
use Rattle.slot_core.specs.declared.tasks.TaskSet.{TaskSet}
use Rattle.slot_core.specs.declared.events.Firm.TheVariants.{Accepted, NoRoom}
use Rattle.slot_core.specs.Sets.Cycles.{cycle_of}
use Rattle.slot_core.specs.Sets.Ranges.{is_sound}
use Rattle.slot_core.specs.Feasibility.Feasible.{IsFeasible}
use Rattle.slot_core.specs.Runs.Histories.{History, time_of}
use Rattle.slot_core.specs.Runs.Scenes.{scene_of}
use Rattle.slot_core.specs.Runs.Answers.{firm_answer}
use Rattle.slot_core.specs.Runs.Traces.{IsLegal}
use Rattle.supply_laws.specs.Requests.{used, firm_left, quiet}
use Rattle.supply_laws.specs.Spare.{AreSpare, AreSpareInCycle}
use Rattle.supply_laws.specs.Windows.{window_need, AreFree, IsSupply}

-- an offer of so many slots within so many is accepted at this history
abbrev pub IsAccepted : TaskSet → History → ℕ → ℕ → Type 0
IsAccepted set h offer within =
    firm_answer set.sporadics (cycle_of set) (scene_of set (cycle_of set) h) offer within ≡ Accepted

-- it is refused for want of room
abbrev pub IsRefused : TaskSet → History → ℕ → ℕ → Type 0
IsRefused set h offer within =
    (e : Evidence)
    × (firm_answer set.sporadics (cycle_of set) (scene_of set (cycle_of set) h) offer within
    ≡ NoRoom e)

-- the slots that the remaining firm jobs of a history have left
abbrev pub firm_left_at : TaskSet → History → ℕ
firm_left_at set h = firm_left (scene_of set (cycle_of set) h)

-- an offer in reach is accepted at every legal history at which it, the slots that firm jobs have
-- left and the slots that requested jobs used are no more than windows of as many slots more leave
-- free
abbrev pub SupplyIsGuaranteed : Type 0
SupplyIsGuaranteed =
    (set : TaskSet) (h : History) (offer within slots : ℕ)
    → is_sound set ≡ true → IsFeasible set (cycle_of set) → IsLegal set (cycle_of set) h
    → 1 ≤ within → within ≤ cycle_of set
    → AreFree set (within + used h) slots
    → offer + firm_left_at set h + used h ≤ slots
    → IsAccepted set h offer within

-- what the history in which nothing arrives is: legal, so many slots long, and without requests
pub record IsQuiet (set : TaskSet) (a : ℕ) (h : History) : Type 0 where
  pub legal : IsLegal set (cycle_of set) h
  pub time : time_of h ≡ a
  pub unused : used h ≡ 0
  pub none : firm_left_at set h ≡ 0

-- it is refused after the quiet slots up to the start of a window that leaves less free
abbrev pub SupplyIsExact : Type 0
SupplyIsExact =
    (set : TaskSet) (offer within a x : ℕ)
    → is_sound set ≡ true → IsFeasible set (cycle_of set)
    → 1 ≤ within → within ≤ cycle_of set
    → a < cycle_of set → a + within ≤ x → x ≤ 3 * cycle_of set
    → x - a < offer + window_need set 3 a x
    → IsQuiet set a (quiet set a) × IsRefused set (quiet set a) offer within

-- windows that start in the first cycle and end in the first three are all that count
abbrev pub TheseWindowsAreAll : Type 0
TheseWindowsAreAll =
    (set : TaskSet) (within slots : ℕ)
    → is_sound set ≡ true → IsFeasible set (cycle_of set) → within ≤ cycle_of set
    → ((a x : ℕ) → a < cycle_of set → a + within ≤ x → x ≤ 3 * cycle_of set
    → slots + window_need set 3 a x ≤ x - a)
    → AreFree set within slots

-- the supply is the most that is always accepted: an offer in reach is no more exactly where it is
-- accepted at every legal history in which no firm job remains and no requested job ran since the
-- processor last was idle
abbrev pub SupplyIsTheMost : Type 0
SupplyIsTheMost =
    (set : TaskSet) (offer within slots : ℕ)
    → is_sound set ≡ true → IsFeasible set (cycle_of set)
    → 1 ≤ within → within ≤ cycle_of set → IsSupply set within slots
    → (offer ≤ slots
    ↔ ((h : History) → IsLegal set (cycle_of set) h → firm_left_at set h ≡ 0 → used h ≡ 0
    → IsAccepted set h offer within))

-- the supply is a budget at every legal history: an offer in reach is accepted where it, the slots
-- that firm jobs have left and the slots that requested jobs used are no more than the supply
abbrev pub SupplyIsABudget : Type 0
SupplyIsABudget =
    (set : TaskSet) (h : History) (offer within slots : ℕ)
    → is_sound set ≡ true → IsFeasible set (cycle_of set) → IsLegal set (cycle_of set) h
    → 1 ≤ within → within ≤ cycle_of set → IsSupply set within slots
    → offer + firm_left_at set h + used h ≤ slots
    → IsAccepted set h offer within

-- whatever soft work ran, an offer in reach is accepted where it and the slots that firm jobs have
-- left are no more than is spare
abbrev pub SpareIsGuaranteed : Type 0
SpareIsGuaranteed =
    (set : TaskSet) (h : History) (offer within slots : ℕ)
    → is_sound set ≡ true → IsFeasible set (cycle_of set) → IsLegal set (cycle_of set) h
    → 1 ≤ within → within ≤ cycle_of set
    → AreSpare set within slots
    → offer + firm_left_at set h ≤ slots
    → IsAccepted set h offer within

-- the times of one cycle are all that count
abbrev pub TheseTimesAreAll : Type 0
TheseTimesAreAll =
    (set : TaskSet) (within slots : ℕ)
    → is_sound set ≡ true → IsFeasible set (cycle_of set) → within ≤ cycle_of set
    → AreSpareInCycle set within slots
    → AreSpare set within slots
