-- Plans of the examples, and sets that have none: each holds by computing the definitions.
use Rattle.std.specs.Prelude.{◌≡◌, ℕ, ℤ, pos, negsuc, [], ◌∷◌, codes, Option, Some, None, refl}
use Rattle.std.specs.Fmt.{digits}
use Rattle.slot_core.specs.declared.jobs.Span.{Span}
use Rattle.slot_core.specs.declared.jobs.Window.{Window}
use Rattle.slot_core.specs.Sets.Cycles.{cycle_of}
use Rattle.slot_core.specs.Feasibility.Feasible.{counterexample}
use Rattle.slot_core.specs.Keeping.Plans.{plan_spans}
use Rattle.slot_core.specs.Output.Reports.{check_line}
use Rattle.sample_sets.specs.Sets.{pair_set, offset_set, alarm_set, flight_set, crowded_set, overlong_set, two_alarms_set, long_chain_set}

abbrev span : ℕ → ℕ → ℕ → ℤ → Span
span start end work spare = record { start = start; end = end; work = work; spare = spare }

abbrev window : ℕ → ℕ → ℕ → Option Window
window from until demand = Some (record { from = from; until = until; demand = demand })

-- the spans of the flight controller's plan, with works and capacities
pub flight_spans :
    plan_spans flight_set 40
    ≡ span 0 8 1 (pos 7)
    ∷ span 8 9 1 (pos 0)
    ∷ span 9 10 1 (pos 0)
    ∷ span 10 17 1 (pos 3)
    ∷ span 17 18 1 (negsuc 2)
    ∷ span 18 19 3 (negsuc 2)
    ∷ span 19 20 2 (negsuc 0)
    ∷ span 20 28 1 (pos 4)
    ∷ span 28 29 1 (negsuc 2)
    ∷ span 29 30 1 (negsuc 2)
    ∷ span 30 36 2 (negsuc 2)
    ∷ span 36 37 1 (negsuc 6)
    ∷ span 37 38 1 (negsuc 6)
    ∷ span 38 39 6 (negsuc 6)
    ∷ span 39 40 3 (negsuc 1)
    ∷ []
flight_spans = refl

-- what a check prints of it, and of a set with stretches without jobs
pub flight_check : check_line flight_set ≡ codes "feasible cycle 40 jobs 21 spans 15\n"
unfolding digits
flight_check = refl

pub offset_check : check_line offset_set ≡ codes "feasible cycle 6 jobs 1 spans 3\n"
unfolding digits
offset_check = refl

-- sets that pass the cycle test
pub pair_fits : counterexample pair_set 8 ≡ None
pair_fits = refl

pub alarm_fits : counterexample alarm_set 8 ≡ None
alarm_fits = refl

-- sets that fail it: two jobs in too short a window, a task longer than its cycle, two sporadic tasks
-- that may arrive in one slot, and a chain longer than its deadline
pub crowded_window : counterexample crowded_set (cycle_of crowded_set) ≡ window 5 7 3
crowded_window = refl

pub overlong_window : counterexample overlong_set (cycle_of overlong_set) ≡ window 0 2 3
overlong_window = refl

pub two_alarms_window : counterexample two_alarms_set (cycle_of two_alarms_set) ≡ window 0 1 2
two_alarms_window = refl

pub long_chain_window : counterexample long_chain_set (cycle_of long_chain_set) ≡ window 0 1 4
long_chain_window = refl
