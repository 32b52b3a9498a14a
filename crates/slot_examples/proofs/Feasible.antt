-- Sets without and with a window of more demand than slots.
use Rattle.std.specs.Prelude.{◌≡◌, ℕ, ◌≤◌, [], ◌++◌, Some, refl}
use Rattle.std.proofs.Common.{arith}
use Rattle.slot_core.specs.Sets.Cycles.{cycle_of}
use Rattle.slot_core.specs.Offline.OfflineJobs.{cycle_jobs}
use Rattle.slot_core.specs.Feasibility.Feasible.{counterexample, IsFeasible}
use Rattle.slot_core.specs.Feasibility.Sporadics.{densest_pattern}
use Rattle.slot_core.specs.Claims.Futures.{pattern_jobs}
use Rattle.slot_core.specs.Runs.Demand.{work_from}
use Rattle.slot_facts.proofs.Demand.Feasible.{IsFeasible-from_none}
use Rattle.sample_sets.specs.Sets.{pair_set, crowded_set, late_half_set}

-- no window of the pair has more demand than slots
pub pair_is_feasible : IsFeasible pair_set 8
pair_is_feasible = IsFeasible-from_none pair_set 8 refl

-- from 5 to 7 the crowded set needs three of two slots
pub crowded_is_infeasible : IsFeasible crowded_set 10 → ⊥
crowded_is_infeasible feasible =
    let fits : 3 ≤ 2 = feasible 5 7 (omega arith) (omega arith) (omega arith) in
    omega arith

-- work that takes all of the second half of a cycle, beside an alarm that may come as it starts
pub late_half_window :
    counterexample late_half_set (cycle_of late_half_set)
    ≡ Some (record { from = 5; until = 10; demand = 6 })
late_half_window = refl

-- what the first cycle and a densest pattern from this time on need between 5 and 10
abbrev late_half_work : ℕ → ℕ
late_half_work from =
    work_from
    (cycle_jobs late_half_set 10 0
    ++ pattern_jobs
    late_half_set.sporadics
    1
    (densest_pattern 0 late_half_set.sporadics [] from 30))
    5
    10

-- of the five slots the densest pattern from 0 on leaves enough, that from 5 on does not
pub enough_for_the_pattern_from_0 : late_half_work 0 ≡ 5
enough_for_the_pattern_from_0 = refl

pub too_few_for_the_pattern_from_5 : late_half_work 5 ≡ 6
too_few_for_the_pattern_from_5 = refl
