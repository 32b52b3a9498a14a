-- The rates of tasks that may all arrive from slot 0 on.
use Rattle.std.proofs.Common.{◌≡◌, true, List, [], ◌∷◌, map, refl, ap, arith}
use Rattle.std.specs.List.{list_all}
use Rattle.std.proofs.lemmas.Bool.{and_parts}
use Rattle.slot_core.specs.declared.TheConstants.{SLOT_LIMIT}
use Rattle.slot_core.specs.declared.tasks.Sporadic.{Sporadic}
use Rattle.slot_core.specs.Sets.Ranges.{sporadic_in_range}
use Rattle.slot_facts.proofs.Sets.Ranges.{bounds, SporadicRanges-from_test}
use Rattle.sporadic_reserve.specs.declared.rates.Rate.{Rate}
use Rattle.sporadic_reserve.specs.Reserves.{without_name}
use Rattle.sporadic_reserve.specs.Rates.{first_rate, reserved, task_of, AreSporadicRates, IsRate}

tasks_of-first : (ss : List Sporadic) → map task_of (map first_rate ss) ≡ map without_name ss
tasks_of-first [] = refl
tasks_of-first (s ∷ ss) = ap (λ xs. without_name s ∷ xs) (tasks_of-first ss)

nexts_of-first : (ss : List Sporadic) → map (λ (rate : Rate). rate.next) (map first_rate ss) ≡ map (λ (s : Sporadic). 0) ss
nexts_of-first [] = refl
nexts_of-first (s ∷ ss) = ap (λ xs. 0 ∷ xs) (nexts_of-first ss)

-- they stand for the tasks without their names, and next arrivals of 0
pub reserved-first : (ss : List Sporadic) → reserved (map first_rate ss) ≡ record { sporadics = map without_name ss; nexts = map (λ (s : Sporadic). 0) ss }
reserved-first ss =
    let tasks = tasks_of-first ss in
    let nexts = nexts_of-first ss in
    cc

IsRate-first : (s : Sporadic) → sporadic_in_range s ≡ true → IsRate (first_rate s)
IsRate-first s h =
    let ranges = SporadicRanges-from_test s h in
    let wcet = bounds 1 SLOT_LIMIT s.wcet ranges.wcet in
    let separation = bounds 1 SLOT_LIMIT s.separation ranges.separation in
    record {
      some = wcet.0;
      short = wcet.1;
      apart = separation.0;
      near = separation.1;
      within = ranges.deadline.1;
      soon = omega arith;
      inverse = refl;
    }

-- and their numbers are in range where those of the tasks are
pub AreSporadicRates-first : (ss : List Sporadic) → list_all sporadic_in_range ss ≡ true → AreSporadicRates (map first_rate ss)
AreSporadicRates-first [] h = tt
AreSporadicRates-first (s ∷ ss) h =
    let (here, later) = and_parts (sporadic_in_range s) (list_all sporadic_in_range ss) h in
    (IsRate-first s here, AreSporadicRates-first ss later)
