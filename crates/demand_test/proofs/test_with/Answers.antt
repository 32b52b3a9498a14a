use Rattle.std.proofs.Common.{◌≡◌, ℕ, ◌≤◌, List, Option, None, refl, sym, ap, ◌∙◌, arith}
use Rattle.std.specs.List.{range_with_len}
use Rattle.slot_core.specs.declared.jobs.Job.{Job}
use Rattle.slot_core.specs.declared.jobs.Window.{Window}
use Rattle.slot_core.specs.declared.tasks.Sporadic.{Sporadic}
use Rattle.slot_core.specs.Feasibility.Feasible.{window_demand, failing_window, first_some, first_failing_from, counterexample_in}
use Rattle.demand_test.specs.Verdicts.{verdict_of}
use Rattle.demand_test.proofs.CycleTotals.{window_demand-cycle}
use Rattle.demand_test.proofs.WindowSums.{none-from_fits}
use Rattle.demand_test.proofs.test_with.Goals as goal

-- what is found along the starts is the counterexample, where the whole cycle fits
counterexample-is : (jobs : List Job) (ss : List Sporadic) (cycle : ℕ) (o : Option Window) → window_demand jobs ss cycle 0 cycle ≤ cycle → o ≡ first_some (first_failing_from jobs ss cycle) (range_with_len 0 cycle) → o ≡ counterexample_in jobs ss cycle
counterexample-is jobs ss cycle o fits is =
    let whole : failing_window jobs ss cycle 0 cycle ≡ None = none-from_fits jobs ss cycle 0 cycle (omega arith) in
    let none : counterexample_in jobs ss cycle ≡ first_some (first_failing_from jobs ss cycle) (range_with_len 0 cycle) = rw whole refl in
    is ∙ sym none

pub first_failing-requires-clause-few : goal.first_failing-requires-clause-few
first_failing-requires-clause-few c =
    omega (arith, window_demand-cycle c.args.jobs.now c.args.sporadics.now c.args.cycle c.requires.within)

pub returns-in-Some : goal.returns-in-Some
returns-in-Some c =
    ap verdict_of (sym c.in-Some.is ∙ counterexample-is c.args.jobs.now c.args.sporadics.now c.args.cycle c.in_ok-window.field-0 c.requires.fits c.in_ok-window.ensures)

pub returns-in-None : goal.returns-in-None
returns-in-None c =
    ap verdict_of (sym c.in-None.is ∙ counterexample-is c.args.jobs.now c.args.sporadics.now c.args.cycle c.in_ok-window.field-0 c.requires.fits c.in_ok-window.ensures)
