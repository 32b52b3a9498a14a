use Rattle.std.proofs.Common.{◌≤◌, All, arith, rules}
use Rattle.slot_core.specs.declared.jobs.Job.{Job}
use Rattle.demand_test.proofs.CycleTotals.{window_demand-cycle}
use Rattle.library_tests.proofs.verdicts.verdict.Goals as goal

pub test-requires-clause-fits : goal.test-requires-clause-fits
test-requires-clause-fits c =
    let within : All (λ (j : Job). j.dl ≤ c.args.cycle) c.args.jobs.now = search rules in
    let whole = window_demand-cycle c.args.jobs.now c.args.sporadics.now c.args.cycle within in
    omega (arith, c.in_ok-declared.ensures, c.in_ok-arriving.ensures, c.in_ok-checked_add.ensures)
