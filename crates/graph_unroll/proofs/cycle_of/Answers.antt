-- What the running multiple says of the cycle.
use Rattle.std.proofs.Common.{sym, refl, arith}
use Rattle.std.proofs.lemmas.Result.{err_from_is_err_and}
use Rattle.slot_core.specs.Sets.Cycles.{cycle_lengths}
use Rattle.graph_unroll.proofs.MultipleLemmas.{along-ok, along-err}
use Rattle.graph_unroll.proofs.cycle_of.Goals as goal

pub returns-in_err-cycle-clause-exact : goal.returns-in_err-cycle-clause-exact
returns-in_err-cycle-clause-exact c =
    let p = err_from_is_err_and c.from_residual.result c.from_residual.ensures.1 in
    let err = along-err 1 (cycle_lengths c.args.tasks.now) c.in_err-cycle.field-0.0 c.requires (sym c.in_err-cycle.ensures) in
    rw p.1 (λ ok. cc, λ small. absurd (omega arith))

pub returns-in_err-cycle-clause-multiple : goal.returns-in_err-cycle-clause-multiple
returns-in_err-cycle-clause-multiple c =
    let p = err_from_is_err_and c.from_residual.result c.from_residual.ensures.1 in
    rw (p.1, p.2) (along-err 1 (cycle_lengths c.args.tasks.now) c.in_err-cycle.field-0.0 c.requires (sym c.in_err-cycle.ensures)).0

pub overflow_cast-result : goal.overflow_cast-result
overflow_cast-result c =
    let ok = along-ok 1 (cycle_lengths c.args.tasks.now) c.in_ok-cycle.cycle (omega arith) (sym c.in_ok-cycle.ensures) in
    omega arith

pub returns-clause-cycle : goal.returns-clause-cycle
returns-clause-cycle c =
    sym (along-ok 1 (cycle_lengths c.args.tasks.now) c.in_ok-cycle.cycle (omega arith) (sym c.in_ok-cycle.ensures)).0

pub returns-clause-exact : goal.returns-clause-exact
returns-clause-exact c =
    let ok = along-ok 1 (cycle_lengths c.args.tasks.now) c.in_ok-cycle.cycle (omega arith) (sym c.in_ok-cycle.ensures) in
    (λ _. omega arith, λ _. refl)
