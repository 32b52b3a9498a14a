use Rattle.std.proofs.Common.{Ok, Err}
use Rattle.std.proofs.lemmas.Result.{err_from_is_err_and}
use Rattle.table_codec.proofs.TableLaws.{fault_of_plan, plan_of_parts}
use Rattle.table_codec.proofs.table.read_plan.Goals as goal

pub returns-in_err-plan-clause-reading : goal.returns-in_err-plan-clause-reading
returns-in_err-plan-clause-reading c =
    let after = c.read_source.new.input in
    let p = err_from_is_err_and c.from_residual-in_err-plan.result c.from_residual-in_err-plan.ensures.1 in
    rw (p.1, p.2) (λ other. fault_of_plan c.args.layout c.args.input.now after c.in_ok-set.set c.in_err-plan.field-0.0 c.in_ok-set.ensures.reading (c.in_err-plan.ensures.reading after other))

pub returns-in_err-check_stored-clause-reading : goal.returns-in_err-check_stored-clause-reading
returns-in_err-check_stored-clause-reading c =
    let after = c.read_source.new.input in
    let plan = c.in_ok-plan.plan in
    let p = err_from_is_err_and c.from_residual-in_err-check_stored.result c.from_residual-in_err-check_stored.ensures.1 in
    rw (p.1, p.2) (λ other. plan_of_parts c.args.layout c.args.input.now after after c.in_ok-set.set plan (Err c.in_err-check_stored.field-0.0) c.in_ok-set.ensures.reading (c.in_ok-plan.ensures.reading after) (c.in_err-check_stored.ensures other))

pub returns-clause-reading : goal.returns-clause-reading
returns-clause-reading c =
    let after = c.read_source.new.input in
    let plan = c.in_ok-plan.plan in
    plan_of_parts c.args.layout c.args.input.now after after c.in_ok-set.set plan (Ok (plan, c.check_stored.new.input)) c.in_ok-set.ensures.reading (c.in_ok-plan.ensures.reading after) c.in_ok-check_stored.ensures
