-- A line tells the answer to an arrival exactly where it is the line of that answer.
use Rattle.std.proofs.Common.{rules, ◌≡◌, refl, sym, ap}
use Rattle.std.specs.Prelude.{Ok, Err}
use Rattle.slot_core.specs.Runs.Traces.{arrive}
use Rattle.trace_verify.specs.Verdicts.{told_by}
use Rattle.trace_verify.proofs.LineFacts.{line_in-differs, line_in-told}
use Rattle.trace_verify.proofs.lines.answer_line.Goals as goal

pub returns-in_err-same_line-clause-told : goal.returns-in_err-same_line-clause-told
returns-in_err-same_line-clause-told c =
    let plan = c.args.plan.now in
    let scene = c.args.checker.now.scene in
    let next = arrive c.args.arrival.row c.args.arrival.event in
    let line = c.args.line.now in
    let told : told_by plan.tasks plan.cycle scene c.args.n next line ≡ Ok c.in_ok-what.what = ap Ok (sym c.in_ok-what.ensures.told) in
    let fault : c.from_residual-in_err-same_line.result ≡ Err c.in_err-same_line.field-0.0 = search rules in
    rw fault (λ other. line_in-differs plan.tasks plan.cycle scene c.args.n next line c.in_ok-what.what c.time-time.result c.answer.new.self.scene told c.time-time.ensures c.in_ok-what.ensures.scene c.in_err-same_line.field-0.0 (c.in_err-same_line.ensures other))

pub returns-clause-told : goal.returns-clause-told
returns-clause-told c =
    let plan = c.args.plan.now in
    let scene = c.args.checker.now.scene in
    let next = arrive c.args.arrival.row c.args.arrival.event in
    let line = c.args.line.now in
    let told : told_by plan.tasks plan.cycle scene c.args.n next line ≡ Ok c.in_ok-what.what = ap Ok (sym c.in_ok-what.ensures.told) in
    (line_in-told plan.tasks plan.cycle scene c.args.n next line c.in_ok-what.what c.time-time.result c.answer.new.self.scene told c.time-time.ensures c.in_ok-what.ensures.scene c.in_ok-same_line.ensures refl, c.in_ok-what.ensures.scene)
