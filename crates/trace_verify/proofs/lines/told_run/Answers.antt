-- What a line says ran is what it is read as, where that may run.
use Rattle.std.proofs.Common.{sym, ◌∙◌}
use Rattle.trace_verify.proofs.LineFacts.{known-in_set, read_as, told_by-none, told_by-run}
use Rattle.trace_verify.proofs.lines.told_run.Goals as goal

pub ready_run-requires-clause-known : goal.ready_run-requires-clause-known
ready_run-requires-clause-known c =
    known-in_set c.args.tasks.now c.in-Some.ran (((c.read_run.ensures.exact c.in-Some.ran).0 c.in-Some.is).known)

pub returns-in-Some-clause-told : goal.returns-in-Some-clause-told
returns-in-Some-clause-told c = λ cycle.
    let read = sym (read_as c.args.tasks.now c.args.line.now c.read_run.result c.requires.sound c.read_run.ensures.exact) ∙ c.in-Some.is in
    rw (told_by-run c.args.tasks.now cycle c.args.checker.now.scene c.args.n c.args.line.now c.in-Some.ran read) c.ready_run.ensures.told

pub returns-in-None-clause-told : goal.returns-in-None-clause-told
returns-in-None-clause-told c = λ cycle other.
    let read = sym (read_as c.args.tasks.now c.args.line.now c.read_run.result c.requires.sound c.read_run.ensures.exact) ∙ c.in-None.is in
    told_by-none c.args.tasks.now cycle c.args.checker.now.scene c.args.n c.args.line.now read
