use Rattle.std.proofs.Common.{sym, ◌∙◌}
use Rattle.trace_verify.proofs.DueInOrder.{front-decides, InOrder-from_due}
use Rattle.trace_verify.proofs.JobEdits.{none_precedes}
use Rattle.trace_verify.proofs.jobs.has_no_predecessor.Goals as goal

pub returns-then-lists_none : goal.returns-then-lists_none
returns-then-lists_none c =
    c.if-lists_none.true ∙ sym (none_precedes c.args.tasks.now c.args.key c.args.jobs.now (c.lists_none.ensures c.if-lists_none.true))

pub returns-else-lists_none : goal.returns-else-lists_none
returns-else-lists_none c =
    c.none_before.ensures ∙ front-decides c.args.tasks.now c.args.key c.args.jobs.now c.requires.ordered (InOrder-from_due c.args.tasks.now c.args.jobs.now c.requires.in_order)
