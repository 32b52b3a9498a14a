-- The longest chains after one task more are counted.
use Rattle.std.proofs.Common.{◌-◌, get_or, rules, arith}
use Rattle.slot_core.specs.declared.TheConstants.{TASK_LIMIT}
use Rattle.window_derive.proofs.ChainArrays.{place_within, longest_by-none, longest_by-small, longest_by-more, AreChainsAfter-from_all}
use Rattle.window_derive.proofs.chains.chains_after.Goals as goal

pub loop-place-init : goal.loop-place-init
loop-place-init c = record {
  long = search rules;
  raised = longest_by-none c.args.tasks.now c.args.order.now TASK_LIMIT;
}

pub raise_predecessors-requires-clause-task : goal.raise_predecessors-requires-clause-task
raise_predecessors-requires-clause-task c =
    place_within c.args.tasks.now c.args.order.now (c.loop-place.place - 1) c.requires.order (omega arith)

pub raise_predecessors-requires-clause-small : goal.raise_predecessors-requires-clause-small
raise_predecessors-requires-clause-small c =
    let order = c.args.order.now in
    let p = c.loop-place.place - 1 in
    omega (arith, c.loop-place.invariant.raised (get_or order p 0), longest_by-small c.args.tasks.now order c.loop-place.place p c.requires.orderable c.requires.order (omega arith) (omega arith))

pub loop-place-preserved : goal.loop-place-preserved
loop-place-preserved c =
    let p = c.loop-place.place - 1 in
    record {
      long = c.raise_predecessors.array_long;
      raised = λ u. longest_by-more c.args.tasks.now c.args.order.now c.loop-place.after c.raise_predecessors.new.after c.loop-place.place p u c.requires.orderable c.requires.order (omega arith) (omega arith) c.loop-place.invariant.raised (c.raise_predecessors.ensures u);
    }

pub returns : goal.returns
returns c =
    AreChainsAfter-from_all c.args.tasks.now c.args.order.now c.loop-place.after c.loop-place.place c.requires.orderable c.requires.order (omega arith) c.loop-place.invariant.raised
