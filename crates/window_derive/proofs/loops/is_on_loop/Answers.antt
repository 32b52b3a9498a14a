-- One entry more.
use Rattle.std.proofs.Common.{◌≡◌, ◌+◌, ◌-◌, true, false, replicate, length, length-set, refl, sym, ap, ◌∙◌, arith, rules}
use Rattle.std.specs.List.{list_any, range_with_len}
use Rattle.slot_core.specs.declared.TheConstants.{TASK_LIMIT}
use Rattle.slot_core.specs.Offline.Precedence.{leads_to, is_on_loop}
use Rattle.window_derive.proofs.LoopLemmas.{leads_more, leads_none, any_here, any_later}
use Rattle.window_derive.proofs.loops.is_on_loop.Goals as goal

pub loop-entries-init : goal.loop-entries-init
loop-entries-init c =
    let tasks = c.args.tasks.now in
    let task = c.args.task in
    let whole : length tasks - 0 ≡ length tasks = omega arith in
    record {
      long = length-set (replicate TASK_LIMIT false) task true;
      leads = leads_none tasks (replicate TASK_LIMIT false) task refl (omega arith);
      left = ap (λ n. list_any (λ k. leads_to tasks k task task) (range_with_len 1 n)) whole;
    }

pub loop-entries-preserved : goal.loop-entries-preserved
loop-entries-preserved c =
    let tasks = c.args.tasks.now in
    let task = c.args.task in
    let k = c.loop-entries._entries in
    let leads = leads_more tasks c.one_entry_before-leading.result c.loop-entries.leading k task c.loop-entries.invariant.leads c.one_entry_before-leading.ensures in
    record {
      long = search rules;
      leads = leads;
      left = any_later (λ n. leads_to tasks n task task) (k + 1) (length tasks - k) (length tasks - (k + 1)) (is_on_loop tasks task) (omega arith) (sym (leads task) ∙ c.if-leading-task.false) c.loop-entries.invariant.left;
    }

pub returns-then-leading-task : goal.returns-then-leading-task
returns-then-leading-task c =
    let tasks = c.args.tasks.now in
    let task = c.args.task in
    let k = c.loop-entries._entries in
    let leads = leads_more tasks c.one_entry_before-leading.result c.loop-entries.leading k task c.loop-entries.invariant.leads c.one_entry_before-leading.ensures in
    any_here (λ n. leads_to tasks n task task) (k + 1) (length tasks - k) (length tasks - (k + 1)) (is_on_loop tasks task) (omega arith) (sym (leads task) ∙ c.if-leading-task.true) c.loop-entries.invariant.left

pub returns : goal.returns
returns c =
    let tasks = c.args.tasks.now in
    let task = c.args.task in
    let none : length tasks - c.loop-entries._entries ≡ 0 = omega arith in
    sym (ap (λ n. list_any (λ k. leads_to tasks k task task) (range_with_len (c.loop-entries._entries + 1) n)) none) ∙ c.loop-entries.invariant.left
