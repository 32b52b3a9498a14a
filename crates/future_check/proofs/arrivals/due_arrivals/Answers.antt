-- The sort puts the arrivals in order.
use Rattle.std.proofs.Common.{◌≡◌, ◌++◌, ap, ◌∙◌, rules}
use Rattle.std.proofs.lemmas.Cmp.{nat_list_cmp_total}
use Rattle.std.proofs.lemmas.List.Sorted.{ranks_by, answers_always}
use Rattle.slot_core.specs.Claims.Futures.{densest_until}
use Rattle.future_check.specs.Explanations.{arrival_order, goes_before, in_time_order}
use Rattle.future_check.proofs.ArrivalOrder.{in_time_order-from_sorted}
use Rattle.future_check.proofs.arrivals.due_arrivals.Goals as goal

pub returns : goal.returns
returns g c =
    let listed : c.push_all.new.arrivals.items ≡ densest_until c.args.exec.now.plan.tasks c.args.exec.now.scene c.args.until = c.in_ok-push_all.ensures ∙ ap (λ xs. xs ++ densest_until c.args.exec.now.plan.tasks c.args.exec.now.scene c.args.until) c.new-arrivals.ensures.items in
    let up = c.sort_unstable_by.ensures.sorted goes_before (ranks_by nat_list_cmp_total arrival_order) (answers_always _ _ _ (λ f a r g h. search rules)) in
    in_time_order-from_sorted c.push_all.new.arrivals.items c.sort_unstable_by.new.self.items c.sort_unstable_by.ensures.permutation up
    ∙ ap in_time_order listed
