-- The sort puts them into the order in which they are carried over.
use Rattle.std.proofs.Common.{ap, rules, subst, sym, ◌∙◌}
use Rattle.std.specs.Ordering.{is_lt}
use Rattle.std.proofs.lemmas.Cmp.{nat_list_cmp_total}
use Rattle.std.proofs.lemmas.List.Sorted.{answers_always, ranks_by}
use Rattle.slot_core.specs.Keeping.Kept.{AreApart}
use Rattle.slot_facts.proofs.Lists.ApartKeys.{IsApart-from_count}
use Rattle.plan_change.specs.Carrying.{carrying_order, in_row_order}
use Rattle.plan_change.specs.Lists.{ListedJobs}
use Rattle.plan_change.proofs.RowOrder.{carrying_cmp, in_row_order-sorted}
use Rattle.plan_change.proofs.list.CarriedList.sort.Goals as goal

pub returns-clause-items : goal.returns-clause-items
returns-clause-items c =
    let apart = subst (λ (v : ListedJobs). AreApart v.items) (sym c.self.view_is) c.requires in
    let up = c.sort_unstable_by.ensures.sorted (λ a b. is_lt (carrying_cmp a b)) (ranks_by nat_list_cmp_total carrying_order) (answers_always _ _ _ (λ f a r g h. search rules)) in
    in_row_order-sorted c.self.inside.jobs.items c.sort_unstable_by.new.self.items (IsApart-from_count c.self.inside.jobs.items apart) c.sort_unstable_by.ensures.permutation up
    ∙ ap (λ (v : ListedJobs). in_row_order v.items) c.self.view_is
