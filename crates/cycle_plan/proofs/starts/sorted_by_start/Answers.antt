-- The sort goes by the order of starts.
use Rattle.std.proofs.Common.{rules}
use Rattle.std.specs.Ordering.{is_lt}
use Rattle.std.proofs.lemmas.List.Sorted.{answers_always}
use Rattle.cycle_plan.specs.StartOrder.{start_cmp}
use Rattle.cycle_plan.proofs.StartsInOrder.{start_cmp-orders}
use Rattle.cycle_plan.proofs.starts.sorted_by_start.Goals as goal

pub returns-clause-ordered : goal.returns-clause-ordered
returns-clause-ordered c =
    c.sort_unstable_by.ensures.sorted
    (λ a b. is_lt (start_cmp a b))
    start_cmp-orders
    (answers_always _ _ _ (λ f a r g h. search rules))
