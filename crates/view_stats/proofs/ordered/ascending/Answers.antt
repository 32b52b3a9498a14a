-- Sorted numbers are those in ascending order.
use Rattle.std.proofs.lemmas.List.Sorted.{IsNonDecreasingBy-from_sort}
use Rattle.view_stats.proofs.Sorts.{sorted-ascending}
use Rattle.view_stats.proofs.ordered.ascending.Goals as goal

pub returns : goal.returns
returns c =
    sorted-ascending _ _ c.sort_unstable.ensures.permutation (IsNonDecreasingBy-from_sort (λ x. x) _ c.sort_unstable.ensures.sorted)
