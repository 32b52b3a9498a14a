use Rattle.std.proofs.Common.{◌^◌, ◌<◌, get_or, ap, ◌∙◌}
use Rattle.std.proofs.lemmas.List.Elements.{All-same}
use Rattle.demand_test.proofs.test_ordered.Goals as goal

pub test_with-requires-clause-needed : goal.test_with-requires-clause-needed
test_with-requires-clause-needed c =
    λ x low. ap (λ xs. get_or xs x 0) c.items.ensures ∙ c.in_ok-needed.ensures.values x low

pub test_with-requires-clause-small : goal.test_with-requires-clause-small
test_with-requires-clause-small c =
    All-same (λ n. n < 2 ^ 63) c.items.result.now c.in_ok-needed.needed c.items.ensures c.in_ok-needed.ensures.small
