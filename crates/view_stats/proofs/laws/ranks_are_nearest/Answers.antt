-- The order is that of the numbers.
use Rattle.std.proofs.Common.{sym}
use Rattle.view_stats.proofs.Ranks.{most-below, order-rises}
use Rattle.view_stats.proofs.Sorts.{ascending-sum}
use Rattle.view_stats.proofs.laws.ranks_are_nearest.Goals as goal

pub returns-clause-numbers : goal.returns-clause-numbers
returns-clause-numbers c = λ numbers f. sym (ascending-sum f numbers)

pub returns-clause-rise : goal.returns-clause-rise
returns-clause-rise c = order-rises

pub returns-clause-most : goal.returns-clause-most
returns-clause-most c = most-below
