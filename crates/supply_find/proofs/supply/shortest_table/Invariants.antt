use Rattle.supply_find.proofs.Tables.{IsSearched}
use Rattle.supply_find.proofs.supply.shortest_table.Given as goal

abbrev pub invariant-loop-place : goal.invariant-loop-place
invariant-loop-place l = IsSearched l.numbers l.place l.best l.shortest.items

abbrev pub decreases-loop-place : goal.decreases-loop-place
decreases-loop-place l = l.place
