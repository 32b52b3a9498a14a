use Rattle.supply_find.proofs.ReadBetween.{numbers_are_read_between}
use Rattle.supply_find.proofs.laws.numbers_are_read_between.Goals as goal

pub returns : goal.returns
returns c = numbers_are_read_between
