use Rattle.std.proofs.Common.{refl}
use Rattle.spare_capacity.specs.Lending.{repaid}
use Rattle.spare_capacity.specs.Recurrence.{filled, first_spare}
use Rattle.spare_capacity.proofs.Lending.{filled-moved, repaid-carry}
use Rattle.spare_capacity.proofs.laws.lenders_are_repaid.Goals as goal

pub returns-clause-moved : goal.returns-clause-moved
returns-clause-moved c = filled-moved c.args.lenders.now c.args.old.now c.args.new.now c.requires.filled

pub returns-clause-carried : goal.returns-clause-carried
returns-clause-carried c =
    let old = c.args.old.now in
    let new = filled c.args.new.now in
    rw (filled-moved c.args.lenders.now old c.args.new.now c.requires.filled) (repaid-carry (repaid (first_spare old) (first_spare new)) c.args.lenders.now old new refl)
