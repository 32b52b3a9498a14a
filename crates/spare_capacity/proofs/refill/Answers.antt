use Rattle.std.proofs.Common.{◌∙◌, ap, get_or, set, w64, rules, arith}
use Rattle.std.specs.Int.RustNames.{FitsSigned}
use Rattle.std.proofs.lemmas.Int.{ints, to_z-of_z}
use Rattle.spare_capacity.specs.Recurrence.{with_spare}
use Rattle.spare_capacity.proofs.Steps.{no_row, CanRefill-at, set_with_spare}
use Rattle.spare_capacity.proofs.refill.Goals as goal

pub with_spare-requires-clause-short : goal.with_spare-requires-clause-short
with_spare-requires-clause-short c = (CanRefill-at c.args.rows.now c.args.at c.requires.within c.requires.short).0

pub with_spare-requires-clause-borrows_few : goal.with_spare-requires-clause-borrows_few
with_spare-requires-clause-borrows_few c =
    omega (arith, ints, (CanRefill-at c.args.rows.now c.args.at c.requires.within c.requires.short).1)

pub returns : goal.returns
returns c =
    let rows = c.args.rows.now in
    let fits : FitsSigned w64 c.spare_from-later.result = search rules in
    let later = to_z-of_z w64 c.spare_from-later.result fits ∙ c.spare_from-later.ensures in
    let row = c.with_spare.ensures ∙ ap (with_spare (get_or rows c.args.at no_row)) later in
    ap (set rows c.args.at) row ∙ set_with_spare rows c.args.at c.requires.within
