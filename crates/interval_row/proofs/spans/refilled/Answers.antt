use Rattle.std.proofs.Common.{FitsSigned, rules, w64}
use Rattle.std.proofs.lemmas.Int.{to_z-of_z}
use Rattle.interval_row.proofs.spans.refilled.Goals as goal

pub with_spare-requires : goal.with_spare-requires
with_spare-requires c =
    let fits : FitsSigned w64 c.args.after.spare = search rules in
    record { short = c.requires.short; borrows_few = rw (to_z-of_z w64 c.args.after.spare fits) c.requires.borrows_few }

pub returns : goal.returns
returns c =
    let fits : FitsSigned w64 c.args.after.spare = search rules in
    rw (to_z-of_z w64 c.args.after.spare fits) at c.with_spare.ensures
