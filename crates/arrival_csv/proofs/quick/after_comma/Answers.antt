use Rattle.std.proofs.Common.{arith}
use Rattle.arrival_csv.proofs.QuickLemmas.{GoesOn-at_comma}
use Rattle.arrival_csv.proofs.quick.after_comma.Goals as goal

pub returns : goal.returns
returns c = GoesOn-at_comma c.args.text.now c.args.place (omega (arith, c.if-place-text.false)) c.if-text-place-ne44.false
