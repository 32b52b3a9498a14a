use Rattle.std.proofs.Common.{subst, sym}
use Rattle.view_picture.specs.Backdrops.{HasNoBlock}
use Rattle.view_picture.specs.Backdrops.HasNoBlock.{nothing}
use Rattle.view_picture.proofs.backdrop.Backdrop.new.Goals as goal

pub invariant_of-result : goal.invariant_of-result
invariant_of-result c = subst HasNoBlock (sym c.new.ensures) nothing
