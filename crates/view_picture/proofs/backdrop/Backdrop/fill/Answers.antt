use Rattle.std.specs.Prelude.{[]}
use Rattle.view_picture.specs.Backdrops.HasNoBlock.{rect}
use Rattle.view_picture.proofs.ShownBlocks.{HasNoBlock-drawn}
use Rattle.view_picture.proofs.backdrop.Backdrop.fill.Goals as goal

pub invariant_of-self : goal.invariant_of-self
invariant_of-self c =
    HasNoBlock-drawn
    c.rect.result
    c.rect.ensures.drawn
    c.rect.ensures.memory
    c.self.invariant
    (rect c.self.inside.drawing c.args.class.now c.args.frame [] c.requires.named c.self.invariant)
