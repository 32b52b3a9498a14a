use Rattle.view_picture.specs.Backdrops.HasNoBlock.{label}
use Rattle.view_picture.proofs.ShownBlocks.{HasNoBlock-drawn}
use Rattle.view_picture.proofs.backdrop.Backdrop.label.Goals as goal

pub invariant_of-self : goal.invariant_of-self
invariant_of-self c =
    HasNoBlock-drawn
    c.label.result
    c.label.ensures.drawn
    c.label.ensures.memory
    c.self.invariant
    (label
    c.self.inside.drawing
    c.args.class.now
    c.args.x
    c.args.y
    c.args.words.now
    c.requires.named
    c.self.invariant)
