use Rattle.view_picture.specs.Backdrops.HasNoBlock.{path}
use Rattle.view_picture.proofs.ShownBlocks.{HasNoBlock-drawn}
use Rattle.view_picture.proofs.backdrop.Backdrop.path.Goals as goal

pub invariant_of-self : goal.invariant_of-self
invariant_of-self c =
    HasNoBlock-drawn
    c.path.result
    c.path.ensures.drawn
    c.path.ensures.memory
    c.self.invariant
    (path
    c.self.inside.drawing
    c.args.class.now
    c.args.x
    c.args.y
    c.args.strokes.now
    c.args.title.now
    c.requires.named
    c.self.invariant)
