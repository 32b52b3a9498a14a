use Rattle.view_picture.specs.Backdrops.HasNoBlock.{sample}
use Rattle.view_picture.proofs.ShownBlocks.{HasNoBlock-drawn}
use Rattle.view_picture.proofs.backdrop.Backdrop.sample.Goals as goal

pub invariant_of-self : goal.invariant_of-self
invariant_of-self c =
    HasNoBlock-drawn
    c.rect.result
    c.rect.ensures.drawn
    c.rect.ensures.memory
    c.self.invariant
    (sample c.self.inside.drawing c.args.class.now c.args.frame c.requires.low c.self.invariant)
