use Rattle.view_picture.proofs.ShownBlocks.{AreDrawn-more}
use Rattle.view_picture.proofs.blocks.draw_blocks.Goals as goal

pub loop-block-preserved : goal.loop-block-preserved
loop-block-preserved c =
    AreDrawn-more
    c.args.times.now
    c.args.top
    c.args.blocks.now
    c.loop-block.block-index
    c.block-item.result
    c.is_second-second.result
    c.args.drawing.now
    c.loop-block.drawing
    c.draw_block.new.drawing
    c.loop-block-test.true
    c.block-item.is
    c.loop-block.invariant
    c.in_ok-draw_block.ensures
