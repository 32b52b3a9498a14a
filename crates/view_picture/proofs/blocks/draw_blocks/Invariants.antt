use Rattle.std.proofs.Common.{take}
use Rattle.view_picture.specs.Blocks.{AreDrawn}
use Rattle.view_picture.proofs.blocks.draw_blocks.Given as goal

abbrev pub invariant-loop-block : goal.invariant-loop-block
invariant-loop-block l =
    AreDrawn l.fn.times l.fn.top (take l.block-index l.blocks) l.initial.drawing l.drawing
