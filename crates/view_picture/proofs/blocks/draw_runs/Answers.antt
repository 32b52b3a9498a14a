use Rattle.std.proofs.Common.{◌≤◌, ◌++◌, ap, arith, length, subst, ◌∙◌}
use Rattle.svg_text.specs.Shapes.{document_text}
use Rattle.trace_lines.specs.Traces.{slots_of}
use Rattle.view_picture.specs.declared.layout.TheConstants.{ROW}
use Rattle.view_picture.specs.declared.style.TheConstants.{STYLE}
use Rattle.view_picture.specs.Blocks.{AreDrawn, blocks_text}
use Rattle.view_picture.proofs.ShownBlocks.{rows-near, steps-from, steps-inside, style-same}
use Rattle.view_picture.proofs.blocks.draw_runs.Goals as goal

pub returns : goal.returns
returns c =
    let before = c.in_ok-drawing.drawing in
    let after = c.draw_blocks.new.drawing in
    let grown =
    subst
    (λ blocks. AreDrawn c.args.times.now c.args.top blocks before after)
    c.as_slice.ensures.value
    c.in_ok-draw_blocks.ensures in
    let times = c.args.times.now in
    let low = rows-near c.args.rows.now c.args.top c.requires.high c.requires.few in
    let slots = slots_of c.args.lines.now in
    λ width height right bottom.
    record {
      front = c.args.backdrop;
      marked = c.in_ok-drawing.ensures.marked;
      blocks = c.in_ok-blocks.blocks.items;
      seconds = grown.seconds;
      times = times;
      top = c.args.top;
      width = width;
      height = height;
      backdrop = before;
      stands = c.in_ok-blocks.ensures.runs;
      placed = c.in_ok-blocks.ensures.placed;
      apart = c.in_ok-blocks.ensures.apart;
      begins = c.requires.first;
      wide = omega (arith, c.requires.wide);
      whole = c.requires.whole;
      right =
          steps-inside
          times.left
          slots
          times.slot
          width
          c.requires.whole
          (subst (λ x. x ≤ width) (steps-from times slots c.requires.count) right);
      low = low;
      bottom = steps-inside c.args.top (length c.args.rows.now) ROW height low bottom;
      bare = c.in_ok-drawing.ensures.bare;
      each = grown.each;
      drawn =
          ap (λ drawing. document_text width height STYLE.now drawing) grown.drawn
          ∙ ap (λ sheet. document_text width height sheet (before ++ blocks_text times c.args.top c.in_ok-blocks.blocks.items grown.seconds)) style-same;
    }
