-- The document shows the runs.
use Rattle.std.proofs.Common.{◌≡◌, ◌≤◌, arith, length, subst, sym}
use Rattle.std.proofs.lemmas.Result.{IfOk-weaker}
use Rattle.svg_text.specs.Shapes.{document_text}
use Rattle.view_picture.specs.declared.layout.TheConstants.{ROW}
use Rattle.view_picture.specs.declared.style.TheConstants.{STYLE}
use Rattle.view_picture.specs.Blocks.{ShowsRuns}
use Rattle.view_picture.specs.Places.{after_steps}
use Rattle.view_picture.proofs.trace_picture.drawn.Goals as goal

pub returns-clause-shows : goal.returns-clause-shows
returns-clause-shows c =
    let width = c.width_of-width.result in
    let height = c.height_of-height.result in
    let rows = c.args.rows.now in
    let marks = c.args.marks.now in
    let inside : after_steps c.new-heights.result.rows (length rows) ROW ≤ height =
    omega (arith, c.new-heights.ensures.below, c.height_of-height.ensures) in
    IfOk-weaker
    c.new.result
    (λ document. document ≡ document_text width height STYLE.now c.in_ok-drawing.drawing)
    (λ document. ShowsRuns rows marks c.args.lines.now document)
    (λ document is.
    subst (ShowsRuns rows marks c.args.lines.now) (sym is) (c.in_ok-drawing.ensures width height c.width_of-width.ensures inside))
    c.new.ensures.text
