use Rattle.std.proofs.Common.{get_or}
use Rattle.std.proofs.lemmas.List.{get_or_default}
use Rattle.view_picture.specs.declared.row_marks.Moment.TheVariants.{Release}
use Rattle.view_picture.specs.declared.row_marks.RowMark.{RowMark}
use Rattle.view_picture.proofs.ShownBlocks.{marks-more}
use Rattle.view_picture.proofs.row_marks.draw_row_marks.Goals as goal

pub loop-mark-preserved : goal.loop-mark-preserved
loop-mark-preserved c =
    let marks = c.args.marks.now in
    let i = c.loop-mark.mark-index in
    let none : RowMark = record { row = 0; time = 0; moment = Release } in
    let mark = get_or marks i none in
    marks-more
    c.args.times.now
    c.args.top
    marks
    i
    mark
    c.args.backdrop.now
    c.loop-mark.backdrop
    c.draw_row_mark.new.backdrop
    c.loop-mark-test.true
    (get_or_default marks i none mark c.loop-mark-test.true)
    c.loop-mark.invariant
    c.in_ok-draw_row_mark.ensures
