use Rattle.std.proofs.Common.{◌≡◌, ◌++◌, take}
use Rattle.view_picture.specs.Marks.{marks_text}
use Rattle.view_picture.proofs.row_marks.draw_row_marks.Given as goal

abbrev pub invariant-loop-mark : goal.invariant-loop-mark
invariant-loop-mark l =
    l.backdrop ≡ l.initial.backdrop ++ marks_text l.fn.times l.fn.top (take l.mark-index l.marks)
