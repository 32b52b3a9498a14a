-- Marks in rows.
use Rattle.std.specs.Prelude.{ℕ, ◌+◌, Bool, ◌&&◌, List, [], codes, flat_map, nat_le, if◌then◌else◌}
use Rattle.svg_text.specs.Shapes.{path_text}
use Rattle.view_picture.specs.declared.layout.TheConstants.{ROW}
use Rattle.view_picture.specs.declared.layout.Times.{Times}
use Rattle.view_picture.specs.declared.row_marks.Moment.{Moment}
use Rattle.view_picture.specs.declared.row_marks.Moment.TheVariants.{Release, Deadline}
use Rattle.view_picture.specs.declared.row_marks.RowMark.{RowMark}
use Rattle.view_picture.specs.Places.{after_steps, x_of}

-- the class of a mark
abbrev pub class_of : Moment → List ℕ
class_of Release = codes "release"
class_of Deadline = codes "deadline"

-- its strokes, from the upper edge of the row on: an arrow upwards, or one downwards
abbrev pub strokes_of : Moment → List ℕ
strokes_of Release = codes "m0 17v-16m-2.5 3l2.5 -3l2.5 3"
strokes_of Deadline = codes "m0 1v16m-2.5 -3l2.5 3l2.5 -3"

-- a mark lies in the picture: at an edge of one of its slots
abbrev pub is_seen : Times → RowMark → Bool
is_seen times mark = nat_le times.first mark.time && nat_le mark.time (times.first + times.slots)

-- a mark in its row, at the left edge of the slot of its time, where it lies in the picture
abbrev pub mark_text : Times → ℕ → RowMark → List ℕ
mark_text times top mark =
    if is_seen times mark then
    path_text
    (class_of mark.moment)
    (x_of times mark.time)
    (after_steps top mark.row ROW)
    (strokes_of mark.moment)
    []
    else []

-- marks one after the other
abbrev pub marks_text : Times → ℕ → List RowMark → List ℕ
marks_text times top marks = flat_map (mark_text times top) marks
