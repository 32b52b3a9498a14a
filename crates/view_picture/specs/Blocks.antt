-- The blocks of a picture, and the runs that they stand for.
use Rattle.std.specs.Prelude.{◌≡◌, ℕ, ◌+◌, ◌-◌, ◌*◌, ◌≤◌, Bool, true, false, List, [], ◌∷◌, ◌++◌, codes, length}
use Rattle.run_blocks.specs.declared.blocks.Block.{Block}
use Rattle.run_blocks.specs.declared.rows.Row.{Row}
use Rattle.run_blocks.specs.Blocks.{AreApart, are_placed, blocks_runs}
use Rattle.run_blocks.specs.Rows.{AreRowsOf, have_few_firms, may_all_stand}
use Rattle.svg_text.specs.declared.drawing.Frame.{Frame}
use Rattle.svg_text.specs.Shapes.{document_text, rect_text}
use Rattle.trace_lines.specs.declared.line.KeyName.{KeyName}
use Rattle.trace_lines.specs.declared.line.KeyName.TheVariants.{Offline, Sporadic, Firm, Soft}
use Rattle.trace_lines.specs.declared.line.TraceLine.{TraceLine}
use Rattle.trace_lines.specs.Traces.{runs_of, slots_of, time_of_first}
use Rattle.view_picture.specs.declared.layout.TheConstants.{ABOVE, BLOCK, FAR, ROW}
use Rattle.view_picture.specs.declared.layout.Times.{Times}
use Rattle.view_picture.specs.declared.row_marks.RowMark.{RowMark}
use Rattle.view_picture.specs.Backdrops.{HasNoBlock}
use Rattle.view_picture.specs.Marks.{marks_text}
use Rattle.view_picture.specs.Places.{after_steps, x_of}
use Rattle.view_picture.specs.Styles.{style_sheet}
use Rattle.view_picture.specs.Titles.{block_title}

-- the shade of a block, which is its class: the kind of its job has a first one and a second one
abbrev pub shade_of : KeyName → Bool → List ℕ
shade_of (Offline graph task instance) false = codes "task-a"
shade_of (Offline graph task instance) true = codes "task-b"
shade_of (Sporadic name row) false = codes "alarm-a"
shade_of (Sporadic name row) true = codes "alarm-b"
shade_of (Firm row) false = codes "firm-a"
shade_of (Firm row) true = codes "firm-b"
shade_of (Soft row) false = codes "soft-a"
shade_of (Soft row) true = codes "soft-b"

-- where a block lies: from the left edge of its first slot up to a pixel before that of the slot
-- after it, in its row, which are counted from the top of the first one on
abbrev pub block_frame : Times → ℕ → Block → Frame
block_frame times top block = record {
  x = x_of times block.start;
  y = after_steps top block.row ROW + ABOVE;
  width = x_of times block.end - x_of times block.start - 1;
  height = BLOCK;
}

-- a block, in the first or in the second shade of the kind of its job, with its title
abbrev pub block_text : Times → ℕ → Block → Bool → List ℕ
block_text times top block second =
    rect_text (shade_of block.key.now second) (block_frame times top block) (block_title block)

-- blocks one after the other, each in its shade
abbrev pub blocks_text : Times → ℕ → List Block → List Bool → List ℕ
blocks_text times top (block ∷ blocks) (second ∷ seconds) =
    block_text times top block second ++ blocks_text times top blocks seconds
blocks_text times top blocks seconds = []

-- a drawing grows by these blocks, each in one of its two shades, and by nothing else
pub record AreDrawn (times : Times) (top : ℕ) (blocks : List Block) (before after : List ℕ)
    : Type 0 where
  pub seconds : List Bool
  pub each : length seconds ≡ length blocks
  pub drawn : after ≡ before ++ blocks_text times top blocks seconds

-- a document shows over rows these marks, and what lines run: it is a backdrop in which no element
-- is a block, and which ends with the marks, and then the blocks, which stand for a job and a slot exactly where a line runs that job in that slot,
-- each in the row of its job and joined where they go on, over slots that are at least 2 pixels
-- wide, so that a block is seen; the first slot is that of the first line, and each slot and each
-- row lies whole inside the document
pub record ShowsRuns
    (rows : List Row) (marks : List RowMark) (lines : List TraceLine) (document : List ℕ)
    : Type 0 where
  pub blocks : List Block
  pub seconds : List Bool
  pub times : Times
  pub top : ℕ
  pub width : ℕ
  pub height : ℕ
  pub front : List ℕ
  pub backdrop : List ℕ
  pub stands : blocks_runs blocks ≡ runs_of lines
  pub placed : are_placed rows blocks ≡ true
  pub apart : AreApart blocks
  pub begins : times.first ≡ time_of_first lines
  pub wide : 2 ≤ times.slot
  pub whole : times.left + slots_of lines * times.slot ≤ FAR
  pub right : times.left + slots_of lines * times.slot ≤ width
  pub low : top + length rows * ROW ≤ FAR
  pub bottom : top + length rows * ROW ≤ height
  pub bare : HasNoBlock backdrop
  pub marked : backdrop ≡ front ++ marks_text times top marks
  pub each : length seconds ≡ length blocks
  pub drawn :
      document ≡
      document_text width height style_sheet (backdrop ++ blocks_text times top blocks seconds)

-- rows of the jobs that run, one for each, but one for all firm jobs where many run
pub record AreRows (rows : List Row) (lines : List TraceLine) : Type 0 where
  pub own : AreRowsOf rows (runs_of lines)
  pub firms : may_all_stand (have_few_firms (runs_of lines)) rows ≡ true
