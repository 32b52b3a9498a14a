-- Worked backdrops, and the place of a block.
use Rattle.std.specs.Prelude.{◌≡◌, ◌++◌, Bool, true, false, [], ◌∷◌, codes, refl}
use Rattle.std.specs.Borrow.{Bor}
use Rattle.run_blocks.specs.declared.blocks.Block.{Block}
use Rattle.svg_text.specs.declared.drawing.Frame.{Frame}
use Rattle.svg_text.specs.Content.{is_name}
use Rattle.svg_text.specs.Shapes.{label_text, path_text, rect_text}
use Rattle.trace_lines.specs.declared.line.KeyName.{KeyName}
use Rattle.trace_lines.specs.declared.line.KeyName.TheVariants.{Offline, Sporadic, Firm, Soft}
use Rattle.view_picture.specs.declared.layout.Times.{Times}
use Rattle.view_picture.specs.Backdrops.{HasNoBlock}
use Rattle.view_picture.specs.Backdrops.HasNoBlock.{nothing, path, label, rect, sample}
use Rattle.view_picture.specs.Blocks.{block_frame, blocks_text, shade_of}
use Rattle.view_picture.specs.Titles.{block_title}

-- a square
abbrev square : Frame
square = record {
  x = 8;
  y = 9;
  width = 12;
  height = 12;
}

-- the class of a block is no name
pub is_no_name : (key : KeyName) (second : Bool) → is_name (shade_of key second) ≡ false
is_no_name (Offline graph task instance) false = refl
is_no_name (Offline graph task instance) true = refl
is_no_name (Sporadic name row) false = refl
is_no_name (Sporadic name row) true = refl
is_no_name (Firm row) false = refl
is_no_name (Firm row) true = refl
is_no_name (Soft row) false = refl
is_no_name (Soft row) true = refl

-- nor are classes of which one is that of a block
pub are_no_name : is_name (codes "due task-a") ≡ false
are_no_name = refl

-- a mark is no block
pub a_mark : HasNoBlock (path_text (codes "mark") 8 9 (codes "m4 1l4 8h-8z") (codes "alarm"))
a_mark = path [] (codes "mark") 8 9 (codes "m4 1l4 8h-8z") (codes "alarm") refl nothing

-- words are none
pub a_label : HasNoBlock (label_text (codes "what") 8 9 (codes "slot"))
a_label = label [] (codes "what") 8 9 (codes "slot") refl nothing

-- the bar of a deadline is none
pub a_bar : HasNoBlock (rect_text (codes "due") square (codes "firm offer"))
a_bar = rect [] (codes "due") square (codes "firm offer") refl nothing

-- a box of the legend is lower and has no title, and is none
pub a_box : HasNoBlock (rect_text (codes "task-a") square [])
a_box = sample [] (codes "task-a") square refl nothing

-- words beside a box
pub a_sign :
    HasNoBlock
    (rect_text (codes "task-a") square [] ++ label_text (codes "sign") 27 18 (codes "one job"))
a_sign =
    label
    (rect_text (codes "task-a") square [])
    (codes "sign")
    27
    18
    (codes "one job")
    refl
    a_box

-- ten slots that are 16 wide, from 100 on
abbrev ten_slots : Times
ten_slots = record {
  first = 0;
  slots = 10;
  left = 100;
  slot = 16;
}

-- the slots 4 and 5 in the third row
abbrev two_slots : Bor KeyName → Block
two_slots key = record {
  row = 2;
  key = key;
  start = 4;
  end = 6;
}

-- and the slot 6 after them
abbrev one_slot : Bor KeyName → Block
one_slot key = record {
  row = 2;
  key = key;
  start = 6;
  end = 7;
}

-- where rows begin at 50, the block of the two begins 64 to the right of the first slot and 39
-- below that place, and is a pixel less than two slots wide
pub a_block :
    (key : Bor KeyName) → block_frame ten_slots 50 (two_slots key) ≡
    record {
      x = 164;
      y = 89;
      width = 31;
      height = 13;
    }
a_block key = refl

-- both blocks, in the first and in the second shade
pub two_blocks :
    (key next : Bor KeyName)
    → blocks_text ten_slots 50 (two_slots key ∷ one_slot next ∷ []) (false ∷ true ∷ []) ≡
    rect_text
    (shade_of key.now false)
    (record {
      x = 164;
      y = 89;
      width = 31;
      height = 13;
    })
    (block_title (two_slots key))
    ++ (rect_text
    (shade_of next.now true)
    (record {
      x = 196;
      y = 89;
      width = 15;
      height = 13;
    })
    (block_title (one_slot next))
    ++ [])
two_blocks key next = refl
