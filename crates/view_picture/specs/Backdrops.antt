-- What is no block.
use Rattle.std.specs.Prelude.{◌≡◌, ℕ, true, List, [], ◌++◌, nat_lt}
use Rattle.svg_text.specs.declared.drawing.Frame.{Frame}
use Rattle.svg_text.specs.Content.{is_name}
use Rattle.svg_text.specs.Shapes.{label_text, path_text, rect_text}
use Rattle.view_picture.specs.declared.layout.TheConstants.{BLOCK}

-- no element of a drawing is a block: it is empty, or such a drawing and then strokes, words or a
-- rectangle, each of one class that is a name, which the class of no block is, or a sample of any
-- class, which is lower than a block and has no title
pub data HasNoBlock : List ℕ → Type 0 where
  nothing : HasNoBlock []
  path :
      (drawing class : List ℕ) (x y : ℕ) (strokes title : List ℕ) → is_name class ≡ true
      → HasNoBlock drawing → HasNoBlock (drawing ++ path_text class x y strokes title)
  label :
      (drawing class : List ℕ) (x y : ℕ) (words : List ℕ) → is_name class ≡ true
      → HasNoBlock drawing → HasNoBlock (drawing ++ label_text class x y words)
  rect :
      (drawing class : List ℕ) (frame : Frame) (title : List ℕ) → is_name class ≡ true
      → HasNoBlock drawing → HasNoBlock (drawing ++ rect_text class frame title)
  sample :
      (drawing class : List ℕ) (frame : Frame) → nat_lt frame.height BLOCK ≡ true
      → HasNoBlock drawing
      → HasNoBlock (drawing ++ rect_text class frame [])
