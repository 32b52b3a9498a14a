-- What is drawn behind the blocks, and block after block.
use Rattle.std.proofs.Common.{◌≡◌, ◌≤◌, ◌<◌, ◌+◌, ◌*◌, ℕ, Bool, List, [], ◌∷◌, ◌++◌, length, length-append, take, ap, append_assoc, append-nil, arith, refl, subst, sym, ◌∙◌, ◌-◌}
use Rattle.std.specs.Prelude.{Err, Ok, OnErr, OnOk, Result, get_or}
use Rattle.std.proofs.Math.Nat.{min-eq_left}
use Rattle.std.proofs.lemmas.List.{flat_map_more, take_more}
use Rattle.run_blocks.specs.declared.blocks.Block.{Block}
use Rattle.run_blocks.specs.declared.rows.Row.{Row}
use Rattle.view_picture.specs.declared.TheConstants.{MOST_ROWS}
use Rattle.view_picture.specs.declared.layout.TheConstants.{FAR, ROW, TOP_LIMIT}
use Rattle.view_picture.specs.declared.layout.Times.{Times}
use Rattle.view_picture.specs.Backdrops.{HasNoBlock}
use Rattle.view_picture.specs.declared.row_marks.RowMark.{RowMark}
use Rattle.view_picture.specs.Blocks.{AreDrawn, block_text, blocks_text}
use Rattle.view_picture.specs.Marks.{mark_text, marks_text}
use Rattle.view_picture.specs.Places.{after_steps, x_of}
use Rattle.view_picture.specs.Styles.{style_sheet}
use Rattle.view_picture.specs.declared.style.TheConstants.{STYLE}

-- a drawing with no block that becomes another one with none, or stays
pub HasNoBlock-drawn :
    {T E : Type 0} {before whole after : List ℕ} (result : Result T E)
    → OnOk result (after ≡ whole) → OnErr result (after ≡ before) → HasNoBlock before
    → HasNoBlock whole → HasNoBlock after
HasNoBlock-drawn (Ok value) grown same old new = subst HasNoBlock (sym grown) new
HasNoBlock-drawn (Err e) grown same old new = subst HasNoBlock (sym same) old

-- few rows end no further than a place may be
pub rows-near : (rows : List Row) (top : ℕ) → top ≤ TOP_LIMIT → length rows ≤ MOST_ROWS → top + length rows * ROW ≤ FAR
rows-near rows top high few = omega (arith, high, few)

-- slots from the first on are as many steps
pub steps-from : (times : Times) (slots : ℕ) → times.slots ≡ slots → x_of times (times.first + times.slots) ≡ after_steps times.left slots times.slot
steps-from times slots same =
    let count : times.first + times.slots - times.first ≡ slots = omega (arith, same) in
    ap (λ n. after_steps times.left n times.slot) count

-- the sheet that is written is the one of the definition
pub style-same : STYLE.now ≡ style_sheet
style-same = refl

-- steps that no place cuts off, and that end inside
pub steps-inside :
    (from count step edge : ℕ) → from + count * step ≤ FAR → after_steps from count step ≤ edge
    → from + count * step ≤ edge
steps-inside from count step edge near inside =
    subst (λ place. place ≤ edge) (min-eq_left near) inside

-- marks that are drawn, and one more
pub marks-more :
    (times : Times) (top : ℕ) (marks : List RowMark) (place : ℕ) (mark : RowMark)
    (before between after : List ℕ) → place < length marks → mark ≡ get_or marks place mark
    → between ≡ before ++ marks_text times top (take place marks)
    → after ≡ between ++ mark_text times top mark
    → after ≡ before ++ marks_text times top (take (place + 1) marks)
marks-more times top marks place mark before between after low is old grown =
    let front = take place marks in
    let longer = take_more marks place mark low ∙ ap (λ m. front ++ m ∷ []) (sym is) in
    grown
    ∙ ap (λ xs. xs ++ mark_text times top mark) old
    ∙ flat_map_more (mark_text times top) before front mark
    ∙ ap (λ ms. before ++ marks_text times top ms) (sym longer)

-- the text of blocks and one more
blocks_text-more :
    (times : Times) (top : ℕ) (blocks : List Block) (seconds : List Bool) (block : Block)
    (second : Bool) → length seconds ≡ length blocks
    → blocks_text times top (blocks ++ block ∷ []) (seconds ++ second ∷ [])
    ≡ blocks_text times top blocks seconds ++ block_text times top block second
blocks_text-more times top [] [] block second each = append-nil (block_text times top block second)
blocks_text-more times top (b ∷ blocks) (s ∷ seconds) block second each =
    let rest : length seconds ≡ length blocks = omega (arith, each) in
    ap
    (λ xs. block_text times top b s ++ xs)
    (blocks_text-more times top blocks seconds block second rest)
    ∙ sym
    (append_assoc
    (block_text times top b s)
    (blocks_text times top blocks seconds)
    (block_text times top block second))
blocks_text-more times top [] (s ∷ seconds) block second each = absurd (omega (arith, each))
blocks_text-more times top (b ∷ blocks) [] block second each = absurd (omega (arith, each))

-- blocks that are drawn, and one more
pub AreDrawn-more :
    (times : Times) (top : ℕ) (blocks : List Block) (place : ℕ) (block : Block) (second : Bool)
    (before between after : List ℕ) → place < length blocks → block ≡ get_or blocks place block
    → AreDrawn times top (take place blocks) before between
    → after ≡ between ++ block_text times top block second
    → AreDrawn times top (take (place + 1) blocks) before after
AreDrawn-more times top blocks place block second before between after low is old grown =
    let front = take place blocks in
    let piece = block_text times top block second in
    let longer = length-append old.seconds (second ∷ []) in
    let more = length-append front (block ∷ []) in
    subst
    (λ bs. AreDrawn times top bs before after)
    (sym (take_more blocks place block low ∙ ap (λ b. front ++ b ∷ []) (sym is)))
    (record {
      seconds = old.seconds ++ second ∷ [];
      each = omega (arith, longer, more, old.each);
      drawn =
          grown
          ∙ ap (λ xs. xs ++ piece) old.drawn
          ∙ append_assoc before (blocks_text times top front old.seconds) piece
          ∙ ap
          (λ xs. before ++ xs)
          (sym (blocks_text-more times top front old.seconds block second old.each));
    })
