-- Blocks that are written into bytes, and those that are read.
use Rattle.std.proofs.Common.{◌≡◌, ℕ, List, refl, ◌+◌, ◌-◌, ◌≤◌, ◌++◌, length, drop, take, sym, ap, ◌∙◌, arith}
use Rattle.std.proofs.lemmas.List.{take_at, drop_at, drop-drop, take-append-le, length-take-le}
use borrow.Rule.Slice.PartMut.{put_mid, post_of}
use lib.Seq.{take-add}

-- the front of a block that is written into bytes stands after what was before it
pub block_put : (xs ys : List ℕ) (end k n : ℕ) → end ≤ length xs → n ≤ length ys
    → take (end + n) (put_mid end k xs ys) ≡ take end xs ++ take n ys
block_put xs ys end k n within fits =
    let len = length-take-le end xs within in
    let after = ys ++ post_of end k xs in
    take-add end n (put_mid end k xs ys)
    ∙ (rw (take_at (take end xs) after _ len, drop_at (take end xs) after _ len, take-append-le n ys (post_of end k xs) fits) refl)

-- the bytes between two places, and then those of a block after them
pub block_after : (xs : List ℕ) (from place count : ℕ) → from ≤ place → take (place - from) (drop from xs) ++ take count (drop place xs) ≡ take (place + count - from) (drop from xs)
block_after xs from place count order =
    let rest = drop from xs in
    let back : place ≡ from + (place - from) = omega arith in
    let same : (place - from) + count ≡ place + count - from = omega arith in
    let moved : drop place xs ≡ drop (place - from) rest = ap (λ n. drop n xs) back ∙ sym (drop-drop (place - from) from xs) in
    ap (λ ys. take (place - from) rest ++ take count ys) moved
    ∙ sym (take-add (place - from) count rest)
    ∙ ap (λ n. take n rest) same
