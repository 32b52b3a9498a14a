-- Items of a list from a place on, after a slice of it was written.
use Rattle.std.proofs.Common.{◌≡◌, ℕ, zero, suc, ◌+◌, ◌-◌, ◌≤◌, List, [], ◌∷◌, ◌++◌, length, set, take, drop, insert, refl, ◌∙◌, ap, get_or, add-one, arith}
use Rattle.std.proofs.lemmas.List.{set_at, length_push, append-nil, append_assoc, drop_all, take_all, drop_at, length-append, length-take, length-drop, drop_more, length-take-le}
use borrow.Rule.Slice.PartMut.{put_mid}

-- the last of rotated rows is written
pub set-rotated : {X : Type 0} (rows : List X) (row : X) → 1 ≤ length rows → set (drop 1 rows ++ take 1 rows) (length (drop 1 rows ++ take 1 rows) - 1) row ≡ drop 1 rows ++ row ∷ []
set-rotated [] row l = absurd (omega arith)
set-rotated (s ∷ ss) row l =
    let last : length ss ≡ length (ss ++ s ∷ []) - 1 = omega (arith, length_push ss s) in
    set_at ss s [] row (length (ss ++ s ∷ []) - 1) last

-- what a vector holds after its slice was written
pub written_back : {X : Type 0} (items written : List X) (n : ℕ) → n ≡ length items → length written ≡ length items → take n (written ++ drop (length written) items) ≡ written
written_back items written n count same =
    let none : drop (length written) items ≡ [] = drop_all (length written) items (omega arith) in
    rw (none, append-nil) (take_all n written (omega arith))

-- the slice with a part of it written is as long as before
length-put_mid : {X : Type 0} (a k : ℕ) (xs ys : List X) → a + k ≤ length xs → length ys ≡ k → length (put_mid a k xs ys) ≡ length xs
length-put_mid a k xs ys within same =
    omega (arith, length-append (take a xs) (ys ++ drop k (drop a xs)), length-append ys (drop k (drop a xs)), length-take a xs, length-drop k (drop a xs), length-drop a xs)

-- what a place before the items becomes
insert-after_first : {X : Type 0} (x : X) (rows : List X) (place : ℕ) (row : X) → (drop 1 (take (suc place) (x ∷ rows)) ++ row ∷ []) ++ drop (suc place) (x ∷ rows) ≡ insert rows place row
insert-after_first x rows place row = append_assoc (take place rows) (row ∷ []) (drop place rows)

inserted_after : {X : Type 0} (items : List X) (k place n : ℕ) (row : X) → n ≡ length items → suc k + place ≤ length items → let all = put_mid k (suc place) items (drop 1 (take (suc place) (drop k items)) ++ row ∷ []) in drop k (take n (all ++ drop (length all) items)) ≡ insert (drop (suc k) items) place row
inserted_after {X = X} items k place n row count within =
    let mid = take (suc place) (drop k items) in
    let written = drop 1 mid ++ row ∷ [] in
    let all = put_mid k (suc place) items written in
    let long : length written ≡ suc place = omega (arith, length_push (drop 1 mid) row, length-drop 1 mid, length-take (suc place) (drop k items), length-drop k items) in
    let back : take n (all ++ drop (length all) items) ≡ all = written_back items all n count (length-put_mid k (suc place) items written (omega arith) long) in
    let front : drop k all ≡ written ++ drop (suc place) (drop k items) = drop_at (take k items) (written ++ drop (suc place) (drop k items)) k (length-take-le k items (omega arith)) in
    let split : drop k items ≡ get_or items k row ∷ drop (suc k) items = rw (← add-one) (drop_more items k row (omega arith)) in
    let parts = λ (xs : List X). (drop 1 (take (suc place) xs) ++ row ∷ []) ++ drop (suc place) xs in
    ap (drop k) back ∙ front ∙ ap parts split ∙ insert-after_first (get_or items k row) (drop (suc k) items) place row

-- a row put in where the ones before it move to the front
pub inserted : {X : Type 0} (items : List X) (head place n : ℕ) (row : X) → n ≡ length items → (head ≡ 0 → ⊥) → head + place ≤ length items → let mid = take (head + place - (head - 1)) (drop (head - 1) items) in let all = put_mid (head - 1) (head + place - (head - 1)) items (drop 1 mid ++ row ∷ []) in drop (head - 1) (take n (all ++ drop (length all) items)) ≡ insert (drop head items) place row
inserted items zero place n row count some within = absurd (some refl)
inserted items (suc k) place n row count some within =
    let before : suc k - 1 ≡ k = omega arith in
    let many : suc k + place - k ≡ suc place = omega arith in
    rw (before, many) (inserted_after items k place n row count within)
