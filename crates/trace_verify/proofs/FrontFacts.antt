-- Items of a list from a place on, after those before another place moved by one.
use Rattle.std.proofs.Common.{◌≡◌, ℕ, zero, suc, ◌+◌, ◌-◌, ◌<◌, ◌≤◌, List, ◌∷◌, ◌++◌, length, set, take, drop, get_or, insert, remove, ap, sym, ◌∙◌, arith}
use Rattle.std.proofs.lemmas.List.{append_assoc, drop_at, drop-append-le, drop-drop, drop-set-add, drop-take, drop_more, length-drop, length-take-le, set_at}
use Rattle.std.proofs.Math.Seq.{paste}

-- the item at a place goes, and those before it move back
pub removed-moved : {X : Type 0} (xs : List X) (k p : ℕ) → k + p < length xs → drop (k + 1) (paste xs (k + 1) (drop k xs) p) ≡ remove (drop k xs) p
removed-moved xs k p inside =
    let rest : drop (k + 1 + p) xs ≡ drop (suc p) (drop k xs) = ap (λ n. drop n xs) (places k p) ∙ sym (drop-drop (suc p) k xs) in
    ap (drop (k + 1)) (append_assoc (take (k + 1) xs) (take p (drop k xs)) (drop (k + 1 + p) xs))
    ∙ drop_at (take (k + 1) xs) (take p (drop k xs) ++ drop (k + 1 + p) xs) (k + 1) (length-take-le (k + 1) xs (omega arith))
    ∙ ap (λ ys. take p (drop k xs) ++ ys) rest
  where
    places : (k p : ℕ) → k + 1 + p ≡ k + suc p
    places k p = omega arith

-- an item comes in at a place, and those before it move to the front
inserted-after : {X : Type 0} (xs : List X) (k p : ℕ) (x : X) → suc k + p ≤ length xs → drop k (set (paste xs k (drop (suc k) xs) p) (k + p) x) ≡ insert (drop (suc k) xs) p x
inserted-after xs k p x inside =
    let here = take p (drop (suc k) xs) in
    let long : length here ≡ p = length-take-le p (drop (suc k) xs) (omega (arith, length-drop (suc k) xs)) in
    let next : drop (k + p + 1) xs ≡ drop p (drop (suc k) xs) = ap (λ n. drop n xs) (places k p) ∙ sym (drop-drop p (suc k) xs) in
    let rest : drop (k + p) xs ≡ get_or xs (k + p) x ∷ drop p (drop (suc k) xs) = drop_more xs (k + p) x (omega arith) ∙ ap (λ ys. get_or xs (k + p) x ∷ ys) next in
    let back : drop k (paste xs k (drop (suc k) xs) p) ≡ here ++ drop (k + p) xs =
    ap (drop k) (append_assoc (take k xs) here (drop (k + p) xs))
    ∙ drop_at (take k xs) (here ++ drop (k + p) xs) k (length-take-le k xs (omega arith)) in
    drop-set-add k (paste xs k (drop (suc k) xs) p) p x
    ∙ ap (λ ys. set ys p x) (back ∙ ap (λ ys. here ++ ys) rest)
    ∙ set_at here (get_or xs (k + p) x) (drop p (drop (suc k) xs)) x p long
  where
    places : (k p : ℕ) → k + p + 1 ≡ suc k + p
    places k p = omega arith

-- the same where the items begin at a place with one before it
pub inserted-moved : {X : Type 0} (xs : List X) (k p : ℕ) (x : X) → 1 ≤ k → k + p ≤ length xs → drop (k - 1) (set (paste xs (k - 1) (drop k xs) p) (k - 1 + p) x) ≡ insert (drop k xs) p x
inserted-moved xs zero p x some inside = absurd (omega arith)
inserted-moved xs (suc k) p x some inside =
    let before : suc k - 1 ≡ k = omega arith in
    rw before (inserted-after xs k p x inside)

-- an item comes in at a place, and those behind it move back
pub inserted-behind : {X : Type 0} (xs : List X) (k p : ℕ) (x : X) → k + p ≤ length xs → drop k (insert xs (k + p) x) ≡ insert (drop k xs) p x
inserted-behind xs k p x inside =
    drop-append-le k (take (k + p) xs) (x ∷ drop (k + p) xs) (omega (arith, length-take-le (k + p) xs inside))
    ∙ ap (λ ys. ys ++ x ∷ drop (k + p) xs) (drop-take k p xs)
    ∙ ap (λ ys. take p (drop k xs) ++ x ∷ ys) (sym (drop-drop p k xs))

-- the item at a place goes, and those behind it move to the front
pub removed-behind : {X : Type 0} (xs : List X) (k p : ℕ) → k + p < length xs → drop k (remove xs (k + p)) ≡ remove (drop k xs) p
removed-behind xs k p inside =
    drop-append-le k (take (k + p) xs) (drop (suc (k + p)) xs) (omega (arith, length-take-le (k + p) xs (omega arith)))
    ∙ ap (λ ys. ys ++ drop (suc (k + p)) xs) (drop-take k p xs)
    ∙ ap (λ ys. take p (drop k xs) ++ ys) (ap (λ n. drop n xs) (places k p) ∙ sym (drop-drop (suc p) k xs))
  where
    places : (k p : ℕ) → suc (k + p) ≡ k + suc p
    places k p = omega arith
