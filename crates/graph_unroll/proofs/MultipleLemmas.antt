-- The running multiple of lengths.
use Rattle.std.proofs.Common.{◌≡◌, ℕ, zero, suc, ◌+◌, ◌-◌, ◌<◌, ◌≤◌, ◌⊎◌, Bool, true, false, cond, List, [], ◌∷◌, ◌++◌, map, length, get_or, drop, fold, Result, Option, Some, Ok, Err, refl, sym, ap, ◌∙◌, unwrap_or, ltb, leb, arith, ⊎_elim, inl, inr}
use Rattle.std.specs.Prelude.{find}
use Rattle.std.specs.List.{range_with_len, list_all}
use Rattle.std.proofs.lemmas.Grind.{common_steps}
use Rattle.std.proofs.lemmas.List.{at_drop_more}
use Rattle.std.proofs.lemmas.List.Folds.{list_all-map, list_all-append}
use Rattle.std.proofs.lemmas.Bool.{and_parts, and_from, leb-true, ltb-true, le-leb}
use Rattle.std.proofs.lemmas.Bool.Decides.{nat_tests}
use Rattle.std.proofs.Math.Nat.{le-mul_of_pos_right}
use Rattle.slot_core.specs.declared.TheConstants.{SLOT_LIMIT}
use Rattle.slot_core.specs.Sets.Cycles.{least_common_multiple, first_multiple_above}
use Rattle.slot_core.specs.Sets.Ranges.{is_between}
use Rattle.slot_facts.proofs.Sets.Ranges.{bounds}
use Rattle.graph_unroll.proofs.RangeLemmas.{list_all_get_or}
use Rattle.graph_unroll.specs.Multiples.{multiple_along, times_to_common, is_common, within_limit}

-- one step of a search along a range
pub find_more : (test : ℕ → Bool) (at n d : ℕ) → 0 < n → unwrap_or (find test (range_with_len at n)) d ≡ cond (test at) at (unwrap_or (find test (range_with_len (at + 1) (n - 1))) d)
find_more test at zero d h = absurd (omega arith)
find_more test at (suc n) d h = grind (arith, common_steps)

either : (low at d : ℕ) (test : Bool) (other : Option ℕ) → low ≤ at → low ≤ unwrap_or other d → low ≤ unwrap_or (cond test (Some at) other) d
either low at d true other h k = h
either low at d false other h k = k

-- what a search finds is no less than its first number
find_from : (test : ℕ → Bool) (low at n d : ℕ) → low ≤ at → low ≤ d → low ≤ unwrap_or (find test (range_with_len at n)) d
find_from test low at zero d h k = k
find_from test low at (suc n) d h k =
    either low at d (test at) (find test (range_with_len (at + 1) n)) h (find_from test low (at + 1) n d (omega arith) k)

pub times-positive : (a b : ℕ) → 1 ≤ b → 1 ≤ times_to_common a b
times-positive a b h = find_from (is_common a b) 1 1 b b (omega arith) h

-- no length makes the multiple smaller
pub le-least_common_multiple : (a b : ℕ) → 1 ≤ b → a ≤ least_common_multiple a b
le-least_common_multiple a b h = le-mul_of_pos_right a (times-positive a b h)

first-positive : (x : ℕ) (xs : List ℕ) → list_all (is_between 1 SLOT_LIMIT) (x ∷ xs) ≡ true → (1 ≤ x) × (list_all (is_between 1 SLOT_LIMIT) xs ≡ true)
first-positive x xs h =
    let parts = and_parts (is_between 1 SLOT_LIMIT x) (list_all (is_between 1 SLOT_LIMIT) xs) h in
    (leb-true 1 x (and_parts _ _ parts.0).0, parts.1)

pub le-fold : (a : ℕ) (xs : List ℕ) → list_all (is_between 1 SLOT_LIMIT) xs ≡ true → a ≤ fold least_common_multiple a xs
le-fold a [] h = omega arith
le-fold a (x ∷ xs) h =
    let parts = first-positive x xs h in
    omega (arith, le-least_common_multiple a x parts.0, le-fold (least_common_multiple a x) xs parts.1)

-- a step that goes on, and one that ends
goes_on : (limit next m : ℕ) (rest : Result ℕ ℕ) → cond (ltb limit next) (Err next) rest ≡ Ok m → (ltb limit next ≡ false) × (next ≤ limit) × (rest ≡ Ok m)
goes_on limit next m rest e = grind (arith, nat_tests)

ends : (limit next m : ℕ) (rest : Result ℕ ℕ) → cond (ltb limit next) (Err next) rest ≡ Err m → ((ltb limit next ≡ true) × (limit < next) × (next ≡ m)) ⊎ ((ltb limit next ≡ false) × (rest ≡ Err m))
ends limit next m rest e =
    elim (ltb limit next) as (λ t. t ≡ ltb limit next → cond t (Err next) rest ≡ Err m → ((t ≡ true) × (limit < next) × (next ≡ m)) ⊎ ((t ≡ false) × (rest ≡ Err m)))
    [ true ↦ λ t f. inl (refl, ltb-true limit next (sym t), cc) | false ↦ λ t f. inr (refl, f) ] refl e

pub along-ok : (a : ℕ) (xs : List ℕ) (m : ℕ) → a ≤ SLOT_LIMIT → multiple_along a xs ≡ Ok m → (fold least_common_multiple a xs ≡ m) × (m ≤ SLOT_LIMIT)
along-ok a [] m small e =
    let same : a ≡ m = cc in
    (same, omega arith)
along-ok a (x ∷ xs) m small e =
    let next = least_common_multiple a x in
    let on = goes_on SLOT_LIMIT next m (multiple_along next xs) e in
    along-ok next xs m on.1 on.2

pub along-err : (a : ℕ) (xs : List ℕ) (m : ℕ) → list_all (is_between 1 SLOT_LIMIT) xs ≡ true → multiple_along a xs ≡ Err m → (first_multiple_above SLOT_LIMIT a xs ≡ Some m) × (SLOT_LIMIT < fold least_common_multiple a xs)
along-err a [] m h e = cc
along-err a (x ∷ xs) m h e =
    let next = least_common_multiple a x in
    let parts = first-positive x xs h in
    ⊎_elim
    (λ (end : (ltb SLOT_LIMIT next ≡ true) × (SLOT_LIMIT < next) × (next ≡ m)). (rw end.0 (ap Some end.2), omega (arith, le-fold next xs parts.1)))
    (λ (on : (ltb SLOT_LIMIT next ≡ false) × (multiple_along next xs ≡ Err m)). let more = along-err next xs m parts.1 on.1 in (rw on.0 more.0, more.1))
    (ends SLOT_LIMIT next m (multiple_along next xs) e)

pub along-append-ok : (a : ℕ) (xs ys : List ℕ) (m : ℕ) → multiple_along a xs ≡ Ok m → multiple_along a (xs ++ ys) ≡ multiple_along m ys
along-append-ok a [] ys m e = let same : a ≡ m = cc in cc
along-append-ok a (x ∷ xs) ys m e =
    let next = least_common_multiple a x in
    let on = goes_on SLOT_LIMIT next m (multiple_along next xs) e in
    rw on.0 (along-append-ok next xs ys m on.2)

pub along-append-err : (a : ℕ) (xs ys : List ℕ) (m : ℕ) → multiple_along a xs ≡ Err m → multiple_along a (xs ++ ys) ≡ Err m
along-append-err a [] ys m e = cc
along-append-err a (x ∷ xs) ys m e =
    let next = least_common_multiple a x in
    ⊎_elim
    (λ (end : (ltb SLOT_LIMIT next ≡ true) × (SLOT_LIMIT < next) × (next ≡ m)). rw end.0 (ap Err end.2))
    (λ (on : (ltb SLOT_LIMIT next ≡ false) × (multiple_along next xs ≡ Err m)). rw on.0 (along-append-err next xs ys m on.1))
    (ends SLOT_LIMIT next m (multiple_along next xs) e)

-- one more length, of the item at a place of a list
pub along_more : {X : Type 0} (f : X → ℕ) (m : ℕ) (xs : List X) (i : ℕ) (x : X) → i < length xs → x ≡ get_or xs i x → multiple_along m (map f (drop i xs)) ≡ multiple_along m (f x ∷ map f (drop (i + 1) xs))
along_more f m xs i x h is =
    at_drop_more (λ ys. multiple_along m (map f ys)) xs i x h ∙ ap (λ y. multiple_along m (f y ∷ map f (drop (i + 1) xs))) (sym is)

pub length_in_range : {X : Type 0} (f : X → ℕ) (xs : List X) (i : ℕ) (x : X) → i < length xs → x ≡ get_or xs i x → list_all (is_between 1 SLOT_LIMIT) (map f xs) ≡ true → is_between 1 SLOT_LIMIT (f x) ≡ true
length_in_range f xs i x h is all =
    ap (λ y. is_between 1 SLOT_LIMIT (f y)) is ∙ list_all_get_or (λ y. is_between 1 SLOT_LIMIT (f y)) xs i x h (sym (list_all-map (is_between 1 SLOT_LIMIT) f xs) ∙ all)

is_between-from_le : (low high n : ℕ) → low ≤ n → n ≤ high → is_between low high n ≡ true
is_between-from_le low high n h k = and_from (leb low n) (leb n high) (le-leb low n h) (le-leb n high k)

-- a first step that stays within the limit
pub within : (m n next : ℕ) → is_between 1 SLOT_LIMIT m ≡ true → is_between 1 SLOT_LIMIT n ≡ true → within_limit (least_common_multiple m n) ≡ Ok next → (ns : List ℕ) → (is_between 1 SLOT_LIMIT next ≡ true) × (multiple_along m (n ∷ ns) ≡ multiple_along next ns)
within m n next h k e ns =
    let on = goes_on SLOT_LIMIT (least_common_multiple m n) next (Ok (least_common_multiple m n)) e in
    let same : least_common_multiple m n ≡ next = cc in
    let low = le-least_common_multiple m n (bounds 1 SLOT_LIMIT n k).0 in
    let positive = (bounds 1 SLOT_LIMIT m h).0 in
    (is_between-from_le 1 SLOT_LIMIT next (omega arith) (omega arith), rw on.0 (ap (λ a. multiple_along a ns) same))

pub all-append : {X : Type 0} (p : X → Bool) (xs ys : List X) → list_all p (xs ++ ys) ≡ true → (list_all p xs ≡ true) × (list_all p ys ≡ true)
all-append p xs ys h = and_parts (list_all p xs) (list_all p ys) (sym (list_all-append p xs ys) ∙ h)

-- a multiple within the limit is no less than 1
pub along-positive : (a : ℕ) (xs : List ℕ) (m : ℕ) → is_between 1 SLOT_LIMIT a ≡ true → list_all (is_between 1 SLOT_LIMIT) xs ≡ true → multiple_along a xs ≡ Ok m → is_between 1 SLOT_LIMIT m ≡ true
along-positive a xs m h all e =
    let first = bounds 1 SLOT_LIMIT a h in
    let last = along-ok a xs m first.1 e in
    is_between-from_le 1 SLOT_LIMIT m (omega (arith, le-fold a xs all)) last.1
