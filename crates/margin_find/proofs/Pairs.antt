-- Two lists whose items are related place by place.
use Rattle.std.proofs.Common.{◌≡◌, ℕ, zero, suc, ◌+◌, ◌≤◌, List, [], ◌∷◌, ◌++◌, length, map, Some, refl, sym, ap, arith}
use Rattle.std.specs.Prelude.{sum_by, flat_map, slice_get, slice_set, All}
use Rattle.std.specs.List.{enumerate_from}
use Rattle.std.specs.Option.{option_map_or}
use Rattle.std.proofs.lemmas.List.Elements.{All-nil, All-cons, All-head, All-tail}
use Rattle.std.proofs.lemmas.List.Sums.{sum_by-cons}
use Rattle.slot_core.specs.Claims.Growth.{changed_at}
use Rattle.margin_find.specs.Laws.{Pairwise}

pub Pairwise-length : {X : Type 0} (R : X → X → Type 0) (xs ys : List X) → Pairwise R xs ys → length xs ≡ length ys
Pairwise-length R [] [] h = refl
Pairwise-length R [] (y ∷ ys) h = absurd h
Pairwise-length R (x ∷ xs) [] h = absurd h
Pairwise-length R (x ∷ xs) (y ∷ ys) h = omega (arith, Pairwise-length R xs ys h.1)

-- what is the same for related items is the same along the lists
pub Pairwise-same : {X Y : Type 0} (R : X → X → Type 0) (f : X → Y) (xs ys : List X) → ((x y : X) → R x y → f x ≡ f y) → Pairwise R xs ys → map f xs ≡ map f ys
Pairwise-same R f [] [] each h = refl
Pairwise-same R f [] (y ∷ ys) each h = absurd h
Pairwise-same R f (x ∷ xs) [] each h = absurd h
Pairwise-same R f (x ∷ xs) (y ∷ ys) each h = cc (each x y h.0, Pairwise-same R f xs ys each h.1)

-- images of related lists, of one list, and lists joined end to end
pub Pairwise-map : {X Y : Type 0} (R : X → X → Type 0) (S : Y → Y → Type 0) (f g : X → Y) (xs ys : List X) → ((x y : X) → R x y → S (f x) (g y)) → Pairwise R xs ys → Pairwise S (map f xs) (map g ys)
Pairwise-map R S f g [] [] each h = tt
Pairwise-map R S f g [] (y ∷ ys) each h = absurd h
Pairwise-map R S f g (x ∷ xs) [] each h = absurd h
Pairwise-map R S f g (x ∷ xs) (y ∷ ys) each h = (each x y h.0, Pairwise-map R S f g xs ys each h.1)

pub Pairwise-itself : {X : Type 0} (R : X → X → Type 0) (xs : List X) → ((x : X) → R x x) → Pairwise R xs xs
Pairwise-itself R [] each = tt
Pairwise-itself R (x ∷ xs) each = (each x, Pairwise-itself R xs each)

pub Pairwise-append : {X : Type 0} (R : X → X → Type 0) (xs ys vs ws : List X) → Pairwise R xs ys → Pairwise R vs ws → Pairwise R (xs ++ vs) (ys ++ ws)
Pairwise-append R [] [] vs ws h more = more
Pairwise-append R [] (y ∷ ys) vs ws h more = absurd h
Pairwise-append R (x ∷ xs) [] vs ws h more = absurd h
Pairwise-append R (x ∷ xs) (y ∷ ys) vs ws h more = (h.0, Pairwise-append R xs ys vs ws h.1 more)

pub Pairwise-flat_map : {X Y : Type 0} (R : X → X → Type 0) (S : Y → Y → Type 0) (f g : X → List Y) (xs ys : List X) → ((x y : X) → R x y → Pairwise S (f x) (g y)) → Pairwise R xs ys → Pairwise S (flat_map f xs) (flat_map g ys)
Pairwise-flat_map R S f g [] [] each h = tt
Pairwise-flat_map R S f g [] (y ∷ ys) each h = absurd h
Pairwise-flat_map R S f g (x ∷ xs) [] each h = absurd h
Pairwise-flat_map R S f g (x ∷ xs) (y ∷ ys) each h =
    Pairwise-append S (f x) (g y) (flat_map f xs) (flat_map g ys) (each x y h.0) (Pairwise-flat_map R S f g xs ys each h.1)

pub Pairwise-joined : {X Y : Type 0} (S : Y → Y → Type 0) (f g : X → List Y) (xs : List X) → ((x : X) → Pairwise S (f x) (g x)) → Pairwise S (flat_map f xs) (flat_map g xs)
Pairwise-joined S f g [] each = tt
Pairwise-joined S f g (x ∷ xs) each =
    Pairwise-append S (f x) (g x) (flat_map f xs) (flat_map g xs) (each x) (Pairwise-joined S f g xs each)

-- the items with their places
abbrev pub AtPlace : {X : Type 0} → (X → X → Type 0) → ℕ × X → ℕ × X → Type 0
AtPlace R p q = (p.0 ≡ q.0) × R p.1 q.1

pub Pairwise-enumerate : {X : Type 0} (R : X → X → Type 0) (n : ℕ) (xs ys : List X) → Pairwise R xs ys → Pairwise (AtPlace R) (enumerate_from n xs) (enumerate_from n ys)
Pairwise-enumerate R n [] [] h = tt
Pairwise-enumerate R n [] (y ∷ ys) h = absurd h
Pairwise-enumerate R n (x ∷ xs) [] h = absurd h
Pairwise-enumerate R n (x ∷ xs) (y ∷ ys) h = ((refl, h.0), Pairwise-enumerate R (n + 1) xs ys h.1)

-- what is said of the item at a place, or else of a value
pub Pairwise-at : {X Y : Type 0} (R : X → X → Type 0) (S : Y → Y → Type 0) (f g : X → Y) (d : Y) (i : ℕ) (xs ys : List X) → ((x y : X) → R x y → S (f x) (g y)) → S d d → Pairwise R xs ys → S (option_map_or f (slice_get xs i) d) (option_map_or g (slice_get ys i) d)
Pairwise-at R S f g d i [] [] each none h = none
Pairwise-at R S f g d i [] (y ∷ ys) each none h = absurd h
Pairwise-at R S f g d i (x ∷ xs) [] each none h = absurd h
Pairwise-at R S f g d zero (x ∷ xs) (y ∷ ys) each none h = each x y h.0
Pairwise-at R S f g d (suc i) (x ∷ xs) (y ∷ ys) each none h = Pairwise-at R S f g d i xs ys each none h.1

-- sums whose terms are no more
pub Pairwise-sum : {X : Type 0} (R : X → X → Type 0) (f g : X → ℕ) (xs ys : List X) → ((x y : X) → R x y → f x ≤ g y) → Pairwise R xs ys → sum_by f xs ≤ sum_by g ys
Pairwise-sum R f g [] [] each h = omega arith
Pairwise-sum R f g [] (y ∷ ys) each h = absurd h
Pairwise-sum R f g (x ∷ xs) [] each h = absurd h
Pairwise-sum R f g (x ∷ xs) (y ∷ ys) each h =
    omega (arith, sum_by-cons f x xs, sum_by-cons g y ys, each x y h.0, Pairwise-sum R f g xs ys each h.1)

-- a list with one item changed in two ways
pub Pairwise-changed_at : {X : Type 0} (R : X → X → Type 0) (f g : X → X) (n : ℕ) (xs : List X) → ((x : X) → R x x) → ((x : X) → R (f x) (g x)) → Pairwise R (changed_at f n xs) (changed_at g n xs)
Pairwise-changed_at R f g n [] itself each = tt
Pairwise-changed_at R f g zero (x ∷ xs) itself each = (each x, Pairwise-itself R xs itself)
Pairwise-changed_at R f g (suc n) (x ∷ xs) itself each = (itself x, Pairwise-changed_at R f g n xs itself each)

-- a list and the same with one item changed
pub Pairwise-changed : {X : Type 0} (R : X → X → Type 0) (f : X → X) (n : ℕ) (xs : List X) → ((x : X) → R x x) → ((x : X) → R x (f x)) → Pairwise R xs (changed_at f n xs)
Pairwise-changed R f n [] itself each = tt
Pairwise-changed R f zero (x ∷ xs) itself each = (each x, Pairwise-itself R xs itself)
Pairwise-changed R f (suc n) (x ∷ xs) itself each = (itself x, Pairwise-changed R f n xs itself each)

pub Pairwise-unchanged : {X : Type 0} (R : X → X → Type 0) (f : X → X) (n : ℕ) (xs : List X) → ((x : X) → R x x) → ((x : X) → R (f x) x) → Pairwise R (changed_at f n xs) xs
Pairwise-unchanged R f n [] itself each = tt
Pairwise-unchanged R f zero (x ∷ xs) itself each = (each x, Pairwise-itself R xs itself)
Pairwise-unchanged R f (suc n) (x ∷ xs) itself each = (itself x, Pairwise-unchanged R f n xs itself each)

-- one item changed is one item written
pub changed_at-set : {X : Type 0} (f : X → X) (n : ℕ) (xs : List X) (x : X) → slice_get xs n ≡ Some x → slice_set xs n (f x) ≡ changed_at f n xs
changed_at-set f n [] x at = absurd (cc at)
changed_at-set f zero (y ∷ ys) x at =
    let same : y ≡ x = cc at in
    ap (λ z. f z ∷ ys) (sym same)
changed_at-set f (suc n) (y ∷ ys) x at = ap (λ zs. y ∷ zs) (changed_at-set f n ys x at)

-- what holds of all of one list
pub Pairwise-all : {X : Type 0} (R : X → X → Type 0) (P Q : X → Type 0) (xs ys : List X) → ((x y : X) → R x y → P x → Q y) → All P xs → Pairwise R xs ys → All Q ys
Pairwise-all R P Q [] [] each all h = All-nil Q
Pairwise-all R P Q [] (y ∷ ys) each all h = absurd h
Pairwise-all R P Q (x ∷ xs) [] each all h = absurd h
Pairwise-all R P Q (x ∷ xs) (y ∷ ys) each all h =
    All-cons Q y ys (each x y h.0 (All-head P x xs all)) (Pairwise-all R P Q xs ys each (All-tail P x xs all) h.1)
