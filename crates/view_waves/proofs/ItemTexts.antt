-- The texts of items, one item more.
use Rattle.std.proofs.Common.{◌≡◌, ℕ, zero, suc, ◌+◌, ◌<◌, List, [], ◌∷◌, ◌++◌, append-nil, append_assoc, length, take, drop, get_or, Option, add-one, refl, sym, ap, subst, ◌∙◌, arith}
use Rattle.std.specs.Prelude.{flat_map}
use Rattle.std.specs.Io.KnownBytes.{Appends}
use Rattle.std.proofs.KnownBytes.{Appends-nil, Appends-trans}
use Rattle.slot_io.specs.Sinks.{AppendsPart}
use Rattle.slot_io.proofs.SinkParts.{AppendsPart-more, AppendsPart-on}

-- the texts of a list: those before an item, its own, and those after it
flat_map-split : {X : Type 0} (f : X → List ℕ) (xs : List X) (i : ℕ) (d : X) → i < length xs → flat_map f xs ≡ flat_map f (take i xs) ++ (f (get_or xs i d) ++ flat_map f (drop (suc i) xs))
flat_map-split f [] i d low = absurd (omega arith)
flat_map-split f (x ∷ xs) zero d low = refl
flat_map-split f (x ∷ xs) (suc i) d low =
    ap (λ ys. f x ++ ys) (flat_map-split f xs i d (omega arith)) ∙ sym (append_assoc (f x) (flat_map f (take i xs)) (f (get_or xs i d) ++ flat_map f (drop (suc i) xs)))

flat_map-next : {X : Type 0} (f : X → List ℕ) (xs : List X) (i : ℕ) (d : X) → i < length xs → flat_map f (take i xs) ++ f (get_or xs i d) ≡ flat_map f (take (suc i) xs)
flat_map-next f [] i d low = absurd (omega arith)
flat_map-next f (x ∷ xs) zero d low = sym (append-nil (f x))
flat_map-next f (x ∷ xs) (suc i) d low =
    append_assoc (f x) (flat_map f (take i xs)) (f (get_or xs i d)) ∙ ap (λ ys. f x ++ ys) (flat_map-next f xs i d (omega arith))

-- the items so far are written, and one more is
pub item-written : {X : Type 0} (a b c : Option (List ℕ)) (f : X → List ℕ) (xs : List X) (i : ℕ) (d : X) (text : List ℕ) → i < length xs → text ≡ f (get_or xs i d) → Appends a b (flat_map f (take i xs)) → Appends b c text → Appends a c (flat_map f (take (i + 1) xs))
item-written a b c f xs i d text low own before more =
    subst (Appends a c) (flat_map-next f xs i d low ∙ ap (λ n. flat_map f (take n xs)) (sym (add-one i)))
    (Appends-trans a b c (flat_map f (take i xs)) (f (get_or xs i d)) before (subst (Appends b c) own more))

-- the items so far are written, and a part of one more
pub item-broken : {X : Type 0} (a b c : Option (List ℕ)) (f : X → List ℕ) (xs : List X) (i : ℕ) (d : X) (text : List ℕ) → i < length xs → text ≡ f (get_or xs i d) → Appends a b (flat_map f (take i xs)) → AppendsPart b c text → AppendsPart a c (flat_map f xs)
item-broken a b c f xs i d text low own before part =
    AppendsPart-more a b c (flat_map f (take i xs)) (f (get_or xs i d)) (flat_map f (drop (suc i) xs)) (flat_map f xs) (flat_map-split f xs i d low) before (subst (AppendsPart b c) own part)

-- of three pieces in a row: a part of the first, of the second, and of the last
pub first-broken : (a b : Option (List ℕ)) (x y z : List ℕ) → AppendsPart a b x → AppendsPart a b (x ++ (y ++ z))
first-broken a b x y z part = AppendsPart-more a a b [] x (y ++ z) (x ++ (y ++ z)) refl (Appends-nil a) part

pub second-broken : (a b c : Option (List ℕ)) (x y z : List ℕ) → Appends a b x → AppendsPart b c y → AppendsPart a c (x ++ (y ++ z))
second-broken a b c x y z before part = AppendsPart-more a b c x y z (x ++ (y ++ z)) refl before part

pub last-broken : (a b c d : Option (List ℕ)) (x y z : List ℕ) → Appends a b x → Appends b c y → AppendsPart c d z → AppendsPart a d (x ++ (y ++ z))
last-broken a b c d x y z first second part =
    AppendsPart-on a c d (x ++ y) z (x ++ (y ++ z)) (sym (append_assoc x y z)) (Appends-trans a b c x y first second) part

-- all three
pub three-written : (a b c d : Option (List ℕ)) (x y z : List ℕ) → Appends a b x → Appends b c y → Appends c d z → Appends a d (x ++ (y ++ z))
three-written a b c d x y z first second third =
    Appends-trans a b d x (y ++ z) first (Appends-trans b c d y z second third)
