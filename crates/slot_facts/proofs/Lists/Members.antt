-- Members of lists by recursion, and what makes the members of a list built from others.
use Rattle.std.proofs.Common.{◌≡◌, ℕ, zero, suc, ◌+◌, ◌<◌, ◌≤◌, max, Bool, true, false, cond, List, [], ◌∷◌, ◌++◌, map, Some, refl, sym, ap, ◌∙◌, subst, ◌⊎◌, inl, inr, arith}
use Rattle.std.specs.Prelude.{Contains, slice_get, flat_map, filter, fold}
use Rattle.std.specs.List.{list_any, list_all, range_with_len, enumerate_from, AllByRecursion}
use Rattle.std.proofs.lemmas.Bool.{or_cases, or_left, or_right, and_parts, false≢true, cases_eq}

-- x is a member of the list
abbrev pub Has : {X : Type 0} → List X → X → Type 0
Has [] x = ⊥
Has (y ∷ ys) x = (y ≡ x) ⊎ Has ys x

-- the members are what the list contains
pub Has-from_Contains : {X : Type 0} (xs : List X) (x : X) → Contains xs x → Has xs x
Has-from_Contains [] x h = absurd (omega (arith, h.1))
Has-from_Contains (y ∷ ys) x (zero, below, at) = inl at
Has-from_Contains (y ∷ ys) x (suc k, below, at) = inr (Has-from_Contains ys x (k, omega arith, at))

pub Contains-from_Has : {X : Type 0} (xs : List X) (x : X) → Has xs x → Contains xs x
Contains-from_Has [] x h = absurd h
Contains-from_Has (y ∷ ys) x (inl e) = (0, omega arith, e)
Contains-from_Has (y ∷ ys) x (inr h) =
    let r = Contains-from_Has ys x h in
    (suc r.0, omega (arith, r.1), r.2)

-- the members of two lists, one after the other
pub Has-append_left : {X : Type 0} (xs ys : List X) (x : X) → Has xs x → Has (xs ++ ys) x
Has-append_left [] ys x h = absurd h
Has-append_left (z ∷ xs) ys x (inl e) = inl e
Has-append_left (z ∷ xs) ys x (inr h) = inr (Has-append_left xs ys x h)

pub Has-append_right : {X : Type 0} (xs ys : List X) (x : X) → Has ys x → Has (xs ++ ys) x
Has-append_right [] ys x h = h
Has-append_right (z ∷ xs) ys x h = inr (Has-append_right xs ys x h)

pub Has-append_cases : {X : Type 0} (xs ys : List X) (x : X) → Has (xs ++ ys) x → Has xs x ⊎ Has ys x
Has-append_cases [] ys x h = inr h
Has-append_cases (z ∷ xs) ys x (inl e) = inl (inl e)
Has-append_cases (z ∷ xs) ys x (inr h) =
    elim (Has-append_cases xs ys x h) [ inl a ↦ inl (inr a) | inr b ↦ inr b ]

-- the members of a list of images
pub Has-map : {X Y : Type 0} (f : X → Y) (xs : List X) (x : X) → Has xs x → Has (map f xs) (f x)
Has-map f [] x h = absurd h
Has-map f (z ∷ xs) x (inl e) = inl (ap f e)
Has-map f (z ∷ xs) x (inr h) = inr (Has-map f xs x h)

pub Has-map_cases : {X Y : Type 0} (f : X → Y) (xs : List X) (y : Y) → Has (map f xs) y → (x : X) × Has xs x × (f x ≡ y)
Has-map_cases f [] y h = absurd h
Has-map_cases f (z ∷ xs) y (inl e) = (z, inl refl, e)
Has-map_cases f (z ∷ xs) y (inr h) =
    let r = Has-map_cases f xs y h in
    (r.0, inr r.1, r.2)

-- the members of lists joined end to end
pub Has-flat_map : {X Y : Type 0} (f : X → List Y) (xs : List X) (x : X) (y : Y) → Has xs x → Has (f x) y → Has (flat_map f xs) y
Has-flat_map f [] x y h k = absurd h
Has-flat_map f (z ∷ xs) x y (inl e) k =
    Has-append_left (f z) (flat_map f xs) y (subst (λ w. Has (f w) y) (sym e) k)
Has-flat_map f (z ∷ xs) x y (inr h) k =
    Has-append_right (f z) (flat_map f xs) y (Has-flat_map f xs x y h k)

pub Has-flat_map_cases : {X Y : Type 0} (f : X → List Y) (xs : List X) (y : Y) → Has (flat_map f xs) y → (x : X) × Has xs x × Has (f x) y
Has-flat_map_cases f [] y h = absurd h
Has-flat_map_cases f (z ∷ xs) y h =
    let r = Has-flat_map_cases f xs y in
    elim (Has-append_cases (f z) (flat_map f xs) y h) [
      | inl a ↦ (z, inl refl, a)
      | inr b ↦ ((r b).0, inr (r b).1, (r b).2)
    ]

-- the members of a list with or without a first element
Has-cond_rest : {X : Type 0} (b : Bool) (z x : X) (ys : List X) → Has ys x → Has (cond b (z ∷ ys) ys) x
Has-cond_rest true z x ys h = inr h
Has-cond_rest false z x ys h = h

Has-cond_cases : {X : Type 0} (b : Bool) (z x : X) (ys : List X) → Has (cond b (z ∷ ys) ys) x → ((b ≡ true) × (z ≡ x)) ⊎ Has ys x
Has-cond_cases true z x ys (inl e) = inl (refl, e)
Has-cond_cases true z x ys (inr h) = inr h
Has-cond_cases false z x ys h = inr h

-- the members of a filtered list
pub Has-filter : {X : Type 0} (p : X → Bool) (xs : List X) (x : X) → Has xs x → p x ≡ true → Has (filter p xs) x
Has-filter p [] x h passes = absurd h
Has-filter p (z ∷ xs) x (inl e) passes = rw (e, passes) (inl refl)
Has-filter p (z ∷ xs) x (inr h) passes =
    Has-cond_rest (p z) z x (filter p xs) (Has-filter p xs x h passes)

pub Has-filter_passes : {X : Type 0} (p : X → Bool) (xs : List X) (x : X) → Has (filter p xs) x → Has xs x × (p x ≡ true)
Has-filter_passes p [] x h = absurd h
Has-filter_passes p (z ∷ xs) x h =
    let r = Has-filter_passes p xs x in
    elim (Has-cond_cases (p z) z x (filter p xs) h) [
      | inl a ↦ (inl a.1, sym (ap p a.1) ∙ a.0)
      | inr b ↦ (inr (r b).0, (r b).1)
    ]

-- the members of a range are the numbers in it
pub Has-range_with_len : (a n k : ℕ) → a ≤ k → k < a + n → Has (range_with_len a n) k
Has-range_with_len a zero k low high = absurd (omega arith)
Has-range_with_len a (suc n) k low high =
    let rest = Has-range_with_len (a + 1) n k in
    elim (cases_eq a k) [ inl e ↦ inl e | inr other ↦ inr (rest (omega arith) (omega arith)) ]

pub Has-range_with_len_bounds : (a n k : ℕ) → Has (range_with_len a n) k → (a ≤ k) × (k < a + n)
Has-range_with_len_bounds a zero k h = absurd h
Has-range_with_len_bounds a (suc n) k (inl e) = (omega arith, omega arith)
Has-range_with_len_bounds a (suc n) k (inr h) =
    let r = Has-range_with_len_bounds (a + 1) n k h in
    (omega (arith, r), omega (arith, r))

-- the members of a numbered list are the elements with their places
pub Has-enumerate_from : {X : Type 0} (n : ℕ) (xs : List X) (i k : ℕ) (x : X) → n + k ≡ i → slice_get xs k ≡ Some x → Has (enumerate_from n xs) (i, x)
Has-enumerate_from n [] i k x e at = absurd (cc at)
Has-enumerate_from n (z ∷ xs) i zero x e at =
    let place : n ≡ i = omega arith in
    let same : z ≡ x = cc at in
    inl cc
Has-enumerate_from n (z ∷ xs) i (suc k) x e at =
    inr (Has-enumerate_from (n + 1) xs i k x (omega arith) at)

pub Has-enumerate_from_at : {X : Type 0} (n : ℕ) (xs : List X) (i : ℕ) (x : X) → Has (enumerate_from n xs) (i, x) → (k : ℕ) × (n + k ≡ i) × (slice_get xs k ≡ Some x)
Has-enumerate_from_at n [] i x h = absurd h
Has-enumerate_from_at n (z ∷ xs) i x (inl e) =
    let place : n ≡ i = ap (λ (p : ℕ × _). p.0) e in
    (0, omega arith, ap (λ p. Some p.1) e)
Has-enumerate_from_at n (z ∷ xs) i x (inr h) =
    let r = Has-enumerate_from_at (n + 1) xs i x h in
    (suc r.0, omega (arith, r.1), r.2)

-- a member that passes a test, and the test of the whole list
pub list_any-from_Has : {X : Type 0} (p : X → Bool) (xs : List X) (x : X) → Has xs x → p x ≡ true → list_any p xs ≡ true
list_any-from_Has p [] x h passes = absurd h
list_any-from_Has p (z ∷ xs) x (inl e) passes = or_left (p z) (list_any p xs) (ap p e ∙ passes)
list_any-from_Has p (z ∷ xs) x (inr h) passes =
    or_right (p z) (list_any p xs) (list_any-from_Has p xs x h passes)

pub Has-from_list_any : {X : Type 0} (p : X → Bool) (xs : List X) → list_any p xs ≡ true → (x : X) × Has xs x × (p x ≡ true)
Has-from_list_any p [] h = absurd (false≢true h)
Has-from_list_any p (z ∷ xs) h =
    let r = Has-from_list_any p xs in
    elim (or_cases (p z) (list_any p xs) h) [
      | inl a ↦ (z, inl refl, a)
      | inr b ↦ ((r b).0, inr (r b).1, (r b).2)
    ]

pub passes_from_list_all : {X : Type 0} (p : X → Bool) (xs : List X) (x : X) → list_all p xs ≡ true → Has xs x → p x ≡ true
passes_from_list_all p [] x all h = absurd h
passes_from_list_all p (z ∷ xs) x all (inl e) =
    sym (ap p e) ∙ (and_parts (p z) (list_all p xs) all).0
passes_from_list_all p (z ∷ xs) x all (inr h) =
    passes_from_list_all p xs x (and_parts (p z) (list_all p xs) all).1 h

-- what holds of each member holds of all elements
pub AllByRecursion-from_Has : {X : Type 0} (P : X → Type 0) (xs : List X) → ((x : X) → Has xs x → P x) → AllByRecursion P xs
AllByRecursion-from_Has P [] each = tt
AllByRecursion-from_Has P (z ∷ xs) each =
    (each z (inl refl), AllByRecursion-from_Has P xs (λ x h. each x (inr h)))

pub AllByRecursion-at_Has : {X : Type 0} (P : X → Type 0) (xs : List X) (x : X) → AllByRecursion P xs → Has xs x → P x
AllByRecursion-at_Has P [] x all at = absurd at
AllByRecursion-at_Has P (z ∷ xs) x all (inl e) = subst P e all.0
AllByRecursion-at_Has P (z ∷ xs) x all (inr at) = AllByRecursion-at_Has P xs x all.1 at

-- what stands at a place is a member
pub Has-from_slice_get : {X : Type 0} (xs : List X) (k : ℕ) (x : X) → slice_get xs k ≡ Some x → Has xs x
Has-from_slice_get [] k x at = absurd (cc at)
Has-from_slice_get (z ∷ xs) zero x at = inl (cc at)
Has-from_slice_get (z ∷ xs) (suc k) x at = inr (Has-from_slice_get xs k x at)

-- the greatest of a list is at least each member, and at most what they are all at most
pub fold_max-start : (a : ℕ) (xs : List ℕ) → a ≤ fold max a xs
fold_max-start a [] = omega arith
fold_max-start a (x ∷ xs) = omega (arith, fold_max-start (max a x) xs)

pub fold_max-at : (a : ℕ) (xs : List ℕ) (x : ℕ) → Has xs x → x ≤ fold max a xs
fold_max-at a [] x h = absurd h
fold_max-at a (z ∷ xs) x (inl e) = omega (arith, fold_max-start (max a z) xs)
fold_max-at a (z ∷ xs) x (inr h) = fold_max-at (max a z) xs x h

pub fold_max-le : (a m : ℕ) (xs : List ℕ) → a ≤ m → ((x : ℕ) → Has xs x → x ≤ m) → fold max a xs ≤ m
fold_max-le a m [] low below = low
fold_max-le a m (z ∷ xs) low below =
    let here : z ≤ m = below z (inl refl) in
    fold_max-le (max a z) m xs (omega arith) (λ x h. below x (inr h))

-- what holds of all members
pub AllByRecursion-append : {X : Type 0} (P : X → Type 0) (xs ys : List X) → AllByRecursion P xs → AllByRecursion P ys → AllByRecursion P (xs ++ ys)
AllByRecursion-append P [] ys hx hy = hy
AllByRecursion-append P (x ∷ xs) ys hx hy = (hx.0, AllByRecursion-append P xs ys hx.1 hy)

pub AllByRecursion-weaker : {X : Type 0} (P Q : X → Type 0) (xs : List X) → ((x : X) → P x → Q x) → AllByRecursion P xs → AllByRecursion Q xs
AllByRecursion-weaker P Q [] more h = tt
AllByRecursion-weaker P Q (x ∷ xs) more h = (more x h.0, AllByRecursion-weaker P Q xs more h.1)
