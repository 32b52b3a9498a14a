-- Two lists side by side, read and written as one.
use Rattle.std.proofs.Common.{◌≡◌, ℕ, zero, suc, ◌<◌, List, [], ◌∷◌, length, set, get_or, replicate, slice_get, Some, refl, ap, ◌∙◌, arith}
use Rattle.std.proofs.lemmas.Option.{get_or_from_slice_get, slice_get-get_or, slice_get_within}
use Rattle.node_chain.specs.Laps.{paired}

module _ {X Y Z : Type 0} (f : X → Y → Z) where
  -- how many there are
  pub length-paired : (xs : List X) (ys : List Y) → length xs ≡ length ys → length (paired f xs ys) ≡ length xs
  length-paired [] ys same = refl
  length-paired (x ∷ xs) [] same = absurd (omega (arith, same))
  length-paired (x ∷ xs) (y ∷ ys) same = ap suc (length-paired xs ys (omega (arith, same)))

  -- an index in both
  within-paired : (xs : List X) (ys : List Y) (i : ℕ) → i < length xs → i < length ys → i < length (paired f xs ys)
  within-paired [] ys i within beside = within
  within-paired (x ∷ xs) [] i within beside = beside
  within-paired (x ∷ xs) (y ∷ ys) zero within beside = omega arith
  within-paired (x ∷ xs) (y ∷ ys) (suc i) within beside = omega (arith, within-paired xs ys i (omega (arith, within)) (omega (arith, beside)))

  -- the item at an index
  pub get_or-paired : (xs : List X) (ys : List Y) (i : ℕ) (x : X) (y : Y) (z : Z) → i < length xs → i < length ys → get_or (paired f xs ys) i z ≡ f (get_or xs i x) (get_or ys i y)
  get_or-paired [] ys i x y z within beside = absurd (omega (arith, within))
  get_or-paired (a ∷ xs) [] i x y z within beside = absurd (omega (arith, beside))
  get_or-paired (a ∷ xs) (b ∷ ys) zero x y z within beside = refl
  get_or-paired (a ∷ xs) (b ∷ ys) (suc i) x y z within beside = get_or-paired xs ys i x y z (omega (arith, within)) (omega (arith, beside))

  -- an item of both that is there
  pub slice_get-paired : (xs : List X) (ys : List Y) (i : ℕ) (x : X) (y : Y) → slice_get xs i ≡ Some x → slice_get ys i ≡ Some y → slice_get (paired f xs ys) i ≡ Some (f x y)
  slice_get-paired xs ys i x y at beside =
      let within = slice_get_within xs i x at in
      let long = slice_get_within ys i y beside in
      slice_get-get_or (paired f xs ys) i (f x y) (within-paired xs ys i within long)
      ∙ ap Some (get_or-paired xs ys i x y (f x y) within long ∙ (λ k. f (get_or_from_slice_get xs i x x at k) (get_or_from_slice_get ys i y y beside k)))

  -- a write to both is a write of what is made of the two
  pub set-paired : (xs : List X) (ys : List Y) (i : ℕ) (x : X) (y : Y) → paired f (set xs i x) (set ys i y) ≡ set (paired f xs ys) i (f x y)
  set-paired [] ys i x y = refl
  set-paired (a ∷ xs) [] zero x y = refl
  set-paired (a ∷ xs) [] (suc i) x y = refl
  set-paired (a ∷ xs) (b ∷ ys) zero x y = refl
  set-paired (a ∷ xs) (b ∷ ys) (suc i) x y = ap (λ zs. f a b ∷ zs) (set-paired xs ys i x y)

  -- a write to the second list
  pub set-second : (xs : List X) (ys : List Y) (i : ℕ) (x : X) (y : Y) → paired f xs (set ys i y) ≡ set (paired f xs ys) i (f (get_or xs i x) y)
  set-second [] ys i x y = refl
  set-second (a ∷ xs) [] zero x y = refl
  set-second (a ∷ xs) [] (suc i) x y = refl
  set-second (a ∷ xs) (b ∷ ys) zero x y = refl
  set-second (a ∷ xs) (b ∷ ys) (suc i) x y = ap (λ zs. f a b ∷ zs) (set-second xs ys i x y)

  -- the same two items over and over
  pub replicate-paired : (n : ℕ) (x : X) (y : Y) → paired f (replicate n x) (replicate n y) ≡ replicate n (f x y)
  replicate-paired zero x y = refl
  replicate-paired (suc n) x y = ap (λ zs. f x y ∷ zs) (replicate-paired n x y)
