-- A block in which each place has a value is the list of its values.
use Rattle.std.proofs.Common.{◌≡◌, ℕ, zero, suc, ◌+◌, ◌-◌, ◌≤◌, ◌<◌, List, [], ◌∷◌, ◌++◌, length, map, replicate, slice_set, slice_index_or, Option, Some, None, refl, sym, ap, subst, ◌∙◌, arith, append-nil, add-one, zero-add}
use Rattle.std.proofs.lemmas.List.{length-map, length-replicate, length-set, map-set}
use Rattle.node_chain.specs.Raw.{values, IsFull}

module _ {X : Type 0} where
  pub values-map : (xs : List X) → values (map Some xs) ≡ xs
  values-map [] = refl
  values-map (x ∷ xs) = ap (λ l. x ∷ l) (values-map xs)

  some-at : (xs : List X) (i : ℕ) (d : X) → i < length xs → slice_index_or (map Some xs) i None ≡ Some (slice_index_or xs i d)
  some-at [] i d lt = absurd (omega arith)
  some-at (x ∷ xs) zero d lt = refl
  some-at (x ∷ xs) (suc i) d lt = some-at xs i d (omega arith)

  -- there are as many values as places
  pub IsFull-length : (held : List (Option X)) (n : ℕ) → IsFull held n → length (values held) ≡ n
  IsFull-length held n f = sym (length-map (values held) Some) ∙ sym (ap length f.full) ∙ f.many

  -- the value at a place
  pub IsFull-value : (held : List (Option X)) (n i : ℕ) (d : X) → IsFull held n → i < length (values held)
      → slice_index_or held i None ≡ Some (slice_index_or (values held) i d)
  IsFull-value held n i d f lt =
      ap (λ (l : List (Option X)). slice_index_or l i None) f.full ∙ some-at (values held) i d lt

  -- a value is put into a place
  pub values-set : (held : List (Option X)) (n i : ℕ) (x : X) → IsFull held n
      → values (slice_set held i (Some x)) ≡ slice_set (values held) i x
  values-set held n i x f =
      ap (λ (l : List (Option X)). values (slice_set l i (Some x))) f.full
      ∙ ap values (sym (map-set Some (values held) i x)) ∙ values-map (slice_set (values held) i x)

  -- places with the values of a list are full
  pub IsFull-map : (xs : List X) (n : ℕ) → length xs ≡ n → IsFull (map Some xs) n
  IsFull-map xs n long = record {
    full = ap (map Some) (sym (values-map xs));
    many = length-map xs Some ∙ long;
  }

  -- full places stay so where a value is put
  pub IsFull-set : (held : List (Option X)) (n i : ℕ) (x : X) → IsFull held n → IsFull (slice_set held i (Some x)) n
  IsFull-set held n i x f =
      let same : map Some (slice_set (values held) i x) ≡ slice_set held i (Some x) =
      map-set Some (values held) i x ∙ ap (λ (l : List (Option X)). slice_set l i (Some x)) (sym f.full) in
      subst (λ l. IsFull l n) same
      (IsFull-map (slice_set (values held) i x) n (length-set (values held) i x ∙ IsFull-length held n f))

-- so many zeros, and empty places behind them
abbrev pub begun : ℕ → ℕ → List (Option ℕ)
begun n left = replicate n (Some 0) ++ replicate left None

-- those zeros and the empty places
pub length-begun : (n left : ℕ) → length (begun n left) ≡ n + left
length-begun zero left = length-replicate left None ∙ sym (zero-add left)
length-begun (suc n) left = omega (arith, length-begun n left)

begun-one : (n left : ℕ) → slice_set (begun n (suc left)) n (Some 0) ≡ begun (suc n) left
begun-one zero left = refl
begun-one (suc n) left = ap (λ (l : List (Option ℕ)). Some 0 ∷ l) (begun-one n left)

-- one more zero is put into the first empty place
pub begun-more : (held : List (Option ℕ)) (n count : ℕ) → n < count → held ≡ begun n (count - n)
    → slice_set held n (Some 0) ≡ begun (n + 1) (count - (n + 1))
begun-more held n count lt e =
    let step : count - n ≡ suc (count - (n + 1)) = omega arith in
    ap (λ l. slice_set l n (Some 0)) (e ∙ ap (begun n) step)
    ∙ begun-one n (count - (n + 1)) ∙ ap (λ k. begun k (count - (n + 1))) (sym (add-one n))

zeros : (n : ℕ) → replicate n (Some 0) ≡ map Some (replicate {A = ℕ} n 0)
zeros zero = refl
zeros (suc n) = ap (λ (l : List (Option ℕ)). Some 0 ∷ l) (zeros n)

-- no place is left empty
pub begun-all : (held : List (Option ℕ)) (n count : ℕ) → n ≤ count → count ≤ n → held ≡ begun n (count - n)
    → held ≡ map Some (replicate count 0)
begun-all held n count le ge e =
    let none : count - n ≡ 0 = omega arith in let all : n ≡ count = omega arith in
    e ∙ ap (begun n) none ∙ append-nil (replicate n (Some 0)) ∙ zeros n ∙ ap (λ k. map Some (replicate k 0)) all
