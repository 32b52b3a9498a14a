-- Sums over lists that are made from others, and sums whose terms agree.
use Rattle.std.proofs.Common.{◌≡◌, ℕ, ◌+◌, ◌*◌, ◌≤◌, Bool, true, false, cond, List, [], ◌∷◌, map, filter, length, refl, sym, ap, ◌∙◌, arith}
use Rattle.std.specs.Prelude.{All, sum_by, flat_map}
use Rattle.std.specs.List.{enumerate_from, AllByRecursion}
use Rattle.std.proofs.lemmas.List.Elements.{All-head, All-tail}
use Rattle.std.proofs.lemmas.List.Sums.{sum_by-cons, sum_by-append}

pub sum_by-map : {X Y : Type 0} (f : Y → ℕ) (g : X → Y) (xs : List X) → sum_by f (map g xs) ≡ sum_by (λ x. f (g x)) xs
sum_by-map f g [] = refl
sum_by-map f g (x ∷ xs) =
    sum_by-cons f (g x) (map g xs)
    ∙ ap (λ n. f (g x) + n) (sum_by-map f g xs)
    ∙ sym (sum_by-cons (λ x. f (g x)) x xs)

pub sum_by-flat_map : {X Y : Type 0} (f : Y → ℕ) (g : X → List Y) (xs : List X) → sum_by f (flat_map g xs) ≡ sum_by (λ x. sum_by f (g x)) xs
sum_by-flat_map f g [] = refl
sum_by-flat_map f g (x ∷ xs) =
    sum_by-append f (g x) (flat_map g xs)
    ∙ ap (λ n. sum_by f (g x) + n) (sum_by-flat_map f g xs)
    ∙ sym (sum_by-cons (λ x. sum_by f (g x)) x xs)

pub sum_by-enumerate_from : {X : Type 0} (f : X → ℕ) (n : ℕ) (xs : List X) → sum_by (λ i. f i.1) (enumerate_from n xs) ≡ sum_by f xs
sum_by-enumerate_from f n [] = refl
sum_by-enumerate_from f n (x ∷ xs) =
    sum_by-cons (λ i. f i.1) (n, x) (enumerate_from (n + 1) xs)
    ∙ ap (λ m. f x + m) (sum_by-enumerate_from f (n + 1) xs)
    ∙ sym (sum_by-cons f x xs)

pub sum_by-constant : {X : Type 0} (n : ℕ) (xs : List X) → sum_by (λ _. n) xs ≡ length xs * n
sum_by-constant n [] = omega arith
sum_by-constant n (x ∷ xs) = omega (arith, sum_by-cons (λ _. n) x xs, sum_by-constant n xs)

pub sum_by-agree : {X : Type 0} (f g : X → ℕ) (xs : List X) → All (λ x. f x ≡ g x) xs → sum_by f xs ≡ sum_by g xs
sum_by-agree f g [] same = refl
sum_by-agree f g (x ∷ xs) same =
    let here = All-head (λ x. f x ≡ g x) x xs same in
    let others = sum_by-agree f g xs (All-tail (λ x. f x ≡ g x) x xs same) in
    sum_by-cons f x xs ∙ ap (λ n. n + sum_by f xs) here ∙ ap (λ n. g x + n) others ∙ sym (sum_by-cons g x xs)

pub sum_by-none : {X : Type 0} (f : X → ℕ) (xs : List X) → All (λ x. f x ≡ 0) xs → sum_by f xs ≡ 0
sum_by-none f xs none =
    sum_by-agree f (λ _. 0) xs none ∙ sum_by-constant 0 xs ∙ omega arith

pub sum_by-plus : {X : Type 0} (f g h : X → ℕ) (xs : List X) → ((x : X) → f x + g x ≡ h x) → sum_by f xs + sum_by g xs ≡ sum_by h xs
sum_by-plus f g h [] same = refl
sum_by-plus f g h (x ∷ xs) same =
    omega (arith, sum_by-cons f x xs, sum_by-cons g x xs, sum_by-cons h x xs, same x, sum_by-plus f g h xs same)

-- sums over filtered lists
sum_by-cond : {X : Type 0} (f : X → ℕ) (b : Bool) (x : X) (xs : List X) → sum_by f (cond b (x ∷ xs) xs) ≡ cond b (f x) 0 + sum_by f xs
sum_by-cond f true x xs = sum_by-cons f x xs
sum_by-cond f false x xs = omega arith

pub sum_by-filter : {X : Type 0} (f : X → ℕ) (p : X → Bool) (xs : List X) → sum_by f (filter p xs) ≡ sum_by (λ x. cond (p x) (f x) 0) xs
sum_by-filter f p [] = refl
sum_by-filter f p (x ∷ xs) =
    omega (arith, sum_by-cond f (p x) x (filter p xs), sum_by-cons (λ y. cond (p y) (f y) 0) x xs, sum_by-filter f p xs)

-- a term that counts or not
pub cond-le : (b : Bool) (n : ℕ) → cond b n 0 ≤ n
cond-le true n = omega arith
cond-le false n = omega arith

-- sums where each term is at most two others
pub sum_by-le-two : {X : Type 0} (f g k : X → ℕ) (xs : List X) → ((x : X) → f x ≤ g x + k x) → sum_by f xs ≤ sum_by g xs + sum_by k xs
sum_by-le-two f g k [] each = omega arith
sum_by-le-two f g k (x ∷ xs) each =
    omega (arith, sum_by-cons f x xs, sum_by-cons g x xs, sum_by-cons k x xs, each x, sum_by-le-two f g k xs each)

pub sum_by-le-where : {X : Type 0} (f g : X → ℕ) (P : X → Type 0) (xs : List X) → AllByRecursion P xs → ((x : X) → P x → f x ≤ g x) → sum_by f xs ≤ sum_by g xs
sum_by-le-where f g P [] all each = omega arith
sum_by-le-where f g P (x ∷ xs) all each =
    omega (arith, sum_by-cons f x xs, sum_by-cons g x xs, each x all.0, sum_by-le-where f g P xs all.1 each)
