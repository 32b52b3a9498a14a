-- What edits of rising points leave.
use Rattle.std.proofs.Common.{◌≡◌, ℕ, suc, ◌+◌, ◌<◌, ◌≤◌, true, false, cond, ◌==◌, List, [], ◌∷◌, filter, Option, Some, None, refl, sym, ap, subst, ◌∙◌, ⊎_elim, arith}
use Rattle.std.specs.Prelude.{nat_lt, slice_get}
use Rattle.std.specs.Option.{option_map_or}
use Rattle.std.specs.List.{insert, remove, prefix_len}
use Rattle.std.proofs.lemmas.Bool.{cases_lt, lt-ltb, le-ltb, eqb-true, eqb-false}
use Rattle.std.proofs.lemmas.Bool.Decides.{nat_tests}
use Rattle.slot_core.specs.Runs.Rising.{AreRising}
use Rattle.scene_steps.specs.Steps.{with_point}

-- how many points at the front are before a point
abbrev pub before_point : ℕ → List ℕ → ℕ
before_point p points = prefix_len (λ q. nat_lt q p) points

-- tests of two points in order
other-test : (p q : ℕ) → q < p → (p == q) ≡ false
other-test p q less = grind (arith, nat_tests)

lower-test : (p q : ℕ) → p < q → (p == q) ≡ false
lower-test p q less = grind (arith, nat_tests)

same-test : (p : ℕ) → (p == p) ≡ true
same-test p = grind (arith, nat_tests)

-- a point that is not there comes in behind those before it
pub insert-with_point : (p : ℕ) (points : List ℕ) → (slice_get points (before_point p points) ≡ Some p → ⊥) → insert points (before_point p points) p ≡ with_point p points
insert-with_point p [] new = refl
insert-with_point p (q ∷ points) new =
    ⊎_elim
    (λ less.
    let one : 1 + before_point p points ≡ suc (before_point p points) = omega arith in
    let place : before_point p (q ∷ points) ≡ suc (before_point p points) = ap (λ b. cond b (1 + before_point p points) 0) (lt-ltb q p less) ∙ one in
    let rest = insert-with_point p points (λ there. new (ap (slice_get (q ∷ points)) place ∙ there)) in
    ap (λ n. insert (q ∷ points) n p) place ∙ (ap (λ ps. q ∷ ps) rest ∙ sym (rw (other-test p q less, le-ltb p q (omega arith)) refl)))
    (λ more.
    let place : before_point p (q ∷ points) ≡ 0 = ap (λ b. cond b (1 + before_point p points) 0) (le-ltb q p more) in
    let less = lower p q more (λ same. new (ap (slice_get (q ∷ points)) place ∙ ap Some (sym same))) in
    ap (λ n. insert (q ∷ points) n p) place ∙ sym (rw (lower-test p q less, lt-ltb p q less) refl))
    (cases_lt q p)
  where
    lower : (p q : ℕ) → p ≤ q → (p ≡ q → ⊥) → p < q
    lower p q more other = omega arith

-- one that is there stays
pub same-with_point : (p : ℕ) (points : List ℕ) → slice_get points (before_point p points) ≡ Some p → points ≡ with_point p points
same-with_point p [] there = absurd (cc there)
same-with_point p (q ∷ points) there =
    ⊎_elim
    (λ less.
    let one : 1 + before_point p points ≡ suc (before_point p points) = omega arith in
    let place : before_point p (q ∷ points) ≡ suc (before_point p points) = ap (λ b. cond b (1 + before_point p points) 0) (lt-ltb q p less) ∙ one in
    let rest = same-with_point p points (sym (ap (slice_get (q ∷ points)) place) ∙ there) in
    ap (λ ps. q ∷ ps) rest ∙ sym (rw (other-test p q less, le-ltb p q (omega arith)) refl))
    (λ more.
    let place : before_point p (q ∷ points) ≡ 0 = ap (λ b. cond b (1 + before_point p points) 0) (le-ltb q p more) in
    let same : Some q ≡ Some p = sym (ap (slice_get (q ∷ points)) place) ∙ there in
    is_point (cc same))
    (cases_lt q p)
  where
    is_point : q ≡ p → q ∷ points ≡ with_point p (q ∷ points)
    is_point e = subst (λ r. r ∷ points ≡ with_point p (r ∷ points)) (sym e) (sym (rw (same-test p) refl))

-- of points that rise from a time, all after the first are past the next slot
filter-later : (t : ℕ) (points : List ℕ) → AreRising (t + 1) points → filter (nat_lt (t + 1)) points ≡ points
filter-later t [] rising = refl
filter-later t (p ∷ points) rising =
    rw (lt-ltb (t + 1) p rising.0) (ap (λ ps. p ∷ ps) (filter-later t points (rises_from (t + 1) p points rising.0 rising.1)))
  where
    rises_from : (a b : ℕ) (ps : List ℕ) → a < b → AreRising b ps → AreRising a ps
    rises_from a b [] less rising = tt
    rises_from a b (q ∷ ps) less rising = (omega (arith, rising.0), rising.1)

-- the first goes where the next slot starts at it
pub pass-first : (t : ℕ) (points : List ℕ) → AreRising t points → slice_get points 0 ≡ Some (t + 1) → remove points 0 ≡ filter (nat_lt (t + 1)) points
pass-first t [] rising first = absurd (cc first)
pass-first t (p ∷ points) rising first =
    let is : p ≡ t + 1 = cc first in
    let past : p ≤ t + 1 = omega arith in
    let later : AreRising (t + 1) points = subst (λ q. AreRising q points) is rising.1 in
    rw (le-ltb (t + 1) p past) (sym (filter-later t points later))

-- else all stay
pub pass-none : (t : ℕ) (points : List ℕ) → AreRising t points → (slice_get points 0 ≡ Some (t + 1) → ⊥) → points ≡ filter (nat_lt (t + 1)) points
pass-none t [] rising first = refl
pass-none t (p ∷ points) rising first =
    let other : p ≡ t + 1 → ⊥ = λ same. first (ap Some same) in
    sym (filter-later t (p ∷ points) (past p other rising.0, rising.1))
  where
    past : (p : ℕ) → (p ≡ t + 1 → ⊥) → t < p → t + 1 < p
    past p other later = omega arith

-- what a test of the point at a place tells
pub at-true : (p : ℕ) (o : Option ℕ) → option_map_or (λ q. q == p) o false ≡ true → o ≡ Some p
at-true p None is = absurd (cc is)
at-true p (Some q) is = ap Some (eqb-true q p is)

pub at-false : (p : ℕ) (o : Option ℕ) → option_map_or (λ q. q == p) o false ≡ false → o ≡ Some p → ⊥
at-false p None is there = absurd (cc there)
at-false p (Some q) is there = eqb-false q p is (cc there)
