-- Points that rise: how many there are, those later than a time, and one more among them.
use Rattle.std.proofs.Common.{◌≡◌, ℕ, ◌-◌, ◌<◌, ◌≤◌, max, List, [], ◌∷◌, filter, length, refl, sym, ap, inl, inr, arith}
use Rattle.std.specs.Prelude.{nat_lt}
use Rattle.std.proofs.lemmas.Bool.{cases_lt, cases_order, eq-eqb, ne_eqb, lt-ltb, le-ltb}
use Rattle.slot_core.specs.Runs.Rising.{AreRising, last_point}
use Rattle.slot_facts.proofs.Lists.Apart.{above-from_rising}
use Rattle.slot_facts.proofs.Lists.Members.{Has}
use Rattle.slot_facts.proofs.Lists.RangeFilters.{filter-all}
use Rattle.interval_build.proofs.Filled.{last_point-above}
use Rattle.scene_steps.specs.Steps.{with_point}

-- those later than b are at most as many as slots from b to the last
pub length-later : (b start : ℕ) (points : List ℕ) → AreRising start points → length (filter (nat_lt b) points) ≤ last_point start points - max start b
length-later b start [] rising = omega arith
length-later b start (e ∷ points) rising =
    let above = last_point-above e points rising.1 in
    let rest = length-later b e points rising.1 in
    elim (cases_lt b e) [
      | inl late ↦ rw (lt-ltb b e late) (omega (arith, rising.0, above, rest))
      | inr early ↦ rw (le-ltb b e early) (omega (arith, rising.0, above, rest))
    ]

-- so are all of them
pub length-rising : (start : ℕ) (points : List ℕ) → AreRising start points → length points ≤ last_point start points - start
length-rising start [] rising = omega arith
length-rising start (e ∷ points) rising =
    omega (arith, rising.0, last_point-above e points rising.1, length-rising e points rising.1)

-- the last of those later than b stays the last
pub last_point-later : (b start : ℕ) (points : List ℕ) → AreRising start points → start ≤ b → b < last_point start points → last_point b (filter (nat_lt b) points) ≡ last_point start points
last_point-later b start [] rising from far = absurd (omega arith)
last_point-later b start (e ∷ points) rising from far =
    elim (cases_lt b e) [
      | inl late ↦
          let all = filter-all (nat_lt b) points (λ x at. lt-ltb b x (omega (arith, above-from_rising e points x rising.1 at))) in
          rw (lt-ltb b e late) (ap (last_point e) all)
      | inr early ↦ rw (le-ltb b e early) (last_point-later b e points rising.1 early far)
    ]

-- a point that is the first is there already
pub with_point-same : (p q : ℕ) (points : List ℕ) → p ≡ q → with_point p (q ∷ points) ≡ q ∷ points
with_point-same p q points same = rw (eq-eqb p q same) refl

-- one before the first stands before it
pub with_point-before : (p q : ℕ) (points : List ℕ) → p < q → with_point p (q ∷ points) ≡ p ∷ q ∷ points
with_point-before p q points before =
    rw (ne_eqb p q (λ e. absurd (omega arith)), lt-ltb p q before) refl

-- one after the first stands among the others
pub with_point-after : (p q : ℕ) (points : List ℕ) → q < p → with_point p (q ∷ points) ≡ q ∷ with_point p points
with_point-after p q points after =
    rw (ne_eqb p q (λ e. absurd (omega arith)), le-ltb p q (omega arith)) refl

-- it is there
pub Has-with_point : (p : ℕ) (points : List ℕ) → Has (with_point p points) p
Has-with_point p [] = inl refl
Has-with_point p (q ∷ points) =
    let rest = Has-with_point p points in
    elim (cases_order p q) [
      | inl same ↦ rw (with_point-same p q points same) (inl (sym same))
      | inr other ↦ elim other [
        | inl before ↦ rw (with_point-before p q points before) (inl refl)
        | inr after ↦ rw (with_point-after p q points after) (inr rest)
      ]
    ]

-- the others stay
pub Has-with_point_other : (p : ℕ) (points : List ℕ) (x : ℕ) → Has points x → Has (with_point p points) x
Has-with_point_other p [] x at = absurd at
Has-with_point_other p (q ∷ points) x at =
    let rest = λ (later : Has points x). Has-with_point_other p points x later in
    elim (cases_order p q) [
      | inl same ↦ rw (with_point-same p q points same) at
      | inr other ↦ elim other [
        | inl before ↦ rw (with_point-before p q points before) (inr at)
        | inr after ↦ rw (with_point-after p q points after) (elim at [ inl e ↦ inl e | inr later ↦ inr (rest later) ])
      ]
    ]

-- they still rise
pub AreRising-with_point : (p start : ℕ) (points : List ℕ) → start < p → AreRising start points → AreRising start (with_point p points)
AreRising-with_point p start [] above rising = (above, tt)
AreRising-with_point p start (q ∷ points) above rising =
    elim (cases_order p q) [
      | inl same ↦ rw (with_point-same p q points same) rising
      | inr other ↦ elim other [
        | inl before ↦ rw (with_point-before p q points before) (above, (before, rising.1))
        | inr after ↦ rw (with_point-after p q points after) (rising.0, AreRising-with_point p q points after rising.1)
      ]
    ]

-- and end where they did
pub last_point-with_point : (p start : ℕ) (points : List ℕ) → start < p → p ≤ last_point start points → last_point start (with_point p points) ≡ last_point start points
last_point-with_point p start [] above within = absurd (omega arith)
last_point-with_point p start (q ∷ points) above within =
    elim (cases_order p q) [
      | inl same ↦ rw (with_point-same p q points same) refl
      | inr other ↦ elim other [
        | inl before ↦ rw (with_point-before p q points before) refl
        | inr after ↦ rw (with_point-after p q points after) (last_point-with_point p q points after within)
      ]
    ]
