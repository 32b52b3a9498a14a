-- The least value of a function over a range, as a bound that is reached.
use Rattle.std.proofs.Common.{◌≡◌, ℕ, zero, suc, ◌+◌, ◌-◌, ◌<◌, ◌≤◌, ◌⊎◌, ℤ, ◌≤ℤ◌, fold, refl, sym, ◌∙◌, subst, inl, inr, ⊎_elim, arith}
use Rattle.std.specs.Int.{int_min}
use Rattle.std.specs.List.{range_with_len}
use Rattle.std.proofs.lemmas.Bool.{cases_order}
use Rattle.std.proofs.lemmas.Int.{ints, clamps, by_lt_z}
use Rattle.slot_core.specs.Runs.Spans.{least}

-- z is the least of f over the numbers from a to b
pub record IsLeast (f : ℕ → ℤ) (a b : ℕ) (z : ℤ) : Type 0 where
  pub bound : (x : ℕ) → a ≤ x → x ≤ b → z ≤ℤ f x
  pub reached : (x : ℕ) × (a ≤ x) × (x ≤ b) × (z ≡ f x)

both_le : (y z : ℤ) → y ≤ℤ z → z ≤ℤ y → y ≡ z
both_le y z g h = omega (arith, ints)

pub IsLeast-unique : (f : ℕ → ℤ) (a b : ℕ) (y z : ℤ) → IsLeast f a b y → IsLeast f a b z → y ≡ z
IsLeast-unique f a b y z g h =
    let up : y ≤ℤ f h.reached.0 = g.bound h.reached.0 h.reached.1 h.reached.2 in
    let down : z ≤ℤ f g.reached.0 = h.bound g.reached.0 g.reached.1 g.reached.2 in
    both_le y z (subst (λ v. y ≤ℤ v) (sym h.reached.3) up) (subst (λ v. z ≤ℤ v) (sym g.reached.3) down)

-- z is the least of `best` and of f over n numbers from a on
record IsLeastOf (f : ℕ → ℤ) (best : ℤ) (a n : ℕ) (z : ℤ) : Type 0 where
  first : z ≤ℤ best
  bound : (x : ℕ) → a ≤ x → x < a + n → z ≤ℤ f x
  reached : (z ≡ best) ⊎ ((x : ℕ) × (a ≤ x) × (x < a + n) × (z ≡ f x))

-- the least so far and the next value
int_min-first : (x y : ℤ) → int_min x y ≤ℤ x
int_min-first x y = omega (arith, ints, clamps)

int_min-second : (x y : ℤ) → int_min x y ≤ℤ y
int_min-second x y = omega (arith, ints, clamps)

int_min-reached : (x y : ℤ) → (int_min x y ≡ x) ⊎ (int_min x y ≡ y)
int_min-reached x y = by_lt_z y x (λ l. inr (omega (arith, ints, clamps))) (λ l. inl (omega (arith, ints, clamps)))

le-le : (x y z : ℤ) → x ≤ℤ y → y ≤ℤ z → x ≤ℤ z
le-le x y z g h = omega (arith, ints)

IsLeastOf-more : (f : ℕ → ℤ) (best : ℤ) (a n : ℕ) (z : ℤ) → IsLeastOf f (int_min best (f a)) (a + 1) n z → IsLeastOf f best a (suc n) z
IsLeastOf-more f best a n z h =
    record {
      first = le-le z (int_min best (f a)) best h.first (int_min-first best (f a));
      bound = bound;
      reached = ⊎_elim from_first (λ w. inr (w.0, omega arith, omega arith, w.3)) h.reached;
    }
  where
    bound : (x : ℕ) → a ≤ x → x < a + suc n → z ≤ℤ f x
    bound x from within =
        ⊎_elim
        (λ e. subst (λ v. z ≤ℤ f v) e (le-le z (int_min best (f a)) (f a) h.first (int_min-second best (f a))))
        (λ o. h.bound x (⊎_elim (λ l. omega arith) (λ l. absurd (omega arith)) o) (omega arith))
        (cases_order a x)

    from_first : z ≡ int_min best (f a) → (z ≡ best) ⊎ ((x : ℕ) × (a ≤ x) × (x < a + suc n) × (z ≡ f x))
    from_first e = ⊎_elim (λ g. inl (e ∙ g)) (λ g. inr (a, omega arith, omega arith, e ∙ g)) (int_min-reached best (f a))

IsLeastOf-fold : (f : ℕ → ℤ) (best : ℤ) (a n : ℕ) → IsLeastOf f best a n (fold (λ best x. int_min best (f x)) best (range_with_len a n))
IsLeastOf-fold f best a zero = record { first = omega (arith, ints); bound = λ x from within. absurd (omega arith); reached = inl refl }
IsLeastOf-fold f best a (suc n) = IsLeastOf-more f best a n _ (IsLeastOf-fold f (int_min best (f a)) (a + 1) n)

-- the least is the least
pub IsLeast-least : (f : ℕ → ℤ) (a b : ℕ) → a ≤ b → IsLeast f a b (least f a b)
IsLeast-least f a b l = record { bound = bound; reached = ⊎_elim (λ e. (a, omega arith, l, e)) (λ w. (w.0, omega arith, omega arith, w.3)) whole.reached }
  where
    whole : IsLeastOf f (f a) (a + 1) (b - a) (least f a b)
    whole = IsLeastOf-fold f (f a) (a + 1) (b - a)

    bound : (x : ℕ) → a ≤ x → x ≤ b → least f a b ≤ℤ f x
    bound x from within =
        ⊎_elim
        (λ e. subst (λ v. least f a b ≤ℤ f v) e whole.first)
        (λ o. whole.bound x (⊎_elim (λ l. omega arith) (λ l. absurd (omega arith)) o) (omega arith))
        (cases_order a x)
