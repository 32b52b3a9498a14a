-- Where a sum of demands rises next.
use Rattle.std.proofs.Common.{◌≡◌, ℕ, ◌+◌, ◌-◌, ◌*◌, ◌≤◌, min, ap, inl, inr, arith}
use Rattle.std.proofs.Math.Nat.{mul-le-mul_left}
use Rattle.std.proofs.lemmas.Bool.{cases_lt}
use Rattle.sporadic_reserve.specs.Reserves.{IsNextRise}

-- a demand that never falls
abbrev pub Grows : (ℕ → ℕ) → Type 0
Grows f = (x y : ℕ) → x ≤ y → f x ≤ f y

-- so many times a count rises where the count does
pub IsNextRise-times : (f : ℕ → ℕ) (n x y : ℕ) → 1 ≤ n → IsNextRise f x y → IsNextRise (λ z. n * f z) x y
IsNextRise-times f n x y some rise =
    record {
      after = rise.after;
      rises = omega (arith, some, mul-le-mul_left n rise.rises);
      stays = λ z low high. ap (λ m. n * m) (rise.stays z low high);
    }

-- a sum rises where the first of its two parts does
pub IsNextRise-sum : (f g : ℕ → ℕ) (x y z : ℕ) → Grows f → Grows g → IsNextRise f x y → IsNextRise g x z → IsNextRise (λ w. f w + g w) x (min y z)
IsNextRise-sum f g x y z grows_f grows_g rise_f rise_g =
    elim (cases_lt z y) [
      | inl lt ↦ let first : min y z ≡ z = omega arith in
          rw first (record {
            after = rise_g.after;
            rises = omega (arith, rise_g.rises, grows_f (z - 1) z (omega arith));
            stays = λ w low high. omega (arith, rise_f.stays w low (omega arith), rise_g.stays w low high);
          })
      | inr le ↦ let first : min y z ≡ y = omega arith in
          rw first (record {
            after = rise_f.after;
            rises = omega (arith, rise_f.rises, grows_g (y - 1) y (omega arith));
            stays = λ w low high. omega (arith, rise_f.stays w low high, rise_g.stays w low (omega arith));
          })
    ]

-- demands that agree rise alike
pub IsNextRise-same : (f g : ℕ → ℕ) (x y : ℕ) → ((w : ℕ) → f w ≡ g w) → IsNextRise f x y → IsNextRise g x y
IsNextRise-same f g x y same rise =
    record {
      after = rise.after;
      rises = omega (arith, rise.rises, same (y - 1), same y);
      stays = λ z low high. omega (arith, rise.stays z low high, same z, same x);
    }
