-- A bound that holds up to the horizon holds for ever.
use Rattle.std.proofs.Common.{◌≡◌, ℕ, zero, suc, ◌+◌, ◌-◌, ◌*◌, ◌≤◌, subst, inl, inr, arith}
use Rattle.std.proofs.lemmas.Bool.{cases_lt}

-- where a need fits up to the end of some cycles, two of them past the start, and one cycle later at most a cycle
-- more is needed, it fits at each later time
module _ (need : ℕ → ℕ) (slots t low end cycle : ℕ) (some : 1 ≤ cycle) (starts : t ≤ low) (reaches : low + cycle ≤ end + 1) (ahead : t + 2 * cycle ≤ end + 1) (fits : (x : ℕ) → low ≤ x → x ≤ end → slots + need x ≤ x - t) (later : (x : ℕ) → t + cycle ≤ x → need (x + cycle) ≤ need x + cycle) where
  extended_by : (n x : ℕ) → low ≤ x → x ≤ end + n → slots + need x ≤ x - t
  extended_by zero x above below = fits x above (omega arith)
  extended_by (suc n) x above below =
      elim (cases_lt end x) [
        | inr within ↦ fits x above within
        | inl past ↦
            let before : ℕ = x - cycle in
            let whole : before + cycle ≡ x = omega arith in
            let more = later before (omega arith) in
            let same = subst (λ y. need y ≤ need before + cycle) whole more in
            omega (arith, same, extended_by n before (omega arith) (omega arith))
      ]

  pub bound-extended : (x : ℕ) → low ≤ x → slots + need x ≤ x - t
  bound-extended x above = extended_by x x above (omega arith)
