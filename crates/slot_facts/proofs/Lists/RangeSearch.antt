-- What a search along a range finds is the least number that passes.
use Rattle.std.proofs.Common.{◌≡◌, ℕ, zero, suc, ◌+◌, ◌<◌, ◌≤◌, Bool, false, Some, sym, ap, ◌∙◌, inl, inr, arith}
use Rattle.std.specs.Prelude.{find}
use Rattle.std.specs.List.{range_with_len}
use Rattle.std.proofs.lemmas.Bool.{cases_Bool, cases_eq, cond-true, cond-false}

pub least-from_find : (p : ℕ → Bool) (a n x : ℕ) → find p (range_with_len a n) ≡ Some x → (y : ℕ) → a ≤ y → y < x → p y ≡ false
least-from_find p a zero x found y low high = absurd (cc found)
least-from_find p a (suc n) x found y low high =
    let later = find p (range_with_len (a + 1) n) in
    let rest = least-from_find p (a + 1) n x in
    elim (cases_Bool (p a)) [
      | inl passes ↦
          let first : Some a ≡ Some x = sym (cond-true (p a) (Some a) later passes) ∙ found in
          let same : a ≡ x = cc first in
          absurd (omega arith)
      | inr fails ↦
          let other : later ≡ Some x = sym (cond-false (p a) (Some a) later fails) ∙ found in
          elim (cases_eq a y) [
            | inl here ↦ ap p (sym here) ∙ fails
            | inr above ↦ rest other y (omega arith) high
          ]
    ]
