use Rattle.std.proofs.Common.{◌≡◌, ◌+◌, ◌-◌, ◌/◌, ◌%◌, ◌^◌, ◌<◌, [], ◌∷◌, ◌++◌, List, ℕ, sym, ap, ◌∙◌, append_assoc, append-nil, arith}
use Rattle.std.proofs.Math.Nat.{one-le-pow}
use Rattle.std.proofs.lemmas.Nat.{mod_below}
use Rattle.time_texts.specs.Writing.{fraction_text}
use Rattle.time_texts.proofs.Writings.{fraction_text-more, fraction_text-none}
use Rattle.time_texts.proofs.writing.push_digits.Goals as goal

pub loop-rest-preserved : goal.loop-rest-preserved
loop-rest-preserved c =
    let at = c.loop-rest in
    let unit = c.pow-unit.result in
    let some : 0 < at.rest = omega arith in
    let positive : 0 < 10 ^ (at.left - 1) = one-le-pow (at.left - 1) 10 (omega arith) in
    let more = rw (← c.pow-unit.ensures) at (fraction_text-more at.left at.rest some at.invariant.below) in
    let later = fraction_text (at.left - 1) (at.rest % unit) in
    record {
      few = omega (arith, at.invariant.few);
      below = rw c.pow-unit.ensures (mod_below at.rest (10 ^ (at.left - 1)) positive);
      text =
          ap (λ (front : List ℕ). front ++ later) c.in_ok-push.ensures.items
          ∙ append_assoc at.text.items ((48 + at.rest / unit) ∷ []) later
          ∙ ap (λ (digits : List ℕ). at.text.items ++ digits) (sym more)
          ∙ at.invariant.text;
    }

pub returns : goal.returns
returns c =
    let at = c.loop-rest in
    let none : at.rest ≡ 0 = omega arith in
    sym (append-nil at.text.items)
    ∙ ap (λ (digits : List ℕ). at.text.items ++ digits) (sym (fraction_text-none at.left at.rest none))
    ∙ at.invariant.text
