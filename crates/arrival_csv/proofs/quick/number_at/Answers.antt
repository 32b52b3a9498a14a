use Rattle.std.proofs.Common.{sym, ◌∙◌, arith}
use Rattle.std.proofs.lemmas.Bool.{eq-eqb, false≢true}
use Rattle.arrival_csv.proofs.QuickLemmas.{IsNumberAt-from_digits}
use Rattle.arrival_csv.proofs.quick.number_at.Goals as goal
use Rattle.arrival_csv.proofs.quick.number_at.Goals.{then-digits-start-2, else-digits-start-2}

pub returns : goal.returns
returns c =
    let digits = c.digits_at-digits.result in
    IsNumberAt-from_digits c.args.text.now c.args.start c.args.low c.args.high digits.value digits.end c.digits_at-digits.ensures c.if-digits-start.false (λ zero. elim c.if-digits-start-2.branch [
      | then-digits-start-2 w ↦ absurd (false≢true (sym c.if-text-start-eq48.false ∙ w.value-is ∙ eq-eqb _ _ zero))
      | else-digits-start-2 w ↦ w.if-digits-start-2.false
    ]) (omega (arith, c.from.ensures, c.if-digits-from.false)) (omega (arith, c.from-else-digits-from.ensures, c.if-digits-from-2.false))
