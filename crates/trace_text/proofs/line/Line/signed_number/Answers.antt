-- A number below 0 has at most 19 digits after its `-`, and so has one that is not.
use Rattle.std.proofs.Common.{length, arith, ap, length-append}
use Rattle.std.proofs.lemmas.Fmt.{length-decimal-le}
use Rattle.trace_text.proofs.line.Line.signed_number.Goals as goal
use Rattle.trace_text.proofs.line.Line.signed_number.Goals.{then-n-lt0, else-n-lt0}

pub push_decimal-requires-clause-digits : goal.push_decimal-requires-clause-digits
push_decimal-requires-clause-digits c =
    let digits = length-decimal-le 19 c.unsigned_abs.result (omega arith) (omega arith) (omega arith) in
    elim c.if-n-lt0.branch [
      | then-n-lt0 w ↦ omega (arith, ap length w.self-is, simp length-append at (ap length w.push.ensures))
      | else-n-lt0 w ↦ omega (arith, ap length w.self-is)
    ]

pub returns-clause-short : goal.returns-clause-short
returns-clause-short c =
    let digits = length-decimal-le 19 c.unsigned_abs.result (omega arith) (omega arith) (omega arith) in
    let long = simp length-append at (ap length c.push_decimal.ensures) in
    elim c.if-n-lt0.branch [
      | then-n-lt0 w ↦ omega (arith, ap length w.self-is, simp length-append at (ap length w.push.ensures))
      | else-n-lt0 w ↦ omega (arith, ap length w.self-is)
    ]
