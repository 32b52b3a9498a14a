-- A number has at most 20 digits.
use Rattle.std.proofs.Common.{length, arith, ap, length-append}
use Rattle.std.proofs.lemmas.Fmt.{length-decimal-le}
use Rattle.trace_text.proofs.line.Line.number.Goals as goal

pub push_decimal-requires-clause-digits : goal.push_decimal-requires-clause-digits
push_decimal-requires-clause-digits c =
    omega (arith, length-decimal-le 20 c.args.n (omega arith) (omega arith) (omega arith))

pub returns-clause-short : goal.returns-clause-short
returns-clause-short c =
    omega (
      arith,
      simp length-append at (ap length c.push_decimal.ensures),
      length-decimal-le 20 c.args.n (omega arith) (omega arith) (omega arith),
    )
