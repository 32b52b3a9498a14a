-- The first byte is the text of a zero.
use Rattle.std.proofs.Common.{◌≡◌, ◌≤◌, refl, sym, arith}
use Rattle.std.specs.Prelude.{codes, decimal}
use Rattle.std.proofs.lemmas.Fmt.{decimal_digit}
use Rattle.trace_text.specs.declared.extents.TheConstants.{SPARE_SIZE}
use Rattle.trace_text.proofs.extents.SpareCell.new.Goals as goal

pub invariant_of-result : goal.invariant_of-result
invariant_of-result c =
    let short : 1 ≤ SPARE_SIZE = omega arith in
    let text : decimal 0 ≡ codes "0" = rw (decimal_digit 0 (omega arith)) refl in
    (short, rw c.copy_from_slice.ensures.after (sym text))
