-- The first five bytes are the text of two zeros, and the first three that of what tells the end.
use Rattle.std.proofs.Common.{◌≡◌, ◌≤◌, refl, sym, arith}
use Rattle.std.specs.Prelude.{codes}
use Rattle.std.proofs.lemmas.Fmt.{decimal_digit}
use Rattle.trace_text.specs.declared.extents.TheConstants.{EXTENT_SIZE}
use Rattle.trace_text.specs.Extents.{end_text, extent_text}
use Rattle.trace_text.proofs.extents.ExtentCell.new.Goals as goal

pub invariant_of-result : goal.invariant_of-result
invariant_of-result c =
    let short : 5 ≤ EXTENT_SIZE = omega arith in
    let short_end : 3 ≤ EXTENT_SIZE = omega arith in
    let text : extent_text 0 0 ≡ codes " 0-0:" = rw (decimal_digit 0 (omega arith)) refl in
    let end : end_text 0 ≡ codes "-0:" = rw (decimal_digit 0 (omega arith)) refl in
    (short, rw c.copy_from_slice.ensures.after (sym text), short_end, rw c.copy_from_slice-2.ensures.after (sym end))
