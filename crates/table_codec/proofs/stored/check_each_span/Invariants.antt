use Rattle.std.proofs.Common.{◌≡◌, drop}
use Rattle.faults.specs.declared.table_fault.TableFault.TheVariants.{WrongSpan}
use Rattle.table_codec.specs.Grammar.{is_same_span, span_form}
use Rattle.table_codec.specs.Readers.{same_at}
use Rattle.table_codec.proofs.stored.check_each_span.Given as goal

abbrev pub invariant-loop-place : goal.invariant-loop-place
invariant-loop-place l =
    same_at (span_form l.layout).read is_same_span WrongSpan l.place (drop l.place l.spans) l.input ≡ same_at (span_form l.layout).read is_same_span WrongSpan 0 l.spans l.fn.input
