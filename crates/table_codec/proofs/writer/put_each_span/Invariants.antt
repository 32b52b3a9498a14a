use Rattle.std.proofs.Common.{◌≡◌, ◌++◌, take}
use Rattle.std.specs.Prelude.{flat_map}
use Rattle.table_codec.specs.Grammar.{span_form}
use Rattle.table_codec.proofs.writer.put_each_span.Given as goal

abbrev pub invariant-loop-span : goal.invariant-loop-span
invariant-loop-span l = l.out.items ≡ l.fn.out.items ++ flat_map (span_form l.layout).written (take l.span-index l.spans)
