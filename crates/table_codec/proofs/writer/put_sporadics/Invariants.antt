use Rattle.std.proofs.Common.{◌≡◌, ◌++◌, take}
use Rattle.std.specs.Prelude.{flat_map}
use Rattle.table_codec.specs.Grammar.{sporadic_form}
use Rattle.table_codec.proofs.writer.put_sporadics.Given as goal

abbrev pub invariant-loop-sporadic : goal.invariant-loop-sporadic
invariant-loop-sporadic l = l.out.items ≡ l.fn.out.items ++ flat_map (sporadic_form l.layout 0).written (take l.sporadic-index l.sporadics)
