use Rattle.std.proofs.Common.{◌≡◌, ◌-◌}
use Rattle.table_codec.specs.Grammar.{sporadic_form}
use Rattle.table_codec.specs.Readers.{each_at}
use Rattle.table_codec.proofs.EachSteps.{with_front}
use Rattle.table_codec.proofs.source.read_sporadics.Given as goal

abbrev pub invariant-loop-s : goal.invariant-loop-s
invariant-loop-s l =
    with_front l.sporadics (each_at (λ i. (sporadic_form l.layout i).read) l.s (l.count - l.s) l.input) ≡ each_at (λ i. (sporadic_form l.layout i).read) 0 l.count l.fn.input
