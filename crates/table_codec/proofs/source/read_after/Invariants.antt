use Rattle.std.proofs.Common.{◌≡◌, ◌-◌}
use Rattle.table_codec.specs.Grammar.{index_form}
use Rattle.table_codec.specs.Readers.{each_at}
use Rattle.table_codec.proofs.EachSteps.{with_front}
use Rattle.table_codec.proofs.source.read_after.Given as goal

abbrev pub invariant-loop : goal.invariant-loop
invariant-loop l =
    with_front l.after (each_at (λ _. index_form.read) l.counter (l.count - l.counter) l.input) ≡ each_at (λ _. index_form.read) 0 l.count l.fn.input
