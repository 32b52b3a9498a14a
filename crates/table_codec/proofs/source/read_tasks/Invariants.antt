use Rattle.std.proofs.Common.{◌≡◌, ◌-◌}
use Rattle.table_codec.specs.Grammar.{task_form}
use Rattle.table_codec.specs.Readers.{each_at}
use Rattle.table_codec.proofs.EachSteps.{with_front}
use Rattle.table_codec.proofs.source.read_tasks.Given as goal

abbrev pub invariant-loop-t : goal.invariant-loop-t
invariant-loop-t l =
    with_front l.tasks (each_at (λ i. (task_form l.layout l.graph i).read) l.t (l.count - l.t) l.input) ≡ each_at (λ i. (task_form l.layout l.graph i).read) 0 l.count l.fn.input
