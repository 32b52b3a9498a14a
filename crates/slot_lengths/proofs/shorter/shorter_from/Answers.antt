use Rattle.slot_core.specs.declared.tasks.Sporadic.{Sporadic}
use Rattle.graph_unroll.proofs.MultipleLemmas.{length_in_range}
use Rattle.slot_lengths.proofs.shorter.shorter_from.Goals as goal

pub common_multiple-next-requires-clause-length : goal.common_multiple-next-requires-clause-length
common_multiple-next-requires-clause-length c =
    length_in_range (λ (s : Sporadic). s.separation) c.args.sporadics.now c.loop-index.index c.index-sporadics-index.result c.loop-index-test.true c.index-sporadics-index.is c.requires.lengths
