-- One more separation keeps the invariant.
use Rattle.std.proofs.Common.{◌+◌, drop, sym, ◌∙◌}
use Rattle.slot_core.specs.declared.tasks.Sporadic.{Sporadic}
use Rattle.graph_unroll.specs.Multiples.{separations_of}
use Rattle.graph_unroll.proofs.MultipleLemmas.{along_more, length_in_range, within}
use Rattle.graph_unroll.proofs.multiple_with_separations.Goals as goal

pub common_multiple-requires-clause-length : goal.common_multiple-requires-clause-length
common_multiple-requires-clause-length c =
    length_in_range (λ (s : Sporadic). s.separation) c.args.sporadics.now c.loop-sporadic.sporadic-index c.sporadic-item.result c.loop-sporadic-test.true c.sporadic-item.is c.requires.lengths

pub loop-sporadic-preserved : goal.loop-sporadic-preserved
loop-sporadic-preserved c =
    let at = c.loop-sporadic.sporadic-index in
    let sporadic = c.sporadic-item.result in
    let sporadics = c.args.sporadics.now in
    let separation = length_in_range (λ (s : Sporadic). s.separation) sporadics at sporadic c.loop-sporadic-test.true c.sporadic-item.is c.requires.lengths in
    let step = within c.loop-sporadic.multiple sporadic.separation c.in_ok-multiple.multiple c.loop-sporadic.invariant.in_range separation (sym c.in_ok-multiple.ensures) (separations_of (drop (at + 1) sporadics)) in
    let more = along_more (λ (s : Sporadic). s.separation) c.loop-sporadic.multiple sporadics at sporadic c.loop-sporadic-test.true c.sporadic-item.is in
    record { in_range = step.0; goes_on = sym step.1 ∙ sym more ∙ c.loop-sporadic.invariant.goes_on }
