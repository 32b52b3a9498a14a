use Rattle.std.proofs.Common.{◌+◌, arith}
use Rattle.slot_lengths.specs.Lengths.{length_at}
use Rattle.slot_lengths.proofs.Loops.{lengths-all, range-more}
use Rattle.slot_lengths.proofs.lengths.lengths_in.Goals as goal

pub loop-place-preserved : goal.loop-place-preserved
loop-place-preserved c =
    range-more (length_at c.args.from c.args.to c.args.graphs.now) c.loop-place.lengths _ c.loop-place.place (c.loop-place.place + 1) (omega arith) c.loop-place.invariant c.in_ok-push_length.ensures

pub returns : goal.returns
returns c =
    lengths-all c.args.from c.args.to c.args.graphs.now c.loop-place.lengths c.loop-place.place c.args.most c.loop-place-test.false c.loop-place.auto.place-end c.loop-place.invariant
