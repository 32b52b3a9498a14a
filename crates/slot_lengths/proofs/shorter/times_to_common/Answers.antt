-- The invariant one number on, where this one does not pass.
use Rattle.std.proofs.Common.{◌+◌, ◌-◌, arith}
use Rattle.std.proofs.lemmas.Grind.{common_steps}
use Rattle.graph_unroll.specs.Multiples.{is_common}
use Rattle.graph_unroll.proofs.MultipleLemmas.{find_more}
use Rattle.slot_lengths.proofs.shorter.times_to_common.Goals as goal

pub loop-times-preserved : goal.loop-times-preserved
loop-times-preserved c =
    let more = find_more (is_common c.args.cycle c.args.length) c.loop-times.times (c.args.length + 1 - c.loop-times.times) c.args.length (omega arith) in
    grind (arith, common_steps, more)
