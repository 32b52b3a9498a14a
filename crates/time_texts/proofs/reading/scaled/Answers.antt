use Rattle.std.proofs.Common.{◌+◌, ◌*◌, ◌^◌, ◌≤◌, length, arith}
use Rattle.time_texts.proofs.Values.{scaled-below, power-small}
use Rattle.time_texts.proofs.reading.scaled.Goals as goal

pub overflow_mul-result : goal.overflow_mul-result
overflow_mul-result c =
    let count = length c.args.digits.now in
    let places = c.args.places in
    let below = rw (← c.pow.ensures) at (scaled-below c.value_of.result count places c.value_of.ensures.below) in
    let small = power-small (count + places) 19 (omega arith) in
    omega (arith, below, small)

pub returns-clause-below : goal.returns-clause-below
returns-clause-below c =
    rw c.pow.ensures (scaled-below c.value_of.result (length c.args.digits.now) c.args.places c.value_of.ensures.below)
