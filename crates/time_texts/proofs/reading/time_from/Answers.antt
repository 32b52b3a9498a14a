use Rattle.std.proofs.Common.{◌≡◌, ◌+◌, ◌-◌, ◌^◌, ◌<◌, ◌≤◌, length, arith}
use Rattle.std.proofs.Math.Nat.{one-le-pow}
use Rattle.time_texts.proofs.Values.{power-small}
use Rattle.time_texts.proofs.reading.time_from.Goals as goal

pub returns-clause-bound : goal.returns-clause-bound
returns-clause-bound c =
    let places = c.args.places in
    let digits = length c.args.fraction.now in
    let whole : digits + (places - digits) ≡ places = omega arith in
    let rest : c.scaled-rest.result + 10 ^ (places - digits) ≤ 10 ^ places = rw whole at c.scaled-rest.ensures.below in
    let some : 1 ≤ 10 ^ (places - digits) = one-le-pow (places - digits) 10 (omega arith) in
    let most = power-small (length c.args.whole.now + places) 19 (omega arith) in
    omega (arith, rest, some, most, c.scaled.ensures.below)
