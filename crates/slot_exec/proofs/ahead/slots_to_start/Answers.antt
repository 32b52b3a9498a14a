use Rattle.std.proofs.Common.{◌+◌, sym, arith}
use Rattle.std.specs.Option.{option_copied}
use Rattle.slot_exec.proofs.AheadParts.{start-found, start-unfound}
use Rattle.slot_exec.proofs.ahead.slots_to_start.Goals as goal

pub overflow_sub-result : goal.overflow_sub-result
overflow_sub-result g c =
    let (is, after, soon) = start-found c.args.now c.args.most (c.args.now + c.from.result) c.in-Some.start (option_copied c.args.other) c.args.queue.now.jobs (omega (arith, c.from.ensures)) (sym c.in-Some.ensures.start) in
    omega (arith, after)

pub overflow_cast-result : goal.overflow_cast-result
overflow_cast-result g c =
    let (is, after, soon) = start-found c.args.now c.args.most (c.args.now + c.from.result) c.in-Some.start (option_copied c.args.other) c.args.queue.now.jobs (omega (arith, c.from.ensures)) (sym c.in-Some.ensures.start) in
    omega (arith, after, soon)

pub returns-in-Some : goal.returns-in-Some
returns-in-Some g c =
    let (is, after, soon) = start-found c.args.now c.args.most (c.args.now + c.from.result) c.in-Some.start (option_copied c.args.other) c.args.queue.now.jobs (omega (arith, c.from.ensures)) (sym c.in-Some.ensures.start) in
    record {
      slots = is;
      some = omega (arith, after);
      few = omega (arith, soon);
      steps = omega arith;
    }

pub returns-in-None-clause-slots : goal.returns-in-None-clause-slots
returns-in-None-clause-slots g c =
    start-unfound c.args.now c.args.most (c.args.now + c.from.result) (option_copied c.args.other) c.args.queue.now.jobs (omega (arith, c.from.ensures)) (sym c.in-None.ensures.start)
