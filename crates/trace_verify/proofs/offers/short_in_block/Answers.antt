use Rattle.std.proofs.Common.{ℕ, ◌+◌, ◌-◌, ◌<◌, ◌≤◌, arith}
use Rattle.slot_core.specs.Runs.Demand.{work_by}
use Rattle.slot_core.specs.Feasibility.Sporadics.{sporadic_demand}
use Rattle.trace_verify.proofs.LeftSums.{left_before-by, left_before-le, stretch-lack_few}
use Rattle.trace_verify.proofs.OfferFacts.{evidence-none, not_short}
use Rattle.trace_verify.proofs.offers.short_in_block.Goals as goal

pub overflow_add-most : goal.overflow_add-most
overflow_add-most c =
    omega (arith, stretch-lack_few c.args.jobs.now c.args.times.0 _ c.to_block_end.result c.to_block_end.ensures, c.requires.small, c.demand.ensures.small)

pub overflow_add-work : goal.overflow_add-work
overflow_add-work c =
    omega (arith, stretch-lack_few c.args.jobs.now c.args.times.0 _ c.to_block_end.result c.to_block_end.ensures, left_before-le c.args.jobs.now c.args.times.0, c.requires.small, c.requires.work, c.ranges.slots, c.demand.ensures.small)

pub returns-then-work-most : goal.returns-then-work-most
returns-then-work-most c =
    let reserve = c.args.reserve.now in
    let jobs = c.args.jobs.now in
    let first = c.args.times.0 in
    let last = c.args.times.1 in
    let fits : (y : ℕ) → first ≤ y → y < last + 1 → c.args.slots + (work_by jobs y + sporadic_demand reserve.sporadics reserve.nexts c.args.now y) ≤ y - c.args.now =
    λ y low high.
    omega (arith, c.to_block_end.ensures.lack.bound y low (omega (arith, c.requires.block)), left_before-by jobs y, c.demand.ensures.most y (omega arith), c.requires.work, c.if-work-most.true, c.requires.later) in
    evidence-none reserve.sporadics reserve.nexts c.args.now c.args.slots jobs first last (last + 1) (omega arith)
    (λ y low high. not_short reserve.sporadics reserve.nexts c.args.now c.args.slots jobs y y (y - c.args.now) (fits y low high) (omega arith) (omega arith))
