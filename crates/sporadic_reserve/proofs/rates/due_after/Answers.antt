use Rattle.std.proofs.Common.{◌≡◌, ℕ, ◌+◌, ◌*◌, max, subst}
use Rattle.slot_core.specs.Feasibility.Sporadics.{arrivals_due}
use Rattle.sporadic_reserve.specs.Rates.{task_of}
use Rattle.sporadic_reserve.specs.Reserves.{IsNextRise}
use Rattle.sporadic_reserve.proofs.Counts.{next_arrival_due}
use Rattle.sporadic_reserve.proofs.rates.due_after.Goals as goal

pub returns : goal.returns
returns c =
    let task = task_of c.args.rate in
    let next = c.args.rate.next in
    let first = c.first_due.ensures.due in
    let count = c.requires.count in
    let apart = c.from.ensures in
    let when : max c.args.r next + task.deadline + arrivals_due task next c.args.r c.args.x * task.separation ≡ c.first_due.result + c.args.count * c.from.result = cc (first, count, apart) in
    subst
    (λ (y : ℕ). IsNextRise (λ z. arrivals_due task next c.args.r z) c.args.x y)
    when
    (next_arrival_due task next c.args.r c.args.x c.requires.rate.apart)
