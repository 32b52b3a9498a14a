use Rattle.std.proofs.Common.{refl, get_or}
use Rattle.std.proofs.lemmas.List.{map-set}
use Rattle.std.proofs.Math.Seq.{map-set_same}
use Rattle.sporadic_reserve.specs.declared.rates.Rate.{Rate}
use Rattle.sporadic_reserve.specs.Rates.{task_of}
use Rattle.sporadic_reserve.proofs.Demands.{no_rate}
use Rattle.sporadic_reserve.proofs.rates.move_next.Goals as goal

pub returns-clause-tasks : goal.returns-clause-tasks
returns-clause-tasks c =
    map-set_same task_of c.args.rates.now c.args.at (record (get_or c.args.rates.now c.args.at no_rate) { next = c.args.next }) no_rate refl

pub returns-clause-nexts : goal.returns-clause-nexts
returns-clause-nexts c =
    map-set (λ (rate : Rate). rate.next) c.args.rates.now c.args.at (record (get_or c.args.rates.now c.args.at no_rate) { next = c.args.next })
