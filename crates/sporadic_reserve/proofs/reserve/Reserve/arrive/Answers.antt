use Rattle.std.proofs.Common.{◌+◌, ◌∙◌, ap, length}
use Rattle.std.specs.Prelude.{slice_set}
use Rattle.sporadic_reserve.specs.Rates.{reserved}
use Rattle.sporadic_reserve.proofs.Arrivals.{written_whole, Reserved-arrived}
use Rattle.sporadic_reserve.proofs.reserve.Reserve.arrive.Goals as goal

pub returns-clause-next : goal.returns-clause-next
returns-clause-next c =
    let rates = c.self.inside.rates.items in
    let lent = c.deref_mut.ensures.value in
    let after = c.move_next.ensures in
    Reserved-arrived rates c.deref.result.now c.move_next.new.rates _ c.args.self.now c.args.index c.args.t c.from.result c.self.view_is c.deref.ensures.0 (written_whole rates c.move_next.new.rates (c.move_next.auto.rates ∙ ap length lent)) c.requires.index c.from.ensures (after.tasks ∙ ap (λ rates. (reserved rates).sporadics) lent) (after.nexts ∙ ap (λ rates. slice_set (reserved rates).nexts c.args.index (c.args.t + c.from.result)) lent)
