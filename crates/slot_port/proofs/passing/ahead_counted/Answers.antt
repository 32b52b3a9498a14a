use Rattle.slot_port.proofs.PassedSlots.{StaysAhead-told}
use Rattle.slot_port.proofs.passing.ahead_counted.Goals as goal

pub returns-clause-stays : goal.returns-clause-stays
returns-clause-stays g c =
    let told = c.ahead.ensures in
    StaysAhead-told c.args.exec.now c.args.most c.ahead.result.1 c.ahead.result.0 told.answer told.some told.few told.within told.same told.longest
