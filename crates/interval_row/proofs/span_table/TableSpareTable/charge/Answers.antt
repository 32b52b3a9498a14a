use Rattle.interval_row.proofs.span_table.TableSpareTable.charge.Goals as goal

pub change_work-requires : goal.change_work-requires
change_work-requires g c = c.requires

pub returns-clause-spans : goal.returns-clause-spans
returns-clause-spans g c = c.change_work.ensures.spans

pub returns-clause-few_steps : goal.returns-clause-few_steps
returns-clause-few_steps g c = λ t. c.change_work.ensures.few_steps

pub returns-clause-stays : goal.returns-clause-stays
returns-clause-stays g c =
    let is = c.change_work.ensures in
    record { table = is.table; time = is.time; room = is.room }
