-- The rows that run, without those of tasks, are appended.
use Rattle.std.proofs.Common.{◌++◌, ap, ◌∙◌}
use Rattle.std.specs.Prelude.{filter}
use Rattle.task_rows.specs.Rows.{is_for_arrivals}
use Rattle.task_rows.proofs.rows.push_arrivals.Goals as goal

pub returns-clause-rows : goal.returns-clause-rows
returns-clause-rows c =
    let e = c.in_ok-shown.ensures in
    record {
      run = c.in_ok-shown.shown.items;
      own = record { own = record { held = e.held; run = e.run; distinct = e.distinct }; firms = e.firm_rows };
      few = e.few;
      rows_all = c.in_ok-push_those.ensures ∙ ap (λ rows. c.args.rows.now.items ++ filter is_for_arrivals rows) c.deref.ensures.value;
    }
