-- Each job that runs has a row, and there are few.
use Rattle.std.proofs.Common.{subst}
use Rattle.view_picture.specs.Blocks.{ShowsRuns}
use Rattle.task_rows.proofs.HeldRuns.{held}
use Rattle.task_rows.proofs.RowCounts.{rows-few}
use Rattle.task_rows.specs.Rows.{rows_of_tasks}
use Rattle.task_rows.proofs.picture.drawn_over.Goals as goal

pub picture_over-requires : goal.picture_over-requires
picture_over-requires c = record {
  few = rows-few c.args.tasks.now c.args.lines.now c.args.rows.now c.requires.sound c.requires.rows;
}

pub returns-in-Ok-clause-shows : goal.returns-in-Ok-clause-shows
returns-in-Ok-clause-shows c =
    let rows = c.args.rows.now in
    let lines = c.args.lines.now in
    record {
      rows = rows;
      own = c.requires.rows;
      held = held (rows_of_tasks c.args.tasks.now) rows lines c.requires.rows c.requires.known;
      shows = subst (λ marks. ShowsRuns rows marks lines c.in-Ok.document) c.in_ok-marks.ensures (subst (λ marks. ShowsRuns rows marks lines c.in-Ok.document) c.deref.ensures.value c.in-Ok.ensures.shows);
    }
