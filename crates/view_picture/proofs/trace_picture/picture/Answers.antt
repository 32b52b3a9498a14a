-- The rows are those of the jobs that run in the lines.
use Rattle.std.proofs.Common.{◌≡◌, subst, sym, true}
use Rattle.run_blocks.specs.Rows.{AreRowsOf, have_few_firms, may_all_stand}
use Rattle.trace_lines.specs.Traces.{runs_of}
use Rattle.view_picture.proofs.trace_picture.picture.Goals as goal

pub returns-in_ok-document-in-Ok-clause-shows : goal.returns-in_ok-document-in-Ok-clause-shows
returns-in_ok-document-in-Ok-clause-shows c =
    let runs = runs_of c.args.lines.now in
    let e = c.in-Ok.ensures in
    let own : AreRowsOf c.in-Ok.rows.items runs = record { held = e.held; run = e.run; distinct = e.distinct } in (
      c.deref.result.now,
      record {
        own = subst (λ rows. AreRowsOf rows runs) (sym c.deref.ensures.value) own;
        firms = subst (λ rows. may_all_stand (have_few_firms runs) rows ≡ true) (sym c.deref.ensures.value) e.firm_rows;
      },
      c.in_ok-document-in-Ok.ensures.shows,
    )
