use Rattle.std.proofs.Common.{◌++◌, sym, subst}
use Rattle.std.proofs.lemmas.Result.{on_ok_weaker}
use Rattle.trace_lines.specs.Traces.{run_at}
use Rattle.run_blocks.specs.Rows.{AreRowsSoFar}
use Rattle.run_blocks.proofs.RowLemmas.{AreRowsSoFar-more}
use Rattle.run_blocks.proofs.rows.push_row_of.Goals as goal

pub returns-in-Run : goal.returns-in-Run
returns-in-Run c =
    on_ok_weaker c.push_row.result
    (λ more. (λ runs rows. subst (λ w. AreRowsSoFar c.args.apart c.push_row.new.rows.items (runs ++ run_at c.args.line.now.time w)) (sym c.in-Run.is) (AreRowsSoFar-more c.args.apart c.args.rows.now.items c.push_row.new.rows.items runs c.args.line.now.time _ rows more)))
    c.push_row.ensures
