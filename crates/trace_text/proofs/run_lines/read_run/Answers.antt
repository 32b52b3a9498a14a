use Rattle.std.proofs.Common.{◌∙◌, sym}
use Rattle.trace_text.proofs.ReadRuns.{TellsRun-from_run, run-from_TellsRun}
use Rattle.trace_text.proofs.run_lines.read_run.Goals as goal

pub returns : goal.returns
returns c =
    record {
      reading = c.run_of_line.ensures;
      exact = λ ran. (
        (λ found. TellsRun-from_run c.args.tasks.now c.args.line.now ran (sym c.run_of_line.ensures ∙ found)),
        (λ tells. c.run_of_line.ensures ∙ run-from_TellsRun c.args.tasks.now c.args.line.now ran c.requires tells),
      );
    }
