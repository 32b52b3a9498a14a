-- Where a line names an unknown task, nothing is written.
use Rattle.slot_io.proofs.SinkParts.{AppendsPart-none}
use Rattle.view_stats.specs.Tables.{stats_text}
use Rattle.view_stats.proofs.put.put_stats.Goals as goal

pub returns-in-Some-clause-part : goal.returns-in-Some-clause-part
returns-in-Some-clause-part g c =
    AppendsPart-none (g.K.Sink.written c.args.out.now) (stats_text c.args.plan.now c.args.lines.now)
