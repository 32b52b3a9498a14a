-- Where memory ran out, nothing is written; else the table is, or a part of it.
use Rattle.slot_io.proofs.SinkParts.{AppendsPart-none, OnErr-anyhow}
use Rattle.view_stats.specs.Tables.{stats_text}
use Rattle.view_stats.proofs.put.put_known.Goals as goal

pub returns-in_err-rows-clause-part : goal.returns-in_err-rows-clause-part
returns-in_err-rows-clause-part g c =
    OnErr-anyhow c.from_residual.result (AppendsPart-none (g.K.Sink.written c.args.out.now) (stats_text c.args.plan.now c.args.lines.now))

pub returns-clause-text : goal.returns-clause-text
returns-clause-text g c = c.put.ensures.text (stats_text c.args.plan.now c.args.lines.now) c.in_ok-rows.ensures

pub returns-clause-part : goal.returns-clause-part
returns-clause-part g c = c.put.ensures.part (stats_text c.args.plan.now c.args.lines.now) c.in_ok-rows.ensures
