-- Where memory ran out, nothing is written; else the table is, or a part of it.
use Rattle.slot_io.proofs.SinkParts.{AppendsPart-none, OnErr-anyhow}
use Rattle.view_tables.specs.Tables.{part_text}
use Rattle.view_tables.proofs.Square.{part-square}
use Rattle.view_tables.proofs.put.put_part.Goals as goal

pub returns-in_err-rows-clause-part : goal.returns-in_err-rows-clause-part
returns-in_err-rows-clause-part g c =
    OnErr-anyhow c.from_residual.result (AppendsPart-none (g.K.Sink.written c.args.out.now) (part_text c.args.table c.args.number c.args.lines.now))

pub returns-in_err-rows-clause-square : goal.returns-in_err-rows-clause-square
returns-in_err-rows-clause-square g c = part-square c.args.table c.args.number c.args.lines.now

pub returns-clause-text : goal.returns-clause-text
returns-clause-text g c = c.put.ensures.text (part_text c.args.table c.args.number c.args.lines.now) c.in_ok-rows.ensures

pub returns-clause-part : goal.returns-clause-part
returns-clause-part g c = c.put.ensures.part (part_text c.args.table c.args.number c.args.lines.now) c.in_ok-rows.ensures

pub returns-clause-square : goal.returns-clause-square
returns-clause-square g c = part-square c.args.table c.args.number c.args.lines.now
