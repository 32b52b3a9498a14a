use Rattle.std.proofs.Common.{subst}
use Rattle.std.specs.Prelude.{OnErr, OnOk}
use Rattle.std.specs.Io.KnownBytes.{Appends}
use Rattle.slot_io.specs.Sinks.{AppendsPart}
use Rattle.margin_find.proofs.MarginLists.{tasks-AreMargins}
use Rattle.plan_reports.proofs.MarginLines.{text-from_margins}
use Rattle.plan_reports.proofs.margins.put_margins.Goals as goal

pub put_lines-requires : goal.put_lines-requires
put_lines-requires g c = tasks-AreMargins c.args.tasks.now c.args.margins.now c.requires.margins

pub returns-clause-text : goal.returns-clause-text
returns-clause-text g c =
    let of = tasks-AreMargins c.args.tasks.now c.args.margins.now c.requires.margins in
    subst
    (λ text. OnOk c.put_lines.result (Appends (g.K.Sink.written c.args.out.now) (g.K.Sink.written c.put_lines.new.out) text))
    (text-from_margins c.args.tasks.now c.requires.sound c.args.margins.now of c.requires.margins)
    c.put_lines.ensures.text

pub returns-clause-part : goal.returns-clause-part
returns-clause-part g c =
    let of = tasks-AreMargins c.args.tasks.now c.args.margins.now c.requires.margins in
    subst
    (λ text. OnErr c.put_lines.result (AppendsPart (g.K.Sink.written c.args.out.now) (g.K.Sink.written c.put_lines.new.out) text))
    (text-from_margins c.args.tasks.now c.requires.sound c.args.margins.now of c.requires.margins)
    c.put_lines.ensures.part
