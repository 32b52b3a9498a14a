-- The rows are those of the set, and their text is that of the runs.
use Rattle.std.proofs.Common.{◌≡◌, true, sym, ap, subst, ◌∙◌}
use Rattle.std.specs.Prelude.{OnErr}
use Rattle.std.specs.List.{list_all}
use Rattle.std.proofs.lemmas.List.Folds.{list_all-map}
use Rattle.slot_io.specs.Sinks.{AppendsPart}
use Rattle.gantt_print.specs.Drawings.{Drawing, MarkedRow, drawing_text}
use Rattle.gantt_print.specs.Rows.{is_row_of}
use Rattle.gantt_print.proofs.ChartLemmas.{chart_rows-named, drawing_text-runs}
use Rattle.gantt_print.proofs.chart.Chart.print.Goals as goal

pub put_chart-requires-clause-named : goal.put_chart-requires-clause-named
put_chart-requires-clause-named g c =
    let set = c.args.tasks.now in
    let rows = c.args.self.now.rows in
    let named : list_all (λ (r : MarkedRow). is_row_of set r.row) rows ≡ true =
    sym (list_all-map (is_row_of set) (λ (r : MarkedRow). r.row) rows) ∙ ap (list_all (is_row_of set)) c.requires ∙ chart_rows-named set in
    let same : c.as_slice.result.now ≡ rows = c.as_slice.ensures.value ∙ ap (λ (d : Drawing). d.rows) c.self.view_is in
    ap (list_all (λ (r : MarkedRow). is_row_of set r.row)) same ∙ named

pub returns-clause-part : goal.returns-clause-part
returns-clause-part g c =
    let before = g.K.Sink.written c.args.out.now in
    let after = g.K.Sink.written c.put_chart.new.out in
    let chart : Drawing = record { slots = c.self.inside.slots; rows = c.as_slice.result.now } in
    let same : chart ≡ c.args.self.now = ap (λ rows. record { slots = c.self.inside.slots; rows = rows }) c.as_slice.ensures.value ∙ c.self.view_is in
    subst (λ (d : Drawing). OnErr c.put_chart.result (AppendsPart before after (drawing_text c.args.tasks.now d))) same c.put_chart.ensures.part

pub returns-clause-runs : goal.returns-clause-runs
returns-clause-runs g c = λ n runs is. ap (drawing_text c.args.tasks.now) is ∙ drawing_text-runs c.args.tasks.now n runs
