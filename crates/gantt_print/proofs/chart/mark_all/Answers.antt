-- One more row has its mark.
use Rattle.std.proofs.Common.{◌∷◌, [], sym, ap, ◌∙◌}
use Rattle.gantt_print.specs.Drawings.{with_runs}
use Rattle.gantt_print.proofs.RowLemmas.{changed-more}
use Rattle.gantt_print.proofs.chart.mark_all.Goals as goal

pub loop-track-preserved : goal.loop-track-preserved
loop-track-preserved c =
    changed-more (with_runs ((c.args.slot, c.args.key) ∷ [])) c.args.tracks.now c.loop-track.tracks c.loop-track.track-index c.track-item.result c.mark.new.self c.loop-track-test.true c.loop-track.invariant c.track-item.is (c.mark.ensures ∙ ap (with_runs ((c.args.slot, c.args.key) ∷ [])) (sym c.track-item.is))
