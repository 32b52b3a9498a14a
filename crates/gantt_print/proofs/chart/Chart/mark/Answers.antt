-- Each row keeps its number of marks.
use Rattle.std.proofs.Common.{◌≡◌, ℕ, ◌∷◌, [], ◌++◌, List, length, map, take, drop, sym, ap, subst, ◌∙◌}
use Rattle.std.proofs.lemmas.List.{length-map, take_at}
use Rattle.slot_core.specs.declared.jobs.Key.{Key}
use Rattle.gantt_print.specs.Drawings.{HasMarks, MarkedRow, with_runs}
use Rattle.gantt_print.proofs.ChartLemmas.{HasMarks-with_runs}
use Rattle.gantt_print.proofs.chart.Chart.mark.Goals as goal

pub invariant_of-self : goal.invariant_of-self
invariant_of-self c =
    let runs : List (ℕ × Key) = (c.args.slot, c.args.key) ∷ [] in
    let items : List MarkedRow = c.self.inside.tracks.items in
    let new : List MarkedRow = c.mark_all.new.tracks in
    let marked : new ≡ map (with_runs runs) items = c.mark_all.ensures ∙ ap (map (with_runs runs)) c.as_mut_slice.ensures.value in
    let count : length new ≡ c.self.inside.tracks.len = ap length marked ∙ length-map items (with_runs runs) ∙ sym c.self.inside.tracks.ok.0 in
    let all : take c.self.inside.tracks.len (new ++ drop (length new) items) ≡ map (with_runs runs) items = take_at new (drop (length new) items) c.self.inside.tracks.len count ∙ marked in
    (c.self.invariant.0, subst (HasMarks c.self.inside.slots) (sym all) (HasMarks-with_runs c.self.inside.slots runs items c.self.invariant.1))
