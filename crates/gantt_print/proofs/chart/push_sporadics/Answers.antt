-- One more row, and all of them.
use Rattle.std.proofs.Common.{◌≡◌, ℕ, ◌++◌, length, map, sym, ap, ◌∙◌, arith}
use Rattle.std.specs.List.{enumerate_from, range_with_len}
use Rattle.slot_core.specs.declared.tasks.Sporadic.{Sporadic}
use Rattle.slot_facts.proofs.Lists.Maps.{map-map}
use Rattle.slot_core.specs.Output.Charts.{sporadic_row}
use Rattle.gantt_print.specs.Drawings.{unmarked}
use Rattle.gantt_print.proofs.RowLemmas.{appended-more, map-places}
use Rattle.gantt_print.proofs.chart.push_sporadics.Goals as goal

pub loop-index-preserved : goal.loop-index-preserved
loop-index-preserved c =
    appended-more (λ s. unmarked c.args.slots (sporadic_row s)) c.args.tracks.now.items c.loop-index.tracks.items c.push.new.self.items c.loop-index.index c.in_ok-new.field-0 c.loop-index.invariant c.in_ok-push.ensures.items c.in_ok-new.ensures

pub returns : goal.returns
returns c =
    let count : c.loop-index.index ≡ length c.args.sporadics.now = omega arith in
    c.loop-index.invariant ∙ ap (λ ys. c.args.tracks.now.items ++ ys) (
    ap (λ n. map (λ s. unmarked c.args.slots (sporadic_row s)) (range_with_len 0 n)) count
    ∙ map-places (λ s. unmarked c.args.slots (sporadic_row s)) c.args.sporadics.now 0
    ∙ sym (map-map (unmarked c.args.slots) (λ (s : ℕ × Sporadic). sporadic_row s.0) (enumerate_from 0 c.args.sporadics.now)))
