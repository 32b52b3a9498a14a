-- The rows so far have their mark.
use Rattle.std.proofs.Common.{◌≡◌, ◌++◌, ◌∷◌, [], map, take, drop}
use Rattle.gantt_print.specs.Drawings.{with_runs}
use Rattle.gantt_print.proofs.chart.mark_all.Given as goal

abbrev pub invariant-loop-track : goal.invariant-loop-track
invariant-loop-track l =
    l.tracks ≡ map (with_runs ((l.slot, l.key) ∷ [])) (take l.track-index l.initial.tracks) ++ drop l.track-index l.initial.tracks
