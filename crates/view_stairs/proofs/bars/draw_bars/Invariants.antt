-- The bars so far are drawn.
use Rattle.std.proofs.Common.{◌≡◌, ◌-◌, ◌≤◌, ◌+◌, ◌++◌, map}
use Rattle.std.specs.Prelude.{flat_map}
use Rattle.std.specs.List.{range_with_len}
use Rattle.supply_lines.specs.Lines.{read_at}
use Rattle.view_stairs.specs.Bars.{bar_text}
use Rattle.view_stairs.specs.Steps.{pair_of}
use Rattle.view_stairs.proofs.bars.draw_bars.Given as goal

abbrev pub invariant-loop-within : goal.invariant-loop-within
invariant-loop-within l =
    (1 ≤ l.within) × (l.within ≤ l.scale.slots + 1)
    × (l.drawing ≡ l.initial.drawing ++ flat_map (λ n. bar_text l.scale n (read_at (map pair_of l.steps) n)) (range_with_len 1 (l.within - 1)))
