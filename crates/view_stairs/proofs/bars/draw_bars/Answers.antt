-- One bar more.
use Rattle.std.proofs.Common.{ℕ, ◌++◌, map, ap, ◌∙◌, arith}
use Rattle.supply_lines.specs.Lines.{read_at}
use Rattle.view_stairs.specs.Bars.{bar_text}
use Rattle.view_stairs.specs.Steps.{pair_of}
use Rattle.view_stairs.proofs.Curves.{bars-more, read-most}
use Rattle.view_stairs.proofs.bars.draw_bars.Goals as goal

pub draw_bar-requires-clause-few : goal.draw_bar-requires-clause-few
draw_bar-requires-clause-few c = (
  omega (arith, c.requires.few, c.loop-within-test.true),
  omega (arith, c.slots_within.ensures, c.requires.few, read-most c.args.steps.now c.loop-within.within c.args.scale.now.levels c.requires.small),
)

pub loop-within-preserved : goal.loop-within-preserved
loop-within-preserved c =
    let bar = λ (n : ℕ). bar_text c.args.scale.now n (read_at (map pair_of c.args.steps.now) n) in
    let one = c.in_ok-draw_bar.ensures ∙ ap (λ s. c.loop-within.drawing ++ bar_text c.args.scale.now c.loop-within.within s) c.slots_within.ensures in (
      omega arith,
      omega (arith, c.loop-within-test.true),
      bars-more bar c.args.drawing.now c.loop-within.drawing c.draw_bar.new.drawing c.loop-within.within c.loop-within.invariant.0 c.loop-within.invariant.2 one,
    )
