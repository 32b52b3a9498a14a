use Rattle.std.proofs.Common.{◌∙◌}
use Rattle.svg_text.proofs.WellFormed.{IsContent-grown, IsContent-label}
use Rattle.svg_text.proofs.drawing.Drawing.label.Goals as goal

pub invariant_of-self-2 : goal.invariant_of-self-2
invariant_of-self-2 c =
    IsContent-grown
    c.self.invariant
    (IsContent-label c.args.class.now c.args.x c.args.y c.args.words.now)
    (c.as_slice.ensures.value ∙ c.in_ok-label.ensures)
    c.in_ok-extend_from_slice.ensures.items
