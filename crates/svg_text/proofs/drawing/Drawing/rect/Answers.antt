use Rattle.std.proofs.Common.{◌∙◌}
use Rattle.svg_text.proofs.WellFormed.{IsContent-grown, IsContent-rect}
use Rattle.svg_text.proofs.drawing.Drawing.rect.Goals as goal

pub invariant_of-self-2 : goal.invariant_of-self-2
invariant_of-self-2 c =
    IsContent-grown
    c.self.invariant
    (IsContent-rect c.args.class.now c.args.frame c.args.title.now)
    (c.as_slice.ensures.value ∙ c.in_ok-rect.ensures)
    c.in_ok-extend_from_slice.ensures.items
