use Rattle.std.proofs.Common.{◌∷◌, ◌++◌, [], codes, flat_map}
use Rattle.svg_text.specs.Content.{attribute_text, closing, escaped, opening}
use Rattle.svg_text.specs.Shapes.{line_text, sized}
use Rattle.svg_text.proofs.WellFormed.{line-pieces}
use Rattle.svg_text.proofs.document.push_document.Goals as goal

pub returns : goal.returns
returns c =
    line-pieces
    c.args.text.now.items
    c.push_head.new.text.items
    c.push_inside.new.text.items
    c.push_end.new.text.items
    (opening (codes "svg") (flat_map attribute_text (sized c.args.width c.args.height)))
    (10 ∷ line_text (codes "style") [] (escaped c.args.style.now) ++ c.args.drawing.now)
    (closing (codes "svg"))
    (10 ∷ [])
    c.in_ok-push_head.ensures
    c.in_ok-push_inside.ensures
    c.in_ok-push_end.ensures
