use Rattle.std.proofs.Common.{◌++◌, ◌∙◌, ap, append-nil, codes, decimal, sym}
use Rattle.svg_text.specs.Content.{Attribute, attribute_text}
use Rattle.svg_text.specs.Shapes.{numbered}
use Rattle.svg_text.proofs.WellFormed.{three-pieces}
use Rattle.svg_text.proofs.document.push_size.Goals as goal

pub returns : goal.returns
returns c =
    let width : Attribute = numbered (codes "width") c.args.width in
    let height : Attribute = numbered (codes "height") c.args.height in
    let seen : Attribute =
    (codes "viewBox", codes "0 0 " ++ decimal c.args.width ++ codes " " ++ decimal c.args.height) in
    three-pieces
    c.args.text.now.items
    c.push_numbered.new.text.items
    c.push_numbered-2.new.text.items
    c.push_view.new.text.items
    (attribute_text width)
    (attribute_text height)
    (attribute_text seen)
    c.in_ok-push_numbered.ensures
    c.in_ok-push_numbered-2.ensures
    c.in_ok-push_view.ensures
    ∙ ap
    (λ xs. c.args.text.now.items ++ (attribute_text width ++ (attribute_text height ++ xs)))
    (sym (append-nil (attribute_text seen)))
