-- The bars stand in front of what was drawn before.
use Rattle.std.proofs.Common.{◌≡◌, ap, ◌∙◌}
use Rattle.std.proofs.lemmas.Result.{IfOk-weaker}
use Rattle.svg_text.specs.Shapes.{document_text}
use Rattle.view_stairs.specs.declared.style.TheConstants.{STYLE}
use Rattle.view_stairs.specs.Bars.{height_of, width_of, ShowsStairs}
use Rattle.view_stairs.proofs.Curves.{read-most}
use Rattle.view_stairs.proofs.picture.stairs.Goals as goal

pub returns-clause-shows : goal.returns-clause-shows
returns-clause-shows c =
    let steps = c.args.steps.now in
    let scale = c.scale_of-scale.result in
    let backdrop = c.draw_levels.new.drawing in
    IfOk-weaker
    c.new.result
    (λ document. document ≡ document_text c.width.result c.height_of.result STYLE.now c.draw_bars.new.drawing)
    (λ document. ShowsStairs steps document)
    (λ document is. record {
      scale = scale;
      backdrop = backdrop;
      slots = c.scale_of-scale.ensures.slots;
      wide = c.scale_of-scale.ensures.wide.0;
      high = c.scale_of-scale.ensures.high.0;
      inside = λ within. read-most steps within scale.levels c.scale_of-scale.ensures.most;
      drawn =
          is
          ∙ ap (λ n. document_text n c.height_of.result STYLE.now c.draw_bars.new.drawing) c.width.ensures
          ∙ ap (λ n. document_text (width_of scale) n STYLE.now c.draw_bars.new.drawing) c.height_of.ensures
          ∙ ap (λ d. document_text (width_of scale) (height_of scale) STYLE.now d) c.in_ok-draw_bars.ensures;
    })
    c.new.ensures.text
