use Rattle.std.proofs.Common.{◌≡◌, Some, ap, sym, ◌∙◌}
use Rattle.std.specs.Prelude.{slice_get}
use Rattle.std.specs.List.{insert}
use Rattle.trace_verify.proofs.PointEdits.{at-false, at-true, before_point, insert-with_point, same-with_point}
use Rattle.trace_verify.proofs.points.insert_point.Goals as goal

pub returns : goal.returns
returns c =
    let points = c.args.points.now in
    let p = c.args.point in
    let place = c.count_before-place.ensures.count ∙ ap (before_point p) c.items.ensures in
    let other = at-false p (slice_get c.items-2.result.now c.count_before-place.result) (sym c.is_at.ensures ∙ c.if-is_at.false) in
    let new = λ (there : slice_get points (before_point p points) ≡ Some p). other (ap (λ ps. slice_get ps c.count_before-place.result) c.items-2.ensures ∙ ap (slice_get points) place ∙ there) in
    c.in_ok-insert.ensures.inserted ∙ ap (λ n. insert points n p) place ∙ insert-with_point p points new

pub returns-then-is_at : goal.returns-then-is_at
returns-then-is_at c =
    let points = c.args.points.now in
    let p = c.args.point in
    let place = c.count_before-place.ensures.count ∙ ap (before_point p) c.items.ensures in
    let there = at-true p (slice_get c.items-2.result.now c.count_before-place.result) (sym c.is_at.ensures ∙ c.if-is_at.true) in
    same-with_point p points (ap (slice_get points) (sym place) ∙ ap (λ ps. slice_get ps c.count_before-place.result) (sym c.items-2.ensures) ∙ there)
