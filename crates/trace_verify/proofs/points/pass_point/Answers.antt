use Rattle.std.proofs.Common.{◌+◌, ap, sym, ◌∙◌}
use Rattle.std.specs.Prelude.{slice_get}
use Rattle.trace_verify.proofs.PointEdits.{at-false, at-true, pass-first, pass-none}
use Rattle.trace_verify.proofs.points.pass_point.Goals as goal

pub returns-then-is_at : goal.returns-then-is_at
returns-then-is_at c =
    let points = c.args.points.now in
    let there = at-true (c.args.time + 1) (slice_get c.items.result.now 0) (sym c.is_at.ensures ∙ c.if-is_at.true) in
    c.remove-passed.ensures.rest ∙ pass-first c.args.time points c.requires.rising (ap (λ ps. slice_get ps 0) (sym c.items.ensures) ∙ there)

pub returns-else-is_at : goal.returns-else-is_at
returns-else-is_at c =
    let points = c.args.points.now in
    let other = at-false (c.args.time + 1) (slice_get c.items.result.now 0) (sym c.is_at.ensures ∙ c.if-is_at.false) in
    pass-none c.args.time points c.requires.rising (λ there. other (ap (λ ps. slice_get ps 0) c.items.ensures ∙ there))
