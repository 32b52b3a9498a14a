-- The line tells its spans from its head on, and the others from the end of the first on.
use Rattle.std.proofs.Common.{◌∙◌, ap, arith, drop, length, length-append, length-drop, refl}
use Rattle.std.proofs.lemmas.List.{drop_at}
use Rattle.trace_text.proofs.TakenLines.{tells, told_with}
use Rattle.trace_text.proofs.taker.push_line_with.Goals as goal

pub returns-clause-tells : goal.returns-clause-tells
returns-clause-tells c =
    let head = c.push_head.new.line in
    let front = c.push_to_first.new.line in
    let line = c.push_from.new.self in
    let kept = c.args.kept.now in
    let rest = drop c.args.others kept in
    let shown = c.args.entry.now.shown in
    let first = c.push_to_first.ensures in
    let long = simp length-append at (ap length c.push_from.ensures) in
    let left = length-drop c.args.others kept in
    rw (c.bytes-tail.ensures, c.bytes-after_first.ensures) (
    tells
    line
    (length head)
    (length front)
    shown
    (told_with head front rest line shown first.text c.requires.kept.text c.push_from.ensures)
    (ap (drop (length front)) c.push_from.ensures ∙ drop_at front rest (length front) refl ∙ c.requires.kept.text)
    first.after
    c.push_head.ensures.short
    (omega (arith, long, left, first.short, c.requires.room))
    (omega (arith, long, left, first.short, c.requires.room))
    )
