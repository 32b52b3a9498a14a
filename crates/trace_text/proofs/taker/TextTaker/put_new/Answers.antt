use Rattle.std.proofs.Common.{[], ◌∷◌, ◌++◌, ap, length, ◌∙◌}
use Rattle.slot_core.specs.Output.Texts.{spans_text}
use Rattle.trace_text.proofs.TakenLines.{broken-put, tells, told_after}
use Rattle.trace_text.proofs.taker.TextTaker.put_new.Goals as goal

pub returns-clause-part : goal.returns-clause-part
returns-clause-part g c =
    let spans = spans_text c.args.entry.now.what c.args.entry.now.shown in
    broken-put
    c.put.result
    (g.K.Sink.written c.args.self.now.out.now)
    (g.K.Sink.written c.put.new.self)
    c.args.tasks.now
    c.args.entry.now
    c.bytes-2.result.now
    (c.bytes-2.ensures ∙ c.push_tail-self.ensures.text ∙ ap (λ xs. xs ++ spans ++ 10 ∷ []) c.push_head.ensures.text)
    c.put.ensures.part

pub returns-clause-kept : goal.returns-clause-kept
returns-clause-kept g c = λ some.
    let head = c.push_head.new.line in
    let line = c.push_tail-self.new.line in
    let tail = c.push_tail-self.ensures in
    let e = c.args.entry.now in
    rw c.bytes.ensures (
    tells
    line
    (length head)
    c.push_tail-self.result
    e.shown
    (told_after head line e.what e.shown some tail.text)
    (tail.others some)
    tail.inside
    c.push_head.ensures.short
    tail.short
    (tail.room some)
    )
