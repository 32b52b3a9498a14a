-- The line that is put is that of the entry, whichever of the two it is.
use Rattle.std.proofs.Common.{refl, ◌∙◌}
use Rattle.std.proofs.lemmas.Result.{on_err_weaker}
use Rattle.trace_text.proofs.TakenLines.{broken-put}
use Rattle.trace_text.proofs.taker.TextTakerTeller.take_again.Goals as goal

pub returns-then-self-clause-broke : goal.returns-then-self-clause-broke
returns-then-self-clause-broke g c =
    on_err_weaker c.put.result (λ part. (refl, part)) (broken-put
    c.put.result
    (g.K.Sink.written c.args.self.now.out.now)
    (g.K.Sink.written c.put.new.self)
    c.args.tasks.now
    c.args.entry.now
    c.bytes.result.now
    (c.bytes.ensures ∙ c.push_line_again.ensures)
    c.put.ensures.part)

pub returns-else-self-clause-broke : goal.returns-else-self-clause-broke
returns-else-self-clause-broke g c =
    on_err_weaker c.put-else-self.result (λ part. (refl, part)) (broken-put
    c.put-else-self.result
    (g.K.Sink.written c.args.self.now.out.now)
    (g.K.Sink.written c.put-else-self.new.self)
    c.args.tasks.now
    c.args.entry.now
    c.bytes-else-self.result.now
    (c.bytes-else-self.ensures ∙ c.push_line_again-else-self.ensures)
    c.put-else-self.ensures.part)
