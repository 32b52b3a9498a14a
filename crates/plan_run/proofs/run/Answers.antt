-- What is written of the supply tells it, by its laws.
use Rattle.std.specs.Io.KnownBytes.{Appends}
use Rattle.plan_run.proofs.Told.{told-held, told-held_within}
use Rattle.plan_run.proofs.run.Goals as goal

pub returns-in-None-clause-supply : goal.returns-in-None-clause-supply
returns-in-None-clause-supply g c = λ page done asked.
    told-held (Appends (g.K.Sink.written c.args.out.now) (g.K.Sink.written c.answer_words.new.out)) c.lines_tell_supply.ensures (g.F.Files.held c.args.files.now) c.args.words.now asked (c.answer_words.ensures.done done)

pub returns-in-None-clause-supply_within : goal.returns-in-None-clause-supply_within
returns-in-None-clause-supply_within g c = λ within page done asked.
    told-held_within (Appends (g.K.Sink.written c.args.out.now) (g.K.Sink.written c.answer_words.new.out)) c.line_tells_within.ensures (g.F.Files.held c.args.files.now) c.args.words.now within asked (c.answer_words.ensures.done done)
