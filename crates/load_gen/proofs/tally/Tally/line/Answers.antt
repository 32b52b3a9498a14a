-- The line of the counts is the text of the trace.
use Rattle.std.proofs.Common.{◌≡◌, ◌∙◌, rules}
use Rattle.slot_core.specs.Output.Charts.{tally_line}
use Rattle.load_gen.specs.Tallies.{count_of}
use Rattle.load_gen.proofs.TallyLemmas.{tally_line-trace}
use Rattle.load_gen.proofs.tally.Tally.line.Goals as goal

pub returns-clause-trace : goal.returns-clause-trace
returns-clause-trace c = λ trace short took.
    let line : c.push.new.self ≡ tally_line c.args.n c.args.slots (count_of c.args.self.now) = search rules in
    line ∙ tally_line-trace c.args.n c.args.slots (count_of c.args.self.now) trace short took
