use Rattle.std.proofs.Common.{◌∙◌, sym, ap}
use Rattle.trace_lines.specs.Readings.{line_of}
use Rattle.trace_lines.proofs.LineReads.{line_of-from, line_of-to}
use Rattle.trace_lines.proofs.reading.line_of.Goals as goal

pub returns-clause-exact : goal.returns-clause-exact
returns-clause-exact c = λ line. (
  (λ found. line_of-from c.args.bytes.now line (sym c.read_line.ensures ∙ found)),
  (λ is. c.read_line.ensures ∙ ap line_of is.1 ∙ line_of-to line is.0),
)
