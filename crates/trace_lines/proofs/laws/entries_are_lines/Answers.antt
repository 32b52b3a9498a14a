use Rattle.trace_lines.proofs.NamedLines.{entry-named}
use Rattle.trace_lines.proofs.laws.entries_are_lines.Goals as goal

pub returns : goal.returns
returns c = λ set entry shows. entry-named set entry shows
