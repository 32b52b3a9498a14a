use Rattle.service_laws.proofs.LineEntries.{lines_tell_entries}
use Rattle.service_laws.proofs.lines.lines_tell_entries.Goals as goal

pub returns : goal.returns
returns c = lines_tell_entries
