-- A refused run is not done.
use Rattle.std.proofs.Common.{◌∙◌, sym}
use Rattle.live_run.proofs.RecordLemmas.{refused-undone}
use Rattle.live_run.proofs.runs.tell_status.Goals as goal

pub returns-clause-undone : goal.returns-clause-undone
returns-clause-undone g c = λ done. refused-undone c.tell.result (sym c.status.ensures ∙ done)
