use Rattle.std.proofs.Common.{refl}
use Rattle.live_run.specs.declared.refusal.LiveRefusal.TheVariants.{Unmade, Unrecorded}
use Rattle.live_run.proofs.ReportLemmas.{live-report}
use Rattle.live_run.proofs.report.tell.Goals as goal

pub returns-in-Unmade : goal.returns-in-Unmade
returns-in-Unmade g c = rw c.in-Unmade.is (live-report _ _ Unmade c.tell_record.result _ _ _ _ c.tell_record.ensures refl refl)

pub returns-in-Unrecorded : goal.returns-in-Unrecorded
returns-in-Unrecorded g c = rw c.in-Unrecorded.is (live-report _ _ Unrecorded c.tell_record-in-Unrecorded.result _ _ _ _ c.tell_record-in-Unrecorded.ensures refl refl)
