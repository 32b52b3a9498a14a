use Rattle.std.proofs.Common.{sym, subst}
use Rattle.slot_core.specs.Keeping.Kept.{AreApart}
use Rattle.trace_verify.proofs.jobs.JobList.remove.Goals as goal

pub remove_job-requires-clause-apart : goal.remove_job-requires-clause-apart
remove_job-requires-clause-apart c = subst AreApart (sym c.self.view_is) c.requires
