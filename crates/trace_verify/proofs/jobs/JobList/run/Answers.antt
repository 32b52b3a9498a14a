use Rattle.std.proofs.Common.{sym, ◌∙◌, subst}
use Rattle.slot_core.specs.Keeping.Kept.{AreApart}
use Rattle.trace_verify.proofs.jobs.JobList.run.Goals as goal

pub run_due-requires-clause-apart : goal.run_due-requires-clause-apart
run_due-requires-clause-apart c =
    subst AreApart (sym (c.items-2.ensures ∙ c.self.view_is)) c.requires.apart

pub run_job-requires-clause-apart : goal.run_job-requires-clause-apart
run_job-requires-clause-apart c =
    subst AreApart (sym c.self.view_is) c.requires.apart
