use Rattle.std.proofs.Common.{drop}
use Rattle.margin_find.proofs.Joined.{AreJoining}
use Rattle.margin_find.proofs.own.joined.Given as goal

abbrev pub invariant-loop-job : goal.invariant-loop-job
invariant-loop-job l = AreJoining l.kept l.own l.jobs.items l.rest (drop l.job-index l.own)
