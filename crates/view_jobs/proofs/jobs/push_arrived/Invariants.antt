-- The jobs that the deeds so far bring are appended.
use Rattle.std.proofs.Common.{◌≡◌, ◌++◌, take}
use Rattle.view_jobs.specs.Listing.{arrived_listed}
use Rattle.view_jobs.proofs.jobs.push_arrived.Given as goal

abbrev pub invariant-loop-deed : goal.invariant-loop-deed
invariant-loop-deed l = l.jobs.items ≡ l.initial.jobs.items ++ arrived_listed (take l.deed-index l.deeds)
