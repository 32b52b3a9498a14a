-- The jobs so far that are released in time are appended.
use Rattle.std.proofs.Common.{◌≡◌, ◌++◌, take}
use Rattle.std.specs.Prelude.{filter, map, nat_lt}
use Rattle.view_jobs.specs.declared.jobs.Listed.{Listed}
use Rattle.view_jobs.specs.Listing.{listed_in}
use Rattle.view_jobs.proofs.jobs.push_cycle.Given as goal

abbrev pub invariant-loop-i : goal.invariant-loop-i
invariant-loop-i l =
    l.jobs.items ≡ l.initial.jobs.items ++ filter (λ (j : Listed). nat_lt j.release l.slots) (map (listed_in l.plan l.number) (take l.i l.plan.jobs))
