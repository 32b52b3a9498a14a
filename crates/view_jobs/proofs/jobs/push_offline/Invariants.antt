-- The jobs of the cycles so far are appended.
use Rattle.std.proofs.Common.{◌≡◌, ◌++◌}
use Rattle.std.specs.Prelude.{flat_map}
use Rattle.std.specs.List.{range_with_len}
use Rattle.view_jobs.specs.Listing.{cycle_listed}
use Rattle.view_jobs.proofs.jobs.push_offline.Given as goal

abbrev pub invariant-loop-number : goal.invariant-loop-number
invariant-loop-number l =
    l.jobs.items ≡ l.initial.jobs.items ++ flat_map (cycle_listed l.plan l.slots) (range_with_len 0 l.number)
