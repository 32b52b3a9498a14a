-- The tightest of the windows from the starts so far.
use Rattle.std.proofs.Common.{◌≡◌, None}
use Rattle.std.specs.Prelude.{fold}
use Rattle.std.specs.List.{range_with_len}
use Rattle.slot_core.specs.Offline.OfflineJobs.{cycle_jobs}
use Rattle.slot_core.specs.Feasibility.Feasible.{window_demand}
use Rattle.plan_answers.specs.Tightest.{tightest_by}
use Rattle.plan_answers.proofs.tightest.tightest_in.Given as goal

abbrev pub invariant-loop-from : goal.invariant-loop-from
invariant-loop-from l =
    l.kept ≡ fold (λ kept a. tightest_by (window_demand (cycle_jobs l.tasks l.cycle 0) l.tasks.sporadics l.cycle a) l.cycle kept a) None (range_with_len 0 l.from)
