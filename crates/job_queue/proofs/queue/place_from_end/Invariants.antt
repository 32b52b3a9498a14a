use Rattle.std.proofs.Common.{◌≡◌, ◌+◌, None, take}
use Rattle.std.specs.Prelude.{find, reverse}
use Rattle.slot_core.specs.declared.jobs.Job.{Job}
use Rattle.slot_core.specs.Offline.Keys.{same_key}
use Rattle.slot_core.specs.Runs.Choice.{ready}
use Rattle.job_queue.proofs.queue.place_from_end.Given as goal

abbrev pub invariant-loop-place : goal.invariant-loop-place
invariant-loop-place g l = record {
  passed :
      find (λ (j : Job). same_key j.key l.key) (ready l.now (take l.place (reverse l.jobs))) ≡ None;
  counted : l.steps ≡ l.initial.steps + l.place;
}
