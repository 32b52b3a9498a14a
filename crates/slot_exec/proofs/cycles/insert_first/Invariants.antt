use Rattle.std.proofs.Common.{◌≡◌}
use Rattle.slot_core.specs.Runs.Matches.{HaveSameItems}
use Rattle.scene_steps.proofs.Starts.FirstJobs.{first_cycles}
use Rattle.slot_exec.specs.Parts.{job_room}
use Rattle.slot_exec.proofs.cycles.insert_first.Given as goal

-- the jobs of the cycles so far have come in
abbrev pub invariant-loop-n : goal.invariant-loop-n
invariant-loop-n g l = record {
  jobs : HaveSameItems l.queue.jobs (first_cycles l.plan l.n);
  capacity : l.queue.capacity ≡ job_room l.plan.cycle;
}
