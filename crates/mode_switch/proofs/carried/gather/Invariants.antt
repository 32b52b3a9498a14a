-- The firm and sporadic jobs among those so far.
use Rattle.std.proofs.Common.{◌≡◌, take}
use Rattle.change_laws.specs.Carried.{carried_of}
use Rattle.mode_switch.proofs.carried.gather.Given as goal

abbrev pub invariant-loop-i : goal.invariant-loop-i
invariant-loop-i g l = l.jobs.items ≡ carried_of (take l.i l.exec.scene.jobs)
