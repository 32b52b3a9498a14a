-- Those so far that go on are listed.
use Rattle.std.proofs.Common.{◌≡◌, filter, take}
use Rattle.plan_change.specs.Carrying.{goes_on}
use Rattle.plan_change.proofs.moves.gather.Given as goal

abbrev pub invariant-loop-i : goal.invariant-loop-i
invariant-loop-i g l = record {
  listed : l.list.items ≡ filter (goes_on l.keep l.from.plan.tasks l.at) (take l.i l.from.scene.jobs);
  places : l.list.places ≡ l.initial.list.places;
}
