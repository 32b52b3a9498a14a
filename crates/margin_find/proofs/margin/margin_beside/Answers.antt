use Rattle.std.proofs.Common.{◌≡◌, ◌+◌, ◌<◌, Some, subst, arith}
use Rattle.slot_core.specs.Sets.Cycles.{cycle_of}
use Rattle.slot_facts.proofs.Offline.Jobs.{cycle-positive}
use Rattle.slot_core.specs.Claims.Growth.{grown}
use Rattle.slot_core.specs.declared.tasks.TaskSet.{TaskSet}
use Rattle.margin_find.specs.Search.{counterexample_of, StaysSound}
use Rattle.margin_find.proofs.Growths.{IsMargin-from_search, cycle_stays}
use Rattle.margin_find.proofs.margin.margin_beside.Goals as goal

pub narrowed-requires-clause-sound : goal.narrowed-requires-clause-sound
narrowed-requires-clause-sound c =
    λ growth low. subst (λ (s : TaskSet). StaysSound s c.args.at growth) c.tasks.ensures.tasks (c.by_whole_cycle-whole.ensures.sound growth low)

pub returns : goal.returns
returns c =
    let set = c.args.plan.now.tasks in
    let at = c.args.at in
    let bounds = c.in_ok-bounds.bounds in
    let found = c.in_ok-bounds.ensures.bounds in
    let positive : 0 < cycle_of (grown set at (bounds.fits + 1)) = omega (arith, cycle_stays set at (bounds.fits + 1), cycle-positive set c.cycle.ensures.plan.sound) in
    let one : bounds.fails ≡ bounds.fits + 1 = c.in_ok-bounds.ensures.near in
    let refused = subst (λ n. counterexample_of set at n ≡ Some bounds.window) one found.found in
    IsMargin-from_search set at bounds.fits bounds.window positive found.holds refused
