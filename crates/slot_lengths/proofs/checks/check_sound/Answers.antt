use Rattle.slot_lengths.proofs.Least.{fits-from_none, none-from_plan}
use Rattle.slot_lengths.proofs.checks.check_sound.Goals as goal

pub returns-in_ok-growth-in-Ok : goal.returns-in_ok-growth-in-Ok
returns-in_ok-growth-in-Ok c =
    let tasks = c.args.tasks in
    let none = none-from_plan _ tasks c.in-Ok.ensures.plan c.in-Ok.ensures.tasks in
    fits-from_none c.args.set.now tasks _ _ none c.load_of-load.ensures (rw c.in-Ok.ensures.tasks at c.in_ok-growth-in-Ok.ensures)
