use Rattle.slot_exec.proofs.EarlyEnds.{due-before, answer-ended, some-ended, parts-ended}
use Rattle.slot_exec.proofs.exec.Exec.done.Goals as goal

pub end_early-requires : goal.end_early-requires
end_early-requires g c = due-before _ _ _ _ _ _ _ c.args.row c.args.key c.self.invariant c.self.view_is

pub invariant_of-self : goal.invariant_of-self
invariant_of-self g c =
    let ends = c.end_early.ensures in
    (parts-ended _ _ _ _ _ _ _ c.args.row c.args.key c.self.invariant c.self.view_is _ _ _ _ _ _ _ _ _ c.requires.later ends.freed ends.spans ends.time ends.places ends.jobs ends.capacity ends.soft ends.ring ends.due).1

pub returns-clause-does : goal.returns-clause-does
returns-clause-does g c =
    let ends = c.end_early.ensures in
    (parts-ended _ _ _ _ _ _ _ c.args.row c.args.key c.self.invariant c.self.view_is _ _ _ _ _ _ _ _ _ c.requires.later ends.freed ends.spans ends.time ends.places ends.jobs ends.capacity ends.soft ends.ring ends.due).0

pub returns-clause-answer : goal.returns-clause-answer
returns-clause-answer g c =
    answer-ended _ _ _ _ _ _ _ c.args.row c.args.key c.self.invariant c.self.view_is c.end_early.result c.end_early.ensures.freed

pub returns-clause-some : goal.returns-clause-some
returns-clause-some g c =
    some-ended _ _ _ _ _ _ _ c.args.row c.args.key c.self.invariant c.self.view_is c.end_early.result c.end_early.ensures.freed
