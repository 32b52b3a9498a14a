use Rattle.std.proofs.Common.{sym, ap, ◌∙◌}
use Rattle.slot_core.specs.declared.jobs.SoftJob.{SoftJob}
use Rattle.slot_core.specs.declared.tasks.TaskSet.{TaskSet}
use Rattle.circular_buffer.specs.Buffer.{Buffer}
use Rattle.slot_exec.proofs.SoftArrivals.{refused-soft, taken-soft}
use Rattle.slot_exec.proofs.exec.Exec.soft.Goals as goal

pub returns-then-is_full-clause-does : goal.returns-then-is_full-clause-does
returns-then-is_full-clause-does g c =
    (refused-soft _ _ _ _ _ _ _ c.args.row c.args.c _ c.self.invariant c.self.view_is c.requires.later c.requires.some c.requires.few (sym c.is_full.ensures ∙ c.if-is_full.true) (ap (λ (s : TaskSet). s.soft_limit) c.tasks.ensures.tasks)).0

pub invariant_of-self : goal.invariant_of-self
invariant_of-self g c =
    (refused-soft _ _ _ _ _ _ _ c.args.row c.args.c _ c.self.invariant c.self.view_is c.requires.later c.requires.some c.requires.few (sym c.is_full.ensures ∙ c.if-is_full.true) (ap (λ (s : TaskSet). s.soft_limit) c.tasks.ensures.tasks)).1

pub returns-clause-does : goal.returns-clause-does
returns-clause-does g c =
    (taken-soft _ _ _ _ _ _ _ c.args.row c.args.c c.push_back.new.self.capacity c.push_back.new.self.items c.self.invariant c.self.view_is c.requires.later c.requires.some c.requires.few (sym c.is_full.ensures ∙ c.if-is_full.false) (ap (λ (b : Buffer SoftJob). b.items) c.push_back.ensures.items) (ap (λ (b : Buffer SoftJob). b.capacity) c.push_back.ensures.items)).0

pub invariant_of-self-2 : goal.invariant_of-self-2
invariant_of-self-2 g c =
    (taken-soft _ _ _ _ _ _ _ c.args.row c.args.c c.push_back.new.self.capacity c.push_back.new.self.items c.self.invariant c.self.view_is c.requires.later c.requires.some c.requires.few (sym c.is_full.ensures ∙ c.if-is_full.false) (ap (λ (b : Buffer SoftJob). b.items) c.push_back.ensures.items) (ap (λ (b : Buffer SoftJob). b.capacity) c.push_back.ensures.items)).1
