-- What is told ahead of slots, from the parts.
use Rattle.std.proofs.Common.{ap, ◌∙◌, arith}
use Rattle.slot_facts.proofs.Plans.Items.{plan_cycle-bounds}
use Rattle.slot_core.specs.Keeping.Executives.{Executive}
use Rattle.slot_exec.proofs.AheadExecutives.{cycle-before_end, MayTell-parts, TellsAhead-parts, TellsOtherAfter-parts}
use Rattle.slot_exec.proofs.SlotChoice.{choice_of}
use Rattle.slot_exec.proofs.SlotParts.{end-near, ran_of-parts, RemembersSpans-parts, slot-before_end}
use Rattle.slot_exec.proofs.exec.Exec.ahead.Goals as goal

pub choose-chosen-requires : goal.choose-chosen-requires
choose-chosen-requires g c =
    record {
      after = slot-before_end c.self.inside.reserve c.self.invariant;
      near = end-near c.self.inside.reserve c.self.invariant;
      room = RemembersSpans-parts c.self.inside.reserve c.self.invariant;
    }

pub slots_of-count-requires-clause-some : goal.slots_of-count-requires-clause-some
slots_of-count-requires-clause-some g c =
    omega (arith, c.requires, c.cycle.ensures.cycle, (plan_cycle-bounds _ c.cycle.ensures.plan).0)

pub slots_of-count-requires-clause-few : goal.slots_of-count-requires-clause-few
slots_of-count-requires-clause-few g c =
    omega (arith, c.cycle.ensures.cycle, (plan_cycle-bounds _ c.cycle.ensures.plan).1)

pub slots_of-count-requires-clause-within : goal.slots_of-count-requires-clause-within
slots_of-count-requires-clause-within g c =
    omega (arith, cycle-before_end c.self.inside.reserve c.self.invariant, c.cycle.ensures.cycle)

pub slots_of-count-requires-clause-near : goal.slots_of-count-requires-clause-near
slots_of-count-requires-clause-near g c = end-near c.self.inside.reserve c.self.invariant

pub slots_of-count-requires-clause-chosen : goal.slots_of-count-requires-clause-chosen
slots_of-count-requires-clause-chosen g c =
    MayTell-parts c.self.inside.reserve c.self.invariant c.choose-chosen.result.0 c.choose-chosen.ensures.chosen c.choose-chosen.result.1 c.choose-chosen.ensures.tight

pub returns-clause-answer : goal.returns-clause-answer
returns-clause-answer g c =
    c.ran.ensures ∙ ran_of-parts c.self.inside.reserve c.self.invariant c.choose-chosen.result.0 c.choose-chosen.ensures.chosen ∙ ap choice_of c.self.view_is

pub returns-clause-same : goal.returns-clause-same
returns-clause-same g c =
    rw c.ran.ensures
    (TellsAhead-parts c.self.inside.reserve c.self.invariant c.choose-chosen.result.0 c.choose-chosen.ensures.chosen c.slots_of-count.result _ c.slots_of-count.ensures.some c.slots_of-count.ensures.few (omega (arith, c.cycle.ensures.cycle)) c.slots_of-count.ensures.stays _ c.self.view_is)

pub returns-clause-longest : goal.returns-clause-longest
returns-clause-longest g c =
    rw c.ran.ensures
    (λ h stands exact few less.
    TellsOtherAfter-parts c.self.inside.reserve c.self.invariant c.choose-chosen.result.0 c.choose-chosen.ensures.chosen c.slots_of-count.result _ c.slots_of-count.ensures.some c.slots_of-count.ensures.few (omega (arith, c.cycle.ensures.cycle)) c.slots_of-count.ensures.stays _ c.self.view_is h stands exact (omega (arith, few, less, ap (λ (e : Executive). e.plan.cycle) c.self.view_is, c.cycle.ensures.cycle)))

pub returns-clause-within : goal.returns-clause-within
returns-clause-within g c =
    omega (arith, c.slots_of-count.ensures.few, c.cycle.ensures.cycle, ap (λ (e : Executive). e.plan.cycle) c.self.view_is)
