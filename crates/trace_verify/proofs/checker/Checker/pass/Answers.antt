use Rattle.std.proofs.Common.{◌≡◌, ◌+◌, ◌*◌, ◌/◌, ◌%◌, ◌≤◌, ap, sym, subst, arith}
use Rattle.std.specs.Prelude.{sum_by, All}
use Rattle.slot_core.specs.declared.jobs.Job.{Job}
use Rattle.slot_facts.proofs.Plans.Items.{plan_cycle-bounds}
use Rattle.trace_verify.specs.Checked.{Checked}
use Rattle.trace_verify.proofs.CheckerSlots.{due-at_turn, left-after_slot}
use Rattle.trace_verify.proofs.checker.Checker.pass.Goals as goal

pub turn-requires-clause-earlier : goal.turn-requires-clause-earlier
turn-requires-clause-earlier c =
    let plan = c.args.plan.now in
    let scene = c.args.self.now.scene in
    let some = (plan_cycle-bounds plan c.cycle.ensures.plan).0 in
    subst
    (λ (k : Checked). k.scene.time % plan.cycle ≡ 0 → All (λ (j : Job). j.dl ≤ (k.scene.time / plan.cycle + 2) * plan.cycle) k.scene.jobs)
    (sym c.run_slot.ensures)
    (due-at_turn plan.cycle c.args.ran scene.time scene.jobs some c.requires.near)

pub turn-requires-clause-small : goal.turn-requires-clause-small
turn-requires-clause-small c =
    let scene = c.args.self.now.scene in
    omega (arith, ap (λ (k : Checked). sum_by (λ (j : Job). j.left) k.scene.jobs) c.run_slot.ensures, left-after_slot c.args.ran scene.jobs, c.requires.small)
