use Rattle.std.proofs.Common.{ap, sym, ◌∙◌, div-le_self, arith}
use Rattle.slot_facts.proofs.Plans.Items.{plan_cycle-bounds}
use Rattle.trace_verify.specs.Checked.{Checked}
use Rattle.trace_verify.proofs.CycleParts.{with_next_cycle-made}
use Rattle.trace_verify.proofs.checker.Checker.turn.Goals as goal

pub nonzero_rem-time : goal.nonzero_rem-time
nonzero_rem-time c =
    omega (arith, c.from-cycle.ensures, c.cycle.ensures.cycle, plan_cycle-bounds c.args.plan.now c.cycle.ensures.plan)

pub nonzero_div-time : goal.nonzero_div-time
nonzero_div-time c =
    omega (arith, c.from-cycle.ensures, c.cycle.ensures.cycle, plan_cycle-bounds c.args.plan.now c.cycle.ensures.plan)

pub append_cycle-requires-clause-few : goal.append_cycle-requires-clause-few
append_cycle-requires-clause-few c =
    omega (arith, div-le_self c.time-time.result c.from-cycle.result, c.requires.early, c.time-time.ensures)

pub returns-in_ok-append_cycle-clause-scene : goal.returns-in_ok-append_cycle-clause-scene
returns-in_ok-append_cycle-clause-scene c =
    with_next_cycle-made c.args.plan.now c.args.self.now.scene c.append_cycle.new.self.scene c.time-time.result c.from-cycle.result c.cycle.ensures.plan (sym c.time-time.ensures) (c.from-cycle.ensures ∙ c.cycle.ensures.cycle) c.if-time-cycle-eq0.true (ap (λ (k : Checked). k.scene) c.in_ok-append_cycle.ensures.made)
