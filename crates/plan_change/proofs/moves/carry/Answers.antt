-- A change with no soft job is one by offers alone.
use Rattle.std.proofs.Common.{[]}
use Rattle.std.proofs.lemmas.Result.{IfErr-weaker, on_ok_weaker}
use Rattle.plan_change.specs.declared.moves.Refusal.{Refusal}
use Rattle.plan_change.specs.Carrying.{offers_from}
use Rattle.plan_change.specs.Changed.{IsCutOff}
use Rattle.plan_change.specs.SoftWork.{IsCutOffWithSoft}
use Rattle.plan_change.proofs.SoftWay.{IsChanged-alone, IsCutOff-alone}
use Rattle.plan_change.proofs.moves.carry.Goals as goal

pub returns-clause-granted : goal.returns-clause-granted
returns-clause-granted g c =
    let offers = offers_from c.args.keep c.args.from.now c.args.into.now.plan.cycle c.args.first in
    on_ok_weaker c.carry_counted.result (IsChanged-alone c.args.into.now.plan offers c.carry_counted.new.into) c.carry_counted.ensures.granted

pub returns-clause-cut_off : goal.returns-clause-cut_off
returns-clause-cut_off g c =
    let offers = offers_from c.args.keep c.args.from.now c.args.into.now.plan.cycle c.args.first in
    IfErr-weaker c.carry_counted.result (λ (r : Refusal). IsCutOffWithSoft c.args.into.now.plan offers [] r c.carry_counted.new.into) (λ (r : Refusal). IsCutOff c.args.into.now.plan offers r c.carry_counted.new.into) (λ r cut. IsCutOff-alone c.args.into.now.plan offers r c.carry_counted.new.into cut) c.carry_counted.ensures.cut_off
