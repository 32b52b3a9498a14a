-- The jobs are those that the executive carries over, and what fits can be served.
use Rattle.std.proofs.Common.{◌≡◌, Option, subst}
use Rattle.std.specs.Prelude.{MatchOption}
use Rattle.slot_core.specs.declared.jobs.Evidence.{Evidence}
use Rattle.slot_core.specs.Sets.Cycles.{cycle_of}
use Rattle.change_laws.specs.Carried.{cycles_of_change}
use Rattle.change_laws.specs.Demand.{FitsFor, ShowsNoRoom}
use Rattle.mode_switch.specs.Keeping.{carried_from}
use Rattle.mode_switch.proofs.Openings.{can-parts, cannot-from_shows, evidence-from_shows, few-parts, grant-parts, near-parts, none-from_can, ordered-parts, shows-parts}
use Rattle.mode_switch.proofs.change.open_at.Goals as goal

pub carried_jobs-requires : goal.carried_jobs-requires
carried_jobs-requires g c = c.requires.kept.bounds.apart

pub refusal-requires-clause-few : goal.refusal-requires-clause-few
refusal-requires-clause-few g c =
    let all : c.in_ok-carried.carried.items ≡ carried_from c.args.exec.now.scene.jobs = c.in_ok-carried.ensures in
    few-parts c.args.exec.now c.deref.result.now c.in_ok-carried.carried.items c.requires.kept c.requires.few_jobs c.deref.ensures.value all

pub refusal-requires-clause-near : goal.refusal-requires-clause-near
refusal-requires-clause-near g c =
    let all : c.in_ok-carried.carried.items ≡ carried_from c.args.exec.now.scene.jobs = c.in_ok-carried.ensures in
    near-parts c.args.exec.now c.args.at c.deref.result.now c.in_ok-carried.carried.items c.requires.kept c.requires.now c.deref.ensures.value all

pub grant-requires-clause-ordered : goal.grant-requires-clause-ordered
grant-requires-clause-ordered g c =
    let all : c.in_ok-carried.carried.items ≡ carried_from c.args.exec.now.scene.jobs = c.in_ok-carried.ensures in
    ordered-parts c.args.exec.now c.in_ok-carried.carried.items c.requires.kept all

pub grant-requires-clause-served : goal.grant-requires-clause-served
grant-requires-clause-served g c =
    let plan = c.args.plan in
    let at = c.args.at in
    let lent = c.deref.result.now in
    let all : c.in_ok-carried.carried.items ≡ carried_from c.args.exec.now.scene.jobs = c.in_ok-carried.ensures in
    let fits = subst (λ (o : Option Evidence). MatchOption o (FitsFor plan.tasks at lent (cycles_of_change (cycle_of plan.tasks) at lent)) (ShowsNoRoom plan.tasks at lent)) c.in-None.is c.in_ok-refused.ensures.refused in
    grant-parts c.args.exec.now c.requires.kept plan c.in_ok-refused.ensures.plan at lent c.in_ok-carried.carried.items c.requires.now c.deref.ensures.value all fits

pub returns-in_ok-grant-in-None-clause-served : goal.returns-in_ok-grant-in-None-clause-served
returns-in_ok-grant-in-None-clause-served g c =
    let plan = c.args.plan in
    let at = c.args.at in
    let lent = c.deref.result.now in
    let all : c.in_ok-carried.carried.items ≡ carried_from c.args.exec.now.scene.jobs = c.in_ok-carried.ensures in
    let fits = subst (λ (o : Option Evidence). MatchOption o (FitsFor plan.tasks at lent (cycles_of_change (cycle_of plan.tasks) at lent)) (ShowsNoRoom plan.tasks at lent)) c.in-None.is c.in_ok-refused.ensures.refused in
    can-parts c.args.exec.now c.requires.kept plan c.in_ok-refused.ensures.plan at lent c.in_ok-carried.carried.items c.requires.now c.deref.ensures.value all fits

pub returns-in_ok-grant-in-None-clause-fits : goal.returns-in_ok-grant-in-None-clause-fits
returns-in_ok-grant-in-None-clause-fits g c =
    let plan = c.args.plan in
    let at = c.args.at in
    let lent = c.deref.result.now in
    let all : c.in_ok-carried.carried.items ≡ carried_from c.args.exec.now.scene.jobs = c.in_ok-carried.ensures in
    let fits = subst (λ (o : Option Evidence). MatchOption o (FitsFor plan.tasks at lent (cycles_of_change (cycle_of plan.tasks) at lent)) (ShowsNoRoom plan.tasks at lent)) c.in-None.is c.in_ok-refused.ensures.refused in
    let can = can-parts c.args.exec.now c.requires.kept plan c.in_ok-refused.ensures.plan at lent c.in_ok-carried.carried.items c.requires.now c.deref.ensures.value all fits in
    none-from_can c.args.exec.now c.requires.kept plan c.in_ok-refused.ensures.plan can

pub returns-in-Some-clause-refused : goal.returns-in-Some-clause-refused
returns-in-Some-clause-refused g c = λ e is.
    let plan = c.args.plan in
    let at = c.args.at in
    let lent = c.deref.result.now in
    let all : c.in_ok-carried.carried.items ≡ carried_from c.args.exec.now.scene.jobs = c.in_ok-carried.ensures in
    let shows = subst (λ (o : Option Evidence). MatchOption o (FitsFor plan.tasks at lent (cycles_of_change (cycle_of plan.tasks) at lent)) (ShowsNoRoom plan.tasks at lent)) c.in-Some.is c.in_ok-refused.ensures.refused in
    let same : c.in-Some.evidence ≡ e = cc is in
    let told = subst (ShowsNoRoom plan.tasks at lent) same shows in
    cannot-from_shows c.args.exec.now c.requires.kept plan c.in_ok-refused.ensures.plan e (shows-parts c.args.exec.now c.requires.kept plan c.in_ok-refused.ensures.plan at lent c.in_ok-carried.carried.items c.requires.now c.deref.ensures.value all e told)

pub returns-in-Some-clause-evidence : goal.returns-in-Some-clause-evidence
returns-in-Some-clause-evidence g c = λ e is.
    let plan = c.args.plan in
    let at = c.args.at in
    let lent = c.deref.result.now in
    let all : c.in_ok-carried.carried.items ≡ carried_from c.args.exec.now.scene.jobs = c.in_ok-carried.ensures in
    let shows = subst (λ (o : Option Evidence). MatchOption o (FitsFor plan.tasks at lent (cycles_of_change (cycle_of plan.tasks) at lent)) (ShowsNoRoom plan.tasks at lent)) c.in-Some.is c.in_ok-refused.ensures.refused in
    let same : c.in-Some.evidence ≡ e = cc is in
    let told = subst (ShowsNoRoom plan.tasks at lent) same shows in
    evidence-from_shows c.args.exec.now c.requires.kept plan c.in_ok-refused.ensures.plan e (shows-parts c.args.exec.now c.requires.kept plan c.in_ok-refused.ensures.plan at lent c.in_ok-carried.carried.items c.requires.now c.deref.ensures.value all e told)
