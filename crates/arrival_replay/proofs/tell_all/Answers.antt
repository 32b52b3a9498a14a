-- All is told up to the end, and then the end.
use Rattle.std.proofs.Common.{◌≡◌, [], ◌∷◌, length, None, OnErr, OnOk, subst, arith}
use Rattle.std.specs.Prelude.{slice_get}
use Rattle.std.proofs.lemmas.Option.{slice_get_past}
use Rattle.std.proofs.lemmas.Result.{on_ok_weaker, on_err_weaker}
use Rattle.slot_core.specs.Keeping.Plans.{PlanParts}
use Rattle.slot_core.specs.Runs.Traces.{end_entry, trace}
use Rattle.slot_io.proofs.SinkParts.{OnOk-anyhow}
use Rattle.arrival_replay.proofs.EndTimes.{time-from_stands}
use Rattle.arrival_replay.proofs.Stops.{all-taken, all-stands, BreaksOff-end}
use Rattle.arrival_replay.proofs.tell_all.Goals as goal

pub returns-clause-took : goal.returns-clause-took
returns-clause-took g c =
    let plan = c.args.exec.now.plan in
    let n = c.args.slots in
    let arrivals = c.args.arrivals.now in
    let first = c.args.taker.now in
    let mid = c.go_to.new.taker in
    let took = g.W.Taker.took plan.tasks first in
    let exec = c.go_to.new.exec in
    let whole = trace plan.tasks arrivals n in
    let next = slice_get arrivals (length arrivals) in
    let s = c.in_ok-go_to.ensures.stopped in
    let none : next ≡ None = slice_get_past arrivals (length arrivals) (omega arith) in
    let own = subst (λ (p : PlanParts). OnOk c.end.result (g.W.Taker.took p.tasks mid c.end.new.taker (end_entry n ∷ []))) c.go_to.ensures.plan c.end.ensures.took in
    on_ok_weaker c.end.result (λ one. all-taken (took mid) exec whole n next s none (took c.end.new.taker) (g.met.W.Taker.took_more plan.tasks first mid c.end.new.taker s.told (end_entry n ∷ []) s.took one)) own

pub returns-clause-stands : goal.returns-clause-stands
returns-clause-stands g c =
    let plan = c.args.exec.now.plan in
    let n = c.args.slots in
    let arrivals = c.args.arrivals.now in
    let next = slice_get arrivals (length arrivals) in
    let none : next ≡ None = slice_get_past arrivals (length arrivals) (omega arith) in
    OnOk-anyhow c.end.result (all-stands (g.W.Taker.took plan.tasks c.args.taker.now c.go_to.new.taker) c.go_to.new.exec (trace plan.tasks arrivals n) n next c.in_ok-go_to.ensures.stopped none)

pub returns-clause-broke : goal.returns-clause-broke
returns-clause-broke g c =
    let plan = c.args.exec.now.plan in
    let n = c.args.slots in
    let arrivals = c.args.arrivals.now in
    let first = c.args.taker.now in
    let mid = c.go_to.new.taker in
    let broke = g.W.Taker.broke plan.tasks first c.end.new.taker in
    let exec = c.go_to.new.exec in
    let whole = trace plan.tasks arrivals n in
    let next = slice_get arrivals (length arrivals) in
    let s = c.in_ok-go_to.ensures.stopped in
    let none : next ≡ None = slice_get_past arrivals (length arrivals) (omega arith) in
    let own = subst (λ (p : PlanParts). OnErr c.end.result (g.W.Taker.broke p.tasks mid c.end.new.taker (end_entry n ∷ []))) c.go_to.ensures.plan c.end.ensures.broke in
    on_err_weaker c.end.result (λ one. BreaksOff-end (g.W.Taker.took plan.tasks first mid) exec whole n next s none broke (g.met.W.Taker.broke_later plan.tasks first mid c.end.new.taker s.told (end_entry n ∷ []) s.took one)) own

pub returns-clause-time : goal.returns-clause-time
returns-clause-time g c =
    time-from_stands c.end.result c.go_to.new.exec c.args.exec.now.plan.tasks c.args.arrivals.now c.args.slots (returns-clause-stands g c)
