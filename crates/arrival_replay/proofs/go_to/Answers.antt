-- What is told is to be told, so the replay goes on, ends, or breaks off.
use Rattle.std.proofs.Common.{◌≡◌, ◌≤◌, true, false, [], ◌∷◌, ◌++◌, length, drop, refl, sym, subst, ◌∙◌, inr, arith}
use Rattle.std.specs.Option.{is_some, option_copied}
use Rattle.std.specs.declared.option.Option.{Option}
use Rattle.std.specs.declared.option.Option.TheVariants.{None, Some}
use denote.Bor.{Bor}
use Rattle.slot_core.specs.declared.events.Arrival.{Arrival}
use Rattle.std.specs.Prelude.{slice_get}
use Rattle.slot_core.specs.declared.events.What.TheVariants.{Start}
use Rattle.slot_core.specs.Keeping.Plans.{PlanParts}
use Rattle.slot_core.specs.Runs.Scenes.{scene_of}
use Rattle.slot_core.specs.Runs.Spans.{shown_of}
use Rattle.slot_core.specs.Runs.Traces.{shown_entry, trace, history_of}
use Rattle.slot_io.proofs.SinkParts.{OnErr-anyhow}
use Rattle.arrival_replay.proofs.UnderWay.{IsToTell, TookShown, TookShown-told, TookStood, entry-told, IsUnderWay-told, BreaksOff-told, IsToTell-start}
use Rattle.arrival_replay.proofs.Happenings.{place_after, place_after-some, place_after-none, place_after-within, on_the_way-early, on_the_way-told, left-falls, IsToTell-happened, time-happened, last-happened, due-may_come, due-later, happened-named}
use Rattle.arrival_replay.proofs.Stops.{IsStopped-off, IsStopped-taken}
use Rattle.arrival_replay.specs.Replays.{is_on_the_way, next_occurrence}
use Rattle.arrival_replay.proofs.KeptSpans.{done-some}
use Rattle.arrival_replay.proofs.go_to.Given.{Over}
use Rattle.arrival_replay.proofs.go_to.Goals as goal
use Rattle.arrival_replay.proofs.go_to.Goals.{After-happen_in-stay, then-is_some, else-is_some}

pub loop-entry-init : goal.loop-entry-init
loop-entry-init g c =
    let exec = c.args.exec.now in
    let set = exec.plan.tasks in
    let first = c.args.taker.now in
    let next = c.tell.new.taker in
    let n = c.args.slots in
    let arrivals = c.args.arrivals.now in
    let took = g.W.Taker.took set first in
    let t = IsToTell-start (took first) exec n arrivals c.tell.ensures.plan.cycle c.requires.started c.requires.fitting (g.met.W.Taker.took_none set first) in
    let e = c.entry_at-entry.result in
    let same = c.entry_at-entry.ensures.entry (Start ∷ history_of t.told) t.stands in
    let all = g.met.W.Taker.took_more set first first next t.told (e ∷ []) t.took c.in_ok-tell.ensures.took in
    record {
      under_way = IsUnderWay-told (took first) (TookShown (took next) exec.plan e.shown) exec.plan exec (trace set arrivals n) n arrivals 0 Start t (TookShown-told (took next) exec.plan t.told 0 Start e same all);
      last = c.requires.started.last;
      within = omega arith;
      counted = c.in_ok-tell.ensures.counted;
      keeps = c.tell.ensures.keeps;
    }

pub returns-in_err-tell-clause-broke : goal.returns-in_err-tell-clause-broke
returns-in_err-tell-clause-broke g c =
    let exec = c.args.exec.now in
    let set = exec.plan.tasks in
    let first = c.args.taker.now in
    let next = c.tell.new.taker in
    let n = c.args.slots in
    let arrivals = c.args.arrivals.now in
    let took = g.W.Taker.took set first in
    let t = IsToTell-start (took first) exec n arrivals c.tell.ensures.plan.cycle c.requires.started c.requires.fitting (g.met.W.Taker.took_none set first) in
    let broke = g.W.Taker.broke set first next in
    let own = shown_entry set exec.plan.cycle 0 Start (Start ∷ history_of t.told) in
    let e = c.entry_at-entry.result in
    let same = c.entry_at-entry.ensures.entry (Start ∷ history_of t.told) t.stands in
    let all = g.met.W.Taker.broke_later set first first next t.told (e ∷ []) t.took c.in_err-tell.ensures.broke in
    OnErr-anyhow c.from_residual.result (BreaksOff-told (took first) broke exec.plan exec (trace set arrivals n) n arrivals 0 Start t (subst (λ e. broke (t.told ++ e ∷ [])) {y = own} same all))

pub happen_in-stay-requires-clause-later : goal.happen_in-stay-requires-clause-later
happen_in-stay-requires-clause-later g c =
    let exec = c.args.exec.now in
    let set = exec.plan.tasks in
    let l = c.loop-entry in
    due-later (TookShown (g.W.Taker.took set c.args.taker.now l.taker) exec.plan l.entry.shown) exec.plan l.exec (trace set c.args.arrivals.now c.args.slots) c.args.slots l.next c.now-time.result c.args.arrivals.now l.invariant.under_way c.now-time.ensures.time c.requires.fitting l.invariant.last (option_copied c.due_arrival-due.result) c.due_arrival-due.ensures

pub happen_in-stay-requires-clause-may_come : goal.happen_in-stay-requires-clause-may_come
happen_in-stay-requires-clause-may_come g c =
    let exec = c.args.exec.now in
    let set = exec.plan.tasks in
    let l = c.loop-entry in
    due-may_come (TookShown (g.W.Taker.took set c.args.taker.now l.taker) exec.plan l.entry.shown) exec.plan l.exec (trace set c.args.arrivals.now c.args.slots) c.args.slots l.next c.now-time.result c.args.arrivals.now l.invariant.under_way c.now-time.ensures.time c.requires.fitting l.invariant.last (option_copied c.due_arrival-due.result) c.due_arrival-due.ensures

-- the spans of the last entry are those before what happens
pub happen_in-stay-requires-clause-shown : goal.happen_in-stay-requires-clause-shown
happen_in-stay-requires-clause-shown g c =
    let l = c.loop-entry in
    let u = l.invariant.under_way in
    let h = history_of u.told in
    (h, u.stands, subst (λ (p : PlanParts). l.entry.shown ≡ shown_of p.cycle (scene_of p.tasks p.cycle h)) (sym u.plan_is) u.took.1)

pub tell-requires-in-loop-entry-clause-named : goal.tell-requires-in-loop-entry-clause-named
tell-requires-in-loop-entry-clause-named g c =
    let exec = c.args.exec.now in
    let set = exec.plan.tasks in
    let l = c.loop-entry in
    happened-named (TookShown (g.W.Taker.took set c.args.taker.now l.taker) exec.plan l.entry.shown) exec.plan l.exec (trace set c.args.arrivals.now c.args.slots) c.args.slots l.next c.now-time.result c.args.arrivals.now l.invariant.under_way c.now-time.ensures.time c.requires.fitting l.invariant.last c.happen_in-stay.new.exec (option_copied c.due_arrival-due.result) c.happen_in-stay.new.entry.what c.now.ensures.kept.plan c.due_arrival-due.ensures c.happen_in-stay.ensures.does

-- what happened is not the end
pub tell-requires-in-loop-entry-clause-some : goal.tell-requires-in-loop-entry-clause-some
tell-requires-in-loop-entry-clause-some g c =
    done-some c.loop-entry.exec c.happen_in-stay.new.exec (next_occurrence (option_copied c.due_arrival-due.result)) c.happen_in-stay.new.entry.what c.happen_in-stay.ensures.does

-- the spans that stay are those of the last entry, of which the text is kept
pub tell-requires-in-loop-entry-clause-kept : goal.tell-requires-in-loop-entry-clause-kept
tell-requires-in-loop-entry-clause-kept g c =
    inr (c.loop-entry.entry.shown, c.happen_in-stay.ensures.stay, c.loop-entry.invariant.keeps)

-- there is a copy where there is what is copied
is_some-copied : (due : Option (Bor Arrival)) → is_some (option_copied due) ≡ is_some due
is_some-copied None = refl
is_some-copied (Some a) = refl

-- the next place is that after what is due
next_place : (g : Over) (c : After-happen_in-stay g) → place_after (option_copied c.due_arrival-due.result) c.loop-entry.next ≡ c.if-is_some.next
next_place g c =
    let due = (option_copied c.due_arrival-due.result) in
    let next = c.loop-entry.next in
    let there = is_some-copied c.due_arrival-due.result in
    elim c.if-is_some.branch [
      | then-is_some w ↦ place_after-some due next (there ∙ sym c.is_some.ensures ∙ w.if-is_some.true) ∙ sym w.next-is
      | else-is_some w ↦ place_after-none due next (there ∙ sym c.is_some.ensures ∙ w.if-is_some.false) ∙ sym w.next-is
    ]

-- the replay was on the way
on_the_way : (g : Over) (c : After-happen_in-stay g) → is_on_the_way c.args.arrivals.now c.args.slots c.args.place c.loop-entry.next c.now-time.result ≡ true
on_the_way g c =
    let same : c.now.result ≡ c.now-time.result = omega (arith, c.now.ensures.time, c.now-time.ensures.time) in
    on_the_way-told c.args.arrivals.now c.args.slots c.args.place c.loop-entry.next c.now.result c.now-time.result true c.is_on_the_way.result c.is_on_the_way.ensures c.loop-entry-test.true same

-- what happened is to be told
happened : (g : Over) (c : After-happen_in-stay g) → IsToTell (TookStood (TookShown (g.W.Taker.took c.args.exec.now.plan.tasks c.args.taker.now c.loop-entry.taker) c.args.exec.now.plan c.loop-entry.entry.shown) c.loop-entry.exec) c.args.exec.now.plan c.happen_in-stay.new.exec (trace c.args.exec.now.plan.tasks c.args.arrivals.now c.args.slots) c.args.slots (drop c.if-is_some.next c.args.arrivals.now) c.now-time.result c.happen_in-stay.new.entry.what
happened g c =
    let plan = c.args.exec.now.plan in
    let l = c.loop-entry in
    let n = c.args.slots in
    let arrivals = c.args.arrivals.now in
    let took = TookShown (g.W.Taker.took plan.tasks c.args.taker.now l.taker) plan l.entry.shown in
    let whole = trace plan.tasks arrivals n in
    let after = c.happen_in-stay.new.exec in
    let time = c.now-time.result in
    let due = (option_copied c.due_arrival-due.result) in
    let t = IsToTell-happened took plan l.exec whole n l.next time arrivals l.invariant.under_way c.now-time.ensures.time c.requires.fitting l.invariant.last after due c.happen_in-stay.new.entry.what c.due_arrival-due.ensures (on_the_way-early arrivals n c.args.place l.next time (on_the_way g c)) c.happen_in-stay.ensures.does in
    subst (λ k. IsToTell (TookStood took l.exec) plan after whole n (drop k arrivals) time c.happen_in-stay.new.entry.what) (next_place g c) t

-- the last row counts the arrivals that were answered
last_happened : (g : Over) (c : After-happen_in-stay g) → c.happen_in-stay.new.exec.last_row ≡ c.if-is_some.next
last_happened g c =
    let exec = c.args.exec.now in
    let l = c.loop-entry in
    let took = TookShown (g.W.Taker.took exec.plan.tasks c.args.taker.now l.taker) exec.plan l.entry.shown in
    last-happened took exec.plan l.exec (trace exec.plan.tasks c.args.arrivals.now c.args.slots) c.args.slots l.next c.now-time.result c.args.arrivals.now l.invariant.under_way c.now-time.ensures.time c.requires.fitting l.invariant.last c.happen_in-stay.new.exec (option_copied c.due_arrival-due.result) c.happen_in-stay.new.entry.what c.due_arrival-due.ensures c.happen_in-stay.ensures.does
    ∙ next_place g c

-- it does not pass the place
next_within : (g : Over) (c : After-happen_in-stay g) → c.if-is_some.next ≤ c.args.place
next_within g c =
    let within = place_after-within c.args.arrivals.now c.args.slots c.args.place c.loop-entry.next c.now-time.result (option_copied c.due_arrival-due.result) c.due_arrival-due.ensures (on_the_way g c) c.loop-entry.invariant.within in
    subst (λ k. k ≤ c.args.place) (next_place g c) within

pub loop-entry-smaller : goal.loop-entry-smaller
loop-entry-smaller g c =
    let o = (goal.at.loop-entry-smaller g c).After-happen_in-stay in
    let plan = c.args.exec.now.plan in
    let l = c.loop-entry in
    let n = c.args.slots in
    let arrivals = c.args.arrivals.now in
    let took = TookShown (g.W.Taker.took plan.tasks c.args.taker.now l.taker) plan l.entry.shown in
    let whole = trace plan.tasks arrivals n in
    let due = (option_copied c.due_arrival-due.result) in
    let time = c.now-time.result in
    let later = time-happened took plan l.exec whole n l.next time arrivals l.invariant.under_way c.now-time.ensures.time c.requires.fitting l.invariant.last c.happen_in-stay.new.exec due c.happen_in-stay.new.entry.what c.happen_in-stay.ensures.does in
    let within : place_after due l.next ≤ length arrivals = omega (arith, next_place g o, next_within g o, c.requires.place) in
    let falls = left-falls due n l.next time (length arrivals) within (on_the_way-early arrivals n c.args.place l.next time (on_the_way g o)) in
    omega (arith, falls, later, next_place g o, c.now-time.ensures.time)

pub loop-entry-preserved : goal.loop-entry-preserved
loop-entry-preserved g c =
    let o = (goal.at.loop-entry-preserved g c).After-happen_in-stay in
    let plan = c.args.exec.now.plan in
    let n = c.args.slots in
    let arrivals = c.args.arrivals.now in
    let what = c.happen_in-stay.new.entry.what in
    let time = c.now-time.result in
    let first = c.args.taker.now in
    let last = c.loop-entry.taker in
    let next = c.tell-in-loop-entry.new.taker in
    let took = g.W.Taker.took plan.tasks first in
    let rest = drop c.if-is_some.next arrivals in
    let t = happened g o in
    let whole = trace plan.tasks arrivals n in
    let after = c.happen_in-stay.new.exec in
    let l = c.loop-entry in
    let e = c.happen_in-stay.new.entry in
    let same = entry-told (took last) plan l.exec after whole n rest time l.entry.shown e t l.invariant.under_way.plan_is c.happen_in-stay.ensures.time c.happen_in-stay.ensures.shown in
    let one = subst (λ (p : PlanParts). g.W.Taker.took p.tasks last next (e ∷ [])) t.plan_is c.in_ok-tell-2.ensures.took in
    let all = g.met.W.Taker.took_more plan.tasks first last next t.told (e ∷ []) t.took.0.0 one in
    record {
      under_way = IsUnderWay-told (TookStood (TookShown (took last) plan l.entry.shown) l.exec) (TookShown (took next) plan e.shown) plan after whole n rest time what t (TookShown-told (took next) plan t.told time what e same all);
      last = last_happened g o;
      within = next_within g o;
      counted = omega (arith, c.loop-entry.invariant.counted, c.in_ok-tell-2.ensures.counted);
      keeps = c.tell-in-loop-entry.ensures.keeps;
    }

pub returns-in_err-tell-2-clause-broke : goal.returns-in_err-tell-2-clause-broke
returns-in_err-tell-2-clause-broke g c =
    let o = (goal.at.returns-in_err-tell-2-clause-broke g c).After-happen_in-stay in
    let plan = c.args.exec.now.plan in
    let n = c.args.slots in
    let arrivals = c.args.arrivals.now in
    let what = c.happen_in-stay.new.entry.what in
    let time = c.now-time.result in
    let first = c.args.taker.now in
    let last = c.loop-entry.taker in
    let next = c.tell-in-loop-entry.new.taker in
    let took = g.W.Taker.took plan.tasks first in
    let broke = g.W.Taker.broke plan.tasks first next in
    let rest = drop c.if-is_some.next arrivals in
    let t = happened g o in
    let whole = trace plan.tasks arrivals n in
    let after = c.happen_in-stay.new.exec in
    let l = c.loop-entry in
    let e = c.happen_in-stay.new.entry in
    let same = entry-told (took last) plan l.exec after whole n rest time l.entry.shown e t l.invariant.under_way.plan_is c.happen_in-stay.ensures.time c.happen_in-stay.ensures.shown in
    let one = subst (λ (p : PlanParts). g.W.Taker.broke p.tasks last next (e ∷ [])) t.plan_is c.in_err-tell-2.ensures.broke in
    let all = g.met.W.Taker.broke_later plan.tasks first last next t.told (e ∷ []) t.took.0.0 one in
    OnErr-anyhow c.from_residual-in_err-tell-2.result (BreaksOff-told (TookStood (TookShown (took last) plan l.entry.shown) l.exec) broke plan after whole n rest time what t (subst (λ e. broke (t.told ++ e ∷ [])) same all))

-- off the way it stops at its place
pub returns-clause-stopped : goal.returns-clause-stopped
returns-clause-stopped g c =
    let exec = c.args.exec.now in
    let l = c.loop-entry in
    let own = g.W.Taker.took exec.plan.tasks c.args.taker.now l.taker in
    let took = TookShown own exec.plan l.entry.shown in
    let whole = trace exec.plan.tasks c.args.arrivals.now c.args.slots in
    let off = on_the_way-told c.args.arrivals.now c.args.slots c.args.place l.next c.now.result l.exec.scene.time false c.is_on_the_way.result c.is_on_the_way.ensures c.loop-entry-test.false c.now.ensures.time in
    let stopped = IsStopped-off took exec.plan l.exec whole c.args.slots c.args.place l.next c.args.arrivals.now l.invariant.under_way l.invariant.last l.invariant.within c.requires.place off in
    IsStopped-taken own exec.plan l.entry.shown l.exec whole c.args.slots (slice_get c.args.arrivals.now c.args.place) stopped.0

pub returns-clause-last_row : goal.returns-clause-last_row
returns-clause-last_row g c =
    let exec = c.args.exec.now in
    let l = c.loop-entry in
    let took = TookShown (g.W.Taker.took exec.plan.tasks c.args.taker.now l.taker) exec.plan l.entry.shown in
    let off = on_the_way-told c.args.arrivals.now c.args.slots c.args.place l.next c.now.result l.exec.scene.time false c.is_on_the_way.result c.is_on_the_way.ensures c.loop-entry-test.false c.now.ensures.time in
    (IsStopped-off took exec.plan l.exec (trace exec.plan.tasks c.args.arrivals.now c.args.slots) c.args.slots c.args.place l.next c.args.arrivals.now l.invariant.under_way l.invariant.last l.invariant.within c.requires.place off).1
