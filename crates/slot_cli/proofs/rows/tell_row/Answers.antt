-- The executive stands before the entry of the row, answers it, and tells it.
use Rattle.std.proofs.Common.{ℕ, ◌-◌, true, List, ◌∷◌, Option, Some, Err, sym, ap, subst, ◌∙◌, slice_index_or, arith}
use Rattle.std.proofs.lemmas.Result.{err_from_is_err_and}
use Rattle.slot_core.specs.declared.events.Arrival.{Arrival}
use Rattle.slot_core.specs.declared.events.Event.TheVariants.{Soft}
use Rattle.slot_core.specs.declared.events.What.{What}
use Rattle.slot_core.specs.Keeping.Executives.{StandsFor}
use Rattle.slot_core.specs.Keeping.Plans.{PlanParts}
use Rattle.slot_core.specs.Output.Texts.{entry_line}
use Rattle.command_line.specs.declared.refusal.Refusal.TheVariants.{WriteFault}
use Rattle.command_line.specs.Writings.{Writing, IsPartWriting, IsWriting}
use Rattle.arrival_replay.specs.Replays.{entry_of}
use Rattle.slot_cli.specs.Explained.{explained_entry, refusal_text}
use Rattle.slot_cli.proofs.Explanations.{IsBeforeRow-stands, row-at}
use Rattle.command_line.proofs.PartWritings.{parts-front, parts-rest, rest-of_text}
use Rattle.slot_cli.proofs.rows.tell_row.Goals as goal

abbrev arrival_in : List Arrival → ℕ → Arrival
arrival_in arrivals row = slice_index_or arrivals (row - 1) (record { row = 0; slot = 0; event = Soft 0 })

pub tell_arrival-requires-clause-later : goal.tell_arrival-requires-clause-later
tell_arrival-requires-clause-later g c =
    let arrivals = c.args.arrivals.now in
    let row = c.args.row in
    let before = c.advance.ensures.before (arrival_in arrivals row) (row-at arrivals row c.requires.first c.requires.there) in
    omega (arith, before.row)

pub tell_arrival-requires-clause-may_come : goal.tell_arrival-requires-clause-may_come
tell_arrival-requires-clause-may_come g c =
    let arrivals = c.args.arrivals.now in
    let row = c.args.row in
    (c.advance.ensures.before (arrival_in arrivals row) (row-at arrivals row c.requires.first c.requires.there)).may_come

pub tell_arrival-requires-clause-named : goal.tell_arrival-requires-clause-named
tell_arrival-requires-clause-named g c =
    let arrivals = c.args.arrivals.now in
    let row = c.args.row in
    (c.advance.ensures.before (arrival_in arrivals row) (row-at arrivals row c.requires.first c.requires.there)).named

pub returns-in_err-what : goal.returns-in_err-what
returns-in_err-what g c =
    let arrivals = c.args.arrivals.now in
    let row = c.args.row in
    let a = arrival_in arrivals row in
    let at = row-at arrivals row c.requires.first c.requires.there in
    let told = IsBeforeRow-stands c.args.exec.now.plan arrivals c.args.slots _ row c.advance.new.exec a c.from.ensures c.advance.ensures.plan at (c.advance.ensures.before a at) in
    let p = err_from_is_err_and c.from_residual.result c.from_residual.ensures.1 in
    let Writes : Writing → Type 0 = λ w. IsPartWriting {X = Unit {0}} g.K.Sink.written g.K.Sink.faults true w (Err WriteFault) c.args.out.now c.tell_arrival.new.out in
    rw (p.1, p.2) (subst Writes (sym told.told) (parts-front (Unit {0}) g.K.Sink.written g.K.Sink.faults (explained_entry c.advance.new.exec.plan told.h (entry_of c.advance.new.exec.plan told.h a)) c.args.out.now c.tell_arrival.new.out (c.in_err-what.ensures.part told.h told.stands) c.in_err-what.ensures.failed))

pub tell_refusal-requires : goal.tell_refusal-requires
tell_refusal-requires g c =
    let arrivals = c.args.arrivals.now in
    let row = c.args.row in
    let a = arrival_in arrivals row in
    let at = row-at arrivals row c.requires.first c.requires.there in
    let told = IsBeforeRow-stands c.args.exec.now.plan arrivals c.args.slots _ row c.advance.new.exec a c.from.ensures c.advance.ensures.plan at (c.advance.ensures.before a at) in
    let what = c.in_ok-what.ensures.what told.h told.stands in
    (told.h, subst (λ (w : What). StandsFor c.tell_arrival.new.exec (w ∷ told.h)) (sym what) (c.in_ok-what.ensures.stands told.h told.stands))

pub returns : goal.returns
returns g c =
    let arrivals = c.args.arrivals.now in
    let row = c.args.row in
    let a = arrival_in arrivals row in
    let at = row-at arrivals row c.requires.first c.requires.there in
    let told = IsBeforeRow-stands c.args.exec.now.plan arrivals c.args.slots _ row c.advance.new.exec a c.from.ensures c.advance.ensures.plan at (c.advance.ensures.before a at) in
    let plan = c.advance.new.exec.plan in
    let entry = entry_of plan told.h a in
    let what = c.in_ok-what.ensures.what told.h told.stands in
    let stands = subst (λ (w : What). StandsFor c.tell_arrival.new.exec (w ∷ told.h)) (sym what) (c.in_ok-what.ensures.stands told.h told.stands) in
    let Rest : PlanParts → What → Type 0 = λ p w. IsWriting g.K.Sink.written g.K.Sink.faults (refusal_text p told.h w) c.tell_refusal.result c.tell_arrival.new.out c.tell_refusal.new.out in
    let rest = subst (λ (p : PlanParts). Rest p entry.what) c.in_ok-what.ensures.plan (subst (λ (w : What). Rest c.tell_arrival.new.exec.plan w) what (c.tell_refusal.ensures told.h stands)) in
    let Writes : Writing → Type 0 = λ w. IsPartWriting g.K.Sink.written g.K.Sink.faults true w c.tell_refusal.result c.args.out.now c.tell_refusal.new.out in
    subst Writes (sym told.told) (parts-rest g.K.Sink.written g.K.Sink.faults (entry_line plan.tasks entry) _ c.tell_refusal.result c.args.out.now c.tell_arrival.new.out c.tell_refusal.new.out (c.in_ok-what.ensures.entry told.h told.stands) c.tell_arrival.ensures.counted (rest-of_text g.K.Sink.written g.K.Sink.faults (refusal_text plan told.h entry.what) _ _ _ rest))
