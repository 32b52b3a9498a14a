-- The entry shows the spans after what happened.
use Rattle.std.proofs.Common.{◌≡◌, ◌∷◌, sym, subst}
use Rattle.slot_core.specs.Runs.Scenes.{scene_of}
use Rattle.slot_core.specs.Runs.Spans.{shown_of}
use Rattle.slot_core.specs.Runs.Traces.{arrive, slot}
use Rattle.arrival_replay.proofs.KeptSpans.{shown-after, shown-answered}
use Rattle.arrival_replay.proofs.happen_in.Goals as goal

pub returns-in-Some-clause-shown : goal.returns-in-Some-clause-shown
returns-in-Some-clause-shown g c = λ h stands shown.
    let exec = c.args.exec.now in
    let plan = exec.plan in
    let a = c.in-Some.arrival.now in
    let last = c.renew.new.entry in
    let answered = shown-answered exec c.answer.new.exec (arrive a.row a.event) c.answer.new.what c.args.entry.now.shown last.shown h c.answer.ensures.does c.renew.ensures.read c.renew.ensures.kept stands shown in
    subst (λ w. last.shown ≡ shown_of plan.cycle (scene_of plan.tasks plan.cycle (w ∷ h))) (sym c.renew.ensures.what) answered

pub returns-then-slot_in-clause-shown : goal.returns-then-slot_in-clause-shown
returns-then-slot_in-clause-shown g c = λ h stands shown.
    shown-after c.args.exec.now c.slot_in.new.self slot c.slot_in.new.what c.slot_in.new.shown h c.slot_in.ensures.does c.slot_in.ensures.shows stands

pub returns-else-slot_in-clause-shown : goal.returns-else-slot_in-clause-shown
returns-else-slot_in-clause-shown g c = λ h stands shown.
    shown-after c.args.exec.now c.slot_in.new.self slot c.slot_in.new.what c.slot_in.new.shown h c.slot_in.ensures.does c.slot_in.ensures.shows stands
