-- A slot: what is chosen may run, the next cycle finds room, and the parts become those of the step.
use Rattle.std.proofs.Common.{◌≡◌, ◌<◌, ◌==◌, ◌&&◌, Bool, true, false, not, length, eqb-true, refl, sym, ap, ◌∙◌, arith}
use Rattle.std.proofs.lemmas.Bool.{and_parts}
use Rattle.slot_core.specs.declared.TheConstants.{TIME_LIMIT}
use Rattle.slot_core.specs.Keeping.Executives.{Executive}
use Rattle.slot_core.specs.Runs.Traces.{told_of_slot}
use Rattle.slot_exec.proofs.SlotChoice.{choice_of}
use Rattle.slot_exec.proofs.SlotParts.{Does-seen, end-near, HasPlaces-parts, IsExecutive-parts, MayRun-parts, next_slot-before_end, others-parts, ran_of-parts, RemembersSpans-parts, run_end-horizon, slot-before_end}
use Rattle.slot_exec.proofs.exec.Exec.pass_in.Goals as goal

pub choose-chosen-requires : goal.choose-chosen-requires
choose-chosen-requires g c =
    record {
      after = slot-before_end c.self.inside.reserve c.self.invariant;
      near = end-near c.self.inside.reserve c.self.invariant;
      room = RemembersSpans-parts c.self.inside.reserve c.self.invariant;
    }

pub run-stay-requires : goal.run-stay-requires
run-stay-requires g c =
    MayRun-parts c.self.inside.reserve c.self.invariant c.choose-chosen.result.0 c.choose-chosen.ensures.chosen

pub pass-turned-requires-clause-goes_on : goal.pass-turned-requires-clause-goes_on
pass-turned-requires-clause-goes_on g c =
    let ran = c.run-stay.ensures in
    next_slot-before_end c.self.inside.reserve c.self.invariant c.choose-chosen.result.0 c.choose-chosen.ensures.chosen _ _ c.run-stay.new.queue.jobs ran.time ran.spans ran.jobs

pub pass-turned-requires-clause-horizon : goal.pass-turned-requires-clause-horizon
pass-turned-requires-clause-horizon g c =
    let ran = c.run-stay.ensures in
    run_end-horizon c.self.inside.reserve c.self.invariant c.choose-chosen.result.0 c.choose-chosen.ensures.chosen _ _ c.run-stay.new.queue.jobs ran.time ran.spans ran.jobs

pub pass-turned-requires-clause-places : goal.pass-turned-requires-clause-places
pass-turned-requires-clause-places g c =
    let ran = c.run-stay.ensures in
    rw (ran.places, ran.capacity)
    (HasPlaces-parts c.self.inside.reserve c.self.invariant c.choose-chosen.result.0 c.choose-chosen.ensures.chosen _ _ c.run-stay.new.queue.jobs ran.time ran.spans ran.jobs)

pub invariant_of-self : goal.invariant_of-self
invariant_of-self g c =
    let ran = c.run-stay.ensures in
    let passed = c.pass-turned.ensures in
    let early : g.T.SpareTable.time c.self.inside.table < TIME_LIMIT = omega (arith, c.requires, ap (λ (e : Executive). e.scene.time) c.self.view_is) in
    rw (passed.places, ran.places, passed.capacity, ran.capacity, ran.ring, c.after_slot-room.ensures)
    (IsExecutive-parts c.self.inside.reserve c.self.invariant c.choose-chosen.result.0 c.choose-chosen.ensures.chosen _ _ c.run-stay.new.queue.jobs ran.time ran.spans ran.jobs _ _ c.pass-turned.new.queue.jobs _ passed.time passed.spans passed.jobs ran.soft c.choose-chosen.result.1 c.pass-turned.result c.choose-chosen.ensures.room passed.turned early)

pub returns-clause-does : goal.returns-clause-does
returns-clause-does g c =
    let ran = c.run-stay.ensures in
    let passed = c.pass-turned.ensures in
    rw c.told.ensures
    (Does-seen c.self.inside.reserve c.self.invariant c.choose-chosen.result.0 c.choose-chosen.ensures.chosen _ _ c.run-stay.new.queue.jobs ran.time ran.spans ran.jobs _ _ c.pass-turned.new.queue.jobs _ passed.time passed.spans passed.jobs ran.soft _ c.self.view_is)

pub returns-clause-told : goal.returns-clause-told
returns-clause-told g c =
    let runs = ran_of-parts c.self.inside.reserve c.self.invariant c.choose-chosen.result.0 c.choose-chosen.ensures.chosen in
    c.told.ensures ∙ ap told_of_slot (runs ∙ ap choice_of c.self.view_is)

-- where all three are so, each is
all_three : (stay turned same : Bool) → ((stay && not turned) && same) ≡ true → (stay ≡ true) × (turned ≡ false) × (same ≡ true)
all_three stay turned same is =
    let parts = and_parts (stay && not turned) same is in
    let first = and_parts stay (not turned) parts.0 in
    (first.0, not_so turned first.1, parts.1)
  where
    not_so : (b : Bool) → not b ≡ true → b ≡ false
    not_so true e = sym e
    not_so false e = refl

pub returns-clause-others : goal.returns-clause-others
returns-clause-others g c = λ stays.
    let ran = c.run-stay.ensures in
    let passed = c.pass-turned.ensures in
    let parts = all_three c.run-stay.result c.pass-turned.result (c.count.result == c.count-count.result) stays in
    let before = g.T.SpareTable.spans c.self.inside.table in
    let next = g.T.SpareTable.spans c.pass-turned.new.table in
    let many : length next ≡ length before = sym c.count.ensures.count ∙ eqb-true _ _ parts.2 ∙ c.count-count.ensures.count in
    others-parts c.self.inside.reserve c.self.invariant c.choose-chosen.result.0 c.choose-chosen.ensures.chosen _ _ c.run-stay.new.queue.jobs ran.time ran.spans ran.jobs _ _ c.pass-turned.new.queue.jobs _ passed.time passed.spans passed.jobs ran.soft _ c.self.view_is c.count-count.ensures.table.filled c.pass-turned.result passed.turned parts.1 many (ran.others parts.0)
