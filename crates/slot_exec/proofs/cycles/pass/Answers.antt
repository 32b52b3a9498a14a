-- The spans of one more cycle find places, and its jobs have keys of their own.
use Rattle.std.proofs.Common.{◌≡◌, ℕ, ◌+◌, ◌-◌, ◌/◌, ◌%◌, ◌==◌, ◌≤◌, Bool, true, false, cond, List, [], ◌∷◌, length, ap, refl, subst, sym, ◌∙◌, eqb-true, arith}
use Rattle.slot_core.specs.declared.jobs.Job.{Job}
use Rattle.slot_core.specs.declared.jobs.Span.{Span}
use Rattle.slot_core.specs.Keeping.Plans.{PlanParts}
use Rattle.slot_core.specs.Runs.Scenes.{horizon}
use Rattle.slot_facts.proofs.Plans.Items.{plan_cycle-bounds}
use Rattle.spare_capacity.specs.Recurrence.{last_end}
use Rattle.interval_row.specs.Changes.{after_pass}
use Rattle.spare_capacity.specs.PlanSpans.{ArePlanSpans}
use Rattle.interval_row.proofs.Cycles.{last_end-some}
use Rattle.interval_row.proofs.Fillings.{last_end-filled, length-filled}
use Rattle.interval_row.proofs.Kept.{length-after_pass}
use Rattle.slot_exec.specs.Changes.{HasPlaces}
use Rattle.slot_exec.proofs.cycles.pass.Goals as goal

-- a slot later the spans end where they did, as long as there are some
last_end-after_pass : (a b : ℕ) (rows : List Span) → 1 ≤ length (after_pass rows) → last_end a (after_pass rows) ≡ last_end b rows
last_end-after_pass a b [] some = absurd (omega arith)
last_end-after_pass a b (s ∷ ss) some = by_test (s.start + 1 == s.end) some
  where
    by_test : (ends : Bool) → 1 ≤ length (cond ends ss (record s { start = s.start + 1 } ∷ ss)) → last_end a (cond ends ss (record s { start = s.start + 1 } ∷ ss)) ≡ last_end s.end ss
    by_test true more = last_end-some a s.end ss more
    by_test false more = refl

-- at the end of a cycle the next one finds places
places_at : (plan : PlanParts) (rows : List Span) (queue : List Job) (limit capacity t time cycle : ℕ) → time ≡ t + 1 → cycle ≡ plan.cycle → time % cycle ≡ 0 → ((t + 1) % plan.cycle ≡ 0 → HasPlaces plan ((t + 1) / plan.cycle + 2) rows queue limit capacity) → HasPlaces plan (time / cycle + 2) rows queue limit capacity
places_at plan rows queue limit capacity t time cycle later whole turns places =
    let rest : time % cycle ≡ (t + 1) % plan.cycle = λ i. later i % whole i in
    let number : time / cycle ≡ (t + 1) / plan.cycle = λ i. later i / whole i in
    subst (λ n. HasPlaces plan (n + 2) rows queue limit capacity) (sym number) (places (sym rest ∙ turns))

-- the spans end with the third cycle from the one of the slot before on
pub ends_cycle-requires : goal.ends_cycle-requires
ends_cycle-requires g c =
    let rows = g.T.SpareTable.spans c.args.table.now in
    let before = g.T.SpareTable.time c.args.table.now in
    let time = g.T.SpareTable.time c.pass_slot.new.self in
    let own : c.args.plan.now.cycle ≡ c.from-cycle.result = sym (c.from-cycle.ensures ∙ c.cycle.ensures.cycle) in
    let earlier : before ≡ c.time-time.result - 1 = omega (arith, c.time-time.ensures, c.pass_slot.ensures.time) in
    let some : 1 ≤ length (after_pass rows) = omega (
      arith,
      c.pass_slot.ensures.table.some,
      ap length c.pass_slot.ensures.spans,
      length-filled (after_pass rows),
    ) in
    let ends : c.last_end.result ≡ last_end before rows = omega (
      arith,
      c.last_end.ensures,
      ap (last_end time) c.pass_slot.ensures.spans,
      last_end-filled time (after_pass rows),
      last_end-after_pass time before rows some,
    ) in
    record {
      later = omega (arith, c.time-time.ensures, c.pass_slot.ensures.time);
      some = omega (arith, own, plan_cycle-bounds c.args.plan.now c.cycle.ensures.plan);
      few = omega (arith, c.from-cycle.ensures, c.cycle.type_inv);
      end = ends ∙ c.requires.horizon ∙ (λ i. horizon (own i) (earlier i));
    }

pub append_cycle-requires-clause-plan : goal.append_cycle-requires-clause-plan
append_cycle-requires-clause-plan g c =
    subst ArePlanSpans (sym c.spans.ensures.spans) c.spans.ensures.proper

pub append_cycle-requires-clause-free : goal.append_cycle-requires-clause-free
append_cycle-requires-clause-free g c =
    let rows = g.T.SpareTable.spans c.args.table.now in
    let places = places_at c.args.plan.now rows c.args.queue.now.jobs (g.T.SpareTable.limit c.args.table.now) c.args.queue.now.capacity (g.T.SpareTable.time c.args.table.now) c.time-time.result c.from-cycle.result (c.time-time.ensures ∙ c.pass_slot.ensures.time) (c.from-cycle.ensures ∙ c.cycle.ensures.cycle) (eqb-true _ 0 (sym c.ends_cycle.ensures ∙ c.if-ends_cycle.true)) c.requires.places in
    omega (
      arith,
      places.spans,
      ap length c.pass_slot.ensures.spans,
      length-filled (after_pass rows),
      length-after_pass rows,
      ap length c.spans.ensures.spans,
      c.pass_slot.ensures.room,
    )

pub append_cycle-requires-clause-near : goal.append_cycle-requires-clause-near
append_cycle-requires-clause-near g c =
    let rows = g.T.SpareTable.spans c.args.table.now in
    let time = g.T.SpareTable.time c.pass_slot.new.self in
    let places = places_at c.args.plan.now rows c.args.queue.now.jobs (g.T.SpareTable.limit c.args.table.now) c.args.queue.now.capacity (g.T.SpareTable.time c.args.table.now) c.time-time.result c.from-cycle.result (c.time-time.ensures ∙ c.pass_slot.ensures.time) (c.from-cycle.ensures ∙ c.cycle.ensures.cycle) (eqb-true _ 0 (sym c.ends_cycle.ensures ∙ c.if-ends_cycle.true)) c.requires.places in
    let some : 1 ≤ length (after_pass rows) = omega (
      arith,
      c.pass_slot.ensures.table.some,
      ap length c.pass_slot.ensures.spans,
      length-filled (after_pass rows),
    ) in
    omega (
      arith,
      places.near,
      ap (last_end time) c.pass_slot.ensures.spans,
      last_end-filled time (after_pass rows),
      last_end-after_pass time 0 rows some,
      ap (last_end 0) c.spans.ensures.spans,
    )

pub insert_cycle-requires-clause-apart : goal.insert_cycle-requires-clause-apart
insert_cycle-requires-clause-apart g c =
    (places_at c.args.plan.now (g.T.SpareTable.spans c.args.table.now) c.args.queue.now.jobs (g.T.SpareTable.limit c.args.table.now) c.args.queue.now.capacity (g.T.SpareTable.time c.args.table.now) c.time-time.result c.from-cycle.result (c.time-time.ensures ∙ c.pass_slot.ensures.time) (c.from-cycle.ensures ∙ c.cycle.ensures.cycle) (eqb-true _ 0 (sym c.ends_cycle.ensures ∙ c.if-ends_cycle.true)) c.requires.places).apart
