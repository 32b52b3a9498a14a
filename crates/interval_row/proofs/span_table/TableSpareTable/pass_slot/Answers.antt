use Rattle.std.proofs.Common.{◌+◌, ◌<◌, ◌∙◌, ap, sym, subst, arith}
use Rattle.spare_capacity.specs.Recurrence.{filled, first_start, last_end}
use Rattle.interval_row.specs.Changes.{after_pass}
use Rattle.interval_row.specs.Marks.{AreMarked}
use Rattle.interval_row.proofs.Rooms.{marked-start, seen_of, AreKept-after_pass, IsTable-AreKept, AreKept, kept_of, marked_of}
use Rattle.interval_row.proofs.span_table.TableSpareTable.pass_slot.Given.{Over}
use Rattle.interval_row.proofs.span_table.TableSpareTable.pass_slot.Goals as goal
use Rattle.interval_row.proofs.span_table.TableSpareTable.pass_slot.Goals.{After-pass_time}

pub pass-self-inside-requires-clause-goes_on : goal.pass-self-inside-requires-clause-goes_on
pass-self-inside-requires-clause-goes_on g c =
    let seen = seen_of c.self.view_is (kept_of c.self.invariant) in
    omega (arith, c.requires, c.self.invariant.timed.ends, seen.start, seen.end)

pub overflow_add-self : goal.overflow_add-self
overflow_add-self g c =
    let seen = seen_of c.self.view_is (kept_of c.self.invariant) in
    omega (arith, c.requires, c.self.invariant.timed.starts, c.self.invariant.timed.near, seen.start, seen.end)

pub pass-self-inside-requires-clause-marked : goal.pass-self-inside-requires-clause-marked
pass-self-inside-requires-clause-marked g c = marked-start c.self.invariant

pub pass_time-requires-clause-marked : goal.pass_time-requires-clause-marked
pass_time-requires-clause-marked g c =
    let new = c.pass-self-inside.new.store in
    subst (λ n. AreMarked n (g.S.Store.spans new) (g.S.Store.marks new)) (sym c.self.invariant.timed.starts) c.pass-self-inside.ensures.marked

pub pass_time-requires-clause-near : goal.pass_time-requires-clause-near
pass_time-requires-clause-near g c =
    let seen = seen_of c.self.view_is (kept_of c.self.invariant) in
    omega (arith, c.requires, c.self.invariant.timed.starts, c.self.invariant.timed.near, seen.start, seen.end)

-- the new spans are kept
kept : (g : Over) (c : After-pass_time g) → AreKept (g.S.Store.spans c.pass_time.new.store) (g.S.Store.room c.pass_time.new.store) (c.self.inside.times.start + 1) c.self.inside.times.end
kept g c =
    let seen = seen_of c.self.view_is (kept_of c.self.invariant) in
    let rows = g.S.Store.spans c.self.inside.chain in
    let goes_on : first_start rows + 1 < last_end 0 rows = omega (arith, c.requires, c.self.invariant.timed.ends, seen.start, seen.end) in
    rw (c.pass_time.ensures.kept.spans ∙ c.pass-self-inside.ensures.spans, c.pass_time.ensures.kept.room ∙ c.pass-self-inside.ensures.room) (AreKept-after_pass rows (g.S.Store.room c.self.inside.chain) c.self.inside.times.start c.self.inside.times.end (kept_of c.self.invariant) goes_on)

pub invariant_of-self : goal.invariant_of-self
invariant_of-self g c =
    let rows = g.S.Store.spans c.pass-self-inside.new.store in
    let marked = subst (λ n. AreMarked n rows (g.S.Store.marks c.pass-self-inside.new.store)) (sym c.self.invariant.timed.starts) c.pass-self-inside.ensures.marked in
    marked_of (kept g (goal.at.invariant_of-self g c).After-pass_time) (rw c.pass_time.ensures.kept.spans (c.pass_time.ensures.marked rows marked))

pub returns-clause-table : goal.returns-clause-table
returns-clause-table g c = IsTable-AreKept _ _ _ _ (kept g (goal.at.returns-clause-table g c).After-pass_time)

pub returns-clause-time : goal.returns-clause-time
returns-clause-time g c =
    sym (kept g (goal.at.returns-clause-time g c).After-pass_time).starts ∙ ap (λ n. n + 1) (c.self.invariant.timed.starts ∙ sym (seen_of c.self.view_is (kept_of c.self.invariant)).start)

pub returns-clause-spans : goal.returns-clause-spans
returns-clause-spans g c =
    c.pass_time.ensures.kept.spans ∙ c.pass-self-inside.ensures.spans ∙ ap (λ xs. filled (after_pass xs)) (sym (seen_of c.self.view_is (kept_of c.self.invariant)).rows)
