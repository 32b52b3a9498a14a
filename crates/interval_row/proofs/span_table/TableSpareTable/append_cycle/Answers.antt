use Rattle.std.proofs.Common.{◌+◌, ◌≤◌, ◌^◌, ◌∙◌, length, ap, sym, subst, arith}
use Rattle.spare_capacity.specs.Recurrence.{last_end}
use Rattle.interval_row.specs.Changes.{appended}
use Rattle.interval_row.specs.Marks.{AreMarked}
use Rattle.interval_row.proofs.Marked.{AreLight-FollowOn}
use Rattle.interval_row.proofs.Kept.{AreFilled-ArePlanSpans}
use Rattle.interval_row.proofs.Rooms.{marked-start, seen_of, AreKept-appended, IsTable-AreKept, AreKept, kept_of, marked_of}
use Rattle.interval_row.proofs.span_table.TableSpareTable.append_cycle.Given.{Over}
use Rattle.interval_row.proofs.span_table.TableSpareTable.append_cycle.Goals as goal
use Rattle.interval_row.proofs.span_table.TableSpareTable.append_cycle.Goals.{After-append}

pub append-requires-clause-free : goal.append-requires-clause-free
append-requires-clause-free g c =
    let seen = seen_of c.self.view_is (kept_of c.self.invariant) in
    omega (arith, c.requires.free, seen.count, seen.room)

pub append-requires-clause-spans : goal.append-requires-clause-spans
append-requires-clause-spans g c =
    let seen = seen_of c.self.view_is (kept_of c.self.invariant) in
    AreFilled-ArePlanSpans c.args.cycle.now c.requires.plan (omega (arith, c.requires.free, c.self.invariant.small, seen.room))

pub append-requires-clause-near : goal.append-requires-clause-near
append-requires-clause-near g c =
    omega (arith, c.requires.near, (seen_of c.self.view_is (kept_of c.self.invariant)).end)

pub overflow_add-self : goal.overflow_add-self
overflow_add-self g c =
    omega (arith, c.requires.near, c.last_end.ensures, (seen_of c.self.view_is (kept_of c.self.invariant)).end)

-- the new spans are kept
kept : (g : Over) (c : After-append g) → AreKept (g.S.Store.spans c.append.new.store) (g.S.Store.room c.append.new.store) c.self.inside.times.start (c.self.inside.times.end + last_end 0 c.args.cycle.now)
kept g c =
    let seen = seen_of c.self.view_is (kept_of c.self.invariant) in
    let rows = g.S.Store.spans c.self.inside.chain in
    let room = g.S.Store.room c.self.inside.chain in
    let free : length rows + length c.args.cycle.now ≤ room = omega (arith, c.requires.free, seen.count, seen.room) in
    let near : c.self.inside.times.end + last_end 0 c.args.cycle.now ≤ 2 ^ 60 = omega (arith, c.requires.near, seen.end) in
    rw (c.append.ensures.spans, c.append.ensures.room) (AreKept-appended c.args.cycle.now rows room c.self.inside.times.start c.self.inside.times.end c.requires.plan (kept_of c.self.invariant) free near)

pub append-requires-clause-few : goal.append-requires-clause-few
append-requires-clause-few g c =
    let seen = seen_of c.self.view_is (kept_of c.self.invariant) in
    omega (arith, c.requires.free, c.self.invariant.small, seen.count, seen.room)

pub append-requires-clause-small : goal.append-requires-clause-small
append-requires-clause-small g c = AreLight-FollowOn _ _ c.self.invariant.timed.filled.consecutive

pub append-requires-clause-marked : goal.append-requires-clause-marked
append-requires-clause-marked g c = marked-start c.self.invariant

pub invariant_of-self : goal.invariant_of-self
invariant_of-self g c =
    let marked = subst (λ n. AreMarked n (g.S.Store.spans c.append.new.store) (g.S.Store.marks c.append.new.store)) (sym c.self.invariant.timed.starts) c.append.ensures.marked in
    rw c.last_end.ensures (marked_of (kept g (goal.at.invariant_of-self g c).After-append) marked)

pub returns-clause-stays : goal.returns-clause-stays
returns-clause-stays g c =
    let seen = seen_of c.self.view_is (kept_of c.self.invariant) in
    let are = kept g (goal.at.returns-clause-stays g c).After-append in
    record {
      table = IsTable-AreKept _ _ _ _ are;
      time = sym are.starts ∙ c.self.invariant.timed.starts ∙ sym seen.start;
      room = c.append.ensures.room ∙ sym seen.room;
    }

pub returns-clause-spans : goal.returns-clause-spans
returns-clause-spans g c =
    c.append.ensures.spans ∙ ap (appended c.args.cycle.now) (sym (seen_of c.self.view_is (kept_of c.self.invariant)).rows)
