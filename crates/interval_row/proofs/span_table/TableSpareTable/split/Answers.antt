use Rattle.std.proofs.Common.{◌+◌, ◌<◌, ◌≤◌, ◌∙◌, IsSome, length, ap, sym, subst, arith}
use Rattle.spare_capacity.specs.Recurrence.{filled}
use Rattle.interval_row.specs.Changes.{apart_from, cut, ends_before, span_ending}
use Rattle.interval_row.specs.Stores.{Stored}
use Rattle.interval_row.proofs.Cuts.{apart_from-cut}
use Rattle.interval_row.proofs.Rooms.{seen_of, AreKept-cut, IsTable-AreKept, AreKept, kept_of, marked_of}
use Rattle.interval_row.proofs.span_table.TableSpareTable.split.Given.{Over}
use Rattle.interval_row.proofs.span_table.TableSpareTable.split.Goals as goal
use Rattle.interval_row.proofs.span_table.TableSpareTable.split.Goals.{After-split-self-inside}

pub split-self-inside-requires-clause-free : goal.split-self-inside-requires-clause-free
split-self-inside-requires-clause-free g c =
    let seen = seen_of c.self.view_is (kept_of c.self.invariant) in
    omega (arith, c.requires.free, seen.count, seen.room)

pub split-self-inside-requires-clause-after : goal.split-self-inside-requires-clause-after
split-self-inside-requires-clause-after g c =
    omega (arith, c.requires.after, (seen_of c.self.view_is (kept_of c.self.invariant)).start)

pub split-self-inside-requires-clause-reached : goal.split-self-inside-requires-clause-reached
split-self-inside-requires-clause-reached g c =
    omega (arith, c.requires.within, c.self.invariant.timed.ends, (seen_of c.self.view_is (kept_of c.self.invariant)).end)

-- the new spans are kept
kept : (g : Over) (c : After-split-self-inside g) → AreKept (g.S.Store.spans c.split-self-inside.new.store) (g.S.Store.room c.split-self-inside.new.store) c.self.inside.times.start c.self.inside.times.end
kept g c =
    let seen = seen_of c.self.view_is (kept_of c.self.invariant) in
    let rows = g.S.Store.spans c.self.inside.chain in
    let room = g.S.Store.room c.self.inside.chain in
    let free : length rows < room = omega (arith, c.requires.free, seen.count, seen.room) in
    rw (c.split-self-inside.ensures.spans, c.split-self-inside.ensures.room) (AreKept-cut c.args.at rows room c.self.inside.times.start c.self.inside.times.end (kept_of c.self.invariant) free)

pub split-self-inside-requires-clause-timed : goal.split-self-inside-requires-clause-timed
split-self-inside-requires-clause-timed g c = c.self.invariant.timed

pub invariant_of-self : goal.invariant_of-self
invariant_of-self g c =
    marked_of (kept g (goal.at.invariant_of-self g c).After-split-self-inside) c.split-self-inside.ensures.marked

pub returns-clause-stays : goal.returns-clause-stays
returns-clause-stays g c =
    let seen = seen_of c.self.view_is (kept_of c.self.invariant) in
    let are = kept g (goal.at.returns-clause-stays g c).After-split-self-inside in
    record {
      table = IsTable-AreKept _ _ _ _ are;
      time = sym are.starts ∙ c.self.invariant.timed.starts ∙ sym seen.start;
      room = c.split-self-inside.ensures.room ∙ sym seen.room;
    }

pub returns-clause-spans : goal.returns-clause-spans
returns-clause-spans g c =
    c.split-self-inside.ensures.spans ∙ ap (λ xs. filled (cut c.args.at xs)) (sym (seen_of c.self.view_is (kept_of c.self.invariant)).rows)

pub returns-clause-others : goal.returns-clause-others
returns-clause-others g c =
    ap (apart_from c.args.at) c.split-self-inside.ensures.spans
    ∙ apart_from-cut c.args.at (g.S.Store.spans c.self.inside.chain) c.self.invariant.timed.filled.filled
    ∙ ap (apart_from c.args.at) (sym (seen_of c.self.view_is (kept_of c.self.invariant)).rows)

pub returns-clause-nothing : goal.returns-clause-nothing
returns-clause-nothing g c =
    λ found.
    c.split-self-inside.ensures.nothing (subst (λ xs. IsSome (span_ending c.args.at xs)) (seen_of c.self.view_is (kept_of c.self.invariant)).rows found)
    ∙ ap (λ (v : Stored). v.spans) c.self.view_is

pub returns-clause-few_steps : goal.returns-clause-few_steps
returns-clause-few_steps g c =
    λ t. subst (λ xs. c.split-self-inside.new.steps ≤ c.args.steps.now + ends_before c.args.at xs + 5) (sym (seen_of c.self.view_is (kept_of c.self.invariant)).rows) c.split-self-inside.ensures.few_steps
