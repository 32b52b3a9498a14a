use Rattle.std.proofs.Common.{◌≡◌, ◌+◌, ◌-◌, ◌<◌, ◌≤◌, ◌^◌, length, Some, None, slice_get, sym, ◌∙◌, arith}
use Rattle.std.proofs.lemmas.Option.{slice_get_within, MatchOption-at_some}
use Rattle.slot_core.specs.declared.jobs.Span.{Span}
use Rattle.interval_row.proofs.CutTimes.{rises-at, start-at}
use Rattle.interval_row.proofs.Laps.{ends, follows}
use Rattle.interval_row.proofs.ShortTimes.{end-at, order-at, past-all, proper-at, work_until-at, works-small, IsSought, IsSought-all, IsSought-end, IsSought-start}
use Rattle.interval_row.proofs.pages.first_short.Given.{Over}
use Rattle.interval_row.proofs.pages.first_short.Goals as goal
use Rattle.interval_row.proofs.pages.first_short.Goals.{After-search-found}

pub loop-next-init : goal.loop-next-init
loop-next-init g c = (
  record {
    is = c.requires.front;
    at = c.requires.span;
    ends = omega arith;
    room = λ x low high. absurd (omega (arith, low, high));
  },
  omega arith,
  omega arith,
)

pub onward-from-requires-clause-front : goal.onward-from-requires-clause-front
onward-from-requires-clause-front g c = c.loop-next.invariant.0.is

pub onward-from-requires-clause-span : goal.onward-from-requires-clause-span
onward-from-requires-clause-span g c = c.loop-next.invariant.0.at

pub search-found-requires-clause-fits : goal.search-found-requires-clause-fits
search-found-requires-clause-fits g c =
    let rows = g.S.Store.spans c.args.store.now in
    let few : length rows ≤ 2 ^ 20 = c.requires.timed.filled.few in
    omega (arith, few, c.requires.few, works-small c.args.times.start (length rows) rows (follows c.requires.timed))

-- where the search has ended
sought : (g : Over) (c : After-search-found g) → IsSought c.args.times.start c.args.times.end (g.S.Store.spans c.args.store.now) c.args.span c.args.asked c.search-found.result.index c.search-found.result.works
sought g c =
    let rows = g.S.Store.spans c.args.store.now in
    let start = c.args.times.start in
    let follow = follows c.requires.timed in
    let span = c.loop-next.span in
    let at = c.loop-next.invariant.0.at in
    let late : start ≤ span.end = omega (arith, start-at start c.loop-next.front.count rows span follow at, rises-at start c.loop-next.front.count rows span follow at) in
    record {
      follow = follow;
      ends = ends c.requires.timed;
      works = c.search-found.ensures.works;
      low = span.end;
      from = c.onward-from.result.front.count;
      late = c.loop-next.invariant.0.ends;
      until = omega (arith, ends c.requires.timed, end-at start c.loop-next.front.count rows span follow at);
      room = c.loop-next.invariant.0.room;
      searches = record {
        follow = follow;
        late = late;
        few = c.onward-from.ensures.within;
        onward = c.onward-from.ensures.leaves;
        last = λ all. c.onward-from.ensures.last all ∙ ends c.requires.timed;
        passed = λ i s from to here. (c.search-found.ensures.passed i s from to here).0;
      };
    }

-- where nothing stands at its place, that is past all spans
all : (g : Over) (c : After-search-found g) → c.search-found.result.span ≡ None → c.search-found.result.index ≡ length (g.S.Store.spans c.args.store.now)
all g c none = past-all (g.S.Store.spans c.args.store.now) c.search-found.result.index (sym c.search-found.ensures.span ∙ none) c.search-found.ensures.end

pub returns-in_default-clause-from : goal.returns-in_default-clause-from
returns-in_default-clause-from g c =
    let h = sought g (goal.at.returns-in_default-clause-from g c).After-search-found in
    omega (arith, h.late, h.until)

pub returns-in_default-clause-works : goal.returns-in_default-clause-works
returns-in_default-clause-works g c =
    let p = (goal.at.returns-in_default-clause-works g c).After-search-found in
    (IsSought-all (sought g p) (all g p c.in_default.is)).0

pub returns-in_default-clause-leaves : goal.returns-in_default-clause-leaves
returns-in_default-clause-leaves g c =
    let p = (goal.at.returns-in_default-clause-leaves g c).After-search-found in
    (IsSought-all (sought g p) (all g p c.in_default.is)).1

-- the span there
at : (g : Over) (c : After-search-found g) {next : Span} → c.search-found.result.span ≡ Some next → slice_get (g.S.Store.spans c.args.store.now) c.search-found.result.index ≡ Some next
at g c is = sym c.search-found.ensures.span ∙ is

-- it is read, and each one that was passed
steps-some : (g : Over) (c : After-search-found g) {next : Span} → c.search-found.result.span ≡ Some next → c.search-found.new.steps ≡ c.loop-next.steps + (c.search-found.result.index - c.onward-from.result.front.count) + 1
steps-some g c is = MatchOption-at_some _ _ _ is c.search-found.ensures.steps

-- it starts no earlier than the last one ended, and ends no later than the last
record IsNext (g : Over) (c : After-search-found g) (next : Span) : Type 0 where
  late : c.loop-next.span.end ≤ next.start
  rises : next.start ≤ next.end
  ends : next.end ≤ c.args.times.end
  steps : c.search-found.new.steps + c.args.front.count ≤ c.args.steps.now + c.search-found.result.index
  within : c.search-found.result.index < length (g.S.Store.spans c.args.store.now)

is-next : (g : Over) (c : After-search-found g) {next : Span} → c.search-found.result.span ≡ Some next → IsNext g c next
is-next g c {next = next} is =
    let rows = g.S.Store.spans c.args.store.now in
    let start = c.args.times.start in
    let index = c.search-found.result.index in
    let follow = follows c.requires.timed in
    let here = at g c is in
    let now = c.loop-next.invariant in
    let after : c.loop-next.front.count < index = omega (arith, c.onward-from.ensures.later, c.search-found.ensures.from) in
    record {
      late = order-at start c.loop-next.front.count index rows c.loop-next.span next follow now.0.at here after;
      rises = rises-at start index rows next follow here;
      ends = omega (arith, ends c.requires.timed, end-at start index rows next follow here);
      steps = omega (arith, now.2, steps-some g c is, c.onward-from.ensures.later, c.search-found.ensures.from);
      within = slice_get_within rows index next here;
    }

pub overflow_add-asked : goal.overflow_add-asked
overflow_add-asked g c =
    let rows = g.S.Store.spans c.args.store.now in
    let few : length rows ≤ 2 ^ 20 = c.requires.timed.filled.few in
    omega (arith, few, c.requires.few, c.search-found.ensures.works, works-small c.args.times.start c.search-found.result.index rows (follows c.requires.timed))

pub returns-then-next-asked-clause-from : goal.returns-then-next-asked-clause-from
returns-then-next-asked-clause-from g c =
    let p = (goal.at.returns-then-next-asked-clause-from g c).After-search-found in
    omega (arith, (is-next g p c.in-Some.is).late, c.loop-next.invariant.0.ends)

pub returns-then-next-asked-clause-within : goal.returns-then-next-asked-clause-within
returns-then-next-asked-clause-within g c =
    let next = is-next g (goal.at.returns-then-next-asked-clause-within g c).After-search-found c.in-Some.is in
    omega (arith, next.rises, next.ends)

pub returns-then-next-asked-clause-works : goal.returns-then-next-asked-clause-works
returns-then-next-asked-clause-works g c =
    let rows = g.S.Store.spans c.args.store.now in
    let p = (goal.at.returns-then-next-asked-clause-works g c).After-search-found in
    let here = at g p c.in-Some.is in
    let follow = follows c.requires.timed in
    c.search-found.ensures.works
    ∙ sym (work_until-at c.args.times.start c.search-found.result.index c.in-Some.next.start rows c.in-Some.next follow here (omega arith) (proper-at c.search-found.result.index rows c.in-Some.next c.requires.timed.filled.proper here))

pub returns-then-next-asked-clause-leaves : goal.returns-then-next-asked-clause-leaves
returns-then-next-asked-clause-leaves g c =
    let p = (goal.at.returns-then-next-asked-clause-leaves g c).After-search-found in
    IsSought-start c.in-Some.next (sought g p) (at g p c.in-Some.is)

pub returns-then-next-asked-clause-reads_once : goal.returns-then-next-asked-clause-reads_once
returns-then-next-asked-clause-reads_once g c =
    let next = is-next g (goal.at.returns-then-next-asked-clause-reads_once g c).After-search-found c.in-Some.is in
    omega (arith, next.steps, next.within)

pub loop-next-preserved : goal.loop-next-preserved
loop-next-preserved g c =
    let p = (goal.at.loop-next-preserved g c).After-search-found in
    let next = is-next g p c.in-Some.is in (
      record {
        is = record { few = c.search-found.ensures.end; works = c.search-found.ensures.works };
        at = at g p c.in-Some.is;
        ends = omega (arith, next.late, next.rises, c.loop-next.invariant.0.ends);
        room = IsSought-end c.in-Some.next (sought g p) (at g p c.in-Some.is) c.if-next-asked.false;
      },
      omega (arith, c.loop-next.invariant.1, steps-some g p c.in-Some.is),
      next.steps,
    )
