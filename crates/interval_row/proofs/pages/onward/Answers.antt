use Rattle.std.proofs.Common.{◌≡◌, suc, ◌+◌, ◌≤◌, ◌^◌, length, Some, slice_get, sym, subst, ap, ◌∙◌, arith}
use Rattle.std.proofs.lemmas.Option.{slice_get_within}
use Rattle.interval_row.specs.declared.table.Front.{Front}
use Rattle.interval_row.proofs.CutTimes.{rises-at}
use Rattle.interval_row.proofs.Laps.{ends, follows}
use Rattle.interval_row.proofs.ShortTimes.{last-at, next-at, works-next, works-small}
use Rattle.interval_row.proofs.pages.onward.Goals as goal

pub returns-then-passed-front-clause-leaves : goal.returns-then-passed-front-clause-leaves
returns-then-passed-front-clause-leaves g c =
    λ next at x low high.
    c.skip_pages-passed.ensures.leaves next at x low (omega (arith, high, rises-at _ _ _ next (follows c.requires.timed) at))

pub past_span-requires-clause-works : goal.past_span-requires-clause-works
past_span-requires-clause-works g c =
    let rows = g.S.Store.spans c.args.store.now in
    let works = works-next c.args.front.count rows c.args.span c.requires.span in
    let few : length rows ≤ 2 ^ 20 = c.requires.timed.filled.few in
    omega (arith, c.requires.front.works, works, few, works-small c.args.times.start (c.args.front.count + 1) rows (follows c.requires.timed))

pub returns-clause-front : goal.returns-clause-front
returns-clause-front g c =
    let rows = g.S.Store.spans c.args.store.now in
    rw c.past_span.ensures
    (record {
      few = omega (arith, slice_get_within rows c.args.front.count c.args.span c.requires.span);
      works = ap (λ n. n + c.args.span.work) c.requires.front.works ∙ sym (works-next c.args.front.count rows c.args.span c.requires.span);
    })

pub returns-clause-leaves : goal.returns-clause-leaves
returns-clause-leaves g c =
    let rows = g.S.Store.spans c.args.store.now in
    λ next at x low high.
    let after : c.past_span.result.count ≡ suc c.args.front.count = omega (arith, ap (λ (f : Front). f.count) c.past_span.ensures) in
    let here : slice_get rows (suc c.args.front.count) ≡ Some next = subst (λ n. slice_get rows n ≡ Some next) after at in
    absurd (omega (arith, low, high, next-at c.args.times.start c.args.front.count rows c.args.span next (follows c.requires.timed) c.requires.span here))

pub returns-clause-last : goal.returns-clause-last
returns-clause-last g c =
    let rows = g.S.Store.spans c.args.store.now in
    λ all.
    let last : c.args.front.count + 1 ≡ length rows = sym (ap (λ (f : Front). f.count) c.past_span.ensures) ∙ all in
    last-at c.args.times.start c.args.front.count rows c.args.span c.requires.span last ∙ sym (ends c.requires.timed)
