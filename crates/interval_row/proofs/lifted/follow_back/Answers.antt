use Rattle.std.proofs.Common.{◌≡◌, ◌+◌, ◌-◌, ◌*◌, ◌%◌, ◌<◌, ◌≤◌, ◌∙◌, ◌≤ℤ◌, ltb, FitsSigned, length, slice_get, ap, refl, sym, subst, arith, rules, w64, to_z, of_z}
use Rattle.std.specs.Prelude.{max}
use Rattle.std.proofs.lemmas.Int.{ints, clamps, to_z-of_z}
use Rattle.std.proofs.lemmas.List.Sums.{count_by-le-length}
use Rattle.slot_core.specs.declared.jobs.Span.{Span}
use Rattle.node_chain.specs.Laps.{Laps}
use Rattle.interval_row.specs.Changes.{ends_before}
use Rattle.interval_row.specs.Lifts.{lifted}
use Rattle.interval_row.specs.Spans.{AreFilled}
use Rattle.interval_row.specs.Walks.{after_walk, others_between, HaveAtMost}
use Rattle.interval_row.proofs.Stores.{Keeps-both}
use Rattle.interval_row.proofs.RunWalks.{come-after, come-before, drop-further, ends_before-runs, take-fewer, HaveAtMost-others}
use Rattle.interval_row.proofs.lifted.follow_back.Goals as goal

pub loop-last-init : goal.loop-last-init
loop-last-init g c =
    let none : c.args.from.index - max 1 c.args.from.index ≡ 0 = omega arith in
    record {
      spans = refl;
      within = omega arith;
      before = λ stays. absurd (stays c.requires.more (omega (arith, c.requires.some)) (omega arith));
      reached = omega (arith, c.requires.some);
      some = λ some late. c.requires.some;
      border = λ early. absurd (omega (arith, early));
      start = λ less. absurd (omega (arith, less));
      high = rw none tt;
      front = refl;
      rest = refl;
      kept = record { room = refl; numbers = refl };
      steps = refl;
    }

pub follow_run-next-requires-clause-lift : goal.follow_run-next-requires-clause-lift
follow_run-next-requires-clause-lift g c =
    ap (λ (l : Laps). slice_get l.lifts (c.args.page % 512)) c.loop-last.invariant.kept.numbers ∙ c.requires.lift

pub follow_run-next-requires-clause-some : goal.follow_run-next-requires-clause-some
follow_run-next-requires-clause-some g c =
    let same = ends_before-runs (c.args.page * 64) (g.S.Shelf.laps c.args.shelf.now).lifts c.loop-last.last.walk c.args.from (g.S.Shelf.spans c.loop-last.shelf) (g.S.Shelf.spans c.args.shelf.now) c.loop-last.invariant.spans in
    omega (arith, same, c.loop-last.invariant.some c.loop-last-test.true c.if-page-last.true)

pub follow_run-next-requires-clause-place : goal.follow_run-next-requires-clause-place
follow_run-next-requires-clause-place g c =
    let same = ends_before-runs ((c.args.page + 1) * 64) (g.S.Shelf.laps c.args.shelf.now).lifts c.loop-last.last.walk c.args.from (g.S.Shelf.spans c.loop-last.shelf) (g.S.Shelf.spans c.args.shelf.now) c.loop-last.invariant.spans in
    omega (arith, same, c.loop-last.invariant.within, c.requires.place)

pub follow_run-next-requires-clause-filled : goal.follow_run-next-requires-clause-filled
follow_run-next-requires-clause-filled g c =
    let rows = g.S.Shelf.spans c.loop-last.shelf in
    subst (λ (l : Laps). AreFilled (after_walk c.loop-last.last.walk (lifted l.lifts rows))) (sym c.loop-last.invariant.kept.numbers) (subst AreFilled (sym c.loop-last.invariant.spans) c.requires.filled)

pub loop-last-smaller : goal.loop-last-smaller
loop-last-smaller g c = omega (arith, c.follow_run-next.ensures.before)

pub loop-last-preserved : goal.loop-last-preserved
loop-last-preserved g c =
    let last = c.follow_run-next.result in
    let was = c.loop-last.last in
    let j = last.walk.index in
    let y = c.args.page * 64 in
    let lifts = (g.S.Shelf.laps c.args.shelf.now).lifts in
    let first = g.S.Shelf.spans c.args.shelf.now in
    let old = g.S.Shelf.spans c.loop-last.shelf in
    let new = g.S.Shelf.spans c.follow_run-next.new.shelf in
    let one : after_walk last.walk (lifted lifts new) ≡ after_walk was.walk (lifted lifts old) =
    subst (λ (l : Laps). after_walk last.walk (lifted l.lifts new) ≡ after_walk was.walk (lifted l.lifts old)) c.loop-last.invariant.kept.numbers c.follow_run-next.ensures.spans in
    let same : after_walk last.walk (lifted lifts new) ≡ after_walk c.args.from (lifted lifts first) = one ∙ c.loop-last.invariant.spans in
    let are : AreFilled (after_walk last.walk (lifted lifts new)) = subst AreFilled (sym same) c.requires.filled in
    let low : ends_before y new ≡ ends_before y first = ends_before-runs y lifts last.walk c.args.from new first same in
    let low_old : ends_before y old ≡ ends_before y first = ends_before-runs y lifts was.walk c.args.from old first c.loop-last.invariant.spans in
    let z = (c.args.page + 1) * 64 in
    let high : ends_before z new ≡ ends_before z first = ends_before-runs z lifts last.walk c.args.from new first same in
    let within : j < length new =
    omega (arith, high, c.follow_run-next.ensures.before, c.loop-last.invariant.within, c.requires.place, count_by-le-length (λ (s : Span). ltb s.end z) new) in
    let top : FitsSigned w64 c.max.result = search rules in
    let was_high : FitsSigned w64 was.high = search rules in
    let last_high : FitsSigned w64 last.high = search rules in
    let bound = to_z-of_z w64 c.max.result top in
    let under : was.high ≤ℤ to_z w64 (of_z w64 c.max.result) = omega (arith, ints, clamps, c.max.ensures.value, bound, to_z-of_z w64 was.high was_high) in
    let over : last.high ≤ℤ to_z w64 (of_z w64 c.max.result) = omega (arith, ints, clamps, c.max.ensures.value, bound, to_z-of_z w64 last.high last_high) in
    let run : HaveAtMost last.high (others_between j was.walk.index (lifted lifts new)) =
    subst (λ (l : Laps). HaveAtMost last.high (others_between j was.walk.index (lifted l.lifts new))) c.loop-last.invariant.kept.numbers c.follow_run-next.ensures.high in
    let less : j ≤ was.walk.index = omega (arith, c.follow_run-next.ensures.before) in
    record {
      spans = same;
      within = omega (arith, less, c.loop-last.invariant.within);
      before = λ stays. omega (arith, c.follow_run-next.ensures.before, c.loop-last.invariant.within);
      reached = omega (arith, low_old, c.follow_run-next.ensures.reached);
      some = λ some late. omega (arith, low, come-after lifts last.walk last.start new are within c.follow_run-next.ensures.start y some late);
      border = λ early. come-before lifts last.walk last.start new are within c.follow_run-next.ensures.start y (omega (arith, low, low_old, c.follow_run-next.ensures.reached)) early ∙ low;
      start = λ less. c.follow_run-next.ensures.start;
      high = HaveAtMost-others lifts was.high last.high (to_z w64 (of_z w64 c.max.result)) j was.walk.index c.args.from.index new old c.follow_run-next.ensures.before c.loop-last.invariant.within under over c.follow_run-next.ensures.rest run c.loop-last.invariant.high;
      front = c.follow_run-next.ensures.front ∙ take-fewer j was.walk.index old first c.loop-last.invariant.front less;
      rest = drop-further was.walk.index c.args.from.index new old c.follow_run-next.ensures.rest c.loop-last.invariant.within ∙ c.loop-last.invariant.rest;
      kept = Keeps-both c.loop-last.invariant.kept c.follow_run-next.ensures.kept;
      steps = omega (arith, c.follow_run-next.ensures.two_steps, c.loop-last.invariant.steps);
    }

pub returns-after-loop-last-clause-spans : goal.returns-after-loop-last-clause-spans
returns-after-loop-last-clause-spans g c = c.loop-last.invariant.spans

pub returns-after-loop-last-clause-reached : goal.returns-after-loop-last-clause-reached
returns-after-loop-last-clause-reached g c = c.loop-last.invariant.reached

pub returns-after-loop-last-clause-front : goal.returns-after-loop-last-clause-front
returns-after-loop-last-clause-front g c = c.loop-last.invariant.front

pub returns-after-loop-last-clause-rest : goal.returns-after-loop-last-clause-rest
returns-after-loop-last-clause-rest g c = c.loop-last.invariant.rest

pub returns-after-loop-last-clause-high : goal.returns-after-loop-last-clause-high
returns-after-loop-last-clause-high g c = c.loop-last.invariant.high

pub returns-after-loop-last-clause-two_steps : goal.returns-after-loop-last-clause-two_steps
returns-after-loop-last-clause-two_steps g c = c.loop-last.invariant.steps

pub returns-else-last-ne0-clause-spans : goal.returns-else-last-ne0-clause-spans
returns-else-last-ne0-clause-spans g c = c.loop-last.invariant.spans

pub returns-else-last-ne0-clause-reached : goal.returns-else-last-ne0-clause-reached
returns-else-last-ne0-clause-reached g c = c.loop-last.invariant.reached

pub returns-else-last-ne0-clause-front : goal.returns-else-last-ne0-clause-front
returns-else-last-ne0-clause-front g c = c.loop-last.invariant.front

pub returns-else-last-ne0-clause-rest : goal.returns-else-last-ne0-clause-rest
returns-else-last-ne0-clause-rest g c = c.loop-last.invariant.rest

pub returns-else-last-ne0-clause-high : goal.returns-else-last-ne0-clause-high
returns-else-last-ne0-clause-high g c = c.loop-last.invariant.high

pub returns-else-last-ne0-clause-two_steps : goal.returns-else-last-ne0-clause-two_steps
returns-else-last-ne0-clause-two_steps g c = c.loop-last.invariant.steps

pub returns-else-page-last-clause-spans : goal.returns-else-page-last-clause-spans
returns-else-page-last-clause-spans g c = c.loop-last.invariant.spans

pub returns-else-page-last-clause-reached : goal.returns-else-page-last-clause-reached
returns-else-page-last-clause-reached g c = c.loop-last.invariant.reached

pub returns-else-page-last-clause-front : goal.returns-else-page-last-clause-front
returns-else-page-last-clause-front g c = c.loop-last.invariant.front

pub returns-else-page-last-clause-rest : goal.returns-else-page-last-clause-rest
returns-else-page-last-clause-rest g c = c.loop-last.invariant.rest

pub returns-else-page-last-clause-high : goal.returns-else-page-last-clause-high
returns-else-page-last-clause-high g c = c.loop-last.invariant.high

pub returns-else-page-last-clause-two_steps : goal.returns-else-page-last-clause-two_steps
returns-else-page-last-clause-two_steps g c = c.loop-last.invariant.steps

pub follow_run-next-requires-clause-near : goal.follow_run-next-requires-clause-near
follow_run-next-requires-clause-near g c = c.requires.near

pub returns-after-loop-last-clause-kept : goal.returns-after-loop-last-clause-kept
returns-after-loop-last-clause-kept g c = c.loop-last.invariant.kept

pub returns-else-last-ne0-clause-kept : goal.returns-else-last-ne0-clause-kept
returns-else-last-ne0-clause-kept g c = c.loop-last.invariant.kept

pub returns-else-page-last-clause-kept : goal.returns-else-page-last-clause-kept
returns-else-page-last-clause-kept g c = c.loop-last.invariant.kept
