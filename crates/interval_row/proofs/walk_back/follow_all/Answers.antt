use Rattle.std.proofs.Common.{◌≡◌, ◌/◌, ◌∙◌, pos, FitsSigned, ap, subst, sym, arith, rules, w64, to_z}
use Rattle.std.proofs.lemmas.Int.{to_z-of_z}
use Rattle.slot_core.specs.declared.jobs.Span.{Span}
use Rattle.interval_row.specs.Spans.{AreFilled}
use Rattle.interval_row.proofs.Stores.{Keeps-both}
use Rattle.interval_row.proofs.PageWalks.{walked-done}
use Rattle.interval_row.proofs.RunWalks.{take-fewer}
use Rattle.interval_row.proofs.WalkPages.{length-walks, EndsInPage, EndsInPage-start, IfSome-at}
use Rattle.interval_row.proofs.walk_back.follow_all.Given.{Over}
use Rattle.interval_row.proofs.walk_back.follow_all.Goals as goal
use Rattle.interval_row.proofs.walk_back.follow_all.Goals.{Then-walk-ne0}

-- the next span ends where the one after it starts
next : (g : Over) (c : Then-walk-ne0 g) → EndsInPage c.loop-walk.walk (c.loop-walk.end / 64) (g.S.Store.spans c.loop-walk.store)
next g c =
    let walk = c.loop-walk.walk in
    let rows = g.S.Store.spans c.loop-walk.store in
    let are = subst AreFilled (sym c.loop-walk.invariant.spans) c.requires.filled in
    let starts = IfSome-at rows walk.index (λ (s : Span). s.start ≡ c.loop-walk.end) c.loop-walk.invariant.within c.loop-walk.invariant.start in
    EndsInPage-start walk (c.loop-walk.end / 64) rows are c.loop-walk-test.true c.loop-walk.invariant.within (ap (λ n. n / 64) starts)

pub follow_spans-followed-requires-clause-some : goal.follow_spans-followed-requires-clause-some
follow_spans-followed-requires-clause-some g c = (next g ((goal.at.follow_spans-followed-requires-clause-some g c).Then-walk-ne0)).some

pub follow_spans-followed-requires-clause-place : goal.follow_spans-followed-requires-clause-place
follow_spans-followed-requires-clause-place g c = (next g ((goal.at.follow_spans-followed-requires-clause-place g c).Then-walk-ne0)).place

pub loop-walk-preserved : goal.loop-walk-preserved
loop-walk-preserved g c =
    let same = length-walks c.follow_spans-followed.result.walk c.loop-walk.walk (g.S.Store.spans c.follow_spans-followed.new.self) (g.S.Store.spans c.loop-walk.store) c.follow_spans-followed.ensures.spans in
    record {
      spans = c.follow_spans-followed.ensures.spans ∙ c.loop-walk.invariant.spans;
      within = omega (arith, same, c.follow_spans-followed.ensures.before, c.loop-walk.invariant.within);
      front =
          c.follow_spans-followed.ensures.front
          ∙ take-fewer c.follow_spans-followed.result.walk.index c.loop-walk.walk.index (g.S.Store.spans c.loop-walk.store) (g.S.Store.spans c.args.store.now) c.loop-walk.invariant.front (omega (arith, c.follow_spans-followed.ensures.before));
      before = omega (arith, c.follow_spans-followed.ensures.before, c.loop-walk.invariant.before);
      start = c.follow_spans-followed.ensures.start;
      kept = Keeps-both c.loop-walk.invariant.kept c.follow_spans-followed.ensures.kept;
      low = omega (arith, c.follow_spans-followed.ensures.two_steps, c.follow_spans-followed.ensures.before, c.loop-walk.invariant.low);
      high = omega (arith, c.follow_spans-followed.ensures.two_steps, c.loop-walk.invariant.high);
    }

pub returns-else-walk-ne0-clause-spans : goal.returns-else-walk-ne0-clause-spans
returns-else-walk-ne0-clause-spans g c =
    let walk = c.loop-walk.walk in
    let fits : FitsSigned w64 walk.more = search rules in
    let none : walk.more ≡ pos 0 = sym (to_z-of_z w64 walk.more fits) ∙ ap (to_z w64) c.if-walk-ne0.false in
    sym (walked-done walk (g.S.Store.spans c.loop-walk.store) (λ other. absurd (other none))) ∙ c.loop-walk.invariant.spans
