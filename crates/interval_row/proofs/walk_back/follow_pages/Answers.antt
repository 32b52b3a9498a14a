use Rattle.std.proofs.Common.{◌≡◌, ◌*◌, ◌≤◌, ◌∙◌, pos, FitsSigned, ap, subst, sym, arith, rules, w64, to_z}
use Rattle.std.proofs.lemmas.Int.{to_z-of_z}
use Rattle.spare_capacity.specs.Recurrence.{first_start}
use Rattle.interval_row.specs.Spans.{AreFilled}
use Rattle.interval_row.specs.Walks.{after_walk}
use Rattle.interval_row.proofs.Stores.{Keeps-both}
use Rattle.interval_row.proofs.PageWalks.{none-before, walked-done}
use Rattle.interval_row.proofs.RunWalks.{take-fewer}
use Rattle.interval_row.proofs.walk_back.follow_pages.Goals as goal

pub returns-else-last-ne0-clause-spans : goal.returns-else-last-ne0-clause-spans
returns-else-last-ne0-clause-spans g c =
    let walk = c.loop-last.last.walk in
    let fits : FitsSigned w64 walk.more = search rules in
    let none : walk.more ≡ pos 0 = sym (to_z-of_z w64 walk.more fits) ∙ ap (to_z w64) c.if-last-ne0.false in
    sym (walked-done walk (g.S.Store.spans c.loop-last.store) (λ other. absurd (other none))) ∙ c.loop-last.invariant.spans

pub returns-after-loop-last-clause-spans : goal.returns-after-loop-last-clause-spans
returns-after-loop-last-clause-spans g c =
    let last = c.loop-last.last in
    let rows = g.S.Store.spans c.loop-last.store in
    let are : AreFilled (after_walk last.walk rows) = subst AreFilled (sym c.loop-last.invariant.spans) c.requires.pages.filled in
    let early : last.page * 64 ≤ first_start (after_walk last.walk rows) = omega (arith, c.requires.first, c.loop-last-test.false, ap first_start c.loop-last.invariant.spans) in
    let none = none-before (last.page * 64) last.walk rows are early in
    sym (walked-done last.walk rows (λ other. c.loop-last.invariant.place other ∙ none)) ∙ c.loop-last.invariant.spans

pub loop-last-preserved : goal.loop-last-preserved
loop-last-preserved g c =
    let next = c.follow_some-last.ensures in
    record {
      spans = next.spans ∙ c.loop-last.invariant.spans;
      place = next.place;
      front =
          next.front
          ∙ take-fewer c.follow_some-last.result.walk.index c.loop-last.last.walk.index (g.S.Store.spans c.loop-last.store) (g.S.Store.spans c.args.store.now) c.loop-last.invariant.front next.passed;
      passed = omega (arith, next.passed, c.loop-last.invariant.passed);
      first = next.first;
      before = omega (arith, next.before, c.loop-last.invariant.before);
      kept = Keeps-both c.loop-last.invariant.kept next.kept;
      low = omega (arith, next.steps, c.loop-last.invariant.low);
      high = omega (arith, next.few_steps, c.loop-last.invariant.high);
    }
