use Rattle.std.proofs.Common.{◌+◌, ◌≤◌, length, ap, arith, sym, ◌∙◌}
use Rattle.std.proofs.lemmas.Option.{slice_get_past}
use Rattle.node_chain.proofs.PassedSpans.{works_of_first-fits, works_of_first-next, ArePassed-next, IsPassed}
use Rattle.interval_row.proofs.rows.RowsShelf.search.Goals as goal

pub overflow_add-works : goal.overflow_add-works
overflow_add-works g c =
    let spans = c.args.self.now.spans in
    let all : length spans ≤ length spans = omega arith in
    let fits = works_of_first-fits c.args.search.asked c.loop-index.works c.loop-index.index (length spans) spans c.at-span.result c.at-span.ensures.span all c.loop-index.invariant.works c.requires.fits in
    omega (arith, fits)

pub loop-index-preserved : goal.loop-index-preserved
loop-index-preserved g c =
    let spans = c.args.self.now.spans in
    let passes : IsPassed c.args.search c.loop-index.works c.at-span.result = (omega (arith, c.if-span-search.false), omega (arith, c.if-search-span.false)) in
    record {
      from = omega (arith, c.loop-index.invariant.from);
      works = ap (λ n. n + c.at-span.result.work) c.loop-index.invariant.works ∙ sym (works_of_first-next c.loop-index.index spans c.at-span.result c.at-span.ensures.span);
      passed = ArePassed-next c.args.search spans c.args.from c.loop-index.index c.loop-index.works c.at-span.result c.at-span.ensures.span c.loop-index.invariant.works passes c.loop-index.invariant.passed;
      steps = omega (arith, c.at-span.ensures.one_step, c.loop-index.invariant.steps, c.loop-index.invariant.from);
    }

pub returns-clause-span : goal.returns-clause-span
returns-clause-span g c = sym (slice_get_past c.args.self.now.spans c.len.result (omega (arith, c.len.ensures)))
