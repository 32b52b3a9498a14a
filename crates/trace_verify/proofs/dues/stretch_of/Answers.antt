use Rattle.std.proofs.Common.{◌≡◌, ◌+◌, ◌<◌, length, arith}
use Rattle.std.specs.Prelude.{slice_index_or}
use Rattle.std.proofs.lemmas.List.Sums.{sum_by_more}
use Rattle.trace_verify.specs.Dues.{due_before}
use Rattle.trace_verify.proofs.DueFacts.{IsLack-step}
use Rattle.trace_verify.proofs.dues.stretch_of.Goals as goal

pub loop-i-preserved : goal.loop-i-preserved
loop-i-preserved c =
    let due = c.args.due.now in
    let i = c.loop-i.i in
    let inside : i < length due = omega (arith, c.loop-i-test.true, c.requires.within) in
    let next : due_before due (i + 1) ≡ due_before due i + slice_index_or due i 0 = sum_by_more (λ n. n) due i 0 inside in
    let work : due_before due (i + 1) ≡ due_before due c.args.start + (c.loop-i.work + slice_index_or due i 0) = omega (arith, next, c.loop-i.invariant.work) in
    record {
      work = work;
      lack = IsLack-step (due_before due) c.args.start c.args.start i (c.loop-i.work + slice_index_or due i 0) c.loop-i.lack c.more_lack-lack.result (omega (arith, c.loop-i.auto.i, c.requires.rising)) c.loop-i.invariant.lack work c.more_lack-lack.ensures;
    }
