use Rattle.std.proofs.Common.{◌≡◌, ◌+◌, ◌-◌, ◌*◌, ◌≤◌, ◌<◌, length, get_or, refl, subst, arith}
use Rattle.std.proofs.lemmas.List.{get_or_default}
use Rattle.trace_verify.specs.declared.dues.Stretch.{Stretch}
use Rattle.trace_verify.specs.Dues.{due_before, IsLack}
use Rattle.trace_verify.proofs.DueFacts.{lack-next, work-next, IsLackAfter-from}
use Rattle.trace_verify.proofs.dues.lack_after.Goals as goal

pub loop-k-preserved : goal.loop-k-preserved
loop-k-preserved c =
    let due = c.args.due.now in
    let blocks = c.args.blocks.now in
    let k = c.loop-k.k in
    let from = c.args.from in
    let none : Stretch = record { work = 0; lack = 0 } in
    let b = get_or blocks k none in
    let inside : k < length blocks = omega (arith, c.loop-k-test.true) in
    let read : b ≡ get_or blocks k b = get_or_default blocks k none b inside in
    let low : from + 1 ≤ 64 * k = omega (arith, c.loop-k.auto.k) in
    record {
      work = work-next due blocks from k c.loop-k.work b c.requires.blocks inside c.loop-k.invariant.work read;
      lack = lack-next due blocks from k c.loop-k.work c.loop-k.lack c.more_lack-lack.result (64 * k - from) b c.requires.blocks low inside c.loop-k.invariant.work c.loop-k.invariant.lack read refl c.more_lack-lack.ensures;
    }

pub returns : goal.returns
returns c =
    let due = c.args.due.now in
    let blocks = c.args.blocks.now in
    let from = c.args.from in
    let some : from + 1 < 64 * length blocks = omega (arith, c.if-blocks-first.false) in
    let last : c.loop-k.k ≡ length blocks = omega (arith, c.loop-k-test.false, c.loop-k.auto.k-end, c.if-blocks-first.false) in
    IsLackAfter-from (due_before due) from (64 * length blocks) c.loop-k.lack some c.requires.blocks.rest
    (subst (λ k. IsLack (due_before due) from (from + 1) (64 * k) c.loop-k.lack) last c.loop-k.invariant.lack)
