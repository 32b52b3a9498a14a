use Rattle.std.proofs.Common.{◌<◌, ◌++◌, List, add-one, get_or, length, map, take, drop, set, ap, sym, ◌∙◌, arith}
use Rattle.slot_core.specs.declared.jobs.SoftJob.{SoftJob}
use Rattle.trace_verify.specs.SoftSlots.{one_less}
use Rattle.slot_facts.proofs.Lists.Changed.{get_or-changed, set-changed}
use Rattle.trace_verify.proofs.SoftEdits.{map-all}
use Rattle.trace_verify.proofs.soft.run_slot.Goals as goal

pub loop-i-preserved : goal.loop-i-preserved
loop-i-preserved c =
    let xs = c.args.soft.now.items in
    let i = c.loop-i.i in
    let f = one_less c.args.key in
    let d = c.index.result.now in
    let inside : i < length xs = omega (arith, c.loop-i-test.true, c.len-i-end.ensures) in
    let read = c.index.ensures ∙ ap (λ (ys : List SoftJob). get_or ys i d) c.loop-i.invariant ∙ get_or-changed f xs i d in
    ap (λ (ys : List SoftJob). set ys i c.one_less.result) c.loop-i.invariant
    ∙ ap (set (map f (take i xs) ++ drop i xs) i) (c.one_less.ensures ∙ ap f read)
    ∙ set-changed f xs i d inside
    ∙ ap (λ n. map f (take n xs) ++ drop n xs) (sym (add-one i))

pub returns : goal.returns
returns c =
    c.loop-i.invariant ∙ map-all (one_less c.args.key) c.args.soft.now.items c.loop-i.i (omega (arith, c.loop-i-test.false, c.len-i-end.ensures))
