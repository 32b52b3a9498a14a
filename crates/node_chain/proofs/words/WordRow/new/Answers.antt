use Rattle.std.proofs.Common.{◌<◌, ◌-◌, ap, arith, length, replicate, subst, sym, ◌∙◌}
use Rattle.std.proofs.lemmas.List.{length-replicate}
use Rattle.node_chain.specs.Raw.{values, IsFull}
use Rattle.node_chain.proofs.Full.{begun, begun-more, begun-all, length-begun, values-map, IsFull-map}
use Rattle.node_chain.proofs.words.WordRow.new.Goals as goal

pub put-requires-clause-place : goal.put-requires-clause-place
put-requires-clause-place c =
    let place = c.loop-place.place in let left = c.args.count - place in
    let within : place < length (begun place left) = omega (arith, c.loop-place-test.true, length-begun place left) in
    subst (λ l. place < length l) (sym c.loop-place.invariant.1) within

pub loop-place-preserved : goal.loop-place-preserved
loop-place-preserved c =
    let held = c.loop-place.places.held in let place = c.loop-place.place in (
      c.put.ensures.block ∙ c.loop-place.invariant.0,
      c.put.ensures.held ∙ begun-more held place c.args.count c.loop-place-test.true c.loop-place.invariant.1,
    )

pub invariant_of-result : goal.invariant_of-result
invariant_of-result c =
    let made = c.in_ok-origin.ensures in let n = c.args.count in
    let all = begun-all c.loop-place.places.held c.loop-place.place n c.loop-place.auto.place-end c.loop-place-test.false c.loop-place.invariant.1 in
    (c.loop-place.invariant.0, made.permit, made.count, made.alloc, subst (λ l. IsFull l n) (sym all) (IsFull-map (replicate n 0) n (length-replicate n 0)))

pub returns : goal.returns
returns c =
    let n = c.args.count in
    ap values (begun-all c.loop-place.places.held c.loop-place.place n c.loop-place.auto.place-end c.loop-place-test.false c.loop-place.invariant.1)
    ∙ values-map (replicate n 0)
