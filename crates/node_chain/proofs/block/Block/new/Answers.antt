use Rattle.std.proofs.Common.{◌≡◌, ◌+◌, ap, arith, slice_set, subst, sym, ◌∙◌}
use Rattle.node_chain.proofs.NodeWords.{AreFresh, AreFresh-zeros, AreFresh-more, AreFresh-unused}
use Rattle.node_chain.proofs.block.Block.new.Goals as goal

pub loop-place-init : goal.loop-place-init
loop-place-init c =
    subst (λ l. AreFresh l c.args.count 0) (sym c.in_ok-words.ensures) (AreFresh-zeros c.args.count)

pub put-requires : goal.put-requires
put-requires c = omega (arith, c.loop-place-test.true, c.loop-place.invariant.all)

pub loop-place-preserved : goal.loop-place-preserved
loop-place-preserved c =
    let words = c.loop-place.words in let place = c.loop-place.place in let count = c.args.count in
    let put = c.put.ensures ∙ ap (slice_set words place) c.links_word.ensures in
    subst (λ l. AreFresh l count (place + 1)) (sym put)
    (AreFresh-more words count place c.loop-place-test.true c.loop-place.invariant)

pub invariant_of-result : goal.invariant_of-result
invariant_of-result c = (c.loop-place.invariant.all, c.requires)

pub returns : goal.returns
returns c =
    let words = c.loop-place.words in let place = c.loop-place.place in let count = c.args.count in
    let all : place ≡ count = omega (arith, c.loop-place.auto.place-end, c.loop-place-test.false) in
    AreFresh-unused words count c.requires (subst (λ n. AreFresh words count n) all c.loop-place.invariant)
