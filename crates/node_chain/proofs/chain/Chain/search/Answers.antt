use Rattle.std.proofs.Common.{◌≡◌, ◌+◌, ◌-◌, ◌≤◌, List, length, slice_get, Some, ap, arith, sym, ◌∙◌}
use Rattle.std.proofs.lemmas.List.{length-map}
use Rattle.std.proofs.lemmas.Option.{slice_get_past}
use Rattle.slot_core.specs.declared.jobs.Span.{Span}
use Rattle.node_chain.specs.declared.block.Node.{Node}
use Rattle.node_chain.specs.declared.chain.NodeId.{NodeId}
use Rattle.node_chain.specs.Chains.{Chained}
use Rattle.node_chain.specs.Orders.{ids_of}
use Rattle.node_chain.specs.Searches.{chain_spans, works_of_first}
use Rattle.node_chain.proofs.PassedSpans.{ids-len, ids-long, node-inside, node-span, works_of_first-fits, works_of_first-next, ArePassed-next, IsPassed}
use Rattle.node_chain.proofs.chain.Chain.search.Given.{Over}
use Rattle.node_chain.proofs.chain.Chain.search.Goals as goal
use Rattle.node_chain.proofs.chain.Chain.search.Goals.{After-loop-index, After-node}

module _ (g : Over) (c : After-node g) where
  -- the code reads the next span
  here : slice_get (chain_spans c.args.self.now.pairs) c.loop-index.index ≡ Some c.node.result.span
  here =
      let s = c.self.inside in
      let was = ap (λ (v : Chained). v.pairs) c.self.view_is in
      let are = c.items-ids.ensures ∙ c.self.invariant.1.ids ∙ ap ids_of was in
      node-span s.block s.free s.len c.self.invariant.0 c.args.self.now.pairs c.items-ids.result.now was are c.loop-index.index c.loop-index-test.true
      ∙ ap (λ (n : Node). Some n.span) (sym c.node.ensures)

module _ (g : Over) (c : After-loop-index g) where
  abbrev pairs : List (NodeId × Span)
  pairs = c.args.self.now.pairs

  abbrev ids : List NodeId
  ids = c.items-ids.result.now

  -- there are as many ids as spans, and as the chain says
  long : (length ids ≡ length pairs) × (length ids ≡ c.self.inside.len)
  long =
      let s = c.self.inside in
      let was = ap (λ (v : Chained). v.pairs) c.self.view_is in
      let are = c.items-ids.ensures ∙ c.self.invariant.1.ids ∙ ap ids_of was in
      (ids-long s.block s.free s.len c.self.invariant.0 pairs ids was are, ids-len s.block s.free s.len c.self.invariant.0 pairs ids was are)

  -- all spans are passed
  end : c.loop-index.index ≡ c.self.inside.len
  end =
      let inside = c.loop-index.auto.index-end (omega (arith, c.requires.within, long.0)) in
      omega (arith, c.loop-index-test.false, inside, long.1)

pub node-requires : goal.node-requires
node-requires g c =
    let s = c.self.inside in
    let was = ap (λ (v : Chained). v.pairs) c.self.view_is in
    let are = c.items-ids.ensures ∙ c.self.invariant.1.ids ∙ ap ids_of was in
    node-inside s.block s.free s.len c.self.invariant.0 c.args.self.now.pairs c.items-ids.result.now was are c.loop-index.index c.loop-index-test.true

pub overflow_cast-result : goal.overflow_cast-result
overflow_cast-result g c =
    let s = c.self.inside in
    let was = ap (λ (v : Chained). v.pairs) c.self.view_is in
    let are = c.items-ids.ensures ∙ c.self.invariant.1.ids ∙ ap ids_of was in
    let len = ids-len s.block s.free s.len c.self.invariant.0 c.args.self.now.pairs c.items-ids.result.now was are in
    omega (arith, c.loop-index-test.true, len, c.self.invariant.0.few, c.self.invariant.0.small)

pub returns-then-span-search-clause-span : goal.returns-then-span-search-clause-span
returns-then-span-search-clause-span g c = sym (here g ((goal.at.returns-then-span-search-clause-span g c).After-node))

pub overflow_add-works : goal.overflow_add-works
overflow_add-works g c =
    let pairs = c.args.self.now.pairs in
    let all : length (chain_spans pairs) ≤ length pairs = omega (arith, length-map pairs (λ (p : NodeId × Span). p.1)) in
    let here = here g ((goal.at.overflow_add-works g c).After-node) in
    let fits = works_of_first-fits c.args.search.asked c.loop-index.works c.loop-index.index (length pairs) (chain_spans pairs) c.node.result.span here all c.loop-index.invariant.works c.requires.fits in
    omega (arith, fits)

pub loop-index-preserved : goal.loop-index-preserved
loop-index-preserved g c =
    let spans = chain_spans c.args.self.now.pairs in
    let here = here g ((goal.at.loop-index-preserved g c).After-node) in
    let passes : IsPassed c.args.search c.loop-index.works c.node.result.span = (omega (arith, c.if-span-search.false), omega (arith, c.if-search-span.false)) in
    record {
      from = omega (arith, c.loop-index.invariant.from);
      works = ap (λ n. n + c.node.result.span.work) c.loop-index.invariant.works ∙ sym (works_of_first-next c.loop-index.index spans c.node.result.span here);
      passed = ArePassed-next c.args.search spans c.args.from c.loop-index.index c.loop-index.works c.node.result.span here c.loop-index.invariant.works passes c.loop-index.invariant.passed;
      steps = omega (arith, c.tick.ensures, c.loop-index.invariant.steps, c.loop-index.invariant.from);
    }

pub returns-clause-from : goal.returns-clause-from
returns-clause-from g c = omega (arith, c.requires.within, (long g c).0, (long g c).1)

pub returns-clause-works : goal.returns-clause-works
returns-clause-works g c = c.loop-index.invariant.works ∙ ap (λ n. works_of_first n (chain_spans c.args.self.now.pairs)) (end g c)

pub returns-clause-span : goal.returns-clause-span
returns-clause-span g c =
    let pairs = c.args.self.now.pairs in
    sym (slice_get_past (chain_spans pairs) c.self.inside.len (omega (arith, (long g c).0, (long g c).1, length-map pairs (λ (p : NodeId × Span). p.1))))

pub returns-clause-passed : goal.returns-clause-passed
returns-clause-passed g c i s low below = c.loop-index.invariant.passed i s low (omega (arith, below, end g c))

pub returns-clause-end : goal.returns-clause-end
returns-clause-end g c = omega (arith, (long g c).0, (long g c).1)

pub returns-clause-steps : goal.returns-clause-steps
returns-clause-steps g c = c.loop-index.invariant.steps ∙ ap (λ n. c.args.steps.now + (n - c.args.from)) (end g c)
