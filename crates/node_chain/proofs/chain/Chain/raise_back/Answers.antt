use Rattle.std.proofs.Common.{ℕ, ◌≡◌, ◌-◌, suc, ap, arith, length, List, map, get_or, refl, rules, slice_get, subst, sym, Option, Some, IfSome, false, ◌∙◌, w64, to_z, of_z, FitsSigned, ℤ, ◌≤ℤ◌}
use Rattle.std.proofs.lemmas.Int.{to_z-of_z}
use Rattle.std.specs.Int.{int_max}
use Rattle.slot_core.specs.declared.jobs.Span.{Span}
use Rattle.node_chain.specs.declared.block.Node.{Node}
use Rattle.node_chain.specs.declared.chain.Chain.TheInside.{Inside}
use Rattle.node_chain.specs.declared.chain.NodeId.{NodeId}
use Rattle.node_chain.specs.Chains.{Chained, pairs_of}
use Rattle.node_chain.specs.Links.{order, span_of, IsLinked}
use Rattle.node_chain.specs.Nodes.{blank}
use Rattle.node_chain.specs.Orders.{ids_of, KeepsOrder}
use Rattle.node_chain.specs.Raises.{lifted_by, map_between, pair_lifted_by, passes_on, spare_after, spare_under}
use Rattle.node_chain.proofs.Kept.{Changed}
use Rattle.node_chain.proofs.WalksBack.{between-kept, between-none, AreUpTo, AreUpTo-next, PassOn-next, next-Changed, next-inside, next-own, next-span}
use Rattle.node_chain.proofs.chain.Chain.raise_back.Given.{Over}
use Rattle.node_chain.proofs.chain.Chain.raise_back.Goals as goal
use Rattle.node_chain.proofs.chain.Chain.raise_back.Goals.{After-set_spare, After-spare, then-index-gt0, else-index-gt0, then-index-eq0-via-then-index-eq0, then-index-eq0-via-else-index-eq0+then-not-passes_on}

pub loop-index-init : goal.loop-index-init
loop-index-init g c =
    let was = ap (λ (v : Chained). v.pairs) c.self.view_is in
    record {
      some = c.requires.some;
      chain = record {
        linked = c.self.invariant.0;
        pairs = was ∙ sym (between-none (pair_lifted_by c.args.raise.more) c.args.from c.args.self.now.pairs);
        size = refl;
      };
      passed = λ i s low below e. absurd (omega (arith, low, below));
      high = λ i s low below e. absurd (omega (arith, low, below));
      steps = refl;
    }

pub node-requires : goal.node-requires
node-requires g c =
    let was = ap (λ (v : Chained). v.pairs) c.self.view_is in
    let next : c.loop-index.index ≡ suc (c.loop-index.index - 1) = omega (arith, c.loop-index-test.true) in
    next-inside c.self.inside.block c.loop-index.self-inside.1.0 c.self.inside.free c.self.inside.len c.args.raise.more (c.loop-index.index - 1) c.loop-index.index c.args.from
    c.args.self.now.pairs c.items-ids.result.now next c.loop-index.auto.index c.requires.within (c.items-ids.ensures ∙ c.self.invariant.1.ids ∙ ap ids_of was) c.loop-index.invariant.chain

pub set_spare-requires : goal.set_spare-requires
set_spare-requires g c =
    let was = ap (λ (v : Chained). v.pairs) c.self.view_is in
    let next : c.loop-index.index ≡ suc (c.loop-index.index - 1) = omega (arith, c.loop-index-test.true) in
    next-inside c.self.inside.block c.loop-index.self-inside.1.0 c.self.inside.free c.self.inside.len c.args.raise.more (c.loop-index.index - 1) c.loop-index.index c.args.from
    c.args.self.now.pairs c.items-ids.result.now next c.loop-index.auto.index c.requires.within (c.items-ids.ensures ∙ c.self.invariant.1.ids ∙ ap ids_of was) c.loop-index.invariant.chain

module _ (g : Over) (c : After-set_spare g) where
  abbrev k : ℕ
  k = c.loop-index.index - 1

  abbrev nodes : List Node
  nodes = c.loop-index.self-inside.1.0

  abbrev pairs : List (NodeId × Span)
  pairs = c.args.self.now.pairs

  abbrev spans : List Span
  spans = map (λ (p : NodeId × Span). p.1) pairs

  abbrev id : NodeId
  id = get_or c.items-ids.result.now k (record { 0 = 0 })

  abbrev own : Span
  own = (get_or pairs k (record { 0 = 0 }, blank)).1

  next : c.loop-index.index ≡ suc k
  next = omega (arith, c.loop-index-test.true)

  are : c.items-ids.result.now ≡ ids_of pairs
  are = let was = ap (λ (v : Chained). v.pairs) c.self.view_is in c.items-ids.ensures ∙ c.self.invariant.1.ids ∙ ap ids_of was

  lies : span_of nodes id.0 ≡ own
  lies =
      next-span c.self.inside.block nodes c.self.inside.free c.self.inside.len c.args.raise.more k c.loop-index.index c.args.from pairs c.items-ids.result.now next c.loop-index.auto.index c.requires.within are c.loop-index.invariant.chain

  -- the code reads the next span
  read : c.node.result.span ≡ own
  read = ap (λ (n : Node). n.span) c.node.ensures ∙ lies

  here : slice_get spans k ≡ Some c.node.result.span
  here =
      next-own c.self.inside.block nodes c.self.inside.free c.self.inside.len c.args.raise.more k c.loop-index.index c.args.from pairs c.items-ids.result.now next c.loop-index.auto.index c.requires.within are c.loop-index.invariant.chain
      ∙ ap (λ (s : Span). Some s) (sym read)

  -- its node is raised
  done : Changed c.self.inside.block c.set_spare.new.self c.self.inside.free c.self.inside.len (map_between (pair_lifted_by c.args.raise.more) k c.args.from pairs)
  done =
      let whole : FitsSigned w64 c.raised.result.spare = search rules in
      let s : Span = record (span_of nodes id.0) { spare = to_z w64 (of_z w64 c.raised.result.spare) } in
      let spare = to_z-of_z w64 c.raised.result.spare whole ∙ ap (λ (t : Span). t.spare) (c.raised.ensures ∙ ap (lifted_by c.args.raise.more) read) in
      let is : s ≡ lifted_by c.args.raise.more own = λ i. record (lies i) { spare = spare i } in
      subst (λ ns. Changed c.self.inside.block ns c.self.inside.free c.self.inside.len (map_between (pair_lifted_by c.args.raise.more) k c.args.from pairs)) (sym c.set_spare.ensures)
      (next-Changed c.self.inside.block nodes c.self.inside.free c.self.inside.len c.args.raise.more k c.loop-index.index c.args.from pairs c.items-ids.result.now next c.loop-index.auto.index c.requires.within are c.loop-index.invariant.chain s is)

  -- no span from it on has more capacity than the bound, where the code counts its own
  high : (spare max now : ℤ) → FitsSigned w64 spare → FitsSigned w64 max → spare ≡ spare_after c.args.raise c.node.result.span
      → max ≡ int_max (to_z w64 c.loop-index.high-bits) (to_z w64 (of_z w64 spare)) → now ≡ to_z w64 (of_z w64 max) → AreUpTo c.args.raise spans now k c.args.from
  high spare max now fits whole given greater is =
      let counted = is ∙ to_z-of_z w64 max whole ∙ greater ∙ ap (int_max (to_z w64 c.loop-index.high-bits)) (to_z-of_z w64 spare fits ∙ given) in
      AreUpTo-next c.args.raise spans (to_z w64 c.loop-index.high-bits) now k c.args.from c.node.result.span here counted
      (λ i s low. c.loop-index.invariant.high i s (omega (arith, low)))

is : (g : Over) (c : After-spare g) → c.then-index-eq0.self-inside ≡ record c.self.inside { block = c.set_spare.new.self }
is g c = elim c.then-index-eq0.branch [
  | then-index-eq0-via-then-index-eq0 w ↦ w.self-inside-is
  | then-index-eq0-via-else-index-eq0+then-not-passes_on w ↦ w.self-inside-is
]

pub invariant_of-self : goal.invariant_of-self
invariant_of-self g c =
    let b = (goal.at.invariant_of-self g c).After-set_spare in
    let done = done g b in
    let was = ap (λ (v : Chained). v.pairs) c.self.view_is in
    let f = pair_lifted_by c.args.raise.more in
    let kept = ap ids_of done.pairs ∙ between-kept f (λ (p : NodeId × Span). p.0) (λ p. refl) (k g b) c.args.from c.args.self.now.pairs (omega (arith, c.loop-index.auto.index)) in
    subst
    (λ (x : Inside). IsLinked x.block x.free x.len × KeepsOrder (pairs_of x.block (order x.block x.len)) (length x.block - 1) x.ids)
    (sym (is g c)) (
      done.linked,
      record {
        ids = c.self.invariant.1.ids ∙ ap ids_of was ∙ sym kept;
        fits = omega (arith, c.self.invariant.1.fits, done.size);
      },
    )

pub returns-then-index-eq0-clause-pairs : goal.returns-then-index-eq0-clause-pairs
returns-then-index-eq0-clause-pairs g c =
    ap (λ (x : Inside). pairs_of x.block (order x.block x.len)) (is g c)
    ∙ (done g ((goal.at.returns-then-index-eq0-clause-pairs g c).After-set_spare)).pairs

pub returns-then-index-eq0-clause-first : goal.returns-then-index-eq0-clause-first
returns-then-index-eq0-clause-first g c =
    let whole : FitsSigned w64 c.spare.result = search rules in
    subst
    (λ (o : Option Span). IfSome o (λ s. (c.node.result.span.start ≡ s.start) × (to_z w64 (of_z w64 c.spare.result) ≡ spare_under c.args.raise.add s)))
    (sym (here g ((goal.at.returns-then-index-eq0-clause-first g c).After-set_spare)))
    (refl, to_z-of_z w64 c.spare.result whole ∙ c.spare.ensures)

pub returns-then-index-eq0-clause-passed : goal.returns-then-index-eq0-clause-passed
returns-then-index-eq0-clause-passed g c i s low below e =
    c.loop-index.invariant.passed i s (omega (arith, low, c.loop-index-test.true)) below e

pub returns-then-index-eq0-clause-ended : goal.returns-then-index-eq0-clause-ended
returns-then-index-eq0-clause-ended g c some = elim c.then-index-eq0.branch [
  | then-index-eq0-via-then-index-eq0 w ↦ absurd (omega (arith, some, w.if-index-eq0.true))
  | then-index-eq0-via-else-index-eq0+then-not-passes_on w ↦
      subst
      (λ (o : Option Span). IfSome o (λ s. passes_on c.args.raise s ≡ false))
      (sym (here g ((goal.at.returns-then-index-eq0-clause-ended g c).After-set_spare)))
      (sym w.passes_on.ensures ∙ w.if-not-passes_on.true)
]

pub returns-then-index-eq0-clause-high : goal.returns-then-index-eq0-clause-high
returns-then-index-eq0-clause-high g c i s some low below e =
    let b = (goal.at.returns-then-index-eq0-clause-high g c).After-set_spare in
    elim c.if-index-gt0.branch [
      | then-index-gt0 w ↦
          high g b w.spare_after.result w.max-high.result (to_z w64 c.if-index-gt0.high-bits) (search rules) (search rules) w.spare_after.ensures w.max-high.ensures.value w.high-is i s low below e
      | else-index-gt0 w ↦
          subst (λ (x : ℤ). spare_after c.args.raise s ≤ℤ x) (sym w.high-is)
          (c.loop-index.invariant.high i s (omega (arith, some, w.if-index-gt0.false, c.loop-index-test.true)) below e)
    ]

pub returns-then-index-eq0-clause-capacity : goal.returns-then-index-eq0-clause-capacity
returns-then-index-eq0-clause-capacity g c =
    let done = done g ((goal.at.returns-then-index-eq0-clause-capacity g c).After-set_spare) in
    ap (λ (x : Inside). length x.block - 1) (is g c) ∙ ap (λ n. n - 1) done.size ∙ ap (λ (v : Chained). v.capacity) c.self.view_is

pub returns-then-index-eq0-clause-two_steps : goal.returns-then-index-eq0-clause-two_steps
returns-then-index-eq0-clause-two_steps g c =
    omega (arith, c.tick.ensures, c.tick-in-loop-index.ensures, c.loop-index.invariant.steps, c.loop-index-test.true, c.loop-index.auto.index)

pub loop-index-preserved : goal.loop-index-preserved
loop-index-preserved g c =
    let b = (goal.at.loop-index-preserved g c).After-set_spare in
    record {
      some = omega (arith, c.if-index-eq0.false);
      chain = done g b;
      passed = PassOn-next c.args.raise (spans g b) (k g b) c.args.from c.node.result.span (here g b) (sym c.passes_on.ensures ∙ c.if-not-passes_on.false) (λ i s low. c.loop-index.invariant.passed i s (omega (arith, low)));
      high = elim c.if-index-gt0.branch [
        | then-index-gt0 w ↦
            high g b w.spare_after.result w.max-high.result (to_z w64 c.if-index-gt0.high-bits) (search rules) (search rules) w.spare_after.ensures w.max-high.ensures.value w.high-is
        | else-index-gt0 w ↦ absurd (c.if-index-eq0.false (omega (arith, w.if-index-gt0.false)))
      ];
      steps = omega (arith, c.tick.ensures, c.tick-in-loop-index.ensures, c.loop-index.invariant.steps, c.loop-index-test.true);
    }

pub unreachable-requires : goal.unreachable-requires
unreachable-requires g c = omega (arith, c.loop-index.invariant.some, c.loop-index-test.false)
