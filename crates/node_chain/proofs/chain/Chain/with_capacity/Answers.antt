use Rattle.std.proofs.Common.{add-one, ap, arith, length, subst, sym, ◌∙◌}
use Rattle.node_chain.specs.Nodes.{unused}
use Rattle.node_chain.specs.Links.{with_next, IsLinked}
use Rattle.node_chain.proofs.Fresh.{fresh-linked, fresh-length}
use Rattle.node_chain.proofs.chain.Chain.with_capacity.Goals as goal

pub invariant_of-result : goal.invariant_of-result
invariant_of-result c =
    let n = c.args.n in
    let made = c.set_next.ensures ∙ ap (with_next 0 0) c.in_ok-block.ensures ∙ ap (λ k. with_next 0 0 (unused k)) (add-one n) in (
      subst (λ b. IsLinked b 1 0) (sym made) (fresh-linked n c.requires.some c.requires.small),
      record {
        ids = c.in_ok-with_capacity.ensures.empty;
        fits = omega (arith, ap length made, fresh-length n c.requires.some c.requires.small, c.in_ok-with_capacity.ensures.places);
      },
    )

pub returns-clause-capacity : goal.returns-clause-capacity
returns-clause-capacity c =
    let n = c.args.n in
    let made = c.set_next.ensures ∙ ap (with_next 0 0) c.in_ok-block.ensures ∙ ap (λ k. with_next 0 0 (unused k)) (add-one n) in
    omega (arith, ap length made, fresh-length n c.requires.some c.requires.small)
