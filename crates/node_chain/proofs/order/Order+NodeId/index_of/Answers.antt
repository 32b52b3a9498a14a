use Rattle.std.proofs.Common.{◌≡◌, ◌≢◌, ◌≤◌, ◌<◌, ◌+◌, ℕ, false, true, List, length, get_or, Some, sym, ap, ◌∙◌, arith}
use Rattle.std.specs.Prelude.{slice_get}
use Rattle.std.proofs.Math.Dec.{eqb}
use Rattle.std.proofs.lemmas.Bool.{eq-eqb, eqb-true, false≢true}
use Rattle.std.proofs.lemmas.Option.{slice_get-get_or, slice_get_within, get_or_from_slice_get}
use Rattle.node_chain.specs.declared.chain.NodeId.{NodeId}
use Rattle.node_chain.proofs.order.Order+NodeId.index_of.Goals as goal

-- an id of the same place stands there
found : (xs : List NodeId) (i : ℕ) (id d : NodeId) → i < length xs → true ≡ eqb (get_or xs i d).0 id.0 → slice_get xs i ≡ Some id
found xs i id d within is =
    slice_get-get_or xs i d within ∙ ap (λ (n : ℕ). Some (record id { 0 = n })) (eqb-true (get_or xs i d).0 id.0 (sym is))

-- where another id stands, the id is none of one more
passed : (xs : List NodeId) (i : ℕ) (id d : NodeId) → false ≡ eqb (get_or xs i d).0 id.0 → ((k : ℕ) → slice_get xs k ≡ Some id → i ≤ k) → (k : ℕ) → slice_get xs k ≡ Some id → i + 1 ≤ k
passed xs i id d other before k at =
    let here : k ≡ i → get_or xs i d ≡ id = λ same. get_or_from_slice_get xs i id d (ap (slice_get xs) (sym same) ∙ at) in
    let apart : k ≢ i = λ same. false≢true (other ∙ eq-eqb (get_or xs i d).0 id.0 (ap (λ (n : NodeId). n.0) (here same))) in
    omega (arith, before k at, apart)

-- an id of the list stands before its end
inside : (xs : List NodeId) (i : ℕ) (id : NodeId) → length xs ≤ i → ((k : ℕ) → slice_get xs k ≡ Some id → i ≤ k) → (k : ℕ) → slice_get xs k ≡ Some id → ⊥
inside xs i id end before k at =
    let within = slice_get_within xs k id at in
    omega (arith, end, before k at, within)

pub returns-then-eq : goal.returns-then-eq
returns-then-eq c =
    sym (ap (λ xs. slice_get xs c.loop-index.index) c.items-ids.ensures)
    ∙ found _ c.loop-index.index c.args.id _ c.loop-index-test.true (sym c.if-eq.true ∙ c.eq.ensures)

pub loop-index-preserved : goal.loop-index-preserved
loop-index-preserved c =
    passed _ c.loop-index.index c.args.id _ (sym c.if-eq.false ∙ c.eq.ensures) c.loop-index.invariant

pub unreachable-requires : goal.unreachable-requires
unreachable-requires c =
    inside _ c.loop-index.index c.args.id c.loop-index-test.false c.loop-index.invariant c.requires.0 (ap (λ xs. slice_get xs c.requires.0) c.items-ids.ensures ∙ c.requires.1)
