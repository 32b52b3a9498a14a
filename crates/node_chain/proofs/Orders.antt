-- The ids of a chain in order, after a change of its pairs.
use Rattle.std.proofs.Common.{◌≡◌, ℕ, zero, suc, List, [], ◌∷◌, ◌++◌, drop, slice_set, Some, refl, sym, ap}
use Rattle.std.specs.Prelude.{insert}
use Rattle.slot_core.specs.declared.jobs.Span.{Span}
use Rattle.node_chain.specs.declared.chain.NodeId.{NodeId}
use Rattle.node_chain.specs.Chains.{id_at}
use Rattle.node_chain.specs.Orders.{ids_of}

-- a span under the same id moves no id
pub ids_of-set : (ps : List (NodeId × Span)) (i : ℕ) (id : NodeId) (s : Span) → id_at ps i ≡ Some id → ids_of (slice_set ps i (id, s)) ≡ ids_of ps
ids_of-set [] i id s e = refl
ids_of-set (p ∷ ps) zero id s e = let same : p.0 ≡ id = cc in ap (λ n. n ∷ ids_of ps) (sym same)
ids_of-set (p ∷ ps) (suc i) id s e = ap (λ ns. p.0 ∷ ns) (ids_of-set ps i id s e)

-- a pair that is put in puts its id in
pub ids_of-insert : (ps : List (NodeId × Span)) (i : ℕ) (p : NodeId × Span) → ids_of (insert ps i p) ≡ insert (ids_of ps) i p.0
ids_of-insert [] zero p = refl
ids_of-insert [] (suc i) p = refl
ids_of-insert (q ∷ ps) zero p = refl
ids_of-insert (q ∷ ps) (suc i) p = ap (λ ns. q.0 ∷ ns) (ids_of-insert ps i p)

-- so does one that is appended
pub ids_of-push : (ps : List (NodeId × Span)) (p : NodeId × Span) → ids_of (ps ++ p ∷ []) ≡ ids_of ps ++ p.0 ∷ []
ids_of-push [] p = refl
ids_of-push (q ∷ ps) p = ap (λ ns. q.0 ∷ ns) (ids_of-push ps p)

-- the first id goes with the first pair
pub ids_of-drop : (ps : List (NodeId × Span)) → ids_of (drop 1 ps) ≡ drop 1 (ids_of ps)
ids_of-drop [] = refl
ids_of-drop (p ∷ ps) = refl
