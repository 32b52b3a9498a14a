-- Comparing stored things with computed ones, as a loop does.
use Rattle.std.proofs.Common.{◌≡◌, ◌≢◌, ℕ, ◌+◌, ◌<◌, Bool, List, ◌∷◌, length, get_or, drop, Err, refl, sym, ap, ◌∙◌}
use Rattle.std.specs.Prelude.{⊤}
use Rattle.std.proofs.lemmas.List.{at_drop_more}
use Rattle.std.proofs.lemmas.Option.{get_or_from_slice_get}
use Rattle.slot_facts.proofs.Sets.Tasks.{slice_get-within}
use Rattle.faults.specs.declared.table_fault.TableFault.{TableFault}
use Rattle.faults.specs.declared.table_fault.TableFault.TheVariants.{Memory}
use Rattle.table_codec.specs.Readers.{Unread, Read, Reader, same_at}

-- the things from place i on: the first, and the others
one_more : {X : Type 0} (read : Reader X) (is_same : X → X → Bool) (wrong : ℕ → X → X → TableFault) (xs : List X) (i : ℕ) (x : X) (input : Unread) → i < length xs → x ≡ get_or xs i x → same_at read is_same wrong i (drop i xs) input ≡ same_at read is_same wrong i (x ∷ drop (i + 1) xs) input
one_more read is_same wrong xs i x input within is =
    at_drop_more (λ ys. same_at read is_same wrong i ys input) xs i x within ∙ ap (λ y. same_at read is_same wrong i (y ∷ drop (i + 1) xs) input) (sym is)

-- one that is not there
pub ends : {X : Type 0} (read : Reader X) (is_same : X → X → Bool) (wrong : ℕ → X → X → TableFault) (xs : List X) (i : ℕ) (fault : TableFault) (input : Unread) (total : Read ⊤) → i < length xs → (fault ≢ Memory → read input ≡ Err fault) → same_at read is_same wrong i (drop i xs) input ≡ total → fault ≢ Memory → total ≡ Err fault
ends read is_same wrong xs i fault input total within h so_far other =
    let (x, at) = slice_get-within xs i within in
    let is = sym (get_or_from_slice_get xs i x x at) in
    let none = h other in
    let first : same_at read is_same wrong i (x ∷ drop (i + 1) xs) input ≡ Err fault = rw none refl in
    sym so_far ∙ (one_more read is_same wrong xs i x input within is ∙ first)
