-- Reading things one after the other, as a loop does.
use Rattle.std.proofs.Common.{◌≡◌, ◌≢◌, ℕ, suc, ◌-◌, ◌+◌, ◌≤◌, ◌<◌, List, [], ◌∷◌, ◌++◌, Ok, Err, refl, sym, ap, ◌∙◌, append_assoc, arith}
use Rattle.std.proofs.lemmas.List.{append-nil}
use Rattle.faults.specs.declared.table_fault.TableFault.{TableFault}
use Rattle.faults.specs.declared.table_fault.TableFault.TheVariants.{Memory}
use Rattle.table_codec.specs.Readers.{Unread, Read, Reader, go_on, settled, each_at}

-- what was read before, and what is read after it
abbrev pub with_front : {X : Type 0} → List X → Read (List X) → Read (List X)
with_front front read = go_on read (λ xs. settled (Ok (front ++ xs)))

-- where nothing was read before
pub begins : {X : Type 0} (read : Read (List X)) → with_front [] read ≡ read
begins (Ok x) = refl
begins (Err fault) = refl

regroup : {X : Type 0} (front : List X) (x : X) (read : Read (List X)) → with_front front (go_on read (λ xs. settled (Ok (x ∷ xs)))) ≡ with_front (front ++ x ∷ []) read
regroup front x (Ok y) = ap (λ xs. Ok (xs, y.1)) (simp append_assoc)
regroup front x (Err fault) = refl

-- one thing more
pub goes_on : {X : Type 0} (f : ℕ → Reader X) (front : List X) (count i : ℕ) (input rest : Unread) (x : X) (total : Read (List X)) → i < count → f i input ≡ Ok (x, rest) → with_front front (each_at f i (count - i) input) ≡ total → with_front (front ++ x ∷ []) (each_at f (i + 1) (count - (i + 1)) rest) ≡ total
goes_on f front count i input rest x total lt h so_far =
    let k : count - i ≡ suc (count - (i + 1)) = omega arith in
    let one : with_front front (each_at f i (count - i) input) ≡ with_front (front ++ x ∷ []) (each_at f (i + 1) (count - (i + 1)) rest) = rw (k, h) (regroup front x (each_at f (i + 1) (count - (i + 1)) rest)) in
    sym one ∙ so_far

-- a fault
pub ends : {X : Type 0} (f : ℕ → Reader X) (fault : TableFault) (front : List X) (count i : ℕ) (input : Unread) (total : Read (List X)) → i < count → (fault ≢ Memory → f i input ≡ Err fault) → with_front front (each_at f i (count - i) input) ≡ total → fault ≢ Memory → total ≡ Err fault
ends f fault front count i input total lt h so_far other =
    let k : count - i ≡ suc (count - (i + 1)) = omega arith in
    let is = h other in
    let one : with_front front (each_at f i (count - i) input) ≡ Err fault = rw (k, is) refl in
    sym so_far ∙ one

-- all of them
pub is_done : {X : Type 0} (f : ℕ → Reader X) (front : List X) (count i : ℕ) (input : Unread) (total : Read (List X)) → count ≤ i → with_front front (each_at f i (count - i) input) ≡ total → total ≡ Ok (front, input)
is_done f front count i input total le so_far =
    let k : count - i ≡ 0 = omega arith in
    let one : with_front front (each_at f i (count - i) input) ≡ Ok (front, input) = rw k (ap (λ xs. Ok (xs, input)) (append-nil front)) in
    sym so_far ∙ one
