-- A loop that reads each table in order.
use Rattle.std.proofs.Common.{◌≡◌, ◌<◌, ℕ, ◌+◌, List, [], ◌∷◌, ◌++◌, length, get_or, drop, map, Ok, Err, append_assoc, refl, ap}
use Rattle.std.proofs.lemmas.List.{drop_more}
use Rattle.toml.specs.Data.{Members}
use Rattle.slot_core.specs.Calls.Results.{◌>>=◌}
use Rattle.unit_toml.specs.UnitFields.{Read}
use Rattle.unit_toml.specs.Reading.{each}

-- what is read from some place on, after what is read before it
abbrev pub with_before : {X : Type 0} → List X → Read (List X) → Read (List X)
with_before done (Ok more) = Ok (done ++ more)
with_before done (Err fault) = Err fault

with_before-cons : {X : Type 0} (done : List X) (x : X) (r : Read (List X)) → with_before done (r >>= (λ xs. Ok (x ∷ xs))) ≡ with_before (done ++ x ∷ []) r
with_before-cons done x (Ok xs) = ap Ok (rw append_assoc)
with_before-cons done x (Err fault) = refl

-- one more table, at i, is read
pub each-more : {X T : Type 0} (f : ℕ → Members → Read X) (view : T → Members) (ts : List T) (i : ℕ) (t : T) (done : List X) (x : X) (all : Read (List X)) → i < length ts → t ≡ get_or ts i t → f i (view t) ≡ Ok x
    → all ≡ with_before done (each f i (map view (drop i ts))) → all ≡ with_before (done ++ x ∷ []) (each f (i + 1) (map view (drop (i + 1) ts)))
each-more f view ts i t done x all within is reads so_far =
    let here : f i (view (get_or ts i t)) ≡ Ok x = rw (← is) reads in
    rw (← with_before-cons done x (each f (i + 1) (map view (drop (i + 1) ts)))) (rw (drop_more ts i t within, here) at so_far)
