-- A loop that derives each item in order.
use Rattle.std.proofs.Common.{◌≡◌, ◌<◌, ℕ, ◌+◌, List, [], ◌∷◌, ◌++◌, length, get_or, drop, Ok, Err, append_assoc, refl, ap}
use Rattle.std.proofs.lemmas.List.{drop_more}
use Rattle.slot_core.specs.Calls.Results.{◌>>=◌}
use Rattle.clock_units.specs.Derived.{Derived, each}

-- what is derived from some place on, after what is derived before it
abbrev pub with_before : {X : Type 0} → List X → Derived (List X) → Derived (List X)
with_before done (Ok more) = Ok (done ++ more)
with_before done (Err fault) = Err fault

with_before-cons : {X : Type 0} (done : List X) (x : X) (r : Derived (List X)) → with_before done (r >>= (λ xs. Ok (x ∷ xs))) ≡ with_before (done ++ x ∷ []) r
with_before-cons done x (Ok xs) = ap Ok (rw append_assoc)
with_before-cons done x (Err fault) = refl

-- one more item, at i, is derived
pub each-more : {X Y : Type 0} (f : ℕ → X → Derived Y) (xs : List X) (i : ℕ) (x : X) (done : List Y) (y : Y) (all : Derived (List Y)) → i < length xs → x ≡ get_or xs i x → f i x ≡ Ok y → all ≡ with_before done (each f i (drop i xs))
    → all ≡ with_before (done ++ y ∷ []) (each f (i + 1) (drop (i + 1) xs))
each-more f xs i x done y all within is derives so_far =
    let here : f i (get_or xs i x) ≡ Ok y = rw (← is) derives in
    rw (← with_before-cons done y (each f (i + 1) (drop (i + 1) xs))) (rw (drop_more xs i x within, here) at so_far)
