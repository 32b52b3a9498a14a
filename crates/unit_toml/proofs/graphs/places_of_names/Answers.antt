use Rattle.std.proofs.Common.{◌≡◌, ◌++◌, ℕ, List, [], ◌∷◌, ◌+◌, ◌<◌, map, drop, get_or, length, append_assoc}
use Rattle.std.proofs.lemmas.List.{drop_more}
use Rattle.unit_toml.specs.Reading.{place_of_name}
use Rattle.unit_toml.proofs.graphs.places_of_names.Goals as goal

-- one more place, of the name at i
more : {X Y Z : Type 0} (g : X → Y) (f : Y → Z) (xs : List X) (i : ℕ) (d : X) (done all : List Z) (z : Z) → i < length xs → z ≡ f (g (get_or xs i d))
    → all ≡ done ++ map f (map g (drop i xs)) → all ≡ (done ++ z ∷ []) ++ map f (map g (drop (i + 1) xs))
more g f xs i d done all z within is so_far = rw (append_assoc, is) (rw (drop_more xs i d within) at so_far)

pub loop-name-preserved : goal.loop-name-preserved
loop-name-preserved c =
    rw c.in_ok-push.ensures.ok (more _ (place_of_name c.args.tasks.now) c.args.names.now c.loop-name.name-index _ _ _ _ c.loop-name-test.true c.place_of_name.ensures c.loop-name.invariant)
