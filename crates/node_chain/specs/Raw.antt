-- The places of a block.
use Rattle.std.specs.Prelude.{◌≡◌, ℕ, List, [], ◌∷◌, length, map, get_or, Option, Some, None}

-- a place has a value
abbrev pub HoldsValue : {X : Type 0} → List (Option X) → ℕ → Type 0
HoldsValue {X} held i = (x : X) × (get_or held i None ≡ Some x)

module _ {X : Type 0} where
  -- the values that are there
  abbrev pub values : List (Option X) → List X
  values [] = []
  values (None ∷ ps) = values ps
  values (Some x ∷ ps) = x ∷ values ps

  -- so many places, each with a value
  pub record IsFull (held : List (Option X)) (count : ℕ) : Type 0 where
    pub full : held ≡ map Some (values held)
    pub many : length held ≡ count
