-- A worked case: the definitions compute to it.
use Rattle.std.specs.Prelude.{◌≡◌, [], ◌∷◌, refl}
use Rattle.slot_core.specs.declared.tasks.TaskSet.{TaskSet}
use Rattle.supply_find.specs.Found.{supplies_of}
use Rattle.supply_find.specs.Stairs.{flat_ends}

-- one task of two slots in every four
abbrev half : TaskSet
half =
    record {
      soft_limit = 4;
      graphs = record { name = []; period = 4; offset = 0; deadline = 4; tasks = record { name = []; wcet = 2; after = [] } ∷ [] } ∷ [];
      sporadics = [];
    }

pub half_supplies :
    supplies_of half
    ≡ record { slots = 0; from = 0; until = 0 }
    ∷ record { slots = 1; from = 0; until = 1 }
    ∷ record { slots = 2; from = 0; until = 2 }
    ∷ record { slots = 2; from = 0; until = 4 }
    ∷ record { slots = 2; from = 0; until = 4 }
    ∷ []
half_supplies = refl

pub half_ends : flat_ends (0 ∷ 1 ∷ 2 ∷ 2 ∷ 2 ∷ []) ≡ 4 ∷ []
half_ends = refl
