-- Worked cases: the definitions compute to them.
use Rattle.std.specs.Prelude.{◌≡◌, ℕ, List, [], ◌∷◌, refl}
use Rattle.slot_core.specs.declared.tasks.TaskSet.{TaskSet}
use Rattle.supply_find.specs.declared.supply.Supply.{Supply}
use Rattle.supply_lines.specs.Lines.{far_line, line_of, lines_of, read_at, within_text}

-- one task of two slots in every four
abbrev half : TaskSet
half =
    record {
      soft_limit = 4;
      graphs = record { name = []; period = 4; offset = 0; deadline = 4; tasks = record { name = []; wcet = 2; after = [] } ∷ [] } ∷ [];
      sporadics = [];
    }

-- its one line
pub half_lines : lines_of half ≡ (4, record { slots = 2; from = 0; until = 4 }) ∷ []
half_lines = refl

pub half_within : within_text half 3 ≡ line_of (3, record { slots = 2; from = 0; until = 4 })
half_within = refl

pub half_far : within_text half 5 ≡ far_line 5 4
half_far = refl

-- three lines, of a cycle of 40
abbrev three : List (ℕ × Supply)
three =
    (10, record { slots = 6; from = 0; until = 10 })
    ∷ (20, record { slots = 9; from = 0; until = 20 })
    ∷ (40, record { slots = 12; from = 0; until = 40 })
    ∷ []

-- up to 6 slots within as many, 6 up to 10, and then one more for each slot up to the next line
pub at_one : read_at three 1 ≡ 1
at_one = refl

pub at_six : read_at three 6 ≡ 6
at_six = refl

pub at_ten : read_at three 10 ≡ 6
at_ten = refl

pub at_twelve : read_at three 12 ≡ 8
at_twelve = refl

pub at_twenty : read_at three 20 ≡ 9
at_twenty = refl

pub at_last : read_at three 40 ≡ 12
at_last = refl
