-- The least margin of the tasks of a set.
use Rattle.std.specs.Prelude.{ℕ, List, fold, map, min}
use Rattle.std.specs.Option.{option_map_or}
use Rattle.slot_core.specs.declared.TheConstants.{SLOT_LIMIT}
use Rattle.slot_core.specs.declared.faults.Part.{Part}
use Rattle.slot_core.specs.declared.tasks.TaskSet.{TaskSet}
use Rattle.margin_find.specs.declared.margin.TaskMargin.{TaskMargin}
use Rattle.margin_find.specs.Margins.{margin_of, parts_of}

-- the slots of a margin
abbrev pub growth_in : TaskMargin → ℕ
growth_in found = found.margin.growth

-- by how many slots a task or sporadic task may grow alone
abbrev pub growth_of : TaskSet → Part → ℕ
growth_of set part = option_map_or growth_in (margin_of set part) 0

-- the least of numbers that are at most SLOT_LIMIT
abbrev pub least_of : List ℕ → ℕ
least_of growths = fold min SLOT_LIMIT growths

-- by how many slots each of them may grow alone
abbrev pub least_growth : TaskSet → ℕ
least_growth set = least_of (map (growth_of set) (parts_of set))
