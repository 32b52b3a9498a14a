-- A shorter separation, where the one that follows by rounding makes the cycle too long.
use Rattle.std.specs.Prelude.{ℕ, zero, suc, ◌+◌, ◌%◌, ◌==◌, List, [], ◌∷◌, nat_lt, if◌then◌else◌, Option, Some, None}
use Rattle.slot_core.specs.declared.TheConstants.{SLOT_LIMIT}
use Rattle.slot_core.specs.declared.faults.TaskFault.{TaskFault}
use Rattle.slot_core.specs.declared.faults.TaskFault.TheVariants.{CycleTooLong}
use Rattle.slot_core.specs.declared.tasks.Sporadic.{Sporadic}
use Rattle.slot_core.specs.declared.tasks.TaskSet.{TaskSet}
use Rattle.slot_core.specs.Sets.Cycles.{cycle_of, least_common_multiple}
use Rattle.slot_lengths.specs.declared.shorter.Shorter.{Shorter}

-- the greatest number up to so many that divides the cycle
abbrev pub greatest_part : ℕ → ℕ → ℕ
greatest_part cycle zero = zero
greatest_part cycle (suc n) = if cycle % suc n == 0 then suc n else greatest_part cycle n

-- the first sporadic task, counted from a number on, whose separation makes the cycle of those
-- before it too long, and the greatest one up to it that divides that cycle
abbrev pub shorter_from : ℕ → ℕ → List Sporadic → Option Shorter
shorter_from cycle s [] = None
shorter_from cycle s (sporadic ∷ sporadics) =
    let next = least_common_multiple cycle sporadic.separation in
    if nat_lt SLOT_LIMIT next
    then Some (record { sporadic = s; separation = greatest_part cycle sporadic.separation })
    else shorter_from next (s + 1) sporadics

-- the set with its graphs alone
abbrev pub graphs_alone : TaskSet → TaskSet
graphs_alone set = record set { sporadics = [] }

-- the same of a set; none where its periods make the cycle too long, or nothing does
abbrev pub shorter_of : TaskSet → Option Shorter
shorter_of set =
    let cycle = cycle_of (graphs_alone set) in
    if nat_lt SLOT_LIMIT cycle then None else shorter_from cycle 0 set.sporadics

-- the same of a set with this fault
abbrev pub shorter_for : TaskFault → TaskSet → Option Shorter
shorter_for (CycleTooLong multiple) set = shorter_of set
shorter_for _ set = None
