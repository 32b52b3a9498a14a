-- What requests have taken from the supply: the slots that they ran, and those that they have left.
use Rattle.std.specs.Prelude.{ℕ, zero, suc, Bool, true, false, [], ◌∷◌, sum_by, if◌then◌else◌}
use Rattle.slot_core.specs.declared.jobs.Key.{Key}
use Rattle.slot_core.specs.declared.jobs.Key.TheVariants.{Firm, Soft}
use Rattle.slot_core.specs.declared.jobs.Job.{Job}
use Rattle.slot_core.specs.declared.tasks.TaskSet.{TaskSet}
use Rattle.slot_core.specs.declared.events.What.TheVariants.{Run, Idle}
use Rattle.slot_core.specs.Sets.Cycles.{cycle_of}
use Rattle.slot_core.specs.Runs.Histories.{History}
use Rattle.slot_core.specs.Runs.Scenes.{Scene}
use Rattle.slot_core.specs.Runs.Traces.{slot, told_of}

-- the key of a firm job
abbrev pub is_firm : Key → Bool
is_firm (Firm row) = true
is_firm _ = false

-- the key of a job that was requested at run time: a firm or a soft one
abbrev pub is_requested : Key → Bool
is_requested (Firm row) = true
is_requested (Soft row) = true
is_requested _ = false

-- the slots that requested jobs ran since the processor last was idle
abbrev pub used : History → ℕ
used [] = 0
used (Idle ∷ h) = 0
used (Run key ∷ h) = if is_requested key then suc (used h) else used h
used (_ ∷ h) = used h

-- the slots that the remaining firm jobs of a scene have left
abbrev pub firm_left : Scene → ℕ
firm_left scene = sum_by (λ (j : Job). if is_firm j.key then j.left else 0) scene.jobs

-- the history of the first slots in which nothing arrives
abbrev pub quiet : TaskSet → ℕ → History
quiet set zero = []
quiet set (suc a) = told_of set (cycle_of set) (quiet set a) slot ∷ quiet set a
