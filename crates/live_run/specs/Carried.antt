-- What a change of plan after a history would carry over.
use Rattle.std.specs.Prelude.{ℕ, ◌-◌, List, [], ◌∷◌, ◌++◌, codes, flat_map, length}
use Rattle.slot_core.specs.declared.jobs.Job.{Job}
use Rattle.slot_core.specs.declared.tasks.TaskSet.{TaskSet}
use Rattle.slot_core.specs.Output.Texts.{key_text, worded}
use Rattle.slot_core.specs.Runs.Histories.{History, time_of}
use Rattle.slot_core.specs.Runs.Scenes.{remaining}
use Rattle.plan_change.specs.Carrying.{carried_jobs}
use Rattle.plan_change.specs.declared.keep.Keep.{Keep}

-- the line of a job at time c: its key, the slots that it has left, and those up to its deadline
abbrev pub carried_line : TaskSet → ℕ → Job → List ℕ
carried_line set c job =
    worded (worded (codes "carried " ++ key_text set job.key) job.left) (job.dl - c) ++ 10 ∷ []

-- how many jobs there are, and the line of each
abbrev pub carried_lines : TaskSet → ℕ → List Job → List ℕ
carried_lines set c jobs =
    (worded (codes "carried") (length jobs) ++ 10 ∷ []) ++ flat_map (carried_line set c) jobs

-- of the remaining jobs those that a change now would carry over, in the order of their offers
abbrev pub carried_text : TaskSet → ℕ → Keep → History → List ℕ
carried_text set cycle keep h =
    carried_lines set (time_of h) (carried_jobs keep set (time_of h) (remaining set cycle h))
