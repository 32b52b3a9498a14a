-- The lines of looks and of carried jobs, each with its text: they hold by computing.
use Rattle.std.specs.Prelude.{◌≡◌, [], ◌∷◌, codes, refl}
use Rattle.std.specs.Fmt.{digits}
use Rattle.slot_core.specs.declared.events.What.TheVariants.{Idle, Run}
use Rattle.slot_core.specs.declared.jobs.Job.{Job}
use Rattle.slot_core.specs.declared.jobs.Key.TheVariants.{Firm}
use Rattle.slot_core.specs.declared.tasks.TaskSet.{TaskSet}
use Rattle.live_run.specs.Carried.{carried_lines}
use Rattle.live_run.specs.Looks.{look_line}

-- an idle stretch of 3 slots
pub idle : (set : TaskSet) → look_line set Idle 3 ≡ codes "ahead idle 3\n"
unfolding digits
idle set = refl

-- the firm job of row 7 runs 12 slots
pub run : (set : TaskSet) → look_line set (Run (Firm 7)) 12 ≡ codes "ahead run firm:7 12\n"
unfolding digits
run set = refl

-- nothing is carried over
pub none : (set : TaskSet) → carried_lines set 5 [] ≡ codes "carried 0\n"
unfolding digits
none set = refl

-- at time 5 a firm job with 9 slots left, due at 25
pub one :
    (set : TaskSet)
    → let job : Job = record { key = Firm 1; est = 3; dl = 25; left = 9; declared = 10 } in
    carried_lines set 5 (job ∷ []) ≡ codes "carried 1\ncarried firm:1 9 20\n"
unfolding digits
one set = refl
