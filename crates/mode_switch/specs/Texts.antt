-- What is printed of a run after a change of plan.
use Rattle.std.specs.Prelude.{ℕ, ◌+◌, ◌-◌, List, [], ◌∷◌, ◌++◌, codes, decimal, flat_map}
use Rattle.std.specs.List.{range_with_len}
use Rattle.slot_core.specs.declared.jobs.Job.{Job}
use Rattle.slot_core.specs.declared.tasks.TaskSet.{TaskSet}
use Rattle.slot_core.specs.Output.Texts.{key_text}
use Rattle.mode_switch.specs.declared.turns.Turn.{Turn}
use Rattle.mode_switch.specs.declared.turns.Turn.TheVariants.{Idle, Old, New}
use Rattle.mode_switch.specs.Runs.{turn_at}

-- a turn: idle, or a key, by the names of the first set where it is that of a carried job
abbrev pub turn_text : TaskSet → TaskSet → Turn → List ℕ
turn_text first second Idle = codes "idle"
turn_text first second (Old key) = codes "old " ++ key_text first key
turn_text first second (New key) = codes "new " ++ key_text second key

-- the line of a turn at this time
abbrev pub turn_line : TaskSet → TaskSet → ℕ → Turn → List ℕ
turn_line first second time turn = decimal time ++ 32 ∷ turn_text first second turn ++ 10 ∷ []

-- the line of the change
abbrev pub granted_line : ℕ → List ℕ
granted_line c = decimal c ++ codes " switch granted" ++ 10 ∷ []

-- the lines of the first n slots after the change
abbrev pub turn_lines : TaskSet → TaskSet → ℕ → List Job → ℕ → List ℕ
turn_lines first second c carried n =
    flat_map
    (λ u. turn_line first second (c + u) (turn_at second c carried u))
    (range_with_len 0 n)

-- the last line
abbrev pub end_line : ℕ → List ℕ
end_line n = decimal n ++ codes " end" ++ 10 ∷ []

-- the text of a change at time c and of the run after it up to time n
abbrev pub change_text : TaskSet → TaskSet → ℕ → List Job → ℕ → List ℕ
change_text first second c carried n =
    granted_line c ++ turn_lines first second c carried (n - c) ++ end_line n
