-- A line told by scenes alone, as a checker follows them.
use Rattle.std.specs.Prelude.{◌≡◌, ◌≢◌, ℕ, ◌<◌, ◌==◌, List, [], ◌∷◌, All, Option, Some, None, Result, Ok, Err, MatchResult, true, if◌then◌else◌, ⊤}
use Rattle.slot_core.specs.declared.jobs.Job.{Job}
use Rattle.slot_core.specs.declared.tasks.TaskSet.{TaskSet}
use Rattle.slot_core.specs.declared.events.Arrival.{Arrival}
use Rattle.slot_core.specs.declared.events.Ran.{Ran}
use Rattle.slot_core.specs.declared.events.What.{What}
use Rattle.slot_core.specs.declared.events.What.TheVariants.{Start}
use Rattle.slot_core.specs.Calls.Results.{◌>>=◌}
use Rattle.slot_core.specs.Claims.Lawful.{may_run}
use Rattle.slot_core.specs.Offline.Keys.{row_of}
use Rattle.slot_core.specs.Runs.Answers.{answer}
use Rattle.slot_core.specs.Runs.Arrivals.{event_fits}
use Rattle.slot_core.specs.Runs.Matches.{IsSameScene}
use Rattle.slot_core.specs.Runs.Scenes.{Scene}
use Rattle.slot_core.specs.Runs.Spans.{shown_of}
use Rattle.slot_core.specs.Runs.Traces.{Occurrence, arrive, slot}
use Rattle.scene_steps.specs.Steps.{after_ran, scene_after}
use Rattle.trace_verify.specs.Checked.{IsChecked}
use Rattle.trace_verify.specs.Verdicts.{Checking, line_told, needed_line, same_line}
use Rattle.faults.specs.declared.verify_fault.VerifyFault.{VerifyFault}
use Rattle.faults.specs.declared.verify_fault.VerifyFault.TheVariants.{Memory}

-- what line n tells of an occurrence in a scene
abbrev pub line_in : TaskSet → ℕ → Scene → ℕ → Occurrence → List ℕ → Checking What
line_in set cycle scene n next line =
    line_told set cycle scene (λ what. scene_after set cycle what scene) n next line

-- the code tells of the line what it tells in the scene before it, and follows the scene after it
abbrev pub TellsLine :
    TaskSet → ℕ → Scene → Scene → ℕ → Occurrence → List ℕ → Result What VerifyFault → Type 0
TellsLine set cycle before after n next line answer =
    MatchResult
    answer
    (λ what.
    (line_in set cycle before n next line ≡ Ok what)
    × IsSameScene after (scene_after set cycle what before))
    (λ e. e ≢ Memory → line_in set cycle before n next line ≡ Err e)

-- the line with which the text begins tells what happens next, with the text after it
abbrev pub line_and_rest :
    TaskSet → ℕ → Scene → ℕ → Occurrence → List ℕ → Checking (What × List ℕ)
line_and_rest set cycle scene n next text = do
  parts ← needed_line n text
  what ← line_in set cycle scene n next parts.0
  Ok (what, parts.1)

-- the code passes it, and follows the scene after it
abbrev pub PassesLine :
    {A : Type 0} → TaskSet → ℕ → Scene → Scene → ℕ → Occurrence → List ℕ
    → (A → List ℕ) → Result A VerifyFault → Type 0
PassesLine set cycle before after n next text seen answer =
    MatchResult
    answer
    (λ rest.
    (what : What)
    × (line_and_rest set cycle before n next text ≡ Ok (what, seen rest))
    × IsSameScene after (scene_after set cycle what before))
    (λ e. e ≢ Memory → line_and_rest set cycle before n next text ≡ Err e)

-- the first line in a scene: that of the start
abbrev pub first_line_in : TaskSet → ℕ → Scene → List ℕ → Checking (List ℕ)
first_line_in set cycle scene text = do
  parts ← needed_line 1 text
  same ← same_line set (record { time = 0; what = Start; shown = shown_of cycle scene }) 1 parts.0
  Ok parts.1

-- what happens next: the arrival that is due, or else a slot
abbrev pub next_of : Option Arrival → Occurrence
next_of None = slot
next_of (Some a) = arrive a.row a.event

-- an arrival that comes next fits the set, and its row is above those of the remaining jobs
abbrev pub IsNext : TaskSet → Option Arrival → List Job → Type 0
IsNext set None jobs = ⊤
IsNext set (Some a) jobs =
    (event_fits set a.event ≡ true) × All (λ (j : Job). row_of j.key < a.row) jobs

-- a scene after what may be told next is checked: after the answer to an arrival, and after a slot
-- in which anything ran that may, whatever is late after it
abbrev pub IsCheckedAfter : TaskSet → ℕ → Scene → Occurrence → Type 0
IsCheckedAfter set cycle scene (arrive row event) =
    (after : Scene)
    → IsSameScene after (scene_after set cycle (answer set cycle scene row event) scene)
    → IsChecked set cycle after
IsCheckedAfter set cycle scene slot =
    (ran : Ran) (after : Scene)
    → may_run set scene ran ≡ true
    → IsSameScene after (after_ran set cycle ran scene)
    → IsChecked set cycle after

-- the first of the arrivals, where it is due at this time, and the others
abbrev pub first_due : ℕ → List Arrival → Option Arrival × List Arrival
first_due time [] = (None, [])
first_due time (a ∷ arrivals) =
    if a.slot == time then (Some a, arrivals) else (None, a ∷ arrivals)
