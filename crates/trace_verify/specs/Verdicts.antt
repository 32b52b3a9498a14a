-- The verdict on a recorded trace. Its lines are checked in order, each against the history that
-- the lines before it tell: whether it is there, what it tells, whether it is the line of that, and
-- whether the jobs that remain after it are in time.
use Rattle.std.specs.Prelude.{◌≡◌, ◌≢◌, ℕ, ◌+◌, List, [], ◌∷◌, ◌++◌, filter, nat_le, Option, Result, Ok, Err, MatchResult, if◌then◌else◌, ⊤}
use Rattle.std.specs.Option.{option_map_or}
use Rattle.std.specs.Str.{bytes_eq}
use Rattle.slot_core.specs.declared.jobs.Job.{Job}
use Rattle.slot_core.specs.declared.tasks.TaskSet.{TaskSet}
use Rattle.slot_core.specs.declared.events.Arrival.{Arrival}
use Rattle.slot_core.specs.declared.events.Entry.{Entry}
use Rattle.slot_core.specs.declared.events.Ran.{Ran}
use Rattle.slot_core.specs.declared.events.Ran.TheVariants.{Idle as RanIdle, Key as RanKey}
use Rattle.slot_core.specs.declared.events.What.{What}
use Rattle.slot_core.specs.declared.events.What.TheVariants.{Start, Run, Idle}
use Rattle.slot_core.specs.Calls.Results.{◌>>=◌}
use Rattle.slot_core.specs.Claims.Lawful.{may_run}
use Rattle.slot_core.specs.Output.Texts.{entry_line}
use Rattle.slot_core.specs.Runs.Answers.{answer}
use Rattle.slot_core.specs.Runs.Choice.{earliest}
use Rattle.slot_core.specs.Runs.Histories.{History}
use Rattle.slot_core.specs.Runs.Scenes.{Scene, scene_of}
use Rattle.slot_core.specs.Runs.Spans.{shown_of}
use Rattle.slot_core.specs.Runs.Traces.{Occurrence, arrive, slot, end_entry, occurrences_of, shown_entry, started}
use Rattle.key_texts.specs.KeyTexts.{cut_at}
use Rattle.trace_text.specs.RunLines.{run_of_line}
use Rattle.faults.specs.declared.verify_fault.VerifyFault.{VerifyFault}
use Rattle.faults.specs.declared.verify_fault.VerifyFault.TheVariants.{Memory, Short, NoRun, NotReady, Differs, Late, Trailing}

-- what a check gives, or the first fault
abbrev pub Checking : Type 0 → Type 0
Checking X = Result X VerifyFault

-- the code's answer is that of the check, as `seen` sees it, but that memory may run out
abbrev pub AnswersAs : {A X : Type 0} → (A → X) → Result A VerifyFault → Checking X → Type 0
AnswersAs seen answer checked =
    MatchResult answer (λ a. checked ≡ Ok (seen a)) (λ e. e ≢ Memory → checked ≡ Err e)

-- the line of number n, with which the text begins, and the text after it: it is there, and ends
-- with a line feed
abbrev pub needed_line : ℕ → List ℕ → Checking (List ℕ × List ℕ)
needed_line n text =
    option_map_or (λ (parts : List ℕ × List ℕ). Ok parts) (cut_at 10 text) (Err (Short n))

-- what line n tells that says this ran: it may run
abbrev pub told_where_ready : TaskSet → Scene → ℕ → Ran → Checking What
told_where_ready set scene n RanIdle = Ok Idle
told_where_ready set scene n (RanKey key) =
    if may_run set scene (RanKey key) then Ok (Run key) else Err (NotReady n key)

-- what line n tells of an occurrence: of an arrival its answer, of a slot what the line says ran
abbrev pub told_by : TaskSet → ℕ → Scene → ℕ → Occurrence → List ℕ → Checking What
told_by set cycle scene n (arrive row event) line = Ok (answer set cycle scene row event)
told_by set cycle scene n slot line =
    option_map_or (told_where_ready set scene n) (run_of_line set line) (Err (NoRun n))

-- line n is that of the entry
abbrev pub same_line : TaskSet → Entry → ℕ → List ℕ → Checking ⊤
same_line set entry n line =
    if bytes_eq (line ++ 10 ∷ []) (entry_line set entry) then Ok tt else Err (Differs n)

-- of the remaining jobs that are past their deadline, the first by deadline and then by key
abbrev pub first_late : Scene → Option Job
first_late scene = earliest (filter (λ (j : Job). nat_le j.dl scene.time) scene.jobs)

-- after a slot no remaining job is past its deadline
abbrev pub in_time : Scene → ℕ → Occurrence → Checking ⊤
in_time scene n (arrive row event) = Ok tt
in_time scene n slot =
    option_map_or (λ (j : Job). Err (Late n j.key)) (first_late scene) (Ok tt)

-- what is told in a scene is shown with the spans of the scene after it
abbrev pub entry_in : ℕ → Scene → What → Scene → Entry
entry_in cycle scene what after =
    record { time = scene.time; what = what; shown = shown_of cycle after }

-- what line n tells of an occurrence in a scene, where `after` gives the scene after what is told
abbrev pub line_told :
    TaskSet → ℕ → Scene → (What → Scene) → ℕ → Occurrence → List ℕ → Checking What
line_told set cycle scene after n next line = do
  what ← told_by set cycle scene n next line
  same ← same_line set (entry_in cycle scene what (after what)) n line
  timely ← in_time (after what) n next
  Ok what

-- no byte follows, where line n would begin
abbrev pub no_more : ℕ → List ℕ → Checking ⊤
no_more n [] = Ok tt
no_more n (byte ∷ text) = Err (Trailing n)

-- line n is that of the end after so many slots, and the last
abbrev pub last_line : TaskSet → ℕ → ℕ → List ℕ → Checking ⊤
last_line set slots n text = do
  parts ← needed_line n text
  same ← same_line set (end_entry slots) n parts.0
  no_more (n + 1) parts.1

-- from a history on, the lines from line n tell these occurrences, and then the end
abbrev pub lines_told :
    TaskSet → ℕ → ℕ → History → ℕ → List Occurrence → List ℕ → Checking ⊤
lines_told set cycle slots h n [] text = last_line set slots n text
lines_told set cycle slots h n (next ∷ later) text = do
  parts ← needed_line n text
  what ← line_told set cycle (scene_of set cycle h)
      (λ what. scene_of set cycle (what ∷ h)) n next parts.0
  lines_told set cycle slots (what ∷ h) (n + 1) later parts.1

-- line 1 is that of the start, with the text after it
abbrev pub first_line : TaskSet → ℕ → List ℕ → Checking (List ℕ)
first_line set cycle text = do
  parts ← needed_line 1 text
  same ← same_line set (shown_entry set cycle 0 Start started) 1 parts.0
  Ok parts.1

-- the text is that of a lawful trace of the set, these arrivals and so many slots, or has a fault
abbrev pub verdict : TaskSet → ℕ → List Arrival → ℕ → List ℕ → Checking ⊤
verdict set cycle arrivals slots text = do
  rest ← first_line set cycle text
  lines_told set cycle slots started 2 (occurrences_of arrivals slots) rest
