-- Each refusal has its cause.
use Rattle.std.proofs.Common.{◌≡◌, ◌≢◌, ◌+◌, ◌⊎◌, ◌<◌, ℕ, Bool, true, List, Option, Some, None, Result, Ok, Err, Vec, Global, refl, sym, ap, subst, ◌∙◌, inl, inr}
use Rattle.std.specs.Prelude.{IfSome, IfErr}
use Rattle.slot_core.specs.Calls.Counts.{Rose}
use Rattle.slot_core.specs.Keeping.Plans.{IsPlan, PlanParts}
use Rattle.slot_core.specs.declared.tasks.TaskSet.{TaskSet}
use Rattle.slot_io.specs.Files.{Held}
use Rattle.command_line.specs.declared.commands.Source.{Source as PlanSource}
use Rattle.command_line.specs.declared.file.File.{File}
use Rattle.command_line.specs.declared.refusal.Refusal.{Refusal}
use Rattle.command_line.specs.declared.refusal.Refusal.TheVariants.{Usage, Unreadable, TooLarge, BadTasks, Infeasible, BadTable, BadArrivals, NotVerified, BadSecond, SecondInfeasible, NoRow, NotCycleEnd, NoChange, WriteFault, Memory}
use Rattle.command_line.specs.Refusals.{Outcome}
use Rattle.run_steps.specs.Readings.{plan_from}
use Rattle.std.proofs.lemmas.Bool.{false≢true}
use Rattle.std.specs.Prelude.{IfOk, false}
use Rattle.command_line.specs.Refusals.{is_found, refusal_status}
use Rattle.command_line.specs.declared.status.Status.{Status}
use Rattle.command_line.specs.Commands.{is_file_of}
use Rattle.run_steps.specs.Steps.{IsOfReading, IsReading}
use Rattle.view_run.specs.declared.views.View.{View}
use Rattle.view_run.specs.declared.views.View.TheVariants.{Lines, Planned, Stairs}
use Rattle.view_run.specs.declared.views.PlanView.TheVariants.{Jobs, Tasks}
use Rattle.view_run.specs.declared.views.LineView.TheVariants.{Picture, Events, Spans, Waves}
use Rattle.run_blocks.specs.declared.faults.RowsFault.{RowsFault}
use Rattle.run_blocks.specs.declared.faults.RowsFault.TheVariants.{Memory as RowsMemory, TooMany as TooManyOfRows}
use Rattle.run_blocks.specs.Rows.{AreCrowded}
use Rattle.trace_lines.specs.declared.part.Part.{Part}
use Rattle.trace_lines.specs.declared.part.Slots.{Slots}
use Rattle.trace_lines.specs.declared.part.TheConstants.{ALL_SLOTS}
use Rattle.trace_lines.specs.Parts.{IsLong, IsTraceText}
use Rattle.view_picture.specs.declared.TheConstants.{PICTURE_LIMIT}
use Rattle.view_picture.specs.declared.faults.PictureFault.{PictureFault}
use Rattle.view_picture.specs.declared.faults.PictureFault.TheVariants.{Memory as PictureMemory, TooLong, TooManyRows}
use Rattle.view_run.specs.Inputs.{EndsBefore, Holds, HoldsSuch, IsByteRefusal, IsInputRefusal, IsShown, IsUnread, Told, slots_kept}
use Rattle.trace_lines.specs.declared.line.TraceLine.{TraceLine}
use Rattle.trace_lines.specs.declared.trace.TraceFault.{TraceFault}
use Rattle.trace_lines.specs.declared.trace.TraceFault.TheVariants.{Memory as TraceMemory, NoLine, NoSlot, TooMany}
use Rattle.trace_lines.specs.Traces.{Breaks, slots_of}
use Rattle.view_jobs.specs.declared.faults.JobsFault.{JobsFault}
use Rattle.view_jobs.specs.declared.faults.JobsFault.TheVariants.{Memory as JobsMemory, Failed as JobsFailed, NoLine as NoJobLine}
use Rattle.view_jobs.specs.Tables.{first_unknown}
use Rattle.view_run.specs.declared.views.Source.{Source}
use Rattle.task_rows.specs.declared.faults.TaskPictureFault.{TaskPictureFault}
use Rattle.task_rows.specs.declared.faults.TaskPictureFault.TheVariants.{Memory as TasksMemory, NoLine as NoTaskLine, TooLong as TasksTooLong, TooManyRows as TasksTooManyRows}
use Rattle.task_rows.specs.Rows.{first_of_no_task, rows_of_tasks}
use Rattle.view_run.specs.Refusals.{no_line, no_slot, of_jobs, of_picture, of_rows, of_supply, of_tasks, of_text}
use Rattle.view_run.specs.Supplies.{AreSupply, IsNoSupply, IsSupplyRefusal}
use Rattle.view_stairs.specs.declared.fault.StairsFault.{StairsFault}
use Rattle.view_stairs.specs.declared.fault.StairsFault.TheVariants.{Memory as StairsMemory, NoLine as NoStep}
use Rattle.view_stairs.specs.declared.lines.Step.{Step}
use Rattle.view_stairs.specs.Steps.{AreStairs, steps_text, Breaks as StepsBreak}
use Rattle.view_run.specs.Plans.{IsPlanOf, IsPlanRefusal}
use Rattle.view_run.specs.Runs.{AreInput, IsRefused}
use Rattle.view_run.specs.Shown.{IsJobsRefusal, IsLinesRefusal, IsTaskPictureRefusal}
use Rattle.view_run.specs.Views.{plan_source}

-- what holds of a value, where there is one
pub if_some : {X : Type 0} {P Q : X → Type 0} (o : Option X) → ((x : X) → P x → Q x) → IfSome o P → IfSome o Q
if_some None more is = tt
if_some (Some x) more is = more x is

-- a whole text that is no trace breaks, or has too many lines, or memory ran out
pub of_text-cause : (bytes : List ℕ) (fault : TraceFault) → ((n : ℕ) → fault ≡ NoLine n → Breaks bytes n) → (fault ≡ TooMany → IsLong ALL_SLOTS bytes) → ((n : ℕ) → fault ≡ NoSlot n → ⊥) → (of_text fault ≡ Memory) ⊎ IsUnread None (λ IsSo. IsSo bytes) (of_text fault)
of_text-cause bytes TraceMemory breaks long never = inl refl
of_text-cause bytes (NoLine n) breaks long never = inr (inl (n, refl, breaks n refl))
of_text-cause bytes TooMany breaks long never = inr (inr (inl (refl, long refl)))
of_text-cause bytes (NoSlot n) breaks long never = absurd (never n refl)

-- and one of which a part is asked for may be too short
pub of_part-cause : (slots : Slots) (bytes : List ℕ) (fault : TraceFault) → ((n : ℕ) → fault ≡ NoLine n → Breaks bytes n) → (fault ≡ TooMany → IsLong slots bytes) → ((n : ℕ) → fault ≡ NoSlot n → (n ≡ slots.from) × EndsBefore slots.from bytes) → (of_text fault ≡ Memory) ⊎ IsUnread (Some slots) (λ IsSo. IsSo bytes) (of_text fault)
of_part-cause slots bytes TraceMemory breaks long short = inl refl
of_part-cause slots bytes (NoLine n) breaks long short = inr (inl (n, refl, breaks n refl))
of_part-cause slots bytes TooMany breaks long short = inr (inr (inl (refl, long refl)))
of_part-cause slots bytes (NoSlot n) breaks long short =
    let (is, ends) = short n refl in inr (inr (inr (ap no_slot is, ends)))

-- rows that are not made are too many, or memory ran out
pub of_rows-cause : (lines : List TraceLine) (before after : ℕ) (fault : RowsFault) → (fault ≡ TooManyOfRows → AreCrowded lines) → IsLinesRefusal Waves lines before after (of_rows fault)
of_rows-cause lines before after RowsMemory crowded = tt
of_rows-cause lines before after TooManyOfRows crowded = (crowded refl, refl)

-- a picture that is not made has too many slots or rows, or memory ran out
pub of_picture-cause : (lines : List TraceLine) (before after : ℕ) (fault : PictureFault) → (fault ≡ TooLong → PICTURE_LIMIT < slots_of lines) → (fault ≡ TooManyRows → AreCrowded lines) → IsLinesRefusal Picture lines before after (of_picture fault)
of_picture-cause lines before after PictureMemory long crowded = tt
of_picture-cause lines before after TooLong long crowded = inl (long refl, refl)
of_picture-cause lines before after TooManyRows long crowded = inr (crowded refl, refl)

-- a picture over tasks that is not made has too many slots or rows, or a line names what the plan
-- does not have, or memory ran out
pub of_tasks-cause :
    (plan : PlanParts) (set : TaskSet) (number : ℕ) (lines : List TraceLine) (before after : ℕ)
    (fault : TaskPictureFault) → set ≡ plan.tasks → (fault ≡ TasksTooLong → PICTURE_LIMIT < slots_of lines)
    → (fault ≡ TasksTooManyRows → AreCrowded lines)
    → ((n : ℕ) → fault ≡ NoTaskLine n → (place : ℕ) × (n ≡ number + place)
    × (first_of_no_task (rows_of_tasks set) lines ≡ Some place))
    → IsTaskPictureRefusal plan number lines before after (of_tasks fault)
of_tasks-cause plan set number lines before after TasksMemory same long crowded unknown = tt
of_tasks-cause plan set number lines before after TasksTooLong same long crowded unknown =
    inl (inl (long refl, refl))
of_tasks-cause plan set number lines before after TasksTooManyRows same long crowded unknown =
    inl (inr (crowded refl, refl))
of_tasks-cause plan set number lines before after (NoTaskLine n) same long crowded unknown =
    let (place, is, first) = unknown n refl in
    inr (place, subst (λ s. first_of_no_task (rows_of_tasks s) lines ≡ Some place) same first, ap no_line is)

-- it is not refused for a failed write
pub tasks-unfailed : (fault : TaskPictureFault) → of_tasks fault ≡ WriteFault → ⊥
tasks-unfailed TasksMemory is = cc is
tasks-unfailed TasksTooLong is = cc is
tasks-unfailed TasksTooManyRows is = cc is
tasks-unfailed (NoTaskLine n) is = cc is

-- a table of jobs is not written since the sink counted a fault, memory ran out, or a line names what
-- the plan does not have
pub of_jobs-cause : (plan : PlanParts) (lines : List TraceLine) (before after : ℕ) (fault : JobsFault) → (fault ≡ JobsFailed → Rose before after) → ((n : ℕ) → fault ≡ NoJobLine n → (place : ℕ) × (n ≡ place + 1) × (first_unknown plan.tasks lines ≡ Some place)) → IsJobsRefusal plan lines before after (of_jobs fault)
of_jobs-cause plan lines before after JobsMemory failed unknown = tt
of_jobs-cause plan lines before after JobsFailed failed unknown = failed refl
of_jobs-cause plan lines before after (NoJobLine n) failed unknown =
    let (place, number, first) = unknown n refl in (place, first, ap no_line number)

-- a place that would be told, and is not, is none
pub none-told : {A E : Type 0} (first : Option ℕ) (result : Result A E) (fault : ℕ → E) → ((place : ℕ) → result ≢ Err (fault place)) → ((place : ℕ) → first ≡ Some place → result ≡ Err (fault place)) → first ≡ None
none-told None result fault untold told = refl
none-told (Some place) result fault untold told = absurd (untold place (told place refl))

-- a refusal of a plan that is no fault of a file nor want of memory is the one that is due
due : {S A : Type 0} {given : S → Option (List ℕ × ℕ)} (held : S → Option Held) (faults : S → ℕ) (blamed : S → Option (List ℕ)) (before after : S) (names : List (List ℕ)) (may : File → Bool) (source : Source) (from : PlanSource) (e : Refusal) (view : A → PlanParts) → from ≡ plan_source source → IsReading held faults blamed given before after names may (λ files. plan_from files names from) (Err e) view → ((file : File) → e ≡ Unreadable file → ⊥) → (e ≡ Memory → ⊥) → is_found e ≡ true → (is_found e ≡ true) × IfSome (held before) (λ files. plan_from files names (plan_source source) ≡ Err e)
due held faults blamed before after names may source from e view same reading readable enough found = (found, by_held (held before) refl)
  where
    by_held : (o : Option Held) → held before ≡ o → IfSome o (λ files. plan_from files names (plan_source source) ≡ Err e)
    by_held None is = tt
    by_held (Some files) is = elim (reading.answers files is) [
      | inl unreadable ↦ (let (file, may, is) = unreadable in absurd (readable file is))
      | inr rest ↦ elim rest [
        | inl memory ↦ absurd (enough memory)
        | inr answer ↦ ap (λ s. plan_from files names s) (sym same) ∙ answer
      ]
    ]

-- a refusal that no bytes call for comes of no reading
unfound : (e : Refusal) (may : File → Bool) → ((file : File) → e ≡ Unreadable file → ⊥) → (e ≡ Memory → ⊥) → is_found e ≡ false → IsOfReading may e → ⊥
unfound e may readable enough never (inl (file, passes, is)) = readable file is
unfound e may readable enough never (inr (inl memory)) = enough memory
unfound e may readable enough never (inr (inr found)) = false≢true (sym never ∙ found)

-- each refusal of a plan has its cause
pub plan-refused : {S A : Type 0} {given : S → Option (List ℕ × ℕ)} (held : S → Option Held) (faults : S → ℕ) (blamed : S → Option (List ℕ)) (before after : S) (names : List (List ℕ)) (source : Source) (from : PlanSource) (result : Outcome A) (view : A → PlanParts) → from ≡ plan_source source → IsReading held faults blamed given before after names (is_file_of from) (λ files. plan_from files names from) result view → IfErr result (IsPlanRefusal source names (held before) (blamed after, given after) (faults before) (faults after))
plan-refused held faults blamed before after names source from (Ok a) view same reading = tt
plan-refused held faults blamed before after names source from (Err (Unreadable file)) view same reading = (let (may, rose, name) = reading.blames file refl in (ap (λ s. is_file_of s file) (sym same) ∙ may, rose, name))
plan-refused held faults blamed before after names source from (Err Memory) view same reading = tt
plan-refused held faults blamed before after names source from (Err (TooLarge x)) view same reading =
    let (may, size) = reading.sizes x refl in
    let (found, of_bytes) = due held faults blamed before after names (is_file_of from) source from (TooLarge x) view same reading (λ file is. cc is) (λ is. cc is) refl in
    (ap (λ s. is_file_of s x) (sym same) ∙ may, size, of_bytes)
plan-refused held faults blamed before after names source from (Err (BadTasks x)) view same reading = due held faults blamed before after names (is_file_of from) source from (BadTasks x) view same reading (λ file is. cc is) (λ is. cc is) refl
plan-refused held faults blamed before after names source from (Err (Infeasible x)) view same reading = due held faults blamed before after names (is_file_of from) source from (Infeasible x) view same reading (λ file is. cc is) (λ is. cc is) refl
plan-refused held faults blamed before after names source from (Err (BadTable x)) view same reading = due held faults blamed before after names (is_file_of from) source from (BadTable x) view same reading (λ file is. cc is) (λ is. cc is) refl
plan-refused held faults blamed before after names source from (Err (BadArrivals x)) view same reading = due held faults blamed before after names (is_file_of from) source from (BadArrivals x) view same reading (λ file is. cc is) (λ is. cc is) refl
plan-refused held faults blamed before after names source from (Err (NotVerified x)) view same reading = due held faults blamed before after names (is_file_of from) source from (NotVerified x) view same reading (λ file is. cc is) (λ is. cc is) refl
plan-refused held faults blamed before after names source from (Err (BadSecond x)) view same reading = due held faults blamed before after names (is_file_of from) source from (BadSecond x) view same reading (λ file is. cc is) (λ is. cc is) refl
plan-refused held faults blamed before after names source from (Err (SecondInfeasible x)) view same reading = due held faults blamed before after names (is_file_of from) source from (SecondInfeasible x) view same reading (λ file is. cc is) (λ is. cc is) refl
plan-refused held faults blamed before after names source from (Err (NoRow x)) view same reading = due held faults blamed before after names (is_file_of from) source from (NoRow x) view same reading (λ file is. cc is) (λ is. cc is) refl
plan-refused held faults blamed before after names source from (Err (NotCycleEnd x)) view same reading = due held faults blamed before after names (is_file_of from) source from (NotCycleEnd x) view same reading (λ file is. cc is) (λ is. cc is) refl
plan-refused held faults blamed before after names source from (Err (NoChange x)) view same reading = absurd (unfound (NoChange x) (is_file_of from) (λ file is. cc is) (λ is. cc is) refl reading.refuses)
plan-refused held faults blamed before after names source from (Err Usage) view same reading = unfound Usage (is_file_of from) (λ file is. cc is) (λ is. cc is) refl reading.refuses
plan-refused held faults blamed before after names source from (Err WriteFault) view same reading = unfound WriteFault (is_file_of from) (λ file is. cc is) (λ is. cc is) refl reading.refuses

-- a plan that is given is the one that its file calls for
pub plan-given : {S A : Type 0} {given : S → Option (List ℕ × ℕ)} (held : S → Option Held) (faults : S → ℕ) (blamed : S → Option (List ℕ)) (before after : S) (names : List (List ℕ)) (may : File → Bool) (source : Source) (from : PlanSource) (result : Outcome A) (view : A → PlanParts) → from ≡ plan_source source → IsReading held faults blamed given before after names may (λ files. plan_from files names from) result view → IfOk result (λ a. IsPlan (view a)) → IfOk result (λ a. IsPlanOf source names (held before) (view a))
plan-given held faults blamed before after names may source from (Err e) view same reading is_plan = tt
plan-given held faults blamed before after names may source from (Ok a) view same reading is_plan =
    (is_plan, by_held (held before) refl)
  where
    by_held : (o : Option Held) → held before ≡ o → IfSome o (λ files. plan_from files names (plan_source source) ≡ Ok (view a))
    by_held None is = tt
    by_held (Some files) is = ap (λ s. plan_from files names s) (sym same) ∙ reading.answers files is

-- the lines whose text the bytes are are those of the input
pub input-lines : (bytes : List ℕ) (held : Option Held) (lines : List TraceLine) → IfSome held (λ files. Holds files bytes) → IsTraceText bytes lines → AreInput held lines
input-lines bytes held lines holds (trace, text) = (trace, subst (λ t. IfSome held (λ files. Holds files t)) text holds)

-- what is read of them is what is shown
pub input-shown : {E : Type 0} (slots : Option Slots) (r : Result Part E) (bytes : List ℕ) (held : Option Held) → IfSome held (λ files. Holds files bytes) → IfOk r (λ part. (lines : List TraceLine) × IsTraceText bytes lines × IsShown slots lines part.lines.items part.number) → IfOk r (λ part. (lines : List TraceLine) × AreInput held lines × IsShown slots lines part.lines.items part.number)
input-shown slots (Ok part) bytes held holds (lines, text, shown) = (lines, input-lines bytes held lines holds text, shown)
input-shown slots (Err e) bytes held holds shown = tt

-- what holds of the bytes holds of what the input holds
such : (bytes : List ℕ) (held : Option Held) (IsSo : List ℕ → Type 0) → IfSome held (λ files. Holds files bytes) → IsSo bytes → HoldsSuch held IsSo
such bytes held IsSo holds so = if_some held (λ files text. (bytes, text, so)) holds

-- so of why they are not shown
unread-such : (slots : Option Slots) (bytes : List ℕ) (held : Option Held) (e : Refusal) → IfSome held (λ files. Holds files bytes) → IsUnread slots (λ IsSo. IsSo bytes) e → IsUnread slots (HoldsSuch held) e
unread-such slots bytes held e holds (inl (n, same, breaks)) = inl (n, same, such bytes held (λ text. Breaks text n) holds breaks)
unread-such slots bytes held e holds (inr (inl (same, long))) = inr (inl (same, such bytes held (IsLong (slots_kept slots)) holds long))
unread-such None bytes held e holds (inr (inr past)) = absurd past
unread-such (Some slots) bytes held e holds (inr (inr (same, ends))) = inr (inr (same, such bytes held (EndsBefore slots.from) holds ends))

-- lines that are not read have a cause in what the input holds
pub lines-refused : {V : Type 0} (slots : Option Slots) (r : Result V Refusal) (bytes : List ℕ) (held : Option Held) (told : Told) (before after : ℕ) → IfSome held (λ files. Holds files bytes) → IfErr r (λ e. (e ≡ Memory) ⊎ IsUnread slots (λ IsSo. IsSo bytes) e) → IfErr r (IsInputRefusal slots held told before after)
lines-refused slots (Ok v) bytes held told before after holds cause = tt
lines-refused slots (Err e) bytes held told before after holds (inl memory) = inl (subst (IsByteRefusal held told before after) (sym memory) tt)
lines-refused slots (Err e) bytes held told before after holds (inr unread) =
    inr (unread-such slots bytes held e holds unread)

-- a text that is no supply is a cause in what the input holds
pub supply-refused : {V : Type 0} (r : Result V Refusal) (bytes : List ℕ) (held : Option Held) (told : Told) (before after : ℕ) → IfSome held (λ files. Holds files bytes) → IfErr r (λ e. (e ≡ Memory) ⊎ IsNoSupply (λ IsSo. IsSo bytes) e) → IfErr r (IsSupplyRefusal held told before after)
supply-refused (Ok v) bytes held told before after holds cause = tt
supply-refused (Err e) bytes held told before after holds (inl memory) = inl (subst (IsByteRefusal held told before after) (sym memory) tt)
supply-refused (Err e) bytes held told before after holds (inr (n, same, breaks)) = inr (n, same, such bytes held (λ text. StepsBreak text n) holds breaks)

-- a supply that is not read breaks at a line, or memory ran out
pub of_supply-cause : (bytes : List ℕ) (fault : StairsFault) → ((n : ℕ) → fault ≡ NoStep n → StepsBreak bytes n) → (of_supply fault ≡ Memory) ⊎ IsNoSupply (λ IsSo. IsSo bytes) (of_supply fault)
of_supply-cause bytes StairsMemory breaks = inl refl
of_supply-cause bytes (NoStep n) breaks = inr (n, refl, breaks n refl)

-- lines whose text the bytes are are those of the supply on the input
pub supply-read : {E : Type 0} (r : Result (Vec Step Global) E) (bytes : List ℕ) (held : Option Held) → IfSome held (λ files. Holds files bytes) → IfOk r (λ steps. bytes ≡ steps_text steps.items) → IfOk r (λ steps. AreStairs steps.items) → IfOk r (λ steps. AreSupply held steps.items)
supply-read (Ok steps) bytes held holds text are = (are, subst (λ t. IfSome held (λ files. Holds files t)) text holds)
supply-read (Err e) bytes held holds text are = tt

-- a refusal whose status is a failed write is one
pub write-by_status : (e : Refusal) → refusal_status e ≡ Status.WriteFault → e ≡ WriteFault
write-by_status WriteFault is = refl
write-by_status Usage is = cc is
write-by_status (Unreadable x) is = cc is
write-by_status (TooLarge x) is = cc is
write-by_status (BadTasks x) is = cc is
write-by_status (Infeasible x) is = cc is
write-by_status (BadTable x) is = cc is
write-by_status (BadArrivals x) is = cc is
write-by_status (NotVerified x) is = cc is
write-by_status (BadSecond x) is = cc is
write-by_status (SecondInfeasible x) is = cc is
write-by_status (NoRow x) is = cc is
write-by_status (NotCycleEnd x) is = cc is
write-by_status (NoChange x) is = cc is
write-by_status Memory is = cc is

-- a table of jobs that is refused for a failed write had one
pub jobs-failed : (fault : JobsFault) → of_jobs fault ≡ WriteFault → fault ≡ JobsFailed
jobs-failed JobsMemory is = cc is
jobs-failed JobsFailed is = refl
jobs-failed (NoJobLine n) is = cc is

-- faulty words are no refusal of a view
pub refused-no_usage : (view : View) (names : List (List ℕ)) (files input : Option Held) (files_told input_told : Told) (of_files of_input of_output : ℕ × ℕ) (e : Refusal) → IsRefused view names files input files_told input_told of_files of_input of_output e → refusal_status e ≡ Status.Usage → ⊥
refused-no_usage view names files input files_told input_told of_files of_input of_output (Unreadable x) cause usage = cc usage
refused-no_usage view names files input files_told input_told of_files of_input of_output (TooLarge x) cause usage = cc usage
refused-no_usage view names files input files_told input_told of_files of_input of_output (BadTasks x) cause usage = cc usage
refused-no_usage view names files input files_told input_told of_files of_input of_output (Infeasible x) cause usage = cc usage
refused-no_usage view names files input files_told input_told of_files of_input of_output (BadTable x) cause usage = cc usage
refused-no_usage view names files input files_told input_told of_files of_input of_output (BadArrivals x) cause usage = cc usage
refused-no_usage view names files input files_told input_told of_files of_input of_output (NotVerified x) cause usage = cc usage
refused-no_usage view names files input files_told input_told of_files of_input of_output (BadSecond x) cause usage = cc usage
refused-no_usage view names files input files_told input_told of_files of_input of_output (SecondInfeasible x) cause usage = cc usage
refused-no_usage view names files input files_told input_told of_files of_input of_output (NoRow x) cause usage = cc usage
refused-no_usage view names files input files_told input_told of_files of_input of_output (NotCycleEnd x) cause usage = cc usage
refused-no_usage view names files input files_told input_told of_files of_input of_output (NoChange x) cause usage = cc usage
refused-no_usage view names files input files_told input_told of_files of_input of_output WriteFault cause usage = cc usage
refused-no_usage view names files input files_told input_told of_files of_input of_output Memory cause usage = cc usage
refused-no_usage view names files input files_told input_told of_files of_input of_output Usage (inl memory) usage = cc memory
refused-no_usage (Lines view slots) names files input files_told input_told of_files of_input of_output Usage (inr (inl plan)) usage = plan
refused-no_usage (Planned view source) names files input files_told input_told of_files of_input of_output Usage (inr (inl plan)) usage = plan
refused-no_usage Stairs names files input files_told input_told of_files of_input of_output Usage (inr (inl plan)) usage = plan
refused-no_usage (Lines view slots) names files input files_told input_told of_files of_input of_output Usage (inr (inr (inl (plan, inl bytes)))) usage = bytes
refused-no_usage (Lines view slots) names files input files_told input_told of_files of_input of_output Usage (inr (inr (inl (plan, inr (inl (n, same, breaks)))))) usage = cc same
refused-no_usage (Lines view slots) names files input files_told input_told of_files of_input of_output Usage (inr (inr (inl (plan, inr (inr (inl (same, long))))))) usage = cc same
refused-no_usage (Planned view source) names files input files_told input_told of_files of_input of_output Usage (inr (inr (inl (plan, inl bytes)))) usage = bytes
refused-no_usage (Planned view source) names files input files_told input_told of_files of_input of_output Usage (inr (inr (inl (plan, inr (inl (n, same, breaks)))))) usage = cc same
refused-no_usage (Planned view source) names files input files_told input_told of_files of_input of_output Usage (inr (inr (inl (plan, inr (inr (inl (same, long))))))) usage = cc same
refused-no_usage (Lines view None) names files input files_told input_told of_files of_input of_output Usage (inr (inr (inl (plan, inr (inr (inr past)))))) usage = past
refused-no_usage (Lines view (Some slots)) names files input files_told input_told of_files of_input of_output Usage (inr (inr (inl (plan, inr (inr (inr (same, ends))))))) usage = cc same
refused-no_usage (Planned Jobs source) names files input files_told input_told of_files of_input of_output Usage (inr (inr (inl (plan, inr (inr (inr past)))))) usage = past
refused-no_usage (Planned (Tasks None) source) names files input files_told input_told of_files of_input of_output Usage (inr (inr (inl (plan, inr (inr (inr past)))))) usage = past
refused-no_usage (Planned (Tasks (Some slots)) source) names files input files_told input_told of_files of_input of_output Usage (inr (inr (inl (plan, inr (inr (inr (same, ends))))))) usage = cc same
refused-no_usage Stairs names files input files_told input_told of_files of_input of_output Usage (inr (inr (inl (plan, inl bytes)))) usage = bytes
refused-no_usage Stairs names files input files_told input_told of_files of_input of_output Usage (inr (inr (inl (plan, inr (n, same, breaks))))) usage = cc same
refused-no_usage Stairs names files input files_told input_told of_files of_input of_output Usage (inr (inr (inr (steps, are, same, rose)))) usage = cc same
refused-no_usage (Lines Picture slots) names files input files_told input_told of_files of_input of_output Usage (inr (inr (inr (lines, are, cause)))) usage = cause
refused-no_usage (Lines Events slots) names files input files_told input_told of_files of_input of_output Usage (inr (inr (inr (lines, are, cause)))) usage = cause
refused-no_usage (Lines Spans slots) names files input files_told input_told of_files of_input of_output Usage (inr (inr (inr (lines, are, cause)))) usage = cause
refused-no_usage (Lines Waves slots) names files input files_told input_told of_files of_input of_output Usage (inr (inr (inr (lines, are, cause)))) usage = cause
refused-no_usage (Planned Jobs source) names files input files_told input_told of_files of_input of_output Usage (inr (inr (inr (lines, are, (plan, own, cause))))) usage = cause
refused-no_usage (Planned (Tasks slots) source) names files input files_told input_told of_files of_input of_output Usage (inr (inr (inr (lines, are, (plan, own, cause))))) usage = cause
