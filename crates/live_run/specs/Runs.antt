-- What a live run has to do.
use Rattle.std.specs.Prelude.{◌≡◌, ◌⊎◌, ℕ, Bool, true, false, List, [], ◌∷◌, ◌++◌, codes, Option, None, Some, Ok, Err}
use Rattle.std.specs.Option.{option_map_or}
use Rattle.slot_core.specs.Calls.Counts.{Rose}
use Rattle.slot_core.specs.Keeping.Plans.{PlanParts, IsPlan}
use Rattle.slot_io.specs.Files.{Held}
use Rattle.live_lines.specs.Lines.{Heard}
use Rattle.live_run.specs.declared.streams.DialogueFault.TheVariants.{Input, Record, Output}
use Rattle.live_run.specs.Streams.{Seen, IsDialogue, IsBroken}
use Rattle.command_line.specs.declared.refusal.Refusal.TheVariants.{WriteFault, Memory}
use Rattle.command_line.specs.declared.status.Status.{Status}
use Rattle.command_line.specs.Refusals.{Outcome}
use Rattle.command_line.specs.Reports.{IsTold}
use Rattle.command_line.specs.Commands.{is_file_of}
use Rattle.run_steps.specs.Readings.{plan_from}
use Rattle.run_steps.specs.Steps.{IsReading}
use Rattle.live_run.specs.declared.call.LiveCall.{LiveCall}
use Rattle.live_run.specs.declared.refusal.LiveRefusal.{LiveRefusal}
use Rattle.live_run.specs.declared.refusal.LiveRefusal.TheVariants.{Usage, Run, Unmade, Unrecorded, Unheard}
use Rattle.live_run.specs.Calls.{live_call_of, plan_words, record_name}
use Rattle.live_run.specs.Records.{IsReady}
use Rattle.live_run.specs.Refusals.{LiveOutcome, is_fixed, live_line, live_status}

-- the streams where the record could not be made: nothing is written, and that is counted
pub record IsUnmade (before after : Seen) : Type 0 where
  pub others : after ≡ record before { rows_lost = after.rows_lost }
  pub lost : Rose before.rows_lost after.rows_lost

-- how the answering of lines by the executive of a plan ends, over a source of which contracts see
-- what it gave, where a read failed and how many did: with a dialogue that is over, or one that is
-- broken as the refusal says; or before the first line, where the record could not be made or
-- memory ran out
abbrev pub IsTalk : {S X : Type 0} → (S → S → List Heard → Type 0) → (S → S → Type 0) → (S → ℕ)
    → PlanParts → Bool → S → S → Seen → Seen → LiveOutcome X → Type 0
IsTalk Gave Broke misread plan recorded from to before after (Ok done) =
    (ready : Seen) × IsReady recorded before ready
    × IsDialogue plan.tasks plan.cycle (Gave from to) ready after
IsTalk Gave Broke misread plan recorded from to before after (Err Unheard) =
    (ready : Seen) × IsReady recorded before ready
    × IsBroken Gave Broke misread plan.tasks plan.cycle Input from to ready after
IsTalk Gave Broke misread plan recorded from to before after (Err Unrecorded) =
    (ready : Seen) × IsReady recorded before ready
    × IsBroken Gave Broke misread plan.tasks plan.cycle Record from to ready after
IsTalk Gave Broke misread plan recorded from to before after (Err (Run WriteFault)) =
    (ready : Seen) × IsReady recorded before ready
    × IsBroken Gave Broke misread plan.tasks plan.cycle Output from to ready after
IsTalk Gave Broke misread plan recorded from to before after (Err Unmade) =
    (recorded ≡ true) × (to ≡ from) × IsUnmade before after
IsTalk Gave Broke misread plan recorded from to before after (Err (Run Memory)) =
    (to ≡ from) × (after ≡ before)
IsTalk Gave Broke misread plan recorded from to before after (Err refusal) = ⊥

-- what follows where a plan is made: lines are answered by it; where it is refused nothing is read
-- and nothing is put
abbrev pub IsTalkAfter : {S X : Type 0} → (S → S → List Heard → Type 0) → (S → S → Type 0)
    → (S → ℕ) → Bool → S → S → Seen → Seen → LiveOutcome X → Outcome PlanParts → Type 0
IsTalkAfter Gave Broke misread recorded from to before after result (Ok plan) =
    IsPlan plan × IsTalk Gave Broke misread plan recorded from to before after result
IsTalkAfter Gave Broke misread recorded from to before after result (Err refusal) =
    (result ≡ Err (Run refusal)) × (to ≡ from) × (after ≡ before)

-- the work of a call, over files of which contracts see `held`, `faults`, `blamed` and
-- `given`
pub record IsLiveWork {D S X : Type 0} (held : D → Option Held) (faults : D → ℕ)
    (blamed : D → Option (List ℕ)) (given : D → Option (List ℕ × ℕ))
    (Gave : S → S → List Heard → Type 0) (Broke : S → S → Type 0) (misread : S → ℕ)
    (files_before files_after : D) (names : List (List ℕ)) (call : LiveCall) (from to : S)
    (before after : Seen) (result : LiveOutcome X) : Type 0 where
  -- the plan, or why there is none
  pub made : Outcome PlanParts
  -- it is what the files call for
  pub reading : IsReading held faults blamed given files_before files_after names
      (is_file_of call.source) (λ files. plan_from files names call.source) made (λ plan. plan)
  -- what follows it
  pub talk : IsTalkAfter Gave Broke misread call.is_recorded from to before after result made

-- how a refusal is told: it stays, or is want of memory for a line with values, and its line is put
pub record IsLiveReport (words names : List (List ℕ)) (refusal reported : LiveRefusal)
    (before after : Option (List ℕ)) (faults_before faults_after : ℕ) : Type 0 where
  pub kept : (reported ≡ refusal) ⊎ ((reported ≡ Run Memory) × (is_fixed refusal ≡ false))
  pub told : IsTold (live_line words names reported) before after faults_before faults_after

-- how it is told that the record cannot be written
abbrev pub IsRecordReport : List (List ℕ) → LiveRefusal → LiveRefusal
    → Option (List ℕ) → Option (List ℕ) → ℕ → ℕ → Type 0
IsRecordReport words refusal reported before after faults_before faults_after =
    ((reported ≡ refusal)
    × IsTold (codes "cannot write " ++ record_name words ++ 10 ∷ []) before after faults_before
    faults_after)
    ⊎ ((reported ≡ Run Memory)
    × IsTold (codes "out of memory" ++ 10 ∷ []) before after faults_before faults_after)

-- a refusal is told, and this is the status
abbrev pub IsStatusTold : List (List ℕ) → List (List ℕ) → LiveRefusal
    → Option (List ℕ) → Option (List ℕ) → ℕ → ℕ → Status → Type 0
IsStatusTold words names refusal before after faults_before faults_after status =
    (reported : LiveRefusal) × (status ≡ live_status reported)
    × IsLiveReport words names refusal reported before after faults_before faults_after

-- the end of a run: nothing more is put where it is done, and else the line of its refusal
abbrev pub IsEnd : List (List ℕ) → List (List ℕ) → Seen → Seen → Status
    → LiveOutcome (Unit {0}) → Type 0
IsEnd words names before after status (Ok done) =
    (status ≡ Status.Done) × (after ≡ before)
IsEnd words names before after status (Err refusal) =
    IsStatusTold words names refusal before.faults after.faults before.faults_lost
    after.faults_lost status
    × (after ≡ record before { faults = after.faults; faults_lost = after.faults_lost })

-- the work of the words: none where they write no call; and memory may run out before it
abbrev pub IsWorkOf : {D S X : Type 0} → (D → Option Held) → (D → ℕ) → (D → Option (List ℕ))
    → (D → Option (List ℕ × ℕ)) → (S → S → List Heard → Type 0) → (S → S → Type 0) → (S → ℕ)
    → D → D → List (List ℕ) → Option LiveCall → S → S → Seen → Seen → LiveOutcome X → Type 0
IsWorkOf held faults blamed given Gave Broke misread files files_after words None from to before
    after result =
    (result ≡ Err Usage) × (files_after ≡ files) × (to ≡ from) × (after ≡ before)
IsWorkOf held faults blamed given Gave Broke misread files files_after words (Some call) from to
    before after result =
    IsLiveWork held faults blamed given Gave Broke misread files files_after
    (plan_words words call) call from to before after result
    ⊎ ((result ≡ Err (Run Memory)) × (files_after ≡ files) × (to ≡ from) × (after ≡ before))

-- the run of a call, with the words by which its plan is read and blamed
pub record IsRunOf {D S : Type 0} (held : D → Option Held) (faults : D → ℕ)
    (blamed : D → Option (List ℕ)) (given : D → Option (List ℕ × ℕ))
    (Gave : S → S → List Heard → Type 0) (Broke : S → S → Type 0) (misread : S → ℕ)
    (files_before files_after : D) (words : List (List ℕ)) (call : Option LiveCall)
    (names : List (List ℕ)) (from to : S) (before after : Seen) (status : Status) : Type 0 where
  -- how the work comes out, and what the streams are then
  pub outcome : LiveOutcome (Unit {0})
  pub ended : Seen
  -- the work of the call
  pub works : IsWorkOf held faults blamed given Gave Broke misread files_before files_after words
      call from to before ended outcome
  -- what is told of it
  pub ends : IsEnd words names ended after status outcome

-- the words by which the plan is read and blamed
abbrev pub names_of : List (List ℕ) → List (List ℕ)
names_of words = option_map_or (plan_words words) (live_call_of words) []

-- a run as a whole: that of the call that the words write
abbrev pub IsLiveRun : {D S : Type 0} → (D → Option Held) → (D → ℕ) → (D → Option (List ℕ))
    → (D → Option (List ℕ × ℕ)) → (S → S → List Heard → Type 0) → (S → S → Type 0) → (S → ℕ)
    → D → D → List (List ℕ) → S → S → Seen → Seen → Status → Type 0
IsLiveRun held faults blamed given Gave Broke misread files files_after words from to before after
    status =
    IsRunOf held faults blamed given Gave Broke misread files files_after words (live_call_of words)
    (names_of words) from to before after status
