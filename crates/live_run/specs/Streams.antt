-- What a dialogue puts on its streams: the answers, the rows of the record, and the faults.
use Rattle.std.specs.Prelude.{◌≡◌, ◌<◌, ◌≤◌, ◌⊎◌, ℕ, ◌+◌, ◌-◌, ◌^◌, true, List, [], ◌∷◌, ◌++◌, flat_map, length, Option, Ok, Err, ⊤}
use Rattle.std.specs.Io.KnownBytes.{Appends}
use Rattle.slot_core.specs.Calls.Counts.{Rose}
use Rattle.slot_core.specs.declared.tasks.TaskSet.{TaskSet}
use Rattle.slot_core.specs.declared.TheConstants.{ARRIVAL_LIMIT, TIME_LIMIT}
use Rattle.slot_core.specs.Keeping.Executives.{Executive}
use Rattle.slot_core.specs.Runs.Arrivals.{event_fits}
use Rattle.slot_core.specs.Runs.Histories.{History}
use Rattle.slot_core.specs.Runs.Traces.{started}
use Rattle.slot_io.specs.Sinks.{AppendsPart}
use Rattle.live_lines.specs.Lines.{Heard}
use Rattle.live_lines.specs.declared.commands.LiveCommand.TheVariants.{Arrive, Pass, Ahead, Carried, End}
use Rattle.live_lines.specs.Commands.{Asked}
use Rattle.live_lines.specs.Rows.{record_text}
use Rattle.live_run.specs.declared.streams.DialogueFault.{DialogueFault}
use Rattle.live_run.specs.declared.streams.DialogueFault.TheVariants.{Input, Record, Output}
use Rattle.live_run.specs.declared.streams.Streams.{Streams}
use Rattle.live_run.specs.Dialogues.{asked, exchanges, history_heard, faults_text, rows_text, start_text, answer_text, fault_text, arrival_made, AreAnswers, GoesOn, IsAnswer, IsOver}

-- texts for the streams
pub record Texts : Type 0 where
  pub answers : List ℕ
  pub rows : List ℕ
  pub faults : List ℕ

-- the texts of one exchange that this text answers
abbrev pub texts_with : TaskSet → ℕ → History → Asked → List ℕ → Texts
texts_with set number h a text = record {
  answers = text;
  rows = record_text set (arrival_made h a);
  faults = fault_text number a;
}

-- the texts of one exchange other than a look ahead
abbrev pub exchange_texts : TaskSet → ℕ → ℕ → History → Asked → Texts
exchange_texts set cycle number h a = texts_with set number h a (answer_text set cycle h a)

-- what is asked for fits the plan of an executive, and its time and its last row
abbrev pub FitsNow : Executive → Asked → Type 0
FitsNow exec (Ok (Arrive event)) =
    (event_fits exec.plan.tasks event ≡ true) × (exec.last_row < ARRIVAL_LIMIT)
    × (exec.scene.time ≤ TIME_LIMIT)
FitsNow exec (Ok (Pass slots)) = exec.scene.time + slots ≤ TIME_LIMIT
FitsNow exec (Ok (Ahead slots)) = 1 ≤ slots
FitsNow exec (Ok (Carried keep)) = ⊤
FitsNow exec (Ok End) = ⊤
FitsNow exec (Err fault) = ⊤

-- the texts of a dialogue: the first line and these answers, and what records and blames what is
-- heard
abbrev pub dialogue_texts : TaskSet → ℕ → List Heard → List (List ℕ) → Texts
dialogue_texts set cycle heards answers =
    let xs = exchanges set cycle heards in record {
      answers = start_text set cycle ++ flat_map (λ text. text) answers;
      rows = rows_text set xs;
      faults = faults_text xs;
    }

-- what contracts see of the streams: the bytes of each sink, where they are told, and how many of
-- its puts failed
pub record Seen : Type 0 where
  pub answers : Option (List ℕ)
  pub answers_lost : ℕ
  pub rows : Option (List ℕ)
  pub rows_lost : ℕ
  pub faults : Option (List ℕ)
  pub faults_lost : ℕ

-- the streams, as their sinks tell them
abbrev pub seen : {K R E : Type 0} → (K → Option (List ℕ)) → (K → ℕ) → (R → Option (List ℕ))
    → (R → ℕ) → (E → Option (List ℕ)) → (E → ℕ) → Streams K R E → Seen
seen answers answers_lost rows rows_lost faults faults_lost s = record {
  answers = answers s.answers;
  answers_lost = answers_lost s.answers;
  rows = rows s.rows;
  rows_lost = rows_lost s.rows;
  faults = faults s.faults;
  faults_lost = faults_lost s.faults;
}

-- no count of failed puts falls
pub record IsCounted (before after : Seen) : Type 0 where
  pub answers : before.answers_lost ≤ after.answers_lost
  pub rows : before.rows_lost ≤ after.rows_lost
  pub faults : before.faults_lost ≤ after.faults_lost

-- a text of faults is told, or a put of it failed, which is counted
abbrev pub AreFaultsTold : Seen → Seen → List ℕ → Type 0
AreFaultsTold before after text =
    Appends before.faults after.faults text ⊎ Rose before.faults_lost after.faults_lost

-- the texts are put
pub record ArePut (before after : Seen) (texts : Texts) : Type 0 where
  pub answers : Appends before.answers after.answers texts.answers
  pub rows : Appends before.rows after.rows texts.rows
  pub faults : AreFaultsTold before after texts.faults
  pub counted : IsCounted before after

-- a put of the row failed: a part of it is put, and nothing of the answer
pub record BreaksInRow (before after : Seen) (texts : Texts) : Type 0 where
  pub rows : AppendsPart before.rows after.rows texts.rows
  pub answers : after.answers ≡ before.answers
  pub failed : Rose before.rows_lost after.rows_lost

-- a put of the answer failed: the row is put, and a part of the answer
pub record BreaksInAnswer (before after : Seen) (texts : Texts) : Type 0 where
  pub rows : Appends before.rows after.rows texts.rows
  pub answers : AppendsPart before.answers after.answers texts.answers
  pub failed : Rose before.answers_lost after.answers_lost

-- the put that failed is one of those that the fault names
abbrev pub BreaksAt : DialogueFault → Seen → Seen → Texts → Type 0
BreaksAt Input before after texts = ⊥
BreaksAt Record before after texts = BreaksInRow before after texts
BreaksAt Output before after texts = BreaksInAnswer before after texts

-- the texts are put up to a put that failed: first the faults, then the row, then the answer
pub record ArePutInPart (fault : DialogueFault) (before after : Seen) (texts : Texts) : Type 0 where
  pub breaks : BreaksAt fault before after texts
  pub faults : AreFaultsTold before after texts.faults
  pub counted : IsCounted before after

-- what is asked for in the line of this number is answered
abbrev pub IsAnswered : TaskSet → ℕ → ℕ → History → Asked → Seen → Seen → Type 0
IsAnswered set cycle number h a before after =
    (text : List ℕ) × IsAnswer set cycle h a text
    × ArePut before after (texts_with set number h a text)

-- it is answered up to a put that failed
abbrev pub IsAnsweredInPart :
    TaskSet → ℕ → ℕ → DialogueFault → History → Asked → Seen → Seen → Type 0
IsAnsweredInPart set cycle number fault h a before after =
    (text : List ℕ) × IsAnswer set cycle h a text
    × ArePutInPart fault before after (texts_with set number h a text)

-- all that is heard is answered: the first line is put, and the texts of one exchange after the
-- other
abbrev pub AreAnswered : TaskSet → ℕ → List Heard → Seen → Seen → Type 0
AreAnswered set cycle heards before after =
    (answers : List (List ℕ)) × AreAnswers set cycle (exchanges set cycle heards) answers
    × ArePut before after (dialogue_texts set cycle heards answers)

-- a dialogue is over: the source gave what was heard, with which the end was asked for, and all of
-- it is answered
pub record IsDialogue (set : TaskSet) (cycle : ℕ) (Gave : List Heard → Type 0) (before after : Seen)
    : Type 0 where
  pub heards : List Heard
  pub gave : Gave heards
  pub over : IsOver set heards
  pub put : AreAnswered set cycle heards before after

-- a dialogue is left: all that the source gave is answered, and the end was not asked for
pub record IsLeft (set : TaskSet) (cycle : ℕ) (Gave : List Heard → Type 0) (before after : Seen)
    : Type 0 where
  pub heards : List Heard
  pub gave : Gave heards
  pub goes_on : GoesOn set heards
  pub put : AreAnswered set cycle heards before after

-- the last that is heard, after others, is answered up to a put that failed
abbrev pub IsLastInPart :
    TaskSet → ℕ → DialogueFault → List Heard → Heard → Seen → Seen → Type 0
IsLastInPart set cycle fault first last before after =
    let h = history_heard set cycle started first in
    IsAnsweredInPart set cycle (length first + 1) fault h (asked set h last) before after

-- a dialogue is cut off in its first line: nothing is heard, and a part of the line is put
pub record IsCutAtStart (set : TaskSet) (cycle : ℕ) (Gave : List Heard → Type 0)
    (fault : DialogueFault) (before after : Seen) : Type 0 where
  pub gave : Gave []
  pub part : ArePutInPart fault before after (dialogue_texts set cycle [] [])

-- a dialogue is cut off in the answer to the last that is heard: all before it is answered, in
-- which the end is not asked for, and after that a part of its own texts is put
pub record IsCutInAnswer (set : TaskSet) (cycle : ℕ) (Gave : List Heard → Type 0)
    (fault : DialogueFault) (before after : Seen) : Type 0 where
  pub first : List Heard
  pub last : Heard
  pub gave : Gave (first ++ last ∷ [])
  pub goes_on : GoesOn set first
  pub between : Seen
  pub put : AreAnswered set cycle first before between
  pub part : IsLastInPart set cycle fault first last between after

-- a read failed after the last that was heard, which is counted
pub record IsMisread {S : Type 0} (Broke : S → S → Type 0) (misread : S → ℕ) (from between to : S)
    : Type 0 where
  pub broke : Broke between to
  pub failed : Rose (misread from) (misread to)

-- why a dialogue is left: a read failed after what was heard, or as many lines came as can be
-- counted
abbrev pub IsCauseToLeave : {S : Type 0} → (S → S → Type 0) → (S → ℕ) → S → S → S → List Heard
    → Type 0
IsCauseToLeave Broke misread from between to heards =
    IsMisread Broke misread from between to
    ⊎ ((length heards ≡ 2 ^ 64 - 1) × (to ≡ between))

-- how a dialogue ends before the end is asked for: it is left where a read failed, or where as many
-- lines came as can be counted, and cut off where a put failed
abbrev pub IsBroken : {S : Type 0} → (S → S → List Heard → Type 0) → (S → S → Type 0) → (S → ℕ)
    → TaskSet → ℕ → DialogueFault → S → S → Seen → Seen → Type 0
IsBroken {S} Gave Broke misread set cycle Input from to before after =
    (between : S) × (left : IsLeft set cycle (Gave from between) before after)
    × IsCauseToLeave Broke misread from between to left.heards
IsBroken {S} Gave Broke misread set cycle fault from to before after =
    IsCutAtStart set cycle (Gave from to) fault before after
    ⊎ IsCutInAnswer set cycle (Gave from to) fault before after
