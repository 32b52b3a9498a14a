-- What the line of an arrival tells, by columns.
use Rattle.std.specs.Prelude.{ℕ, List, [], codes, Option, Some, None}
use Rattle.slot_core.specs.declared.events.Soft.{Soft as SoftAnswer}
use Rattle.slot_core.specs.declared.events.Soft.TheVariants.{Taken as SoftTaken, Full}
use Rattle.slot_core.specs.declared.events.Firm.{Firm as FirmAnswer}
use Rattle.slot_core.specs.declared.events.Firm.TheVariants.{Accepted, Late, Far, NoRoom}
use Rattle.slot_core.specs.declared.events.Spo.{Spo}
use Rattle.slot_core.specs.declared.events.Spo.TheVariants.{Taken as SporadicTaken, Soon}
use Rattle.slot_core.specs.declared.events.Done.{Done as DoneAnswer}
use Rattle.slot_core.specs.declared.events.Done.TheVariants.{Freed, NotRunning}
use Rattle.slot_core.specs.declared.events.Gone.{Gone}
use Rattle.slot_core.specs.declared.events.Gone.TheVariants.{Freed as GoneFreed, NoJob}
use Rattle.trace_lines.specs.declared.line.KeyName.TheVariants.{Sporadic as SporadicKey, Firm as FirmKey, Soft as SoftKey}
use Rattle.trace_lines.specs.declared.line.Words.{Words}
use Rattle.trace_lines.specs.declared.line.Words.TheVariants.{Soft, Firm, Sporadic, Done, Withdraw}
use Rattle.trace_lines.specs.Texts.{key_text}
use Rattle.view_tables.specs.declared.told.Told.{Told}

-- the row of an arrival, with no other number
abbrev pub bare : ℕ → Told
bare row = record {
  row = row;
  slots = None;
  within = None;
  waiting = None;
  until = None;
  need = None;
  room = None;
  deadline = None;
  next = None;
  freed = None;
}

-- the numbers of an answer to soft work
abbrev pub soft_told : ℕ → SoftAnswer → Told
soft_told row SoftTaken = bare row
soft_told row (Full waiting) = record (bare row) { waiting = Some waiting }

-- to a firm task
abbrev pub firm_told : ℕ → FirmAnswer → Told
firm_told row (NoRoom e) =
    record (bare row) { until = Some e.until; need = Some e.need; room = Some e.room }
firm_told row _ = bare row

-- to a sporadic arrival
abbrev pub sporadic_told : ℕ → Spo → Told
sporadic_told row (SporadicTaken deadline) = record (bare row) { deadline = Some deadline }
sporadic_told row (Soon next) = record (bare row) { next = Some next }

-- to an early end
abbrev pub done_told : ℕ → DoneAnswer → Told
done_told row (Freed freed) = record (bare row) { freed = Some freed }
done_told row NotRunning = bare row

-- to a withdrawal
abbrev pub gone_told : ℕ → Gone → Told
gone_told row (GoneFreed freed) = record (bare row) { freed = Some freed }
gone_told row NoJob = bare row

-- the numbers of an arrival, or none of a line that tells no arrival
abbrev pub told_of : Words → Option Told
told_of (Soft row slots a) = Some (record (soft_told row a) { slots = Some slots })
told_of (Firm row slots within a) =
    Some (record (firm_told row a) { slots = Some slots; within = Some within })
told_of (Sporadic row task a) = Some (sporadic_told row a)
told_of (Done row key a) = Some (done_told row a)
told_of (Withdraw row firm a) = Some (gone_told row a)
told_of _ = None

-- the kind of an arrival
abbrev pub kind_word : Words → List ℕ
kind_word (Soft row slots a) = codes "soft"
kind_word (Firm row slots within a) = codes "firm"
kind_word (Sporadic row task a) = codes "sporadic"
kind_word (Done row key a) = codes "done"
kind_word (Withdraw row firm a) = codes "withdraw"
kind_word _ = []

-- the key of the job that an arrival brings, ends or takes back
abbrev pub job_text : Words → List ℕ
job_text (Soft row slots a) = key_text (SoftKey row)
job_text (Firm row slots within a) = key_text (FirmKey row)
job_text (Sporadic row task a) = key_text (SporadicKey task row)
job_text (Done row key a) = key_text key
job_text (Withdraw row firm a) = key_text (FirmKey firm)
job_text _ = []

-- the word of an answer to soft work
abbrev pub soft_word : SoftAnswer → List ℕ
soft_word SoftTaken = codes "taken"
soft_word (Full waiting) = codes "full"

-- to a firm task
abbrev pub firm_word : FirmAnswer → List ℕ
firm_word Accepted = codes "accepted"
firm_word Late = codes "late"
firm_word Far = codes "far"
firm_word (NoRoom e) = codes "noroom"

-- to a sporadic arrival
abbrev pub sporadic_word : Spo → List ℕ
sporadic_word (SporadicTaken deadline) = codes "taken"
sporadic_word (Soon next) = codes "soon"

-- to an early end
abbrev pub done_word : DoneAnswer → List ℕ
done_word (Freed freed) = codes "freed"
done_word NotRunning = codes "notrunning"

-- to a withdrawal
abbrev pub gone_word : Gone → List ℕ
gone_word (GoneFreed freed) = codes "freed"
gone_word NoJob = codes "nojob"

-- the word of an answer
abbrev pub answer_word : Words → List ℕ
answer_word (Soft row slots a) = soft_word a
answer_word (Firm row slots within a) = firm_word a
answer_word (Sporadic row task a) = sporadic_word a
answer_word (Done row key a) = done_word a
answer_word (Withdraw row firm a) = gone_word a
answer_word _ = []
