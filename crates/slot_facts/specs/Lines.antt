-- What the line of an entry tells.
use Rattle.std.specs.Prelude.{◌≡◌, ℕ, Bool, ◌^◌, ◌<◌, true, List, [], ◌∷◌, map, All}
use Rattle.std.specs.Int.Signed.{mag}
use Rattle.slot_core.specs.declared.jobs.Span.{Span}
use Rattle.slot_core.specs.declared.tasks.TaskSet.{TaskSet}
use Rattle.slot_core.specs.declared.events.Entry.{Entry}
use Rattle.slot_core.specs.declared.events.What.{What}
use Rattle.slot_core.specs.declared.events.What.TheVariants.{Soft, Firm, Sporadic, Done, Withdraw, Run, End}
use Rattle.slot_core.specs.declared.events.Soft.{Soft as SoftAnswer}
use Rattle.slot_core.specs.declared.events.Soft.TheVariants.{Taken as SoftTaken, Full}
use Rattle.slot_core.specs.declared.events.Firm.{Firm as FirmAnswer}
use Rattle.slot_core.specs.declared.events.Firm.TheVariants.{NoRoom}
use Rattle.slot_core.specs.declared.events.Spo.{Spo}
use Rattle.slot_core.specs.declared.events.Spo.TheVariants.{Taken as SporadicTaken, Soon}
use Rattle.slot_core.specs.declared.events.Done.{Done as DoneAnswer}
use Rattle.slot_core.specs.declared.events.Done.TheVariants.{Freed, NotRunning}
use Rattle.slot_core.specs.declared.events.Gone.{Gone}
use Rattle.slot_core.specs.declared.events.Gone.TheVariants.{Freed as GoneFreed, NoJob}
use Rattle.slot_core.specs.Output.Texts.{entry_line}
use Rattle.slot_core.specs.Runs.Arrivals.{what_in_set, key_in_range}
use Rattle.slot_core.specs.Sets.Ranges.{is_sound}

-- the numbers of an answer
abbrev pub soft_numbers : SoftAnswer → List ℕ
soft_numbers SoftTaken = []
soft_numbers (Full n) = n ∷ []

abbrev pub firm_numbers : FirmAnswer → List ℕ
firm_numbers (NoRoom e) = e.until ∷ e.need ∷ e.room ∷ []
firm_numbers _ = []

abbrev pub sporadic_numbers : Spo → List ℕ
sporadic_numbers (SporadicTaken due) = due ∷ []
sporadic_numbers (Soon next) = next ∷ []

abbrev pub done_numbers : DoneAnswer → List ℕ
done_numbers (Freed n) = n ∷ []
done_numbers NotRunning = []

abbrev pub gone_numbers : Gone → List ℕ
gone_numbers (GoneFreed n) = n ∷ []
gone_numbers NoJob = []

-- the numbers of an entry beside its time and its keys
abbrev pub what_numbers : What → List ℕ
what_numbers (Soft row slots a) = row ∷ slots ∷ soft_numbers a
what_numbers (Firm row slots within a) = row ∷ slots ∷ within ∷ firm_numbers a
what_numbers (Sporadic row index a) = row ∷ sporadic_numbers a
what_numbers (Done row key a) = row ∷ done_numbers a
what_numbers (Withdraw row firm a) = row ∷ firm ∷ gone_numbers a
what_numbers _ = []

-- the numbers of the key of a run or of an early end are in range
abbrev pub what_in_range : What → Bool
what_in_range (Done row key a) = key_in_range key
what_in_range (Run key) = key_in_range key
what_in_range _ = true

-- a number of at most 64 bits
abbrev pub IsWord64 : ℕ → Type 0
IsWord64 n = n < 2 ^ 64

-- the numbers of a span that are printed are of 64 bits
pub record IsSpan64 (span : Span) : Type 0 where
  pub start : IsWord64 span.start
  pub end : IsWord64 span.end
  pub spare : mag span.spare < 2 ^ 63

-- an entry of the set: what it names lies in the set, and its numbers are in range
pub record IsEntryOf (set : TaskSet) (entry : Entry) : Type 0 where
  pub named : what_in_set set entry.what ≡ true
  pub keyed : what_in_range entry.what ≡ true
  pub time : IsWord64 entry.time
  pub numbers : All IsWord64 (what_numbers entry.what)
  pub spans : All IsSpan64 entry.shown.spans
  pub more : IsWord64 entry.shown.more

-- the span without its work
abbrev pub without_work : Span → Span
without_work span = record span { work = 0 }

-- two entries agree but for works, and for what an end entry shows
pub record AgreeButWorks (a b : Entry) : Type 0 where
  pub time : a.time ≡ b.time
  pub what : a.what ≡ b.what
  pub spans :
      (a.what ≡ End → ⊥) → map without_work a.shown.spans ≡ map without_work b.shown.spans
  pub more : (a.what ≡ End → ⊥) → a.shown.more ≡ b.shown.more

-- two entries of a sound set with the same line agree but for works, which are not printed, and for
-- what an end entry shows
abbrev pub LinesTellEntries : Type 0
LinesTellEntries =
    (set : TaskSet) (a b : Entry)
    → is_sound set ≡ true → IsEntryOf set a → IsEntryOf set b
    → entry_line set a ≡ entry_line set b
    → AgreeButWorks a b
