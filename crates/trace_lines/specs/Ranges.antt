-- The numbers and names that a line of a trace may have.
use Rattle.std.specs.Prelude.{ℕ, ℤ, pos, negsuc, suc, Bool, true, ◌&&◌, ◌==◌, List, length, nat_le}
use Rattle.std.specs.List.{list_all}
use Rattle.slot_core.specs.declared.TheConstants.{ARRIVAL_LIMIT, NUMBER_LIMIT, SHOWN_LIMIT}
use Rattle.slot_core.specs.declared.events.Soft.{Soft as SoftAnswer}
use Rattle.slot_core.specs.declared.events.Soft.TheVariants.{Taken as SoftTaken, Full}
use Rattle.slot_core.specs.declared.events.Firm.{Firm as FirmAnswer}
use Rattle.slot_core.specs.declared.events.Firm.TheVariants.{Accepted, Late, Far, NoRoom}
use Rattle.slot_core.specs.declared.events.Spo.{Spo}
use Rattle.slot_core.specs.declared.events.Spo.TheVariants.{Taken as SporadicTaken, Soon}
use Rattle.slot_core.specs.declared.events.Done.{Done as DoneAnswer}
use Rattle.slot_core.specs.declared.events.Done.TheVariants.{Freed, NotRunning}
use Rattle.slot_core.specs.declared.events.Gone.{Gone}
use Rattle.slot_core.specs.declared.events.Gone.TheVariants.{Freed as GoneFreed, NoJob}
use Rattle.slot_core.specs.Sets.Names.{is_name}
use Rattle.slot_core.specs.Sets.Ranges.{is_between}
use Rattle.trace_lines.specs.declared.line.KeyName.{KeyName}
use Rattle.trace_lines.specs.declared.line.KeyName.TheVariants.{Offline, Sporadic as SporadicKey, Firm as FirmKey, Soft as SoftKey}
use Rattle.trace_lines.specs.declared.line.Words.{Words}
use Rattle.trace_lines.specs.declared.line.Words.TheVariants.{Start, Soft, Firm, Sporadic, Done, Withdraw, Run, Idle, End}
use Rattle.trace_lines.specs.declared.line.ShownSpan.{ShownSpan}
use Rattle.trace_lines.specs.declared.line.TraceLine.{TraceLine}

-- a number that a text may have
abbrev pub number_fits : ℕ → Bool
number_fits n = nat_le n NUMBER_LIMIT

-- a row of the arrivals
abbrev pub is_row : ℕ → Bool
is_row row = is_between 1 ARRIVAL_LIMIT row

-- a number with a sign
abbrev pub signed_number_fits : ℤ → Bool
signed_number_fits (pos n) = number_fits n
signed_number_fits (negsuc n) = number_fits (suc n)

-- a key of names, of a row or of an instance that may be
abbrev pub key_fits : KeyName → Bool
key_fits (Offline graph task instance) = is_name graph && is_name task && number_fits instance
key_fits (SporadicKey name row) = is_name name && is_row row
key_fits (FirmKey row) = is_row row
key_fits (SoftKey row) = is_row row

-- the numbers of an answer to soft work
abbrev pub soft_fits : SoftAnswer → Bool
soft_fits SoftTaken = true
soft_fits (Full n) = number_fits n

-- to a firm task
abbrev pub firm_fits : FirmAnswer → Bool
firm_fits Accepted = true
firm_fits Late = true
firm_fits Far = true
firm_fits (NoRoom e) = number_fits e.until && number_fits e.need && number_fits e.room

-- to a sporadic arrival
abbrev pub sporadic_fits : Spo → Bool
sporadic_fits (SporadicTaken due) = number_fits due
sporadic_fits (Soon next) = number_fits next

-- to an early end
abbrev pub done_fits : DoneAnswer → Bool
done_fits (Freed n) = number_fits n
done_fits NotRunning = true

-- to a withdrawal
abbrev pub gone_fits : Gone → Bool
gone_fits (GoneFreed n) = number_fits n
gone_fits NoJob = true

-- what a line tells
abbrev pub words_fit : Words → Bool
words_fit Start = true
words_fit (Soft row slots a) = is_row row && number_fits slots && soft_fits a
words_fit (Firm row slots within a) =
    is_row row && number_fits slots && number_fits within && firm_fits a
words_fit (Sporadic row name a) = is_row row && is_name name && sporadic_fits a
words_fit (Done row key a) = is_row row && key_fits key && done_fits a
words_fit (Withdraw row firm a) = is_row row && is_row firm && gone_fits a
words_fit (Run key) = key_fits key
words_fit Idle = true
words_fit End = true

-- the numbers of a span
abbrev pub span_fits : ShownSpan → Bool
span_fits span = number_fits span.start && number_fits span.end && signed_number_fits span.spare

-- none at the end of a trace; else at least one span, at most as many as are shown, and a number of
-- others
abbrev pub spans_fit : Words → List ShownSpan → ℕ → Bool
spans_fit End spans more = length spans == 0 && more == 0
spans_fit words spans more =
    is_between 1 SHOWN_LIMIT (length spans) && list_all span_fits spans && number_fits more

-- a line
abbrev pub line_fits : TraceLine → Bool
line_fits line =
    number_fits line.time && words_fit line.words && spans_fit line.words line.spans line.more
