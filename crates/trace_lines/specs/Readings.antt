-- How the texts of a line are read: cut at their separators, part by part.
use Rattle.std.specs.Prelude.{ℕ, ◌-◌, ℤ, pos, negsuc, ◌==◌, List, [], ◌∷◌, codes, length, nat_lt, if◌then◌else◌, Option, Some, None, option_map, suc, zero}
use Rattle.std.specs.Option.{option_or}
use Rattle.std.specs.Str.{bytes_eq}
use Rattle.slot_core.specs.declared.TheConstants.{NUMBER_LIMIT, SHOWN_LIMIT}
use Rattle.slot_core.specs.declared.jobs.Evidence.{Evidence}
use Rattle.slot_core.specs.declared.events.Soft.{Soft as SoftAnswer}
use Rattle.slot_core.specs.declared.events.Soft.TheVariants.{Taken as SoftTaken, Full}
use Rattle.slot_core.specs.declared.events.Firm.{Firm as FirmAnswer}
use Rattle.slot_core.specs.declared.events.Firm.TheVariants.{Accepted, Late, Far, NoRoom}
use Rattle.slot_core.specs.declared.events.Spo.{Spo}
use Rattle.slot_core.specs.declared.events.Spo.TheVariants.{Taken as SporadicTaken, Soon}
use Rattle.slot_core.specs.declared.events.Done.{Done as DoneAnswer}
use Rattle.slot_core.specs.declared.events.Done.TheVariants.{Freed, NotRunning}
use Rattle.slot_core.specs.declared.events.Gone.{Gone}
use Rattle.slot_core.specs.declared.events.Gone.TheVariants.{Freed as GoneFreed, NoJob}
use Rattle.slot_core.specs.Sets.Names.{is_name}
use Rattle.key_texts.specs.KeyTexts.{cut_at}
use Rattle.key_texts.specs.Numbers.{number_between, number_of, row_number}
use Rattle.key_texts.specs.Options.{◌>>=◌}
use Rattle.trace_lines.specs.declared.TheConstants.{READ_LINE_LIMIT}
use Rattle.trace_lines.specs.declared.line.KeyName.{KeyName}
use Rattle.trace_lines.specs.declared.line.KeyName.TheVariants.{Offline, Sporadic as SporadicKey, Firm as FirmKey, Soft as SoftKey}
use Rattle.trace_lines.specs.declared.line.Words.{Words}
use Rattle.trace_lines.specs.declared.line.Words.TheVariants.{Start, Soft, Firm, Sporadic, Done, Withdraw, Run, Idle, End}
use Rattle.trace_lines.specs.declared.line.ShownSpan.{ShownSpan}
use Rattle.trace_lines.specs.declared.line.TraceLine.{TraceLine}

-- the text, where it is a name
abbrev pub name_of : List ℕ → Option (List ℕ)
name_of text = if is_name text then Some text else None

-- graph.task#instance: 35 is `#`, and 46 is the point
abbrev pub offline_key : List ℕ → Option KeyName
offline_key text = do
  parts ← cut_at 35 text
  names ← cut_at 46 parts.0
  instance ← number_of parts.1
  graph ← name_of names.0
  task ← name_of names.1
  Some (Offline graph task instance)

-- name@row: 64 is `@`
abbrev pub sporadic_key : List ℕ → Option KeyName
sporadic_key text = do
  parts ← cut_at 64 text
  row ← row_number parts.1
  name ← name_of parts.0
  Some (SporadicKey name row)

-- the key of a firm or a soft job of this row, as the word says
abbrev pub worded_key : List ℕ → ℕ → Option KeyName
worded_key word row =
    if bytes_eq word (codes "firm") then Some (FirmKey row)
    else if bytes_eq word (codes "soft") then Some (SoftKey row)
    else None

-- firm:row, soft:row: 58 is the colon
abbrev pub row_key : List ℕ → Option KeyName
row_key text = do
  parts ← cut_at 58 text
  row ← row_number parts.1
  worded_key parts.0 row

-- the key in one of these forms
abbrev pub key_named : List ℕ → Option KeyName
key_named text = option_or (offline_key text) (option_or (sporadic_key text) (row_key text))

-- the row of a key firm:row
abbrev pub firm_row : List ℕ → Option ℕ
firm_row text = do
  parts ← cut_at 58 text
  if bytes_eq parts.0 (codes "firm") then row_number parts.1 else None

-- the number after the word and a space: 32 is the space
abbrev pub number_after : List ℕ → List ℕ → Option ℕ
number_after word text = do
  parts ← cut_at 32 text
  if bytes_eq parts.0 word then number_of parts.1 else None

-- the answer to soft work
abbrev pub soft_answer : List ℕ → Option SoftAnswer
soft_answer text =
    if bytes_eq text (codes "taken") then Some SoftTaken
    else option_map Full (number_after (codes "full") text)

-- a refusal of these numbers, after its word
abbrev pub worded_refusal : List ℕ → Evidence → Option FirmAnswer
worded_refusal word evidence =
    if bytes_eq word (codes "noroom") then Some (NoRoom evidence) else None

-- a refusal for want of room
abbrev pub no_room : List ℕ → Option FirmAnswer
no_room text = do
  parts ← cut_at 32 text
  first ← cut_at 32 parts.1
  second ← cut_at 32 first.1
  until ← number_of first.0
  need ← number_of second.0
  room ← number_of second.1
  worded_refusal parts.0 (record { until = until; need = need; room = room })

-- the answer to a firm task
abbrev pub firm_answer : List ℕ → Option FirmAnswer
firm_answer text =
    if bytes_eq text (codes "accepted") then Some Accepted
    else if bytes_eq text (codes "late") then Some Late
    else if bytes_eq text (codes "far") then Some Far
    else no_room text

-- the answer to a sporadic arrival that is this word and this time
abbrev pub worded_time : List ℕ → ℕ → Option Spo
worded_time word time =
    if bytes_eq word (codes "taken") then Some (SporadicTaken time)
    else if bytes_eq word (codes "soon") then Some (Soon time)
    else None

-- the answer to a sporadic arrival
abbrev pub sporadic_answer : List ℕ → Option Spo
sporadic_answer text = do
  parts ← cut_at 32 text
  time ← number_of parts.1
  worded_time parts.0 time

-- the answer to an early end
abbrev pub done_answer : List ℕ → Option DoneAnswer
done_answer text =
    if bytes_eq text (codes "notrunning") then Some NotRunning
    else option_map Freed (number_after (codes "freed") text)

-- the answer to a withdrawal
abbrev pub gone_answer : List ℕ → Option Gone
gone_answer text =
    if bytes_eq text (codes "nojob") then Some NoJob
    else option_map GoneFreed (number_after (codes "freed") text)

-- soft work in this row
abbrev pub soft_words : ℕ → List ℕ → Option Words
soft_words row text = do
  parts ← cut_at 32 text
  slots ← number_of parts.0
  answer ← soft_answer parts.1
  Some (Soft row slots answer)

-- a firm task
abbrev pub firm_words : ℕ → List ℕ → Option Words
firm_words row text = do
  first ← cut_at 32 text
  second ← cut_at 32 first.1
  slots ← number_of first.0
  within ← number_of second.0
  answer ← firm_answer second.1
  Some (Firm row slots within answer)

-- a sporadic arrival
abbrev pub sporadic_words : ℕ → List ℕ → Option Words
sporadic_words row text = do
  parts ← cut_at 32 text
  answer ← sporadic_answer parts.1
  name ← name_of parts.0
  Some (Sporadic row name answer)

-- an early end
abbrev pub done_words : ℕ → List ℕ → Option Words
done_words row text = do
  parts ← cut_at 32 text
  answer ← done_answer parts.1
  key ← key_named parts.0
  Some (Done row key answer)

-- a withdrawal
abbrev pub withdraw_words : ℕ → List ℕ → Option Words
withdraw_words row text = do
  parts ← cut_at 32 text
  answer ← gone_answer parts.1
  firm ← firm_row parts.0
  Some (Withdraw row firm answer)

-- an arrival in this row, by the word of its kind
abbrev pub worded_arrival : List ℕ → ℕ → List ℕ → Option Words
worded_arrival word row text =
    if bytes_eq word (codes "sporadic") then sporadic_words row text
    else if bytes_eq word (codes "withdraw") then withdraw_words row text
    else if bytes_eq word (codes "soft") then soft_words row text
    else if bytes_eq word (codes "firm") then firm_words row text
    else if bytes_eq word (codes "done") then done_words row text
    else None

-- an arrival, from its row on
abbrev pub arrival_words : List ℕ → List ℕ → Option Words
arrival_words word text = do
  parts ← cut_at 32 text
  row ← row_number parts.0
  worded_arrival word row parts.1

-- words after a first one
abbrev pub worded_words : List ℕ → List ℕ → Option Words
worded_words word text =
    if bytes_eq word (codes "run") then option_map Run (key_named text)
    else arrival_words word text

-- two words or more
abbrev pub longer_words : List ℕ → Option Words
longer_words text = do
  parts ← cut_at 32 text
  worded_words parts.0 parts.1

-- what a line tells that is not the end
abbrev pub words_of : List ℕ → Option Words
words_of text =
    if bytes_eq text (codes "start") then Some Start
    else if bytes_eq text (codes "idle") then Some Idle
    else longer_words text

-- a number with its sign: 45 is the minus
abbrev pub signed_number : List ℕ → Option ℤ
signed_number [] = None
signed_number (b ∷ digits) =
    if b == 45 then option_map (λ n. negsuc (n - 1)) (number_between 1 NUMBER_LIMIT digits)
    else option_map pos (number_of (b ∷ digits))

-- start-end:spare
abbrev pub span_of : List ℕ → Option ShownSpan
span_of text = do
  parts ← cut_at 58 text
  ends ← cut_at 45 parts.0
  start ← number_of ends.0
  end ← number_of ends.1
  spare ← signed_number parts.1
  Some (record { start = start; end = end; spare = spare })

-- spans of a text that is cut at its first space, by how the rest is read
abbrev pub spans_cut :
    (List ℕ → Option (List ShownSpan)) → List ℕ → Option (List ℕ × List ℕ)
    → Option (List ShownSpan)
spans_cut later text None = option_map (λ span. span ∷ []) (span_of text)
spans_cut later text (Some parts) = do
  span ← span_of parts.0
  spans ← later parts.1
  Some (span ∷ spans)

-- spans with one space between two, of which there are from one to a limit
unfoldable pub spans_within : ℕ → List ℕ → Option (List ShownSpan)
spans_within zero text = None
spans_within (suc limit) text = spans_cut (spans_within limit) text (cut_at 32 text)

-- what stands before a space at the end of the text
abbrev pub before_space : List ℕ → Option (List ℕ)
before_space [] = None
before_space (b ∷ []) = if b == 32 then Some [] else None
before_space (b ∷ c ∷ text) = option_map (λ front. b ∷ front) (before_space (c ∷ text))

-- what stands after a space at the front of the text
abbrev pub after_space : List ℕ → Option (List ℕ)
after_space [] = None
after_space (b ∷ text) = if b == 32 then Some text else None

-- the text of the spans and the number of the others, around a `+`, which is 43
abbrev pub more_of : List ℕ → Option (List ℕ × List ℕ) → Option (List ℕ × ℕ)
more_of text None = Some (text, 0)
more_of text (Some parts) = do
  more ← number_between 1 NUMBER_LIMIT parts.1
  spans ← before_space parts.0
  Some (spans, more)

-- the same of what a line shows
abbrev pub shown_and_more : List ℕ → Option (List ℕ × ℕ)
shown_and_more text = more_of text (cut_at 43 text)

-- what stands before and after ` | `: 124 is the bar
abbrev pub told_and_shown : List ℕ → Option (List ℕ × List ℕ)
told_and_shown text = do
  parts ← cut_at 124 text
  words ← before_space parts.0
  shown ← after_space parts.1
  Some (words, shown)

-- a line that shows spans
abbrev pub shown_line : ℕ → List ℕ → Option TraceLine
shown_line time text = do
  parts ← told_and_shown text
  shown ← shown_and_more parts.1
  words ← words_of parts.0
  spans ← spans_within SHOWN_LIMIT shown.0
  Some (record { time = time; words = words; spans = spans; more = shown.1 })

-- the line of the end
abbrev pub end_line : ℕ → TraceLine
end_line time = record { time = time; words = End; spans = []; more = 0 }

-- a line, from its time on
abbrev pub line_at : ℕ → List ℕ → Option TraceLine
line_at time text =
    if bytes_eq text (codes "end") then Some (end_line time) else shown_line time text

-- a line, without its line feed
unfoldable pub line_of : List ℕ → Option TraceLine
line_of text = do
  parts ← cut_at 32 text
  time ← number_of parts.0
  line_at time parts.1

-- a line whose bytes are not too many
abbrev pub short_line : List ℕ → Option TraceLine
short_line text = if nat_lt READ_LINE_LIMIT (length text) then None else line_of text
