-- The texts of the lines of a trace, with the names that stand in them.
use Rattle.std.specs.Prelude.{ℕ, List, [], ◌∷◌, ◌++◌, codes, decimal, flat_map, nat_lt, if◌then◌else◌}
use Rattle.std.specs.Fmt.{signed_decimal}
use Rattle.slot_core.specs.Output.Texts.{soft_text, firm_text, sporadic_text, done_text, gone_text}
use Rattle.trace_lines.specs.declared.line.KeyName.{KeyName}
use Rattle.trace_lines.specs.declared.line.KeyName.TheVariants.{Offline, Sporadic as SporadicKey, Firm as FirmKey, Soft as SoftKey}
use Rattle.trace_lines.specs.declared.line.Words.{Words}
use Rattle.trace_lines.specs.declared.line.Words.TheVariants.{Start, Soft, Firm, Sporadic, Done, Withdraw, Run, Idle, End}
use Rattle.trace_lines.specs.declared.line.ShownSpan.{ShownSpan}
use Rattle.trace_lines.specs.declared.line.TraceLine.{TraceLine}

-- a text, a space, and what follows it
abbrev pub spaced : List ℕ → List ℕ → List ℕ
spaced text rest = text ++ 32 ∷ rest

-- graph.task#instance, name@row, firm:row, soft:row
abbrev pub key_text : KeyName → List ℕ
key_text (Offline graph task instance) = (graph ++ 46 ∷ task) ++ 35 ∷ decimal instance
key_text (SporadicKey name row) = name ++ 64 ∷ decimal row
key_text (FirmKey row) = codes "firm" ++ 58 ∷ decimal row
key_text (SoftKey row) = codes "soft" ++ 58 ∷ decimal row

-- the words of an arrival: its kind, its row, and what follows
abbrev pub arrival_text : List ℕ → ℕ → List ℕ → List ℕ
arrival_text kind row rest = spaced kind (spaced (decimal row) rest)

-- what a line tells: of an arrival its row, what arrived, and the answer
abbrev pub words_text : Words → List ℕ
words_text Start = codes "start"
words_text (Soft row slots a) =
    arrival_text (codes "soft") row (spaced (decimal slots) (soft_text a))
words_text (Firm row slots within a) =
    arrival_text
    (codes "firm")
    row
    (spaced (decimal slots) (spaced (decimal within) (firm_text a)))
words_text (Sporadic row name a) =
    arrival_text (codes "sporadic") row (spaced name (sporadic_text a))
words_text (Done row key a) =
    arrival_text (codes "done") row (spaced (key_text key) (done_text a))
words_text (Withdraw row firm a) =
    arrival_text (codes "withdraw") row (spaced (key_text (FirmKey firm)) (gone_text a))
words_text (Run key) = spaced (codes "run") (key_text key)
words_text Idle = codes "idle"
words_text End = codes "end"

-- start-end:spare
abbrev pub span_text : ShownSpan → List ℕ
span_text span =
    (decimal span.start ++ 45 ∷ decimal span.end) ++ 58 ∷ signed_decimal span.spare

-- the spans, with one space between two
abbrev pub spans_text : List ShownSpan → List ℕ
spans_text [] = []
spans_text (span ∷ []) = span_text span
spans_text (span ∷ next ∷ spans) = spaced (span_text span) (spans_text (next ∷ spans))

-- the spans, and how many more there are, where there are any
abbrev pub shown_text : List ShownSpan → ℕ → List ℕ
shown_text spans more =
    if nat_lt 0 more then (spans_text spans ++ 32 ∷ []) ++ 43 ∷ decimal more
    else spans_text spans

-- what stands after the time: the words, and but at the end of the trace the spans
abbrev pub told_text : Words → List ShownSpan → ℕ → List ℕ
told_text End spans more = codes "end"
told_text words spans more =
    (words_text words ++ 32 ∷ []) ++ 124 ∷ 32 ∷ shown_text spans more

-- a line, without its line feed
abbrev pub line_text : TraceLine → List ℕ
line_text line = spaced (decimal line.time) (told_text line.words line.spans line.more)

-- the text of lines, each with a line feed at its end
abbrev pub lines_text : List TraceLine → List ℕ
lines_text lines = flat_map (λ (l : TraceLine). line_text l ++ 10 ∷ []) lines
