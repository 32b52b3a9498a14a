-- The rows of a line, each a list of fields.
use Rattle.std.specs.Prelude.{ℕ, List, [], ◌∷◌, codes, decimal, map, Option, option_map}
use Rattle.std.specs.Fmt.{signed_decimal}
use Rattle.std.specs.List.{enumerate_from}
use Rattle.csv_table.specs.Cells.{optional_text}
use Rattle.trace_lines.specs.declared.line.TraceLine.{TraceLine}
use Rattle.trace_lines.specs.declared.line.ShownSpan.{ShownSpan}
use Rattle.view_tables.specs.declared.told.Told.{Told}
use Rattle.view_tables.specs.Columns.{told_of, kind_word, job_text, answer_word}

-- the names of the fields of the row of an arrival
abbrev pub event_names : List (List ℕ)
event_names =
    codes "time" ∷ codes "row" ∷ codes "kind" ∷ codes "job" ∷ codes "slots" ∷ codes "within"
    ∷ codes "answer" ∷ codes "waiting" ∷ codes "until" ∷ codes "need" ∷ codes "room"
    ∷ codes "deadline" ∷ codes "next" ∷ codes "freed" ∷ []

-- the fields of the row of an arrival of which this is told
abbrev pub event_fields : TraceLine → Told → List (List ℕ)
event_fields line told =
    decimal line.time
    ∷ decimal told.row
    ∷ kind_word line.words
    ∷ job_text line.words
    ∷ optional_text told.slots
    ∷ optional_text told.within
    ∷ answer_word line.words
    ∷ optional_text told.waiting
    ∷ optional_text told.until
    ∷ optional_text told.need
    ∷ optional_text told.room
    ∷ optional_text told.deadline
    ∷ optional_text told.next
    ∷ optional_text told.freed
    ∷ []

-- the row of a line that tells an arrival
abbrev pub event_row : TraceLine → Option (List (List ℕ))
event_row line = option_map (event_fields line) (told_of line.words)

-- the names of the fields of the row of a span
abbrev pub span_names : List (List ℕ)
span_names =
    codes "line" ∷ codes "time" ∷ codes "place" ∷ codes "start" ∷ codes "end" ∷ codes "spare" ∷ []

-- the fields of the row of a span, with its place in the line of this number, both from 1 on
abbrev pub span_fields : ℕ → TraceLine → ℕ × ShownSpan → List (List ℕ)
span_fields number line (place, span) =
    decimal number
    ∷ decimal line.time
    ∷ decimal place
    ∷ decimal span.start
    ∷ decimal span.end
    ∷ signed_decimal span.spare
    ∷ []

-- the rows of the spans that a line shows
abbrev pub span_rows : ℕ → TraceLine → List (List (List ℕ))
span_rows number line = map (span_fields number line) (enumerate_from 1 line.spans)
