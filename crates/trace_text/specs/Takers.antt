-- What a taker that writes lines does to the bytes of its sink.
use Rattle.std.specs.Prelude.{◌≡◌, ℕ, ◌≤◌, ◌+◌, Bool, List, [], ◌∷◌, ◌++◌, codes, drop, length, take, if◌then◌else◌, Option}
use Rattle.std.specs.Io.KnownBytes.{Appends}
use Rattle.slot_core.specs.declared.events.Entry.{Entry}
use Rattle.slot_core.specs.declared.tasks.TaskSet.{TaskSet}
use Rattle.slot_core.specs.Output.Texts.{entry_line, shown_text, trace_text}
use Rattle.slot_core.specs.Runs.ShownSpans.{ShownSpans, others_of}
use Rattle.trace_text.specs.declared.TheConstants.{LINE_LIMIT, SPAN_LIMIT, SPANS_LIMIT}
use Rattle.trace_text.specs.declared.line.TheConstants.{COPY_SIZE}

-- known bytes grow by the lines of the entries before a last one, and by a part of its line from
-- the front
pub record AppendsBroken
    (before after : Option (List ℕ)) (set : TaskSet) (entries : List Entry) : Type 0 where
  pub front : List Entry
  pub last : Entry
  pub all : entries ≡ front ++ last ∷ []
  pub part : ℕ
  pub written : Appends before after (trace_text set front ++ take part (entry_line set last))

-- from this place on a line tells spans in this text and ends: it is short enough to be copied
pub record EndsIn (line : List ℕ) (tail : ℕ) (spans : List ℕ) : Type 0 where
  pub text : drop tail line ≡ spans ++ 10 ∷ []
  pub short : length line ≤ tail + SPANS_LIMIT + 1
  pub room : length line + COPY_SIZE ≤ LINE_LIMIT

-- a line that tells these spans from one place on, and from another one those after the first,
-- which leave room for any first one
pub record TellsSpans (line : List ℕ) (tail others : ℕ) (shown : ShownSpans) : Type 0 where
  pub all : EndsIn line tail (codes " |" ++ shown_text shown)
  pub rest : EndsIn line others (shown_text (others_of shown))
  pub room : length line + 2 + SPAN_LIMIT ≤ others + SPANS_LIMIT + 1

-- of two lines, the one that is kept
abbrev pub kept_line : Bool → List ℕ → List ℕ → List ℕ
kept_line turned even odd = if turned then odd else even
