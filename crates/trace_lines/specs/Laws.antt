-- What the lines of this crate have to do with the entries of a trace.
use Rattle.std.specs.Prelude.{◌≡◌, ◌≢◌, ◌⊎◌, [], ◌∷◌, ◌++◌}
use Rattle.slot_core.specs.declared.events.Entry.{Entry}
use Rattle.slot_core.specs.declared.events.What.TheVariants.{End}
use Rattle.slot_core.specs.declared.tasks.TaskSet.{TaskSet}
use Rattle.slot_core.specs.Output.Texts.{entry_line}
use Rattle.trace_lines.specs.Named.{named_line}
use Rattle.trace_lines.specs.Texts.{line_text}

-- an entry shows a span, or is the end
abbrev pub ShowsSpan : Entry → Type 0
ShowsSpan entry = (entry.what ≡ End) ⊎ (entry.shown.spans ≢ [])

-- the line of an entry is the text of that entry with its names put in
abbrev pub EntriesAreLines : Type 0
EntriesAreLines =
    (set : TaskSet) (entry : Entry) → ShowsSpan entry
    → entry_line set entry ≡ line_text (named_line set entry) ++ 10 ∷ []
