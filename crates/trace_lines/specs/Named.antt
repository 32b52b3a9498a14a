-- The lines of the entries of a trace, with the names of the task set put in.
use Rattle.std.specs.Prelude.{map}
use Rattle.slot_core.specs.declared.jobs.Key.{Key}
use Rattle.slot_core.specs.declared.jobs.Key.TheVariants.{Offline, Sporadic as SporadicKey, Firm as FirmKey, Soft as SoftKey}
use Rattle.slot_core.specs.declared.jobs.Span.{Span}
use Rattle.slot_core.specs.declared.events.Entry.{Entry}
use Rattle.slot_core.specs.declared.events.What.{What}
use Rattle.slot_core.specs.declared.events.What.TheVariants.{Start, Soft, Firm, Sporadic as SporadicEntry, Done, Withdraw, Run, Idle, End}
use Rattle.slot_core.specs.declared.tasks.TaskSet.{TaskSet}
use Rattle.slot_core.specs.Output.Texts.{graph_name, task_name, sporadic_name}
use Rattle.trace_lines.specs.declared.line.KeyName.{KeyName}
use Rattle.trace_lines.specs.declared.line.KeyName.TheVariants.{Offline as NamedOffline, Sporadic as NamedSporadic, Firm as NamedFirm, Soft as NamedSoft}
use Rattle.trace_lines.specs.declared.line.Words.{Words}
use Rattle.trace_lines.specs.declared.line.Words.TheVariants.{Start as StartWords, Soft as SoftWords, Firm as FirmWords, Sporadic as SporadicWords, Done as DoneWords, Withdraw as WithdrawWords, Run as RunWords, Idle as IdleWords, End as EndWords}
use Rattle.trace_lines.specs.declared.line.ShownSpan.{ShownSpan}
use Rattle.trace_lines.specs.declared.line.TraceLine.{TraceLine}

-- a key by its names
abbrev pub named_key : TaskSet → Key → KeyName
named_key set (Offline graph task instance) =
    NamedOffline (graph_name set graph) (task_name set graph task) instance
named_key set (SporadicKey index row) = NamedSporadic (sporadic_name set index) row
named_key set (FirmKey row) = NamedFirm row
named_key set (SoftKey row) = NamedSoft row

-- what an entry tells, by names
abbrev pub named_words : TaskSet → What → Words
named_words set Start = StartWords
named_words set (Soft row slots a) = SoftWords row slots a
named_words set (Firm row slots within a) = FirmWords row slots within a
named_words set (SporadicEntry row index a) = SporadicWords row (sporadic_name set index) a
named_words set (Done row key a) = DoneWords row (named_key set key) a
named_words set (Withdraw row firm a) = WithdrawWords row firm a
named_words set (Run key) = RunWords (named_key set key)
named_words set Idle = IdleWords
named_words set End = EndWords

-- a span without its work, which no line shows
abbrev pub shown_span : Span → ShownSpan
shown_span span = record { start = span.start; end = span.end; spare = span.spare }

-- the line of an entry
abbrev pub named_line : TaskSet → Entry → TraceLine
named_line set entry =
    record {
      time = entry.time;
      words = named_words set entry.what;
      spans = map shown_span entry.shown.spans;
      more = entry.shown.more;
    }
