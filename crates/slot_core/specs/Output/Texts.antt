-- The texts of keys, spans and entries. All are ASCII, numbers are plain decimals, and a line ends
-- with one line feed.
use Rattle.std.specs.Prelude.{ℕ, List, [], ◌∷◌, ◌++◌, codes, decimal, flat_map, slice_get, nat_lt, if◌then◌else◌}
use Rattle.std.specs.Fmt.{signed_decimal}
use Rattle.std.specs.Option.{option_map_or}
use Rattle.slot_core.specs.declared.jobs.Key.{Key}
use Rattle.slot_core.specs.declared.jobs.Key.TheVariants.{Offline, Sporadic as SporadicKey, Firm as FirmKey, Soft as SoftKey}
use Rattle.slot_core.specs.declared.jobs.Span.{Span}
use Rattle.slot_core.specs.declared.tasks.Task.{Task}
use Rattle.slot_core.specs.declared.tasks.Graph.{Graph}
use Rattle.slot_core.specs.declared.tasks.Sporadic.{Sporadic}
use Rattle.slot_core.specs.declared.tasks.TaskSet.{TaskSet}
use Rattle.slot_core.specs.declared.events.Entry.{Entry}
use Rattle.slot_core.specs.declared.events.What.{What}
use Rattle.slot_core.specs.declared.events.What.TheVariants.{Start, Soft, Firm, Sporadic as SporadicEntry, Done, Withdraw, Run, Idle, End}
use Rattle.slot_core.specs.declared.events.Soft.{Soft as SoftAnswer}
use Rattle.slot_core.specs.declared.events.Soft.TheVariants.{Taken as SoftTaken, Full}
use Rattle.slot_core.specs.declared.events.Firm.{Firm as FirmAnswer}
use Rattle.slot_core.specs.declared.events.Firm.TheVariants.{Accepted, Late, Far, NoRoom}
use Rattle.slot_core.specs.declared.events.Spo.{Spo}
use Rattle.slot_core.specs.declared.events.Spo.TheVariants.{Taken as SporadicTaken, Soon}
use Rattle.slot_core.specs.declared.events.Done.{Done as DoneAnswer}
use Rattle.slot_core.specs.declared.events.Done.TheVariants.{Freed, NotRunning}
use Rattle.slot_core.specs.declared.events.Gone.{Gone}
use Rattle.slot_core.specs.declared.events.Gone.TheVariants.{Freed as GoneFreed, NoJob}
use Rattle.slot_core.specs.Runs.ShownSpans.{ShownSpans}
use Rattle.slot_core.specs.Offline.OfflineJobs.{tasks_of}

-- the word, a space and the number
abbrev pub worded : List ℕ → ℕ → List ℕ
worded word n = word ++ 32 ∷ decimal n

-- the name of a graph of the set
abbrev pub graph_name : TaskSet → ℕ → List ℕ
graph_name set g = option_map_or (λ (graph : Graph). graph.name) (slice_get set.graphs g) []

-- the name of a task of a graph
abbrev pub task_name : TaskSet → ℕ → ℕ → List ℕ
task_name set g t = option_map_or (λ (task : Task). task.name) (slice_get (tasks_of set g) t) []

-- the name of a sporadic task
abbrev pub sporadic_name : TaskSet → ℕ → List ℕ
sporadic_name set s = option_map_or (λ (task : Sporadic). task.name) (slice_get set.sporadics s) []

-- graph.task#instance, name@row, firm:row, soft:row
abbrev pub key_text : TaskSet → Key → List ℕ
key_text set (Offline graph task instance) =
    graph_name set graph ++ codes "." ++ task_name set graph task ++ codes "#" ++ decimal instance
key_text set (SporadicKey index row) = sporadic_name set index ++ codes "@" ++ decimal row
key_text set (FirmKey row) = codes "firm:" ++ decimal row
key_text set (SoftKey row) = codes "soft:" ++ decimal row

-- the words of an answer to soft work
abbrev pub soft_text : SoftAnswer → List ℕ
soft_text SoftTaken = codes "taken"
soft_text (Full n) = worded (codes "full") n

-- to a firm offer: a refusal for want of room tells the time, the need and the room
abbrev pub firm_text : FirmAnswer → List ℕ
firm_text Accepted = codes "accepted"
firm_text Late = codes "late"
firm_text Far = codes "far"
firm_text (NoRoom e) = worded (worded (worded (codes "noroom") e.until) e.need) e.room

-- to a sporadic arrival: its deadline, or the next slot in which it may come
abbrev pub sporadic_text : Spo → List ℕ
sporadic_text (SporadicTaken due) = worded (codes "taken") due
sporadic_text (Soon next) = worded (codes "soon") next

-- to an early end
abbrev pub done_text : DoneAnswer → List ℕ
done_text (Freed n) = worded (codes "freed") n
done_text NotRunning = codes "notrunning"

-- to a withdrawal
abbrev pub gone_text : Gone → List ℕ
gone_text (GoneFreed n) = worded (codes "freed") n
gone_text NoJob = codes "nojob"

-- the words of an entry
abbrev pub what_text : TaskSet → What → List ℕ
what_text set Start = codes "start"
what_text set (Soft row slots a) = worded (worded (codes "soft") row) slots ++ 32 ∷ soft_text a
what_text set (Firm row slots within a) =
    worded (worded (worded (codes "firm") row) slots) within ++ 32 ∷ firm_text a
what_text set (SporadicEntry row index a) =
    worded (codes "sporadic") row ++ 32 ∷ sporadic_name set index ++ 32 ∷ sporadic_text a
what_text set (Done row key a) =
    worded (codes "done") row ++ 32 ∷ key_text set key ++ 32 ∷ done_text a
what_text set (Withdraw row firm a) =
    worded (codes "withdraw") row ++ 32 ∷ key_text set (FirmKey firm) ++ 32 ∷ gone_text a
what_text set (Run key) = codes "run " ++ key_text set key
what_text set Idle = codes "idle"
what_text set End = codes "end"

-- start-end:spare
abbrev pub span_text : Span → List ℕ
span_text span =
    decimal span.start ++ codes "-" ++ decimal span.end ++ codes ":" ++ signed_decimal span.spare

-- the spans, a space before each, and how many more there are
abbrev pub shown_text : ShownSpans → List ℕ
shown_text shown =
    flat_map (λ (s : Span). 32 ∷ span_text s) shown.spans
    ++ (if nat_lt 0 shown.more then codes " +" ++ decimal shown.more else [])

-- what stands between the words and the end of a line: nothing at the end of the trace, else the
-- spans, of which there is at least one
abbrev pub spans_text : What → ShownSpans → List ℕ
spans_text End shown = []
spans_text _ shown = codes " |" ++ shown_text shown

-- the line of an entry
abbrev pub entry_line : TaskSet → Entry → List ℕ
entry_line set entry =
    decimal entry.time
    ++ 32 ∷ what_text set entry.what
    ++ spans_text entry.what entry.shown
    ++ 10 ∷ []

-- the text of a trace: its lines
abbrev pub trace_text : TaskSet → List Entry → List ℕ
trace_text set trace = flat_map (entry_line set) trace
