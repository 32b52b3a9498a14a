-- The grammar of a table: each part is one form, which says how it is spelled and how it is read.
-- All numbers stand with the least byte first.
use Rattle.std.specs.Prelude.{◌≡◌, ◌≢◌, ◌⊎◌, MatchResult, ℕ, ℤ, ◌-◌, ◌==◌, ◌&&◌, Bool, List, length, slice_index, if◌then◌else◌, Result, Ok, Err, codes}
use Rattle.std.specs.Int.{Width, w16, w32, w64}
use Rattle.std.specs.Option.{option_map_or}
use Rattle.std.specs.Ordering.{int_eq}
use Rattle.std.specs.Str.{bytes_eq}
use Rattle.slot_core.specs.declared.TheConstants.{GRAPH_LIMIT, TASK_LIMIT, AFTER_LIMIT, SPORADIC_LIMIT, SLOT_LIMIT, SOFT_LIMIT}
use Rattle.slot_core.specs.declared.jobs.Key.{Key}
use Rattle.slot_core.specs.declared.jobs.Key.TheVariants.{Offline}
use Rattle.slot_core.specs.declared.jobs.Job.{Job}
use Rattle.slot_core.specs.declared.jobs.Span.{Span}
use Rattle.slot_core.specs.declared.jobs.Window.{Window}
use Rattle.slot_core.specs.declared.tasks.Task.{Task}
use Rattle.slot_core.specs.declared.tasks.Graph.{Graph}
use Rattle.slot_core.specs.declared.tasks.Sporadic.{Sporadic as SporadicTask}
use Rattle.slot_core.specs.declared.tasks.TaskSet.{TaskSet}
use Rattle.slot_core.specs.declared.faults.Part.{Part}
use Rattle.slot_core.specs.declared.faults.Field.{Field}
use Rattle.slot_core.specs.declared.faults.Part.TheVariants.{Top, Graph as GraphPart, Task as TaskPart, Sporadic as SporadicPart}
use Rattle.slot_core.specs.declared.faults.Field.TheVariants.{Soft, Graph as GraphKey, Sporadic, Period, Offset, Deadline, Task as TaskKey, Wcet, After, Separation}
use Rattle.slot_core.specs.Sets.Cycles.{cycle_of}
use Rattle.slot_core.specs.Sets.Faults.{set_fault}
use Rattle.slot_core.specs.Feasibility.Feasible.{counterexample}
use Rattle.slot_core.specs.Offline.Keys.{key_order}
use Rattle.slot_core.specs.Keeping.Plans.{PlanParts, planned}
use Rattle.faults.specs.declared.table_fault.TableFault.{TableFault}
use Rattle.faults.specs.declared.table_fault.TableFault.TheVariants.{Memory, BadMagic, BadVersion, BadSource, Infeasible, WrongJobCount, WrongJob, WrongSpanCount, WrongSpan}
use Rattle.table_codec.specs.declared.layout.Layout.{Layout}
use Rattle.table_codec.specs.declared.layout.NumberWidth.{NumberWidth}
use Rattle.table_codec.specs.declared.layout.NumberWidth.TheVariants.{Two, Four}
use Rattle.table_codec.specs.declared.layout.SpareWidth.{SpareWidth}
use Rattle.table_codec.specs.declared.layout.SpareWidth.TheVariants.{Four as FourSpare, Eight}
use Rattle.table_codec.specs.Forms.{Form, ◌>>=◌, given, done, part, tested, bytes_form, end_form, each, stored, number_form, signed_form, within, up_to, one_up_to, same_count, name_form}
use Rattle.table_codec.specs.Readers.{value_of}

-- the width of a length or time
abbrev pub number_width : NumberWidth → Width
number_width Two = w16
number_width Four = w32

-- the width of a spare capacity
abbrev pub spare_width : SpareWidth → Width
spare_width FourSpare = w32
spare_width Eight = w64

-- the first version: lengths and times of two bytes, capacities of four
abbrev pub layout_1 : Layout
layout_1 = record { version = 1; number = Two; spare = FourSpare }

-- the second version: lengths and times of four bytes, capacities of eight
abbrev pub layout_2 : Layout
layout_2 = record { version = 2; number = Four; spare = Eight }

-- the layout of a version
abbrev pub layout_of : ℕ → Result Layout TableFault
layout_of version =
    if version == layout_1.version then Ok layout_1
    else if version == layout_2.version then Ok layout_2
    else Err (BadVersion version)

-- SLOT, and the version, which tells the layout
abbrev pub head_form : Form Layout Layout
head_form = do
  slot ← part
      (λ _. codes "SLOT")
      (tested (bytes_form 4) (λ text. bytes_eq text (codes "SLOT")) (λ _. BadMagic))
  version ← part (λ (layout : Layout). layout.version) (number_form w16)
  given (layout_of version)

-- a length or a time, in slots
abbrev pub slots_form : Layout → Form ℕ ℕ
slots_form layout = number_form (number_width layout.number)

-- a length or a time of the set, from low to high
abbrev pub range_form : Layout → Part → Field → ℕ → ℕ → Form ℕ ℕ
range_form layout = within (number_width layout.number)

-- an index
abbrev pub index_form : Form ℕ ℕ
index_form = number_form w16

-- a task: name, worst-case slots, and the tasks that it comes after
abbrev pub task_form : Layout → ℕ → ℕ → Form Task Task
task_form layout g t = do
  name ← part (λ (task : Task). task.name) (name_form (TaskPart g t))
  wcet ← part (λ (task : Task). task.wcet) (range_form layout (TaskPart g t) Wcet 1 SLOT_LIMIT)
  count ← part (λ (task : Task). length task.after) (up_to (TaskPart g t) After AFTER_LIMIT)
  after ← part (λ (task : Task). task.after) (each (λ _. index_form) count)
  done (record { name = name; wcet = wcet; after = after })

-- a graph: name, period, offset, deadline, and the tasks
abbrev pub graph_form : Layout → ℕ → Form Graph Graph
graph_form layout g = do
  name ← part (λ (graph : Graph). graph.name) (name_form (GraphPart g))
  period ←
      part (λ (graph : Graph). graph.period) (range_form layout (GraphPart g) Period 1 SLOT_LIMIT)
  offset ←
      part
      (λ (graph : Graph). graph.offset)
      (range_form layout (GraphPart g) Offset 0 (period - 1))
  deadline ←
      part
      (λ (graph : Graph). graph.deadline)
      (range_form layout (GraphPart g) Deadline 1 (period - offset))
  count ←
      part (λ (graph : Graph). length graph.tasks) (one_up_to (GraphPart g) TaskKey TASK_LIMIT)
  tasks ← part (λ (graph : Graph). graph.tasks) (each (task_form layout g) count)
  done (record {
    name = name;
    period = period;
    offset = offset;
    deadline = deadline;
    tasks = tasks;
  })

-- a sporadic task: name, worst-case slots, separation, deadline
abbrev pub sporadic_form : Layout → ℕ → Form SporadicTask SporadicTask
sporadic_form layout s = do
  name ← part (λ (task : SporadicTask). task.name) (name_form (SporadicPart s))
  wcet ←
      part
      (λ (task : SporadicTask). task.wcet)
      (range_form layout (SporadicPart s) Wcet 1 SLOT_LIMIT)
  separation ←
      part
      (λ (task : SporadicTask). task.separation)
      (range_form layout (SporadicPart s) Separation 1 SLOT_LIMIT)
  deadline ←
      part
      (λ (task : SporadicTask). task.deadline)
      (range_form layout (SporadicPart s) Deadline 1 separation)
  done (record { name = name; wcet = wcet; separation = separation; deadline = deadline })

-- the task set: soft limit, graphs, sporadic tasks
abbrev pub set_form : Layout → Form TaskSet TaskSet
set_form layout = do
  soft ← part (λ (set : TaskSet). set.soft_limit) (range_form layout Top Soft 1 SOFT_LIMIT)
  graph_count ← part (λ (set : TaskSet). length set.graphs) (one_up_to Top GraphKey GRAPH_LIMIT)
  graphs ← part (λ (set : TaskSet). set.graphs) (each (graph_form layout) graph_count)
  sporadic_count ←
      part (λ (set : TaskSet). length set.sporadics) (up_to Top Sporadic SPORADIC_LIMIT)
  sporadics ← part (λ (set : TaskSet). set.sporadics) (each (sporadic_form layout) sporadic_count)
  done (record { soft_limit = soft; graphs = graphs; sporadics = sporadics })

-- the set, where it has no fault beyond its numbers
abbrev pub sound_set : TaskSet → Result TaskSet TableFault
sound_set set = option_map_or (λ fault. Err (BadSource fault)) (set_fault set) (Ok set)

-- a sound set
abbrev pub source_form : Layout → Form TaskSet TaskSet
source_form layout = do
  set ← set_form layout
  given (sound_set set)

-- the plan of a set, or the counterexample to its feasibility
abbrev pub plan_of : TaskSet → Result PlanParts TableFault
plan_of set =
    option_map_or
    (λ (w : Window). Err (Infeasible w))
    (counterexample set (cycle_of set))
    (Ok (planned set))

-- the graph of an offline key
abbrev pub graph_of : Key → ℕ
graph_of key = slice_index (key_order key) 1

-- its task
abbrev pub task_of : Key → ℕ
task_of key = slice_index (key_order key) 2

-- its instance
abbrev pub instance_of : Key → ℕ
instance_of key = slice_index (key_order key) 3

-- the key of an offline job (a plan has no other): graph, task and instance
abbrev pub key_form : Layout → Form Key Key
key_form layout = do
  graph ← part graph_of index_form
  task ← part task_of index_form
  instance ← part instance_of (slots_form layout)
  done (Offline graph task instance)

-- a job, which has all its slots left: key, derived start and deadline, declared slots
abbrev pub job_form : Layout → Form Job Job
job_form layout = do
  key ← part (λ (job : Job). job.key) (key_form layout)
  est ← part (λ (job : Job). job.est) (slots_form layout)
  dl ← part (λ (job : Job). job.dl) (slots_form layout)
  declared ← part (λ (job : Job). job.declared) (slots_form layout)
  done (record { key = key; est = est; dl = dl; left = declared; declared = declared })

-- a capacity, in slots
abbrev pub spare_form : Layout → Form ℤ ℤ
spare_form layout = signed_form (spare_width layout.spare)

-- a span: start, end, work, and the capacity
abbrev pub span_form : Layout → Form Span Span
span_form layout = do
  start ← part (λ (span : Span). span.start) (slots_form layout)
  end ← part (λ (span : Span). span.end) (slots_form layout)
  work ← part (λ (span : Span). span.work) (slots_form layout)
  spare ← part (λ (span : Span). span.spare) (spare_form layout)
  done (record { start = start; end = end; work = work; spare = spare })

-- the jobs have the same key and the same numbers
abbrev pub is_same_job : Job → Job → Bool
is_same_job a b =
    bytes_eq (key_order a.key) (key_order b.key)
    && a.est == b.est
    && a.dl == b.dl
    && a.left == b.left
    && a.declared == b.declared

-- the spans have the same numbers
abbrev pub is_same_span : Span → Span → Bool
is_same_span a b =
    a.start == b.start && a.end == b.end && a.work == b.work && int_eq a.spare b.spare

-- the stored jobs, where they are the computed ones: their count, and each
abbrev pub jobs_form : Layout → List Job → Form (List Job) (List Job)
jobs_form layout jobs = do
  count ← part length (same_count WrongJobCount (length jobs))
  stored (job_form layout) is_same_job WrongJob jobs

-- the stored spans, where they are the computed ones: their count, and each
abbrev pub spans_form : Layout → List Span → Form (List Span) (List Span)
spans_form layout spans = do
  count ← part length (same_count WrongSpanCount (length spans))
  stored (span_form layout) is_same_span WrongSpan spans

-- the jobs and spans of this plan
abbrev pub stored_form : Layout → PlanParts → Form PlanParts PlanParts
stored_form layout plan = do
  jobs ← part (λ (p : PlanParts). p.jobs) (jobs_form layout plan.jobs)
  spans ← part (λ (p : PlanParts). p.spans) (spans_form layout plan.spans)
  done plan

-- a sound set, and the jobs and spans of its plan
abbrev pub plan_form : Layout → Form PlanParts PlanParts
plan_form layout = do
  set ← part (λ (plan : PlanParts). plan.tasks) (source_form layout)
  plan ← given (plan_of set)
  stored_form layout plan

-- a whole table, written in this layout; it is read in that of its own version
abbrev pub table_form : Layout → Form PlanParts PlanParts
table_form own = do
  layout ← part (λ _. own) head_form
  plan ← plan_form layout
  end ← end_form
  done plan

-- the bytes of a plan in a layout
abbrev pub spelling_in : Layout → PlanParts → List ℕ
spelling_in layout plan = (table_form layout).written plan

-- the bytes of a plan in the first version, which is no longer written
abbrev pub first_spelling : PlanParts → List ℕ
first_spelling plan = spelling_in layout_1 plan

-- the bytes of a plan: the second version, which is written
abbrev pub spelling : PlanParts → List ℕ
spelling plan = spelling_in layout_2 plan

-- the bytes spell the plan, in one of the versions
abbrev pub Spells : List ℕ → PlanParts → Type 0
Spells bytes plan = (bytes ≡ first_spelling plan) ⊎ (bytes ≡ spelling plan)

-- the reading of the bytes of a table: the plan that all of them spell, or their first fault
abbrev pub reading_of_table : List ℕ → Result PlanParts TableFault
reading_of_table bytes =
    value_of ((table_form layout_2).read (record { whole = length bytes; left = bytes }))

-- the code's answer is what is read, but that memory may run out
abbrev pub AnswersAs : Result PlanParts TableFault → Result PlanParts TableFault → Type 0
AnswersAs answer read = MatchResult answer (λ plan. read ≡ Ok plan) (λ e. e ≢ Memory → read ≡ Err e)
