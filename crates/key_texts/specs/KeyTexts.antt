-- The keys that texts write. `slot_core` has the text of a key; here it is read.
use Rattle.std.specs.Prelude.{ℕ, ◌+◌, ◌==◌, List, take, drop, codes, position, if◌then◌else◌, Option, Some, None, option_map}
use Rattle.std.specs.Option.{option_or}
use Rattle.std.specs.Str.{bytes_eq}
use Rattle.slot_core.specs.declared.jobs.Key.{Key}
use Rattle.slot_core.specs.declared.jobs.Key.TheVariants.{Offline, Sporadic as SporadicKey, Firm as FirmKey, Soft as SoftKey}
use Rattle.slot_core.specs.declared.tasks.Task.{Task}
use Rattle.slot_core.specs.declared.tasks.Graph.{Graph}
use Rattle.slot_core.specs.declared.tasks.Sporadic.{Sporadic}
use Rattle.slot_core.specs.declared.tasks.TaskSet.{TaskSet}
use Rattle.slot_core.specs.Offline.OfflineJobs.{tasks_of}
use Rattle.key_texts.specs.Numbers.{number_of, row_number}
use Rattle.key_texts.specs.Options.{◌>>=◌}

-- what stands before the first such byte and what stands after it, where there is one
abbrev pub cut_at : ℕ → List ℕ → Option (List ℕ × List ℕ)
cut_at byte text =
    option_map (λ at. (take at text, drop (at + 1) text)) (position (λ b. b == byte) text)

-- the index of the first graph of this name
abbrev pub graph_named : List Graph → List ℕ → Option ℕ
graph_named graphs name = position (λ (g : Graph). bytes_eq g.name name) graphs

-- the index of the first task of this name
abbrev pub task_named : List Task → List ℕ → Option ℕ
task_named tasks name = position (λ (t : Task). bytes_eq t.name name) tasks

-- the index of the first sporadic task of this name
abbrev pub sporadic_named : List Sporadic → List ℕ → Option ℕ
sporadic_named sporadics name = position (λ (s : Sporadic). bytes_eq s.name name) sporadics

-- graph.task#instance: 35 is `#`, and 46 is the point
abbrev pub offline_key : TaskSet → List ℕ → Option Key
offline_key set text = do
  parts ← cut_at 35 text
  names ← cut_at 46 parts.0
  graph ← graph_named set.graphs names.0
  task ← task_named (tasks_of set graph) names.1
  instance ← number_of parts.1
  Some (Offline graph task instance)

-- name@row: 64 is `@`
abbrev pub sporadic_key : TaskSet → List ℕ → Option Key
sporadic_key set text = do
  parts ← cut_at 64 text
  index ← sporadic_named set.sporadics parts.0
  row ← row_number parts.1
  Some (SporadicKey index row)

-- the key of a firm or a soft job of this row, as the word says
abbrev pub worded_key : List ℕ → ℕ → Option Key
worded_key word row =
    if bytes_eq word (codes "firm") then Some (FirmKey row)
    else if bytes_eq word (codes "soft") then Some (SoftKey row)
    else None

-- firm:row, soft:row: 58 is the colon
abbrev pub row_key : List ℕ → Option Key
row_key text = do
  parts ← cut_at 58 text
  row ← row_number parts.1
  worded_key parts.0 row

-- the key of the set that the text writes, in one of these forms
abbrev pub key_of_text : TaskSet → List ℕ → Option Key
key_of_text set text =
    option_or (offline_key set text) (option_or (sporadic_key set text) (row_key text))
