-- The command line: which words ask for which view.
use Rattle.std.specs.Prelude.{ℕ, ◌==◌, List, codes, length, if◌then◌else◌, nat_lt, Option, Some, None}
use Rattle.std.specs.Str.{bytes_eq}
use Rattle.command_line.specs.Refusals.{word_at}
use Rattle.key_texts.specs.Numbers.{number_of}
use Rattle.key_texts.specs.Options.{◌>>=◌}
use Rattle.trace_lines.specs.declared.part.Slots.{Slots}
use Rattle.command_line.specs.declared.commands.Source.{Source as PlanSource}
use Rattle.command_line.specs.declared.commands.Source.TheVariants.{Tasks as TasksSource, Spelled}
use Rattle.view_run.specs.declared.views.Source.{Source}
use Rattle.view_run.specs.declared.views.Source.TheVariants.{Tasks, Table}
use Rattle.view_run.specs.declared.views.View.{View}
use Rattle.view_run.specs.declared.views.View.TheVariants.{Lines, Planned, Stairs}
use Rattle.view_run.specs.declared.views.PlanView.{PlanView}
use Rattle.view_run.specs.declared.views.PlanView.TheVariants.{Jobs, Tasks as TasksView}
use Rattle.view_run.specs.declared.views.LineView.{LineView}
use Rattle.view_run.specs.declared.views.LineView.TheVariants.{Picture, Events, Spans, Waves}

-- the view of lines that a word asks for
abbrev pub view_of_lines : List ℕ → Option LineView
view_of_lines word =
    if bytes_eq word (codes "picture") then Some Picture
    else if bytes_eq word (codes "events") then Some Events
    else if bytes_eq word (codes "spans") then Some Spans
    else if bytes_eq word (codes "waves") then Some Waves
    else None

-- the view beside a plan that a word asks for
abbrev pub plan_view : List ℕ → Source → Option View
plan_view word source =
    if bytes_eq word (codes "jobs") then Some (Planned Jobs source)
    else if bytes_eq word (codes "picture") then Some (Planned (TasksView None) source)
    else None

-- the view of all lines that a word asks for
abbrev pub view_of_all : List ℕ → Option View
view_of_all word = do
  view ← view_of_lines word
  Some (Lines view None)

-- the view that one word asks for: the staircase of a supply, or that of all lines
abbrev pub view_of_one : List ℕ → Option View
view_of_one word = if bytes_eq word (codes "stairs") then Some Stairs else view_of_all word

-- the slots from one on and before another, of which there is at least one
abbrev pub slots_named : List ℕ → List ℕ → Option Slots
slots_named from until = do
  f ← number_of from
  u ← number_of until
  (if nat_lt f u then Some (record { from = f; until = u }) else None)

-- the view of the lines of such slots
abbrev pub view_of_part : List ℕ → List ℕ → List ℕ → Option View
view_of_part word from until = do
  view ← view_of_lines word
  slots ← slots_named from until
  Some (Lines view (Some slots))

-- a view beside the plan of a table, or a word and two numbers
abbrev pub view_of_three : List ℕ → List ℕ → List ℕ → Option View
view_of_three word second third =
    if bytes_eq second (codes "--table") then plan_view word Table
    else view_of_part word second third

-- the view beside a plan of such slots
abbrev pub plan_view_part : List ℕ → Source → List ℕ → List ℕ → Option View
plan_view_part word source from until = do
  slots ← slots_named from until
  (if bytes_eq word (codes "picture") then Some (Planned (TasksView (Some slots)) source) else None)

-- the view of such slots beside the plan of a table
abbrev pub view_of_five : List ℕ → List ℕ → List ℕ → List ℕ → Option View
view_of_five word option from until =
    if bytes_eq option (codes "--table") then plan_view_part word Table from until else None

-- the slots of which a view beside a plan shows the lines, or none where it shows all
abbrev pub slots_in : PlanView → Option Slots
slots_in Jobs = None
slots_in (TasksView slots) = slots

-- the view that the words ask for, or none: picture, events, spans, waves, each with or without two
-- numbers, jobs and picture with T or --table B, picture then with or without two numbers, stairs
abbrev pub view_of : List (List ℕ) → Option View
view_of words =
    if length words == 1 then view_of_one (word_at words 0)
    else if length words == 2 then plan_view (word_at words 0) Tasks
    else if length words == 3 then
    view_of_three (word_at words 0) (word_at words 1) (word_at words 2)
    else if length words == 4 then
    plan_view_part (word_at words 0) Tasks (word_at words 2) (word_at words 3)
    else if length words == 5 then
    view_of_five (word_at words 0) (word_at words 1) (word_at words 3) (word_at words 4)
    else None

-- where the plan comes from
abbrev pub plan_source : Source → PlanSource
plan_source Tasks = TasksSource
plan_source Table = Spelled
