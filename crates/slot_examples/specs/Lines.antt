-- Arrivals, and parts of the trace that they make.
use Rattle.std.specs.Prelude.{ℕ, List, [], ◌∷◌, ◌++◌, map, drop, flat_map, reverse, slice_index_or}
use Rattle.slot_core.specs.declared.events.Event.{Event}
use Rattle.slot_core.specs.declared.events.Arrival.{Arrival}
use Rattle.slot_core.specs.declared.events.What.{What}
use Rattle.slot_core.specs.declared.events.What.TheVariants.{Run}
use Rattle.slot_core.specs.declared.tasks.TaskSet.{TaskSet}
use Rattle.slot_core.specs.Sets.Cycles.{cycle_of}
use Rattle.slot_core.specs.Output.Texts.{entry_line, key_text}
use Rattle.slot_core.specs.Runs.Traces.{trace, started, occurrences_of, history_after}

-- a row of the arrivals
abbrev pub arrival : ℕ → ℕ → Event → Arrival
arrival row slot event = record { row = row; slot = slot; event = event }

-- the text of these lines, a line feed after each
abbrev pub lines : List (List ℕ) → List ℕ
lines texts = flat_map (λ line. line ++ 10 ∷ []) texts

-- the lines of a trace at these places, as one text
abbrev pub lines_at : TaskSet → List Arrival → ℕ → List ℕ → List ℕ
lines_at set arrivals n places =
    let told = map (entry_line set) (trace set arrivals n) in
    flat_map (λ place. slice_index_or told place []) places

-- the text of the key that runs
abbrev pub run_text : TaskSet → What → List (List ℕ)
run_text set (Run key) = key_text set key ∷ []
run_text set _ = []

-- the texts of the keys that run, from this one on
abbrev pub runs_from : ℕ → TaskSet → List Arrival → ℕ → List (List ℕ)
runs_from first set arrivals n =
    let h = history_after set (cycle_of set) started (occurrences_of arrivals n) in
    drop first (flat_map (run_text set) (reverse h))
