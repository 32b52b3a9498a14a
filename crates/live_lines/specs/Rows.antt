-- The rows of an arrivals file that write arrivals.
use Rattle.std.specs.Prelude.{ℕ, List, [], ◌∷◌, ◌++◌, codes, decimal, flat_map}
use Rattle.slot_core.specs.declared.events.Arrival.{Arrival}
use Rattle.slot_core.specs.declared.events.Event.{Event}
use Rattle.slot_core.specs.declared.events.Event.TheVariants.{Soft, Firm, Sporadic, Done, Withdraw}
use Rattle.slot_core.specs.declared.tasks.TaskSet.{TaskSet}
use Rattle.slot_core.specs.Output.Texts.{key_text, sporadic_name}

-- the kind of an event and its fields, each after a comma (byte 44)
abbrev pub event_text : TaskSet → Event → List ℕ
event_text set (Soft slots) = codes ",soft," ++ decimal slots
event_text set (Firm slots within) = codes ",firm," ++ decimal slots ++ 44 ∷ decimal within
event_text set (Sporadic index) = codes ",sporadic," ++ sporadic_name set index
event_text set (Done key) = codes ",done," ++ key_text set key
event_text set (Withdraw firm) = codes ",withdraw," ++ decimal firm

-- the row of an arrival, with its line feed
abbrev pub record_row : TaskSet → Arrival → List ℕ
record_row set a = decimal a.slot ++ event_text set a.event ++ 10 ∷ []

-- the rows of arrivals
abbrev pub record_text : TaskSet → List Arrival → List ℕ
record_text set arrivals = flat_map (record_row set) arrivals
