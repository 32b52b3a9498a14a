-- What is told of a row of the arrivals.
use Rattle.std.specs.Prelude.{◌≡◌, ℕ, ◌+◌, ◌-◌, ◌<◌, List, [], Option, None, Some, Ok, slice_get}
use Rattle.std.specs.Option.{option_map_or}
use Rattle.slot_core.specs.declared.events.Arrival.{Arrival}
use Rattle.slot_core.specs.declared.events.Entry.{Entry}
use Rattle.slot_core.specs.declared.events.Firm.TheVariants.{NoRoom}
use Rattle.slot_core.specs.Claims.Futures.{LeavesNone, densest_until}
use Rattle.slot_core.specs.declared.jobs.Evidence.{Evidence}
use Rattle.slot_core.specs.declared.events.What.{What}
use Rattle.slot_core.specs.declared.events.What.TheVariants.{Firm}
use Rattle.slot_core.specs.Keeping.Plans.{PlanParts}
use Rattle.slot_core.specs.Output.Texts.{entry_line}
use Rattle.slot_core.specs.Runs.Histories.{History, time_of}
use Rattle.slot_core.specs.Runs.Scenes.{scene_of}
use Rattle.slot_core.specs.Runs.Traces.{trace}
use Rattle.arrival_replay.specs.Replays.{entries_before, history_before}
use Rattle.future_check.specs.Explanations.{explanation, shown_slots}
use Rattle.command_line.specs.Writings.{Writing, in_whole}
use Rattle.slot_cli.specs.declared.rows.RefusedOffer.{RefusedOffer}

-- the offer of an entry that refuses it for want of room, if it is such an entry
abbrev pub refused_offer : What → Option RefusedOffer
refused_offer (Firm row slots within (NoRoom e)) =
    Some (record { slots = slots; within = within; until = e.until })
refused_offer _ = None

-- what stands against an offer after a history
abbrev pub offer_text : PlanParts → History → RefusedOffer → List ℕ
offer_text plan h offer =
    explanation
    plan.tasks
    (scene_of plan.tasks plan.cycle h)
    offer.slots
    (time_of h + offer.within)
    offer.until

-- the same of an entry, nothing where it refuses none for want of room
abbrev pub refusal_text : PlanParts → History → What → List ℕ
refusal_text plan h what = option_map_or (offer_text plan h) (refused_offer what) []

-- what is told of an entry after a history: its line, and then what stands against its offer
abbrev pub explained_entry : PlanParts → History → Entry → Writing
explained_entry plan h entry = record {
  front = entry_line plan.tasks entry;
  rest = Ok (refusal_text plan h entry.what);
}

-- of the entry of an arrival in a trace
abbrev pub explained_arrival : PlanParts → List Entry → Arrival → Writing
explained_arrival plan trace a =
    option_map_or
    (explained_entry plan (history_before trace a))
    (slice_get trace (entries_before a))
    (in_whole [])

-- of a row of the arrivals, counted from 1, in the trace of so many slots
abbrev pub explained : PlanParts → List Arrival → ℕ → ℕ → Writing
explained plan arrivals slots row =
    option_map_or
    (explained_arrival plan (trace plan.tasks arrivals slots))
    (slice_get arrivals (row - 1))
    (in_whole [])

-- what the explanation of an offer shows, which was refused after a history with this evidence
pub record ShowsWhy
    (plan : PlanParts) (h : History) (slots within : ℕ) (e : Evidence) : Type 0 where
  -- the slots of the shown jobs and arrivals and those of the offer add up to what is needed
  pub sum :
      shown_slots plan.tasks (scene_of plan.tasks plan.cycle h) e.until + slots ≡ e.need
  -- which is more than there are
  pub more : e.room < e.need
  -- and the shown arrivals are legal, and leave the remaining jobs and the offer no slot schedule
  pub none :
      LeavesNone
      plan.tasks
      plan.cycle
      h
      slots
      within
      (densest_until plan.tasks (scene_of plan.tasks plan.cycle h) e.until)

-- where the entry of a row of the arrivals refuses an offer for want of room, its explanation shows
-- why
abbrev pub RowShowsWhy : PlanParts → List Arrival → ℕ → ℕ → Type 0
RowShowsWhy plan arrivals slots row =
    (a : Arrival) (entry : Entry) (r offered within : ℕ) (e : Evidence)
    → let told = trace plan.tasks arrivals slots in
    slice_get arrivals (row - 1) ≡ Some a
    → slice_get told (entries_before a) ≡ Some entry
    → entry.what ≡ Firm r offered within (NoRoom e)
    → ShowsWhy plan (history_before told a) offered within e
