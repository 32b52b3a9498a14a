-- The statuses of the calls, by cases.
use Rattle.std.specs.Prelude.{ℕ, Bool, false, ◌&&◌, List, length, nat_le, nat_lt, if◌then◌else◌, is_some}
use Rattle.std.specs.Option.{option_map_or}
use Rattle.slot_core.specs.declared.TheConstants.{TIME_LIMIT}
use Rattle.slot_core.specs.declared.events.Event.{Event}
use Rattle.slot_core.specs.declared.events.Event.TheVariants.{Done, Withdraw}
use Rattle.slot_core.specs.declared.jobs.Key.{Key}
use Rattle.slot_core.specs.Keeping.Executives.{Executive}
use Rattle.slot_core.specs.Output.Texts.{key_text}
use Rattle.slot_core.specs.Runs.Arrivals.{event_may_come, key_in_set}
use Rattle.key_texts.specs.KeyTexts.{sporadic_named}
use Rattle.slot_port.specs.declared.numbers.KeyNumbers.{KeyNumbers}
use Rattle.slot_port.specs.declared.status.TheConstants.{OK, BAD_ROW, BAD_NUMBER, AT_END}
use Rattle.slot_port.specs.Keys.{key_named}

-- done where the numbers are in range
abbrev pub range_status : Bool → ℕ
range_status fits = if fits then OK else BAD_NUMBER

-- of an arrival: whether it may have its row, and whether its numbers are in range
abbrev pub arrival_status : Bool → Bool → ℕ
arrival_status may_have fits = if may_have then range_status fits else BAD_ROW

-- the row of an early end or a withdrawal is not below the last one, and any other row above it
abbrev pub may_have_row : Executive → ℕ → Event → Bool
may_have_row exec row (Done key) = nat_le exec.last_row row
may_have_row exec row (Withdraw firm) = nat_le exec.last_row row
may_have_row exec row _ = nat_lt exec.last_row row

-- of an arrival of this event: it may have the row, and it may come
abbrev pub event_status : Executive → ℕ → Event → ℕ
event_status exec row event =
    arrival_status (may_have_row exec row event) (event_may_come exec.plan.tasks event)

-- of an early end: its row is not below the last one, and the numbers name a key
abbrev pub done_status : Executive → ℕ → KeyNumbers → ℕ
done_status exec row key = arrival_status (nat_le exec.last_row row) (is_some (key_named key))

-- of a slot: the time is below its limit
abbrev pub slot_status : Executive → ℕ
slot_status exec = if nat_lt exec.scene.time TIME_LIMIT then OK else AT_END

-- of so many slots ahead: at least one
abbrev pub ahead_status : ℕ → ℕ
ahead_status most = range_status (nat_le 1 most)

-- of so many slots that pass: at least one, and the time is below its limit
abbrev pub pass_status : Executive → ℕ → ℕ
pass_status exec most = if nat_le 1 most then slot_status exec else BAD_NUMBER

-- of the span at a place: there is one
abbrev pub span_status : Executive → ℕ → ℕ
span_status exec place = range_status (nat_lt place (length exec.scene.points))

-- of a text: so many bytes hold it
abbrev pub room_status : List ℕ → ℕ → ℕ
room_status text room = range_status (nat_le (length text) room)

-- the set has this key, and so many bytes hold its text
abbrev pub key_fits : Executive → ℕ → Key → Bool
key_fits exec room key =
    key_in_set exec.plan.tasks key && nat_le (length (key_text exec.plan.tasks key)) room

-- of the text of a key: the numbers name a key that the set has, and its text fits
abbrev pub text_status : Executive → KeyNumbers → ℕ → ℕ
text_status exec key room = range_status (option_map_or (key_fits exec room) (key_named key) false)

-- of the index of a sporadic task: one has this name
abbrev pub name_status : Executive → List ℕ → ℕ
name_status exec name = range_status (is_some (sporadic_named exec.plan.tasks.sporadics name))
