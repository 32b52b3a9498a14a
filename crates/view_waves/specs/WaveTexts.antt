-- The text of waves: a value change dump (IEEE 1364).
use Rattle.std.specs.Prelude.{ℕ, ◌+◌, ◌-◌, ◌/◌, ◌%◌, ◌^◌, Bool, true, false, ◌==◌, List, [], ◌∷◌, ◌++◌, codes, decimal, length, map, flat_map, if◌then◌else◌, Option, Some, None}
use Rattle.std.specs.List.{enumerate_from, range_with_len}
use Rattle.trace_lines.specs.declared.line.TraceLine.{TraceLine}
use Rattle.run_blocks.specs.declared.rows.Row.{Row}
use Rattle.run_blocks.specs.declared.rows.Row.TheVariants.{Task, Sporadic, FirmJob, Firm, Soft}
use Rattle.view_waves.specs.declared.lines.TheConstants.{BITS}
use Rattle.view_waves.specs.declared.steps.Step.{Step}
use Rattle.view_waves.specs.declared.steps.Wave.{Wave}
use Rattle.trace_lines.specs.Traces.{time_of_first}
use Rattle.view_waves.specs.Steps.{first_wave, steps_from}

-- the name of a row: graph.task, the sporadic task, firm.row, firm, soft
abbrev pub row_label : Row → List ℕ
row_label (Task graph task) = graph ++ 46 ∷ task
row_label (Sporadic name) = name
row_label (FirmJob row) = codes "firm." ++ decimal row
row_label Firm = codes "firm"
row_label Soft = codes "soft"

-- the declaration of a wire of this number and name
abbrev pub wire_text : ℕ → List ℕ → List ℕ
wire_text wire name =
    codes "$var wire 1 w" ++ decimal wire ++ 32 ∷ name ++ codes " $end\n"

-- the declaration of the wire of a row
abbrev pub row_text : ℕ × Row → List ℕ
row_text (wire, row) = wire_text wire (row_label row)

-- what stands before the wires: a unit of time is a slot
abbrev pub before_wires : List ℕ
before_wires =
    codes "$comment One unit of time is one slot. $end\n"
    ++ codes "$timescale 1 us $end\n$scope module trace $end\n"

-- what stands after them: the wire of idle slots, and the capacity
abbrev pub after_wires : ℕ → List ℕ
after_wires idle =
    wire_text idle (codes "idle")
    ++ codes "$var integer 64 c capacity $end\n$upscope $end\n$enddefinitions $end\n"

-- the declarations: a wire for each row, one for idle slots, and the capacity
abbrev pub head_text : List Row → List ℕ
head_text rows =
    before_wires
    ++ flat_map row_text (enumerate_from 0 rows) ++ after_wires (length rows)

-- the value of a wire
abbrev pub level_text : ℕ → Bool → List ℕ
level_text wire is_on = (if is_on then codes "1w" else codes "0w") ++ decimal wire ++ 10 ∷ []

-- a bit of a number, as a digit
abbrev pub bit_digit : ℕ → ℕ → ℕ
bit_digit n place = 48 + (n / 2 ^ place) % 2

-- the value of the capacity: its bits, the highest first
abbrev pub capacity_text : ℕ → List ℕ
capacity_text bits =
    codes "b" ++ map (λ i. bit_digit bits (BITS - 1 - i)) (range_with_len 0 BITS) ++ codes " c\n"

-- the first values of so many wires, of which one is on
abbrev pub levels_text : ℕ → ℕ → List ℕ
levels_text wires on =
    flat_map (λ wire. level_text wire (wire == on)) (range_with_len 0 wires)

-- the first value of the capacity, and the end of the first values
abbrev pub shown_text : ℕ → List ℕ
shown_text bits = capacity_text bits ++ codes "$end\n"

-- the time of the first values
abbrev pub first_time_text : ℕ → List ℕ
first_time_text time = codes "#" ++ decimal time ++ codes "\n$dumpvars\n"

-- the first values, which stand from this time on
abbrev pub first_text : ℕ → ℕ → Wave → List ℕ
first_text wires time wave =
    first_time_text time ++ (levels_text wires wave.on ++ shown_text wave.shown)

-- a wire falls, and another rises
abbrev pub turn_text : Option (ℕ × ℕ) → List ℕ
turn_text None = []
turn_text (Some turn) = level_text turn.0 false ++ level_text turn.1 true

-- another capacity
abbrev pub change_text : Option ℕ → List ℕ
change_text None = []
change_text (Some bits) = capacity_text bits

-- a time, and what changes then
abbrev pub step_text : Step → List ℕ
step_text step =
    codes "#" ++ decimal step.time ++ 10 ∷ turn_text step.turn ++ change_text step.change

-- what changes over lines
abbrev pub steps_text : List Row → Wave → List TraceLine → List ℕ
steps_text rows wave lines = flat_map step_text (steps_from rows wave lines)

-- the waves of lines
abbrev pub waves_text : List Row → List TraceLine → List ℕ
waves_text rows lines =
    let wave = first_wave rows lines in
    head_text rows
    ++ (first_text (length rows + 1) (time_of_first lines) wave ++ steps_text rows wave lines)
