-- The header of a plan for a program in C.
use Rattle.std.specs.Prelude.{ℕ, ◌+◌, ◌-◌, ◌*◌, ◌/◌, ◌%◌, ◌==◌, List, [], ◌∷◌, ◌++◌, codes, flat_map, length, map, nat_lt, sum_by, if◌then◌else◌}
use Rattle.std.specs.List.{enumerate_from}
use Rattle.slot_core.specs.declared.tasks.Task.{Task}
use Rattle.slot_core.specs.declared.tasks.Graph.{Graph}
use Rattle.slot_core.specs.declared.tasks.Sporadic.{Sporadic}
use Rattle.slot_core.specs.declared.tasks.TaskSet.{TaskSet}
use Rattle.slot_core.specs.Keeping.Plans.{PlanParts}
use Rattle.slot_core.specs.Output.Texts.{worded}
use Rattle.table_codec.specs.Grammar.{spelling}

-- a byte of a name in C: a dash is an underscore
abbrev pub c_byte : ℕ → ℕ
c_byte byte = if byte == 45 then 95 else byte

-- a name in C
abbrev pub c_name : List ℕ → List ℕ
c_name name = map c_byte name

-- an enumerator of this name and value
abbrev pub enumerator : List ℕ → ℕ → List ℕ
enumerator name value = worded (codes "    PLAN_" ++ name ++ codes " =") value ++ codes ",\n"

-- the name of a task in C: its graph and itself
abbrev pub c_task : Graph → Task → List ℕ
c_task graph task = c_name graph.name ++ codes "__" ++ c_name task.name

-- the index of a task in its graph, and its worst case
abbrev pub task_lines : Graph → ℕ × Task → List ℕ
task_lines graph (t, task) =
    enumerator (codes "TASK_" ++ c_task graph task) t
    ++ enumerator (codes "WCET_" ++ c_task graph task) task.wcet

-- the index of a graph, and its tasks
abbrev pub graph_lines : ℕ × Graph → List ℕ
graph_lines (g, graph) =
    enumerator (codes "GRAPH_" ++ c_name graph.name) g
    ++ flat_map (task_lines graph) (enumerate_from 0 graph.tasks)

-- the index of a sporadic task, and its worst case
abbrev pub sporadic_lines : ℕ × Sporadic → List ℕ
sporadic_lines (s, sporadic) =
    enumerator (codes "SPORADIC_" ++ c_name sporadic.name) s
    ++ enumerator (codes "WCET_" ++ c_name sporadic.name) sporadic.wcet

-- the enumerators of a set, in the order of the file
abbrev pub set_lines : TaskSet → List ℕ
set_lines set =
    flat_map graph_lines (enumerate_from 0 set.graphs)
    ++ flat_map sporadic_lines (enumerate_from 0 set.sporadics)

-- the graphs, tasks and sporadic tasks of a set together
abbrev pub parts_in : TaskSet → ℕ
parts_in set =
    length set.graphs
    + sum_by (λ (g : Graph). length g.tasks) set.graphs
    + length set.sporadics

-- the bytes of an arena for a plan, as library/arena.h counts them by its numbers
abbrev pub arena_bytes : PlanParts → ℕ
arena_bytes plan =
    24640 + 412 * plan.cycle + 320 * length plan.jobs + 128 * length plan.spans
    + 12 * plan.tasks.soft_limit
    + 512 * parts_in plan.tasks

-- the enumerators of these numbers of a plan
abbrev pub number_lines : ℕ → ℕ → ℕ → ℕ → List ℕ
number_lines cycle soft arena table =
    enumerator (codes "CYCLE") cycle
    ++ enumerator (codes "SOFT") soft
    ++ enumerator (codes "ARENA") arena
    ++ enumerator (codes "TABLE_BYTES") table

-- the enumerators of the plan as a whole
abbrev pub plan_lines : PlanParts → List ℕ
plan_lines plan =
    number_lines plan.cycle plan.tasks.soft_limit (arena_bytes plan) (length (spelling plan))

-- a digit of a number below 16
abbrev pub hex_digit : ℕ → ℕ
hex_digit n = if nat_lt n 10 then 48 + n else 87 + n

-- a line ends and another begins before the first of twelve bytes
abbrev pub break_text : ℕ → List ℕ
break_text place = if place % 12 == 0 then codes "\n   " else []

-- a byte in two digits of base 16, and a comma
abbrev pub byte_text : ℕ → List ℕ
byte_text byte = codes " 0x" ++ hex_digit (byte / 16) ∷ hex_digit (byte % 16) ∷ codes ","

-- an item of the array
abbrev pub item_text : ℕ × ℕ → List ℕ
item_text (place, byte) = break_text place ++ byte_text byte

-- the items of an array of these bytes
abbrev pub array_text : List ℕ → List ℕ
array_text bytes = flat_map item_text (enumerate_from 0 bytes)

-- the value of a digit
abbrev pub digit_value : ℕ → ℕ
digit_value digit = if nat_lt digit 58 then digit - 48 else digit - 87

-- the number of the two digits at the front
abbrev pub two_digits : List ℕ → ℕ
two_digits (high ∷ low ∷ rest) = 16 * digit_value high + digit_value low
two_digits _ = 0

-- the bytes of an array, read from its items: after each x two digits
abbrev pub array_bytes : List ℕ → List ℕ
array_bytes [] = []
array_bytes (byte ∷ rest) =
    if byte == 120 then two_digits rest ∷ array_bytes rest else array_bytes rest

-- what stands before the enumerators, between them and the array, and after it
abbrev pub head_text : List ℕ
head_text =
    codes "/* A plan for library/slotexec.h, as slotplan header writes it: do not edit.\n"
    ++ codes " * Indexes are those that the calls take, worst cases are in slots, and an arena\n"
    ++ codes " * of PLAN_ARENA bytes suffices. */\n"
    ++ codes "#ifndef SLOTPLAN_HEADER\n"
    ++ codes "#define SLOTPLAN_HEADER\n"
    ++ codes "\n"
    ++ codes "#include <stdint.h>\n"
    ++ codes "\n"
    ++ codes "enum {\n"

abbrev pub middle_text : List ℕ
middle_text =
    codes "};\n"
    ++ codes "\n"
    ++ codes "static const uint8_t plan_table[PLAN_TABLE_BYTES] = {"

abbrev pub end_text : List ℕ
end_text =
    codes "\n};\n"
    ++ codes "\n"
    ++ codes "#endif\n"

-- the header of a plan
abbrev pub header_text : PlanParts → List ℕ
header_text plan =
    head_text ++ plan_lines plan ++ set_lines plan.tasks ++ middle_text
    ++ array_text (spelling plan)
    ++ end_text
