-- What the answers about the supply tell of the plan of the task file.
use Rattle.std.specs.Prelude.{◌≡◌, ℕ, ◌<◌, ◌≤◌, List, Ok, flat_map}
use Rattle.slot_core.specs.Keeping.Plans.{PlanParts}
use Rattle.slot_core.specs.Sets.Cycles.{cycle_of}
use Rattle.slot_io.specs.Files.{Held}
use Rattle.command_line.specs.declared.commands.Source.TheVariants.{Tasks}
use Rattle.run_steps.specs.Readings.{plan_from}
use Rattle.supply_find.specs.declared.supply.Supply.{Supply}
use Rattle.supply_lines.specs.Lines.{far_line, line_of, TellSupply, TellsWithin}

-- the text has lines that tell the supply within every number of slots up to the cycle
abbrev pub SupplyIsTold : Held → List (List ℕ) → List ℕ → Type 0
SupplyIsTold held words text =
    (plan : PlanParts) × (plan_from held words Tasks ≡ Ok plan)
    × (lines : List (ℕ × Supply)) × (text ≡ flat_map line_of lines) × TellSupply plan.tasks lines

-- the text is the line of the supply within so many slots of a cycle, or of a request too far ahead
abbrev pub SupplyIsToldWithin : Held → List (List ℕ) → ℕ → List ℕ → Type 0
SupplyIsToldWithin held words within text =
    (plan : PlanParts) × (plan_from held words Tasks ≡ Ok plan)
    × (within ≤ cycle_of plan.tasks
    → (s : Supply) × (text ≡ line_of (within, s)) × TellsWithin plan.tasks within s)
    × (cycle_of plan.tasks < within → text ≡ far_line within (cycle_of plan.tasks))
