-- The supply on standard input, and its staircase.
use Rattle.std.specs.Prelude.{◌≡◌, ◌⊎◌, ℕ, List, Option, IfSome}
use Rattle.slot_core.specs.Calls.Counts.{Rose}
use Rattle.slot_io.specs.Files.{Held}
use Rattle.command_line.specs.declared.refusal.Refusal.{Refusal}
use Rattle.command_line.specs.declared.refusal.Refusal.TheVariants.{WriteFault}
use Rattle.svg_text.specs.Content.{IsDocument}
use Rattle.view_stairs.specs.declared.lines.Step.{Step}
use Rattle.view_stairs.specs.Bars.{ShowsStairs}
use Rattle.view_stairs.specs.Steps.{AreStairs, Breaks, steps_text}
use Rattle.view_run.specs.Inputs.{Holds, HoldsSuch, IsByteRefusal, Told}
use Rattle.view_run.specs.Refusals.{no_supply_line}

-- the lines are those of a supply, whose text standard input holds, where it tells what it holds
abbrev pub AreSupply : Option Held → List Step → Type 0
AreSupply held steps = AreStairs steps × IfSome held (λ files. Holds files (steps_text steps))

-- a picture of the lines of a supply: a well-formed document that shows them
abbrev pub IsStaircase : List Step → List ℕ → Type 0
IsStaircase steps text = IsDocument text × ShowsStairs steps text

-- the text that is due: a picture of the lines of the input
abbrev pub IsStaircaseDue : Option Held → List ℕ → Type 0
IsStaircaseDue input text = (steps : List Step) × AreSupply input steps × IsStaircase steps text

-- why it is no supply: the first line that is none of a staircase, after those before it
abbrev pub IsNoSupply : ((List ℕ → Type 0) → Type 0) → Refusal → Type 0
IsNoSupply OfText e = (n : ℕ) × (e ≡ no_supply_line n) × OfText (λ text. Breaks text n)

-- why standard input is refused: its bytes are, or the text is no supply
abbrev pub IsSupplyRefusal : Option Held → Told → ℕ → ℕ → Refusal → Type 0
IsSupplyRefusal held told before after e =
    IsByteRefusal held told before after e ⊎ IsNoSupply (HoldsSuch held) e

-- why the picture of such lines is not written: the sink counted a fault
abbrev pub IsUndrawn : Option Held → ℕ → ℕ → Refusal → Type 0
IsUndrawn input before after e =
    (steps : List Step) × AreSupply input steps × (e ≡ WriteFault) × Rose before after
