-- A written table replays as the task file that it was made from.
use Rattle.std.specs.Prelude.{◌≡◌, ℕ, List, [], ◌∷◌, codes, Some, Ok}
use Rattle.std.specs.FinMap.{get}
use Rattle.slot_io.specs.Files.{Held}
use Rattle.slot_core.specs.Keeping.Plans.{PlanParts}
use Rattle.table_codec.specs.Grammar.{Spells}
use Rattle.command_line.specs.declared.commands.Source.TheVariants.{Tasks}
use Rattle.run_steps.specs.Readings.{plan_from}
use Rattle.slot_cli.specs.Due.{expected}

-- where T has this plan, and files hold a spelling of it under B, in the first version or the
-- second, and the same arrivals under A, they call for the same of `replay-table B A N` as the
-- files before do of `replay T A N`
abbrev pub EachSpellingReplaysTheSame : Type 0
EachSpellingReplaysTheSame =
    (before after : Held) (t b a n bytes : List ℕ) (plan : PlanParts)
    → plan_from before (codes "table" ∷ t ∷ []) Tasks ≡ Ok plan
    → Spells bytes plan
    → get after b ≡ Some bytes → get after a ≡ get before a
    → expected after (codes "replay-table" ∷ b ∷ a ∷ n ∷ [])
    ≡ expected before (codes "replay" ∷ t ∷ a ∷ n ∷ [])

-- where `table T` writes these bytes, files that hold them under B, and the same arrivals under A,
-- call for the same of `replay-table B A N` as the files before do of `replay T A N`
abbrev pub AWrittenTableReplaysTheSame : Type 0
AWrittenTableReplaysTheSame =
    (before after : Held) (t b a n bytes : List ℕ)
    → expected before (codes "table" ∷ t ∷ []) ≡ Ok bytes
    → get after b ≡ Some bytes → get after a ≡ get before a
    → expected after (codes "replay-table" ∷ b ∷ a ∷ n ∷ [])
    ≡ expected before (codes "replay" ∷ t ∷ a ∷ n ∷ [])
