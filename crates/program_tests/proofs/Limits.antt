-- Limits of the command line and of views that pages name, each with its number. The list holds by
-- computing the constants.
use Rattle.std.specs.Prelude.{◌≡◌, [], ◌∷◌, refl}
use Rattle.command_line.specs.declared.TheConstants.{LOAD_SLOTS, WORD_DIGIT_LIMIT}
use Rattle.run_blocks.specs.declared.TheConstants.{FIRM_ROW_LIMIT}

-- slots of a generated load that are run; digits of a number in a command; firm jobs of a view
-- that have a row each
pub limits : LOAD_SLOTS ∷ WORD_DIGIT_LIMIT ∷ FIRM_ROW_LIMIT ∷ [] ≡ 1024 ∷ 6 ∷ 12 ∷ []
limits = refl
