-- The limits that the help names, each with its number. No statement here names the text of the
-- help: a reader compares its numbers with these. Each list holds by computing the constants.
use Rattle.std.specs.Prelude.{◌≡◌, [], ◌∷◌, refl}
use Rattle.slot_core.specs.declared.TheConstants.{TASK_FILE_LIMIT, TABLE_FILE_LIMIT, OFFER_LIMIT, ARRIVAL_LIMIT, REPLAY_LIMIT, NUMBER_LIMIT, TIME_LIMIT}
use Rattle.live_lines.specs.declared.TheConstants.{HEARD_LIMIT}

-- bytes of T, of B and of a line
pub bytes : TASK_FILE_LIMIT ∷ TABLE_FILE_LIMIT ∷ HEARD_LIMIT ∷ [] ≡ 1048576 ∷ 4194304 ∷ 256 ∷ []
bytes = refl

-- SLOTS and WITHIN, ROW and the arrivals, N, INSTANCE, and the time
pub numbers :
    OFFER_LIMIT ∷ ARRIVAL_LIMIT ∷ REPLAY_LIMIT ∷ NUMBER_LIMIT ∷ TIME_LIMIT ∷ []
    ≡ 65535 ∷ 65535 ∷ 100000 ∷ 4294967295 ∷ 17592186044416 ∷ []
numbers = refl
