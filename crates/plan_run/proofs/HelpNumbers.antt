-- The limits that the help names, with their numbers. No statement here names the text of the help: a
-- reader compares its numbers with these.
use Rattle.std.specs.Prelude.{◌≡◌, refl}
use Rattle.slot_core.specs.declared.TheConstants.{OFFER_LIMIT, TASK_FILE_LIMIT}

-- bytes of T
pub bytes : TASK_FILE_LIMIT ≡ 1048576
bytes = refl

-- the most slots of D
pub slots : OFFER_LIMIT ≡ 65535
slots = refl
