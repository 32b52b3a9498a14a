-- The limits that the help names, each with its number. No statement here names the text of the
-- help: a reader compares its numbers with these. Each list holds by computing the constants.
use Rattle.std.specs.Prelude.{◌≡◌, [], ◌∷◌, refl}
use Rattle.slot_core.specs.declared.TheConstants.{SLOT_LIMIT, TASK_FILE_LIMIT, TABLE_FILE_LIMIT}
use Rattle.run_blocks.specs.declared.TheConstants.{ROW_LIMIT}
use Rattle.trace_lines.specs.declared.TheConstants.{LINE_LIMIT, READ_LINE_LIMIT}
use Rattle.view_picture.specs.declared.TheConstants.{PICTURE_LIMIT}
use Rattle.view_run.specs.declared.TheConstants.{INPUT_LIMIT}

-- bytes of T, of B, of the trace and of a line
pub bytes :
    TASK_FILE_LIMIT ∷ TABLE_FILE_LIMIT ∷ INPUT_LIMIT ∷ READ_LINE_LIMIT ∷ []
    ≡ 1048576 ∷ 4194304 ∷ 67108864 ∷ 1024 ∷ []
bytes = refl

-- slots of a picture, lines that tell of them, rows, slots of a supply
pub slots :
    PICTURE_LIMIT ∷ LINE_LIMIT ∷ ROW_LIMIT ∷ SLOT_LIMIT ∷ []
    ≡ 10000 ∷ 262144 ∷ 1045 ∷ 8192 ∷ []
slots = refl
