-- The titles of blocks.
use Rattle.std.specs.Prelude.{ℕ, ◌-◌, ◌==◌, List, ◌++◌, codes, decimal, if◌then◌else◌}
use Rattle.run_blocks.specs.declared.blocks.Block.{Block}
use Rattle.trace_lines.specs.Texts.{key_text}

-- so many slots
abbrev pub slots_words : ℕ → List ℕ
slots_words n = decimal n ++ (if n == 1 then codes " slot" else codes " slots")

-- the title of a block: its key, how many slots, and which
abbrev pub block_title : Block → List ℕ
block_title block =
    key_text block.key.now
    ++ codes ": "
    ++ slots_words (block.end - block.start)
    ++ codes ", "
    ++ decimal block.start
    ++ codes "-"
    ++ decimal block.end
