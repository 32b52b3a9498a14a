-- Blocks of slots, and the runs that they stand for.
use Rattle.std.specs.Prelude.{◌≡◌, ◌≢◌, ℕ, ◌+◌, ◌-◌, Bool, true, ◌&&◌, ◌==◌, nat_lt, List, [], ◌∷◌, map, flat_map, ⊤}
use Rattle.std.specs.List.{list_all, range_with_len}
use Rattle.trace_lines.specs.declared.line.KeyName.{KeyName}
use Rattle.run_blocks.specs.declared.blocks.Block.{Block}
use Rattle.run_blocks.specs.declared.rows.Row.{Row}
use Rattle.run_blocks.specs.Rows.{row_at}

-- the runs that a block stands for: its job in each of its slots
abbrev pub block_runs : Block → List (ℕ × KeyName)
block_runs block =
    map (λ time. (time, block.key.now)) (range_with_len block.start (block.end - block.start))

-- the runs of blocks
abbrev pub blocks_runs : List Block → List (ℕ × KeyName)
blocks_runs blocks = flat_map block_runs blocks

-- a block has a slot, and stands in the first row that holds its job
abbrev pub is_placed : List Row → Block → Bool
is_placed rows block =
    nat_lt block.start block.end && block.row == row_at rows block.key.now

-- each of them does
abbrev pub are_placed : List Row → List Block → Bool
are_placed rows blocks = list_all (is_placed rows) blocks

-- no block goes on where the one before it ends
abbrev pub AreApart : List Block → Type 0
AreApart [] = ⊤
AreApart (block ∷ []) = ⊤
AreApart (block ∷ next ∷ blocks) =
    (block.end ≡ next.start → block.key.now ≢ next.key.now) × AreApart (next ∷ blocks)

-- blocks that are placed and apart
pub record AreBlocks (rows : List Row) (blocks : List Block) : Type 0 where
  pub placed : are_placed rows blocks ≡ true
  pub apart : AreApart blocks

-- blocks that stand for these runs
pub record AreBlocksOf (rows : List Row) (blocks : List Block) (runs : List (ℕ × KeyName))
    : Type 0 where
  pub placed : are_placed rows blocks ≡ true
  pub apart : AreApart blocks
  pub stands : blocks_runs blocks ≡ runs

-- a block of this job and this slot
pub record IsSlot (rows : List Row) (block : Block) (time : ℕ) (key : KeyName) : Type 0 where
  pub row : block.row ≡ row_at rows key
  pub job : block.key.now ≡ key
  pub first : block.start ≡ time
  pub after : block.end ≡ time + 1
