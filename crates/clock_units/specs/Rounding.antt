-- Whole slots of a time.
use Rattle.std.specs.Prelude.{ℕ, ◌+◌, ◌/◌, ◌%◌, min}

-- the pieces of this size that fit into the time
abbrev pub down : ℕ → ℕ → ℕ
down size time = time / size

-- the pieces of this size that reach it: one more, where something is left
abbrev pub up : ℕ → ℕ → ℕ
up size time = time / size + min 1 (time % size)
