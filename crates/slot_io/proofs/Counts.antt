-- A count of faults over two steps, of which one raises it.
use Rattle.std.proofs.Common.{ℕ, ◌≤◌, arith}
use Rattle.slot_core.specs.Calls.Counts.{Rose}

-- a count that rose and does not fall then, rose
pub Rose-before : (a b c : ℕ) → Rose a b → b ≤ c → Rose a c
Rose-before a b c rose kept = omega (arith, rose, kept)

-- a count that does not fall and rises then, rose
pub Rose-after : (a b c : ℕ) → a ≤ b → Rose b c → Rose a c
Rose-after a b c kept rose = omega (arith, rose, kept)
