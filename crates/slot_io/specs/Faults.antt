-- Counts of faults and of calls.
use Rattle.std.specs.Prelude.{ℕ, ◌+◌, ◌-◌, ◌^◌, ◌==◌, min, Bool, List}
use Rattle.std.specs.List.{list_any}

-- the next value of a counter, which stops at its last value
abbrev pub one_more : ℕ → ℕ
one_more count = min (count + 1) (2 ^ 64 - 1)

-- whether the call after so many calls is one of those that fail
abbrev pub is_next_call : List ℕ → ℕ → Bool
is_next_call failing calls = list_any (λ call. call == calls + 1) failing
