-- The table of numbers below 1000.
use Rattle.std.specs.Prelude.{ℕ, List, [], ◌∷◌, ◌++◌, ◌+◌, ◌-◌, ◌/◌, ◌%◌}

-- the digits of a number below 1000, with zeros before it so that there are three
abbrev pub three_digits : ℕ → List ℕ
three_digits n = (48 + n / 100) ∷ (48 + n / 10 % 10) ∷ (48 + n % 10) ∷ []

-- how many of them are zeros that are not told: two below 10, one below 100, none from 100 on
abbrev pub zeros_before : ℕ → ℕ
zeros_before n = 2 - (n + 900) / 1000 - (n + 990) / 1000

-- what the table has of a number: its three digits, and the digit of how many are not told
abbrev pub block_of : ℕ → List ℕ
block_of n = three_digits n ++ (48 + zeros_before n) ∷ []
