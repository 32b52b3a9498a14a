-- The numbers that digits write, and how large they are.
use Rattle.std.proofs.Common.{◌≡◌, ℕ, ◌+◌, ◌*◌, ◌-◌, ◌^◌, ◌≤◌, ◌<◌, true, List, length, sym, ap, ◌∙◌, arith, rules}
use Rattle.std.specs.Char.{is_ascii_digit}
use Rattle.std.specs.List.{list_all}
use Rattle.std.specs.Str.Parse.{digits_value}
use Rattle.std.proofs.Math.Nat.{mul-le-mul_right, add-mul, pow-le-pow_right}
use Rattle.std.proofs.lemmas.Int.Digits.{digits_value-lt}
use Rattle.std.proofs.lemmas.Nat.{pow-add}
use Rattle.std.proofs.lemmas.Str.Parse.{IsNumeralModel, numerals_by_value}

-- digits are read as `digits_value` reads them
pub digits : IsNumeralModel (λ ds. list_all is_ascii_digit ds ≡ true) (digits_value 10)
digits = numerals_by_value _ (search rules)

-- so many units that are fewer than a power of ten, and one more, are at most this power of them
pub scaled-below : (value count places : ℕ) → value < 10 ^ count → value * 10 ^ places + 10 ^ places ≤ 10 ^ (count + places)
scaled-below value count places below =
    let step : value + 1 ≤ 10 ^ count = omega arith in
    omega (arith, mul-le-mul_right (10 ^ places) step, add-mul value 1 (10 ^ places), pow-add 10 count places)

-- the power of ten of a few places is a number of 64 bits
pub power-small : (places most : ℕ) → places ≤ most → 10 ^ places ≤ 10 ^ most
power-small places most few = pow-le-pow_right {n = 10} (omega arith) few
