-- How many digits a number has, by the powers of ten that it lies between.
use Rattle.std.proofs.Common.{◌≡◌, ℕ, zero, suc, ◌+◌, ◌*◌, ◌/◌, ◌^◌, ◌<◌, ◌≤◌, length, decimal, ap, arith, length-append}
use Rattle.std.proofs.lemmas.Fmt.{decimal_digit, decimal_step}

-- a number from a power of ten on and below the next has one digit more than that power has zeros
pub length_between : (k n : ℕ) → 10 ^ k ≤ n → n < 10 * 10 ^ k → n < 2 ^ 64 → length (decimal n) ≡ k + 1
length_between zero n low high fits = ap length (decimal_digit n (omega arith))
length_between (suc k) n low high fits =
    omega (
      arith,
      simp length-append at (ap length (decimal_step n (omega arith) fits)),
      length_between k (n / 10) (omega arith) (omega arith) (omega arith),
    )
