-- Rounding to slots is exact.
use Rattle.std.proofs.Common.{◌≡◌, ℕ, ◌+◌, ◌-◌, ◌*◌, ◌/◌, ◌≤◌, ◌<◌, ap, inl, inr, arith}
use Rattle.std.proofs.Math.Nat.{add-mul, mul-le-mul_right}
use Rattle.std.proofs.lemmas.Bool.{cases_lt}
use Rattle.std.proofs.lemmas.Grind.{div_ceil_times}
use Rattle.std.proofs.lemmas.Nat.{div-add-mod', mod_below}
use Rattle.clock_units.specs.Rounding.{down, up}
use Rattle.clock_units.proofs.Roundings.{le-down, down-le, le-up, up-le}
use Rattle.clock_laws.specs.Rounding.{WorstCasesRoundUp, WindowsRoundInwards, SeparationsRoundDown}

-- of two numbers of pieces the one that makes no more is no greater
pub le-of_pieces : (size m n : ℕ) → 0 < size → m * size ≤ n * size → m ≤ n
le-of_pieces size m n some le =
    elim (cases_lt n m) [
      | inr few ↦ few
      | inl many ↦
          let more : n + 1 ≤ m = omega arith in
          absurd (omega (arith, mul-le-mul_right size more, add-mul n 1 size))
    ]

pub worst_cases_round_up : WorstCasesRoundUp
worst_cases_round_up worth wcet n some = (λ fits. up-le worth n wcet some fits, λ few. le-up worth n wcet some few)

pub windows_round_inwards : WindowsRoundInwards
windows_round_inwards slot from to s some = (
  (λ (starts, ends).
      (up-le slot s from some starts, (let fits : s + 1 ≤ down slot to = le-down slot (s + 1) to some ends in omega arith))),
  (λ (starts, ends).
      (le-up slot s from some starts, down-le slot (s + 1) to some (omega arith))),
)

-- what is reached beside some pieces is reached by the others
pieces-left : (size rest n all a : ℕ) → rest + n ≡ all → a + n * size ≤ all * size → a ≤ rest * size
pieces-left size rest n all a whole reaches = omega (arith, add-mul rest n size, ap (λ k. k * size) whole)

-- times that are a separation apart are handed over as many slots apart as fit into it
pub separation-handed : (slot separation n a b : ℕ) → 0 < slot → n ≤ down slot separation → a + separation ≤ b → up slot a + n ≤ up slot b
separation-handed slot separation n a b some few apart =
    let fits = down-le slot n separation some few in
    let reaches = (div_ceil_times b slot some).0 in
    let enough : n ≤ up slot b = le-of_pieces slot n (up slot b) some (omega (arith, fits, reaches)) in
    let rest : ℕ = up slot b - n in
    let whole : rest + n ≡ up slot b = omega arith in
    let first = up-le slot rest a some (pieces-left slot rest n (up slot b) a whole (omega (arith, fits, reaches))) in
    omega (arith, first, whole)

-- a nanosecond reaches into a slot
one-up : (slot : ℕ) → 0 < slot → 1 ≤ up slot 1
one-up slot some =
    elim (cases_lt 0 (up slot 1)) [
      | inl more ↦ omega arith
      | inr none ↦ absurd (omega (arith, mul-le-mul_right slot none, (div_ceil_times 1 slot some).0))
    ]

pub separations_round_down : SeparationsRoundDown
separations_round_down slot separation n some = (
  (λ apart.
      let q = separation / slot in
      let last : 1 + separation ≤ (q + 1) * slot = omega (arith, add-mul q 1 slot, div-add-mod' separation slot, mod_below separation slot some) in
      let most = up-le slot (q + 1) (1 + separation) some last in
      omega (arith, apart 1 (1 + separation) (omega arith), most, one-up slot some)),
  (λ few a b. separation-handed slot separation n a b some few),
)
