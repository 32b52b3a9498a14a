-- Whole slots of a time: what they reach and what they fit into.
use Rattle.std.proofs.Common.{◌≡◌, ℕ, ◌+◌, ◌-◌, ◌*◌, ◌/◌, ◌%◌, ◌≤◌, ◌<◌, ap, ◌∙◌, inl, inr, arith}
use Rattle.std.proofs.Math.Nat.{add-mul, mul-le-mul_right, mul-add-div_right, zero-div}
use Rattle.std.proofs.lemmas.Bool.{cases_lt}
use Rattle.std.proofs.lemmas.Grind.{div_ceil_times}
use Rattle.std.proofs.lemmas.Nat.{div-add-mod', mod_below, le-div, div_below}
use Rattle.clock_units.specs.Rounding.{down, up}

-- so many pieces fit into the time exactly where there are no more of them than it down
pub le-down : (size n time : ℕ) → 0 < size → n * size ≤ time → n ≤ down size time
le-down size n time some fits = le-div n time size some fits

pub down-le : (size n time : ℕ) → 0 < size → n ≤ down size time → n * size ≤ time
down-le size n time some few = omega (arith, mul-le-mul_right size few, div-add-mod' time size)

-- so many pieces reach the time exactly where there are no fewer of them than it up
pub le-up : (size n time : ℕ) → 0 < size → up size time ≤ n → time ≤ n * size
le-up size n time some few = omega (arith, mul-le-mul_right size few, (div_ceil_times time size some).0)

pub up-le : (size n time : ℕ) → 0 < size → time ≤ n * size → up size time ≤ n
up-le size n time some reaches =
    elim (cases_lt n (up size time)) [
      | inr few ↦ few
      | inl many ↦
          let above : n + 1 ≤ up size time = omega arith in
          absurd (omega (arith, mul-le-mul_right size above, add-mul n 1 size, (div_ceil_times time size some).1))
    ]

-- a boundary is its own
pub up-boundary : (size time : ℕ) → 0 < size → time % size ≡ 0 → up size time * size ≡ time
up-boundary size time some none =
    let all : up size time ≡ time / size = omega arith in
    ap (λ n. n * size) all ∙ omega (arith, div-add-mod' time size)

-- a later time is not handed over earlier
pub up-mono : (size a b : ℕ) → 0 < size → a ≤ b → up size a ≤ up size b
up-mono size a b some before =
    up-le size (up size b) a some (omega (arith, (div_ceil_times b size some).0))

-- what is left of a slot is the wait for the next boundary
pub wait-none : (slot time : ℕ) → 0 < slot → time % slot ≡ 0 → time + 0 ≡ up slot time * slot
wait-none slot time some none = omega (arith, up-boundary slot time some none)

pub wait-some : (slot time : ℕ) → 0 < slot → 0 < time % slot → time + (slot - time % slot) ≡ up slot time * slot
wait-some slot time some left =
    let one : up slot time ≡ time / slot + 1 = omega arith in
    omega (arith, ap (λ n. n * slot) one, add-mul (time / slot) 1 slot, div-add-mod' time slot, mod_below time slot some)

-- the slots from the boundary after the offset to the one before the deadline are those of what the wait leaves of it
pub deadline-after_wait : (slot offset deadline wait : ℕ) → 0 < slot → offset + wait ≡ up slot offset * slot → down slot (offset + deadline) - up slot offset ≡ down slot (deadline - wait)
deadline-after_wait slot offset deadline wait some reaches =
    elim (cases_lt deadline wait) [
      | inl short ↦
          let none : deadline - wait ≡ 0 = omega arith in
          let few = div_below (offset + deadline) slot (up slot offset) some (omega (arith, reaches)) in
          rw (none, zero-div slot) (omega (arith, few))
      | inr long ↦
          let sum : offset + deadline ≡ up slot offset * slot + (deadline - wait) = omega (arith, reaches) in
          omega (arith, ap (λ n. n / slot) sum, mul-add-div_right {m = slot} some (up slot offset) (deadline - wait))
    ]
