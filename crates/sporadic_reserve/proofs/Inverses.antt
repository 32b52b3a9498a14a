-- A division by a separation, as a multiplication by its inverse.
use Rattle.std.proofs.Common.{◌≡◌, ℕ, ◌+◌, ◌*◌, ◌/◌, ◌≤◌, ◌<◌, ap, sym, ◌∙◌, arith}
use Rattle.std.specs.Int.{div_ceil}
use Rattle.std.proofs.lemmas.Grind.{div_ceil_times}
use Rattle.std.proofs.Math.Nat.{add-mul, div-lt_iff_lt-mul, div-mul-le_self, le-div_iff_mul-le, lt-div-mul-add, lt_of_mul-lt-mul_right, mul-add, mul-le-mul, mul-le-mul_left, mul-le-mul_right, mul_assoc, mul_comm, mul_right_comm}
use Rattle.slot_core.specs.declared.TheConstants.{SLOT_LIMIT}
use Rattle.sporadic_reserve.specs.declared.rates.TheConstants.{INVERSE_REACH, INVERSE_SCALE}

-- with an inverse that is not too small the product reaches the quotient
pub product_reaches : (scale inverse s n q : ℕ) → scale ≤ inverse * s → q * s ≤ n → q * scale ≤ n * inverse
product_reaches scale inverse s n q enough whole =
    let scaled : q * scale ≤ q * (inverse * s) = mul-le-mul_left q enough in
    let same : q * (inverse * s) ≡ q * s * inverse = ap (λ z. q * z) (mul_comm inverse s) ∙ sym (mul_assoc q s inverse) in
    let below : q * s * inverse ≤ n * inverse = mul-le-mul_right inverse whole in
    omega (arith, scaled, same, below)

-- and with one that is not too large, and few slots, it stays below the next
product_stays : (scale inverse s n q : ℕ) → inverse * s < scale + s → n < (q + 1) * s → n * s < scale → n * inverse < (q + 1) * scale
product_stays scale inverse s n q close part few =
    let grown : n * (inverse * s) ≤ n * (scale + s) = mul-le-mul_left n (omega (arith, close)) in
    let split : n * (scale + s) ≡ n * scale + n * s = mul-add n scale s in
    let next : (n + 1) * scale ≤ (q + 1) * s * scale = mul-le-mul_right scale (omega (arith, part)) in
    let one_more : (n + 1) * scale ≡ n * scale + 1 * scale = add-mul n 1 scale in
    let left : n * (inverse * s) ≡ n * inverse * s = sym (mul_assoc n inverse s) in
    let right : (q + 1) * s * scale ≡ (q + 1) * scale * s = mul_right_comm (q + 1) s scale in
    lt_of_mul-lt-mul_right s (omega (arith, grown, split, next, one_more, left, right, few))

-- so it is the quotient
pub separations-by_inverse : (n s : ℕ) → 1 ≤ s → s ≤ SLOT_LIMIT → n < INVERSE_REACH → n * div_ceil INVERSE_SCALE s / INVERSE_SCALE ≡ n / s
separations-by_inverse n s some near few =
    let inverse = div_ceil INVERSE_SCALE s in
    let q = n / s in
    let (enough, close) = div_ceil_times INVERSE_SCALE s some in
    let part = lt-div-mul-add {a = n} {b = s} some in
    let rest : n < (q + 1) * s = omega (arith, part, add-mul q 1 s) in
    let product : n * s ≤ INVERSE_REACH * SLOT_LIMIT = mul-le-mul {n₂ = INVERSE_REACH} {m₂ = SLOT_LIMIT} (omega (arith, few)) near in
    let reaches = product_reaches INVERSE_SCALE inverse s n q enough (div-mul-le_self n s) in
    let stays = product_stays INVERSE_SCALE inverse s n q close rest (omega (arith, product)) in
    let least = le-div_iff_mul-le {k = INVERSE_SCALE} {x = q} {y = n * inverse} (omega arith) in
    let most = div-lt_iff_lt-mul {k = INVERSE_SCALE} {x = n * inverse} {y = q + 1} (omega arith) in
    omega (arith, least.1 reaches, most.1 stays)
