-- How much the demand of rates may grow within so many slots.
use Rattle.std.proofs.Common.{◌≡◌, ℕ, ◌+◌, ◌-◌, ◌*◌, ◌/◌, ◌≤◌, ◌<◌, max, List, [], ◌∷◌, map, refl, sym, ap, ◌∙◌, inl, inr, arith}
use Rattle.std.specs.Prelude.{sum_by}
use Rattle.std.specs.Int.{div_ceil}
use Rattle.std.proofs.Math.Nat.{add-mul, div-mul-le_self, le-div_iff_mul-le, lt-div-mul-add, mul-add, mul-le-mul_left, mul-le-mul_right, mul_assoc, mul_comm, mul_left_comm}
use Rattle.std.proofs.lemmas.Bool.{cases_lt}
use Rattle.std.proofs.lemmas.Grind.{div_ceil_times}
use Rattle.std.proofs.lemmas.List.Sums.{sum_by-cons}
use Rattle.slot_core.specs.declared.tasks.Sporadic.{Sporadic}
use Rattle.slot_core.specs.Feasibility.Sporadics.{arrivals_due, sporadic_demand}
use Rattle.sporadic_reserve.specs.declared.rates.Rate.{Rate}
use Rattle.sporadic_reserve.specs.declared.rates.TheConstants.{INVERSE_SCALE}
use Rattle.sporadic_reserve.specs.Rates.{reserved, task_of, AreSporadicRates, IsRate}
use Rattle.sporadic_reserve.proofs.Counts.{few_due, next_arrival_due}
use Rattle.sporadic_reserve.proofs.Demands.{rate_demand, sporadic_demand-rates}
use Rattle.sporadic_reserve.proofs.Inverses.{product_reaches}

-- an inverse is no greater than its scale
pub inverse-few : (rate : Rate) → IsRate rate → rate.inverse ≤ INVERSE_SCALE
inverse-few rate is =
    let s = rate.separation in
    let (enough, close) = div_ceil_times INVERSE_SCALE s is.apart in
    elim (cases_lt INVERSE_SCALE (div_ceil INVERSE_SCALE s)) [
      | inl over ↦
          let more : (INVERSE_SCALE + 1) * s ≤ div_ceil INVERSE_SCALE s * s = mul-le-mul_right s (omega (arith, over)) in
          let once : INVERSE_SCALE * 1 ≤ INVERSE_SCALE * s = mul-le-mul_left INVERSE_SCALE is.apart in
          absurd (omega (arith, close, more, once, add-mul INVERSE_SCALE 1 s))
      | inr most ↦ omega (arith, most, is.inverse)
    ]

-- one more arrival is due, at most, than whole separations fit
arrivals_due-growth : (s : Sporadic) (next r x y : ℕ) → 1 ≤ s.separation → x ≤ y → arrivals_due s next r y ≤ arrivals_due s next r x + ((y - x) / s.separation + 1)
arrivals_due-growth s next r x y apart le =
    let n = arrivals_due s next r x in
    let q = (y - x) / s.separation in
    let rise = next_arrival_due s next r x apart in
    let part = lt-div-mul-add {a = y - x} {b = s.separation} apart in
    few_due s next r y (n + (q + 1)) apart (omega (arith, rise.after, part, le, add-mul n (q + 1) s.separation, add-mul q 1 s.separation))

-- by how much the demand of a rate grows in a slot, at the mean and scaled
abbrev pub scaled_growth : Rate → ℕ
scaled_growth rate = rate.wcet * rate.inverse

-- what so many slots bring for each whole separation that fits in them
abbrev pub whole_demand : ℕ → Rate → ℕ
whole_demand slots rate = rate.wcet * (slots / rate.separation)

rate_demand-growth : (rate : Rate) (r x y : ℕ) → IsRate rate → x ≤ y → rate_demand r y rate ≤ rate_demand r x rate + (whole_demand (y - x) rate + rate.wcet)
rate_demand-growth rate r x y is le =
    let n = arrivals_due (task_of rate) rate.next r x in
    let q = (y - x) / rate.separation in
    omega (
      arith,
      mul-le-mul_left rate.wcet (arrivals_due-growth (task_of rate) rate.next r x y is.apart le),
      mul-add rate.wcet n (q + 1),
      mul-add rate.wcet q 1,
    )

whole_demand-scaled : (rate : Rate) (slots : ℕ) → IsRate rate → whole_demand slots rate * INVERSE_SCALE ≤ slots * scaled_growth rate
whole_demand-scaled rate slots is =
    let s = rate.separation in
    let q = slots / s in
    let (enough, close) = div_ceil_times INVERSE_SCALE s is.apart in
    let reaches : q * INVERSE_SCALE ≤ slots * rate.inverse = rw is.inverse (product_reaches INVERSE_SCALE (div_ceil INVERSE_SCALE s) s slots q enough (div-mul-le_self slots s)) in
    let times = mul-le-mul_left rate.wcet reaches in
    let left : rate.wcet * q * INVERSE_SCALE ≡ rate.wcet * (q * INVERSE_SCALE) = mul_assoc rate.wcet q INVERSE_SCALE in
    let right : rate.wcet * (slots * rate.inverse) ≡ slots * (rate.wcet * rate.inverse) = mul_left_comm rate.wcet slots rate.inverse in
    omega (arith, times, left, right)

-- the same over all rates
demands-growth : (rates : List Rate) (r x y : ℕ) → AreSporadicRates rates → x ≤ y → sum_by (rate_demand r y) rates ≤ sum_by (rate_demand r x) rates + (sum_by (whole_demand (y - x)) rates + sum_by (λ (rate : Rate). rate.wcet) rates)
demands-growth [] r x y are le = omega arith
demands-growth (rate ∷ rates) r x y are le =
    omega (
      arith,
      sum_by-cons (rate_demand r x) rate rates,
      sum_by-cons (rate_demand r y) rate rates,
      sum_by-cons (whole_demand (y - x)) rate rates,
      sum_by-cons (λ (rate : Rate). rate.wcet) rate rates,
      rate_demand-growth rate r x y are.0 le,
      demands-growth rates r x y are.1 le,
    )

whole_demands-scaled : (rates : List Rate) (slots : ℕ) → AreSporadicRates rates → sum_by (whole_demand slots) rates * INVERSE_SCALE ≤ slots * sum_by scaled_growth rates
whole_demands-scaled [] slots are = omega arith
whole_demands-scaled (rate ∷ rates) slots are =
    omega (
      arith,
      ap (λ n. n * INVERSE_SCALE) (sum_by-cons (whole_demand slots) rate rates),
      ap (λ n. slots * n) (sum_by-cons scaled_growth rate rates),
      add-mul (whole_demand slots rate) (sum_by (whole_demand slots) rates) INVERSE_SCALE,
      mul-add slots (scaled_growth rate) (sum_by scaled_growth rates),
      whole_demand-scaled rate slots are.0,
      whole_demands-scaled rates slots are.1,
    )

-- within so many slots the demand rises by no more than the whole separations that fit, and one
-- arrival of each task, bring
pub sporadic_demand-growth : (rates : List Rate) (r x y slots : ℕ) → AreSporadicRates rates → x ≤ y → y ≤ x + slots → sporadic_demand (reserved rates).sporadics (reserved rates).nexts r y ≤ sporadic_demand (reserved rates).sporadics (reserved rates).nexts r x + (slots * sum_by scaled_growth rates / INVERSE_SCALE + sum_by (λ (rate : Rate). rate.wcet) rates)
sporadic_demand-growth rates r x y slots are le near =
    let whole = sum_by (whole_demand (y - x)) rates in
    let scaled = sum_by scaled_growth rates in
    let few : (y - x) * scaled ≤ slots * scaled = mul-le-mul_right scaled (omega (arith, near)) in
    let most = le-div_iff_mul-le {k = INVERSE_SCALE} {x = whole} {y = slots * scaled} (omega arith) in
    omega (
      arith,
      sporadic_demand-rates rates r x,
      sporadic_demand-rates rates r y,
      demands-growth rates r x y are le,
      most.1 (omega (arith, few, whole_demands-scaled rates (y - x) are)),
    )
