-- How rows are ordered.
use Rattle.std.proofs.Common.{◌≡◌, ℕ, ◌+◌, ◌-◌, ◌*◌, ◌/◌, ◌%◌, ◌^◌, ◌<◌, ◌≤◌, ◌⊎◌, inl, inr, ap, arith}
use Rattle.std.proofs.Math.Nat.{div-le_of_le-mul, le-div_iff_mul-le, le_of_mul-le-mul_right}
use Rattle.std.proofs.lemmas.Bool.{cases_order}
use Rattle.std.proofs.lemmas.Nat.{div-add-mod', mul-le}
use Rattle.slot_lengths.specs.Checks.{rank_of}
use Rattle.slot_lengths.specs.Laws.{PlacesOrderRows, SharesAreToldApart}

-- a row stands no later than another
first : (rank other_rank slot other : ℕ) → slot < 2 ^ 64 → other < 2 ^ 64 → rank * 2 ^ 64 + (2 ^ 64 - 1 - slot) ≤ other_rank * 2 ^ 64 + (2 ^ 64 - 1 - other) → (rank < other_rank) ⊎ ((rank ≡ other_rank) × (other ≤ slot))
first rank other_rank slot other low other_low h =
    elim (cases_order rank other_rank) [
      | inl same ↦ inr (same, omega (arith, low, other_low, h, same))
      | inr (inl less) ↦ inl less
      | inr (inr more) ↦ absurd (omega (arith, low, other_low, h, more))
    ]

pub places-order-rows : PlacesOrderRows
places-order-rows slot other check other_check low other_low = (
  first (rank_of check) (rank_of other_check) slot other low other_low,
  λ h. elim h [
    | inl less ↦ omega (arith, less, low, other_low)
    | inr (same, longer) ↦ omega (arith, same, longer, low, other_low)
  ],
)

-- the quotient of the lesser share, with one more, fits into the greater one
apart : (a b c d q r : ℕ) → 0 < b → b ≤ 8192 → 0 < d → d ≤ 8192 → q * b + r ≡ a * 10 ^ 8 → a * d < c * b → (q + 1) * d ≤ c * 10 ^ 8
apart a b c d q r some few other_some other_few cut less =
    let small : d * b ≤ 8192 * 8192 = mul-le d b 8192 8192 other_few few in
    let whole : (q * b + r) * d ≡ (a * 10 ^ 8) * d = ap (λ n. n * d) cut in
    let step : ((q + 1) * d) * b ≤ (c * 10 ^ 8) * b = omega (arith, small, whole, less) in
    le_of_mul-le-mul_right step some

pub shares-are-told-apart : SharesAreToldApart
shares-are-told-apart load other fits other_fits less =
    let whole = load.needed * 10 ^ 8 in
    let other_whole = other.needed * 10 ^ 8 in
    let more = apart load.needed load.cycle other.needed other.cycle (whole / load.cycle) (whole % load.cycle) fits.some fits.few other_fits.some other_fits.few (div-add-mod' whole load.cycle) less in
    let above : whole / load.cycle + 1 ≤ other_whole / other.cycle = (le-div_iff_mul-le other_fits.some).1 more in
    let most : other_whole / other.cycle ≤ 10 ^ 8 = div-le_of_le-mul other.cycle (omega (arith, other_fits.within)) in
    omega (arith, above, most)
