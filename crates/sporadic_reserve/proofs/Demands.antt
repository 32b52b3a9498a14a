-- The demand of rates, summed rate by rate.
use Rattle.std.proofs.Common.{◌≡◌, ℕ, zero, suc, ◌+◌, ◌*◌, ◌≤◌, ◌<◌, min, List, [], ◌∷◌, length, map, take, get_or, Option, Some, None, refl, sym, ap, ◌∙◌, arith}
use Rattle.std.specs.Prelude.{sum_by, MatchOption}
use Rattle.std.proofs.Math.Nat.{mul-le-mul_left}
use Rattle.std.proofs.lemmas.List.{take_all}
use Rattle.std.proofs.lemmas.List.Sums.{sum_by-cons, sum_by_more}
use Rattle.slot_core.specs.declared.tasks.Sporadic.{Sporadic}
use Rattle.slot_core.specs.Feasibility.Sporadics.{arrivals_due, sporadic_demand}
use Rattle.sporadic_reserve.specs.declared.rates.Rate.{Rate}
use Rattle.sporadic_reserve.specs.Reserves.{without_name, IsNextRise}
use Rattle.sporadic_reserve.specs.Rates.{reserved, task_of, AreSporadicRates, IsRate}
use Rattle.sporadic_reserve.proofs.Counts.{arrivals_due-grows}
use Rattle.sporadic_reserve.proofs.Rises.{Grows, IsNextRise-same, IsNextRise-sum, IsNextRise-times}

-- the slots that the arrivals of a rate need
abbrev pub rate_demand : ℕ → ℕ → Rate → ℕ
rate_demand r x rate = rate.wcet * arrivals_due (task_of rate) rate.next r x

pub sporadic_demand-rates : (rates : List Rate) (r x : ℕ) → sporadic_demand (reserved rates).sporadics (reserved rates).nexts r x ≡ sum_by (rate_demand r x) rates
sporadic_demand-rates [] r x = refl
sporadic_demand-rates (rate ∷ rates) r x =
    ap (λ n. rate_demand r x rate + n) (sporadic_demand-rates rates r x) ∙ sym (sum_by-cons (rate_demand r x) rate rates)

-- the sum over all rates
pub demand-all : (rates : List Rate) (i needed r x : ℕ) → length rates ≤ i → needed ≡ sum_by (rate_demand r x) (take i rates) → needed ≡ sporadic_demand (reserved rates).sporadics (reserved rates).nexts r x
demand-all rates i needed r x all is =
    is ∙ ap (sum_by (rate_demand r x)) (take_all i rates all) ∙ sym (sporadic_demand-rates rates r x)

-- names take no part
pub sporadic_demand-without_name : (sporadics : List Sporadic) (nexts : List ℕ) (r x : ℕ) → sporadic_demand (map without_name sporadics) nexts r x ≡ sporadic_demand sporadics nexts r x
sporadic_demand-without_name [] nexts r x = refl
sporadic_demand-without_name (s ∷ ss) [] r x =
    ap (λ n. s.wcet * arrivals_due s 0 r x + n) (sporadic_demand-without_name ss [] r x)
sporadic_demand-without_name (s ∷ ss) (next ∷ nexts) r x =
    ap (λ n. s.wcet * arrivals_due s next r x + n) (sporadic_demand-without_name ss nexts r x)

-- the rate at a place past the end, as the code has it
abbrev pub no_rate : Rate
no_rate = record {
  wcet = 0;
  separation = 0;
  deadline = 0;
  inverse = 0;
  next = 0;
}

pub IsRate-at : (rates : List Rate) (i : ℕ) → AreSporadicRates rates → i < length rates → IsRate (get_or rates i no_rate)
IsRate-at [] i are within = absurd (omega arith)
IsRate-at (rate ∷ rates) zero are within = are.0
IsRate-at (rate ∷ rates) (suc i) are within = IsRate-at rates i are.1 (omega arith)

-- the demand of a rate never falls, nor does that of the first rates
pub rate_demand-grows : (rate : Rate) (r : ℕ) → IsRate rate → Grows (λ z. rate_demand r z rate)
rate_demand-grows rate r is x y le =
    mul-le-mul_left rate.wcet (arrivals_due-grows (task_of rate) rate.next r x y is.apart le)

pub rate_demands-grow : (rates : List Rate) (i r : ℕ) → AreSporadicRates rates → Grows (λ z. sum_by (rate_demand r z) (take i rates))
rate_demands-grow [] zero r are x y le = omega arith
rate_demands-grow [] (suc i) r are x y le = omega arith
rate_demands-grow (rate ∷ rates) zero r are x y le = omega arith
rate_demands-grow (rate ∷ rates) (suc i) r are x y le =
    omega (
      arith,
      sum_by-cons (rate_demand r x) rate (take i rates),
      sum_by-cons (rate_demand r y) rate (take i rates),
      rate_demand-grows rate r are.0 x y le,
      rate_demands-grow rates i r are.1 x y le,
    )

-- where the demand of the first rates rises next
abbrev pub RisesAt : List Rate → ℕ → ℕ → ℕ → ℕ → Type 0
RisesAt rates i r x y = IsNextRise (λ z. sum_by (rate_demand r z) (take i rates)) x y

-- with one rate more: where that of the rates before does, or that of the rate
pub RisesAt-more : (rates : List Rate) (i r x due : ℕ) (first : Option ℕ) (y : ℕ) → AreSporadicRates rates → i < length rates → MatchOption first (i ≡ 0) (λ z. RisesAt rates i r x z) → IsNextRise (λ z. arrivals_due (task_of (get_or rates i no_rate)) (get_or rates i no_rate).next r z) x due → MatchOption first (y ≡ due) (λ z. y ≡ min z due) → RisesAt rates (i + 1) r x y
RisesAt-more rates i r x due None y are within so_far counted is =
    let rate = get_or rates i no_rate in
    let here = IsNextRise-times (λ z. arrivals_due (task_of rate) rate.next r z) rate.wcet x due (IsRate-at rates i are within).some counted in
    let none : (z : ℕ) → sum_by (rate_demand r z) (take i rates) ≡ 0 = λ z. rw so_far refl in
    let same : (z : ℕ) → rate_demand r z rate ≡ sum_by (rate_demand r z) (take (i + 1) rates) = λ z. omega (arith, sum_by_more (rate_demand r z) rates i no_rate within, none z) in
    rw is (IsNextRise-same (λ z. rate_demand r z rate) (λ z. sum_by (rate_demand r z) (take (i + 1) rates)) x due same here)
RisesAt-more rates i r x due (Some z) y are within so_far counted is =
    let rate = get_or rates i no_rate in
    let before = λ (w : ℕ). sum_by (rate_demand r w) (take i rates) in
    let here = IsNextRise-times (λ w. arrivals_due (task_of rate) rate.next r w) rate.wcet x due (IsRate-at rates i are within).some counted in
    let both = IsNextRise-sum before (λ w. rate_demand r w rate) x z due (rate_demands-grow rates i r are) (rate_demand-grows rate r (IsRate-at rates i are within)) so_far here in
    let same : (w : ℕ) → before w + rate_demand r w rate ≡ sum_by (rate_demand r w) (take (i + 1) rates) = λ w. sym (sum_by_more (rate_demand r w) rates i no_rate within) in
    rw is (IsNextRise-same (λ w. before w + rate_demand r w rate) (λ w. sum_by (rate_demand r w) (take (i + 1) rates)) x (min z due) same both)

-- with all rates it is the sporadic demand that rises there
pub RisesAt-all : (rates : List Rate) (i r x : ℕ) (first : Option ℕ) → length rates ≤ i → i ≤ length rates → MatchOption first (i ≡ 0) (λ y. RisesAt rates i r x y) → MatchOption first (rates ≡ []) (λ y. IsNextRise (λ z. sporadic_demand (reserved rates).sporadics (reserved rates).nexts r z) x y)
RisesAt-all [] i r x None all most so_far = refl
RisesAt-all (rate ∷ rates) i r x None all most so_far = absurd (omega arith)
RisesAt-all rates i r x (Some y) all most so_far =
    let same : (z : ℕ) → sum_by (rate_demand r z) (take i rates) ≡ sporadic_demand (reserved rates).sporadics (reserved rates).nexts r z = λ z. ap (sum_by (rate_demand r z)) (take_all i rates all) ∙ sym (sporadic_demand-rates rates r z) in
    IsNextRise-same (λ z. sum_by (rate_demand r z) (take i rates)) (λ z. sporadic_demand (reserved rates).sporadics (reserved rates).nexts r z) x y same so_far

-- the sporadic demand never falls
pub sporadic_demand-grows : (rates : List Rate) (r : ℕ) → AreSporadicRates rates → Grows (λ z. sporadic_demand (reserved rates).sporadics (reserved rates).nexts r z)
sporadic_demand-grows rates r are x y le =
    let whole : take (length rates) rates ≡ rates = take_all (length rates) rates (omega arith) in
    let grows : sum_by (rate_demand r x) rates ≤ sum_by (rate_demand r y) rates = rw whole at (rate_demands-grow rates (length rates) r are x y le) in
    omega (arith, sporadic_demand-rates rates r x, sporadic_demand-rates rates r y)
