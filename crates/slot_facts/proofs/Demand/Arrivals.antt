-- How many of the densest arrivals are due by a time, and that this does not change when both times move.
use Rattle.std.proofs.Common.{◌≡◌, ℕ, zero, suc, ◌+◌, ◌-◌, ◌*◌, ◌/◌, ◌%◌, ◌<◌, ◌≤◌, max, Bool, true, false, cond, refl, sym, ap, ◌∙◌, inl, inr, arith}
use Rattle.std.specs.Prelude.{List, [], ◌∷◌, count_by, sum_by, nat_le}
use Rattle.std.specs.List.{range_with_len}
use Rattle.std.proofs.Math.Nat.{mul-le-mul_right}
use Rattle.std.proofs.lemmas.Bool.{cases_lt, le-leb, lt-leb}
use Rattle.std.proofs.lemmas.List.Sums.{sum_by-cons, count_by-le-length}
use Rattle.std.proofs.lemmas.List.FromFn.{length-range_with_len}
use Rattle.slot_core.specs.declared.tasks.Sporadic.{Sporadic}
use Rattle.slot_core.specs.Feasibility.Sporadics.{arrivals_due, sporadic_demand}

-- a test that passes at the first k numbers of a range, and fails at the others, passes k times
pub count_range-is : (p : ℕ → Bool) (a n k : ℕ) → k ≤ n → ((m : ℕ) → a ≤ m → m < a + k → p m ≡ true) → ((m : ℕ) → a + k ≤ m → m < a + n → p m ≡ false) → count_by p (range_with_len a n) ≡ k
count_range-is p a zero zero fits passes fails = refl
count_range-is p a zero (suc k) fits passes fails = absurd (omega arith)
count_range-is p a (suc n) zero fits passes fails =
    let here : p a ≡ false = fails a (omega arith) (omega arith) in
    let later = count_range-is p (a + 1) n 0 (omega arith) (λ m low high. absurd (omega arith)) (λ m low high. fails m (omega arith) (omega arith)) in
    let one : ◌≡◌ {A = ℕ} (cond (p a) 1 0) 0 = rw here refl in
    sum_by-cons (λ m. cond (p m) 1 0) a (range_with_len (a + 1) n) ∙ omega arith
count_range-is p a (suc n) (suc k) fits passes fails =
    let here : p a ≡ true = passes a (omega arith) (omega arith) in
    let later = count_range-is p (a + 1) n k (omega arith) (λ m low high. passes m (omega arith) (omega arith)) (λ m low high. fails m (omega arith) (omega arith)) in
    let one : ◌≡◌ {A = ℕ} (cond (p a) 1 0) 1 = rw here refl in
    sum_by-cons (λ m. cond (p m) 1 0) a (range_with_len (a + 1) n) ∙ omega arith

-- the first k arrivals are due, and the others are not
arrivals_due-is : (s : Sporadic) (r x k : ℕ) → k ≤ x + 1 → ((m : ℕ) → m < k → r + m * s.separation + s.deadline ≤ x) → ((m : ℕ) → k ≤ m → m < x + 1 → x < r + m * s.separation + s.deadline) → arrivals_due s 0 r x ≡ k
arrivals_due-is s r x k fits due late =
    count_range-is
    (λ m. nat_le (max r 0 + m * s.separation + s.deadline) x)
    0
    (x + 1)
    k
    fits
    (λ m low high. le-leb (max r 0 + m * s.separation + s.deadline) x (omega (arith, due m (omega arith))))
    (λ m low high. lt-leb (max r 0 + m * s.separation + s.deadline) x (omega (arith, late m (omega arith) (omega arith))))

-- no arrival is due where the first is not
pub arrivals_due-none : (s : Sporadic) (r x : ℕ) → x < r + s.deadline → arrivals_due s 0 r x ≡ 0
arrivals_due-none s r x early =
    arrivals_due-is s r x 0 (omega arith) (λ m low. absurd (omega arith)) (λ m low high. omega arith)

-- with no separation all arrivals are due that are counted
pub arrivals_due-at_once : (s : Sporadic) (r x : ℕ) → s.separation ≡ 0 → r + s.deadline ≤ x → arrivals_due s 0 r x ≡ x + 1
arrivals_due-at_once s r x none due =
    arrivals_due-is s r x (x + 1) (omega arith) (λ m low. let zeros : m * s.separation ≡ 0 = rw none (omega arith) in omega arith) (λ m low high. absurd (omega arith))

-- with a separation one more is due for each that fits after the first
pub arrivals_due-spaced : (s : Sporadic) (r x : ℕ) → 1 ≤ s.separation → r + s.deadline ≤ x → arrivals_due s 0 r x ≡ (x - (r + s.deadline)) / s.separation + 1
arrivals_due-spaced s r x apart due =
    let n = s.separation in
    let y = x - (r + s.deadline) in
    let q = y / n in
    let whole : n * q + y % n ≡ y = omega arith in
    let rest : y % n < n = omega arith in
    let few : q ≤ y = omega (arith, mul-le-mul_right q apart) in
    arrivals_due-is
    s
    r
    x
    (q + 1)
    (omega arith)
    (λ m low. let most : m ≤ q = omega arith in omega (arith, mul-le-mul_right n most))
    (λ m low high. omega (arith, mul-le-mul_right n low))

-- at most one is due for each slot
pub arrivals_due-le : (s : Sporadic) (r x : ℕ) → arrivals_due s 0 r x ≤ x + 1
arrivals_due-le s r x =
    omega (
      arith,
      count_by-le-length (λ m. nat_le (max r 0 + m * s.separation + s.deadline) x) (range_with_len 0 (x + 1)),
      length-range_with_len 0 (x + 1),
    )

-- with a separation only the time from the first arrival on matters
pub arrivals_due-shifted_to_zero : (s : Sporadic) (a b : ℕ) → 1 ≤ s.separation → a ≤ b → arrivals_due s 0 a b ≡ arrivals_due s 0 0 (b - a)
arrivals_due-shifted_to_zero s a b apart low =
    elim (cases_lt b (a + s.deadline)) [
      | inl early ↦ arrivals_due-none s a b early ∙ sym (arrivals_due-none s 0 (b - a) (omega arith))
      | inr due ↦ let same : b - (a + s.deadline) ≡ (b - a) - (0 + s.deadline) = omega arith in
          arrivals_due-spaced s a b apart due
          ∙ ap (λ n. n / s.separation + 1) same
          ∙ sym (arrivals_due-spaced s 0 (b - a) apart (omega arith))
    ]

-- a task without separation whose arrivals never need more than the slots needs none
no_wcet : (s : Sporadic) (x : ℕ) → s.separation ≡ 0 → s.deadline ≤ x → s.wcet * arrivals_due s 0 0 x ≤ x → s.wcet ≡ 0
no_wcet s x none due fits =
    let count : arrivals_due s 0 0 x ≡ x + 1 = arrivals_due-at_once s 0 x none (omega arith) in
    let few : s.wcet * (x + 1) ≤ x = rw (← count) fits in
    elim (cases_lt 0 s.wcet) [
      | inl some ↦ let least : 1 * (x + 1) ≤ s.wcet * (x + 1) = mul-le-mul_right (x + 1) some in absurd (omega arith)
      | inr zeros ↦ omega arith
    ]

task_demand-shifted_to_zero : (s : Sporadic) (a b last : ℕ) → a ≤ b → b ≤ last → 1 ≤ last → ((x : ℕ) → 0 < x → x ≤ last → s.wcet * arrivals_due s 0 0 x ≤ x) → s.wcet * arrivals_due s 0 a b ≡ s.wcet * arrivals_due s 0 0 (b - a)
task_demand-shifted_to_zero s a b last low high positive fits =
    elim (cases_lt 0 s.separation) [
      | inl apart ↦ ap (λ n. s.wcet * n) (arrivals_due-shifted_to_zero s a b apart low)
      | inr none ↦ elim (cases_lt last s.deadline) [
        | inl late ↦ ap (λ n. s.wcet * n) (arrivals_due-none s a b (omega arith) ∙ sym (arrivals_due-none s 0 (b - a) (omega arith)))
        | inr due ↦ let x = max 1 s.deadline in
            let zeros : s.wcet ≡ 0 = no_wcet s x (omega arith) (omega arith) (fits x (omega arith) (omega arith)) in
            rw zeros (omega arith)
      ]
    ]

-- where the arrivals from 0 on never need more than the slots, those from a on need by b what those from
-- 0 on need by b - a
pub sporadic_demand-shifted_to_zero : (ss : List Sporadic) (a b last : ℕ) → a ≤ b → b ≤ last → 1 ≤ last → ((x : ℕ) → 0 < x → x ≤ last → sporadic_demand ss [] 0 x ≤ x) → sporadic_demand ss [] a b ≡ sporadic_demand ss [] 0 (b - a)
sporadic_demand-shifted_to_zero [] a b last low high positive fits = refl
sporadic_demand-shifted_to_zero (s ∷ ss) a b last low high positive fits =
    let here = task_demand-shifted_to_zero s a b last low high positive (λ x some most. omega (arith, fits x some most)) in
    let others = sporadic_demand-shifted_to_zero ss a b last low high positive (λ x some most. omega (arith, fits x some most)) in
    omega arith

-- as a sum over the tasks
pub sporadic_demand-sum_by : (ss : List Sporadic) (r x : ℕ) → sporadic_demand ss [] r x ≡ sum_by (λ (s : Sporadic). s.wcet * arrivals_due s 0 r x) ss
sporadic_demand-sum_by [] r x = refl
sporadic_demand-sum_by (s ∷ ss) r x =
    ap (λ n. s.wcet * arrivals_due s 0 r x + n) (sporadic_demand-sum_by ss r x)
    ∙ sym (sum_by-cons (λ (s : Sporadic). s.wcet * arrivals_due s 0 r x) s ss)
