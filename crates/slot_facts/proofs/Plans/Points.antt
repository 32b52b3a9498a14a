-- When a slot of the first cycle is a point of the plan.
use Rattle.std.proofs.Common.{◌≡◌, ℕ, ◌-◌, ◌%◌, ◌<◌, ◌≤◌, max, min, true, false, ◌&&◌, ◌==◌, List, [], ◌∷◌, ◌++◌, map, filter, refl, ap, ◌∙◌, subst, ◌⊎◌, inl, inr, arith}
use Rattle.std.specs.Prelude.{fold, nat_le, nat_lt}
use Rattle.std.proofs.Math.Nat.{zero-mod, mod-eq_of_lt}
use Rattle.std.proofs.lemmas.Bool.{cases_lt, eqb-true, eq-eqb, ltb-true, lt-ltb, leb-true, le-leb, and_parts, and_from, or_cases, or_left, false≢true}
use Rattle.slot_core.specs.declared.jobs.Job.{Job}
use Rattle.slot_core.specs.Runs.Points.{end_before, least_start, interval_start, plan_points, is_point}
use Rattle.slot_facts.proofs.Lists.Members.{Has, Has-append_left, Has-append_right, Has-append_cases, Has-map, Has-map_cases, Has-filter, Has-filter_passes, list_any-from_Has, Has-from_list_any, fold_max-at, fold_max-le}

-- the least of a list is at most each member, at least what they are all at least, and one of them
pub fold_min-start : (a : ℕ) (xs : List ℕ) → fold min a xs ≤ a
fold_min-start a [] = omega arith
fold_min-start a (x ∷ xs) = omega (arith, fold_min-start (min a x) xs)

pub fold_min-at : (a : ℕ) (xs : List ℕ) (x : ℕ) → Has xs x → fold min a xs ≤ x
fold_min-at a [] x h = absurd h
fold_min-at a (z ∷ xs) x (inl e) = omega (arith, fold_min-start (min a z) xs)
fold_min-at a (z ∷ xs) x (inr h) = fold_min-at (min a z) xs x h

pub fold_min-le : (a m : ℕ) (xs : List ℕ) → m ≤ a → ((x : ℕ) → Has xs x → m ≤ x) → m ≤ fold min a xs
fold_min-le a m [] low above = low
fold_min-le a m (z ∷ xs) low above =
    let here : m ≤ z = above z (inl refl) in
    fold_min-le (min a z) m xs (omega arith) (λ x h. above x (inr h))

fold_min-cases : (a : ℕ) (xs : List ℕ) → (fold min a xs ≡ a) ⊎ Has xs (fold min a xs)
fold_min-cases a [] = inl refl
fold_min-cases a (z ∷ xs) =
    elim (fold_min-cases (min a z) xs) [
      | inl e ↦ elim (cases_lt z a) [
        | inl below ↦ inr (inl (omega arith))
        | inr above ↦ inl (omega arith)
      ]
      | inr h ↦ inr (inr h)
    ]

-- the starts of the jobs due at e, and the deadlines before e
Has-starts : (jobs : List Job) (e : ℕ) (j : Job) → Has jobs j → j.dl ≡ e → Has (map (λ (j : Job). j.est) (filter (λ (j : Job). j.dl == e) jobs)) j.est
Has-starts jobs e j h due =
    Has-map (λ (j : Job). j.est) (filter (λ (j : Job). j.dl == e) jobs) j (Has-filter (λ (j : Job). j.dl == e) jobs j h (eq-eqb j.dl e due))

Has-starts_cases : (jobs : List Job) (e x : ℕ) → Has (map (λ (j : Job). j.est) (filter (λ (j : Job). j.dl == e) jobs)) x → (j : Job) × Has jobs j × (j.dl ≡ e) × (j.est ≡ x)
Has-starts_cases jobs e x h =
    let (j, kept, is) = Has-map_cases (λ (j : Job). j.est) (filter (λ (j : Job). j.dl == e) jobs) x h in
    let (listed, due) = Has-filter_passes (λ (j : Job). j.dl == e) jobs j kept in
    (j, listed, eqb-true j.dl e due, is)

Has-ends : (jobs : List Job) (e : ℕ) (j : Job) → Has jobs j → j.dl < e → Has (map (λ (j : Job). j.dl) (filter (λ (j : Job). nat_lt j.dl e) jobs)) j.dl
Has-ends jobs e j h before =
    Has-map (λ (j : Job). j.dl) (filter (λ (j : Job). nat_lt j.dl e) jobs) j (Has-filter (λ (j : Job). nat_lt j.dl e) jobs j h (lt-ltb j.dl e before))

Has-ends_cases : (jobs : List Job) (e x : ℕ) → Has (map (λ (j : Job). j.dl) (filter (λ (j : Job). nat_lt j.dl e) jobs)) x → (j : Job) × Has jobs j × (j.dl < e) × (j.dl ≡ x)
Has-ends_cases jobs e x h =
    let (j, kept, is) = Has-map_cases (λ (j : Job). j.dl) (filter (λ (j : Job). nat_lt j.dl e) jobs) x h in
    let (listed, before) = Has-filter_passes (λ (j : Job). nat_lt j.dl e) jobs j kept in
    (j, listed, ltb-true j.dl e before, is)

-- the end before e
pub end_before-at : (jobs : List Job) (e : ℕ) (j : Job) → Has jobs j → j.dl < e → j.dl ≤ end_before jobs e
end_before-at jobs e j h before =
    fold_max-at 0 (map (λ (j : Job). j.dl) (filter (λ (j : Job). nat_lt j.dl e) jobs)) j.dl (Has-ends jobs e j h before)

pub end_before-le : (jobs : List Job) (e m : ℕ) → ((j : Job) → Has jobs j → j.dl < e → j.dl ≤ m) → end_before jobs e ≤ m
end_before-le jobs e m each =
    fold_max-le
    0
    m
    (map (λ (j : Job). j.dl) (filter (λ (j : Job). nat_lt j.dl e) jobs))
    (omega arith)
    (λ x h. let (j, listed, before, is) = Has-ends_cases jobs e x h in omega (arith, is, each j listed before))

-- the least start of the jobs due at e
pub least_start-at : (jobs : List Job) (most e : ℕ) (j : Job) → Has jobs j → j.dl ≡ e → least_start jobs most e ≤ j.est
least_start-at jobs most e j h due =
    fold_min-at most (map (λ (j : Job). j.est) (filter (λ (j : Job). j.dl == e) jobs)) j.est (Has-starts jobs e j h due)

pub least_start-most : (jobs : List Job) (most e : ℕ) → least_start jobs most e ≤ most
least_start-most jobs most e =
    fold_min-start most (map (λ (j : Job). j.est) (filter (λ (j : Job). j.dl == e) jobs))

pub least_start-le : (jobs : List Job) (most e m : ℕ) → m ≤ most → ((j : Job) → Has jobs j → j.dl ≡ e → m ≤ j.est) → m ≤ least_start jobs most e
least_start-le jobs most e m low each =
    fold_min-le
    most
    m
    (map (λ (j : Job). j.est) (filter (λ (j : Job). j.dl == e) jobs))
    low
    (λ x h. let (j, listed, due, is) = Has-starts_cases jobs e x h in omega (arith, is, each j listed due))

-- where the least start is below the bound, a job is due there
pub due-from_least_start : (jobs : List Job) (most e : ℕ) → least_start jobs most e < most → (j : Job) × Has jobs j × (j.dl ≡ e)
due-from_least_start jobs most e below =
    let starts = map (λ (j : Job). j.est) (filter (λ (j : Job). j.dl == e) jobs) in
    elim (fold_min-cases most starts) [
      | inl none ↦ absurd (omega arith)
      | inr h ↦ let found = Has-starts_cases jobs e (fold min most starts) h in (found.0, found.1, found.2)
    ]

-- the interval of a job's deadline starts at one place for all jobs due there
pub interval_start-is : (jobs : List Job) (j : Job) → Has jobs j → j.est ≤ j.dl → interval_start jobs j ≡ max (least_start jobs j.dl j.dl) (end_before jobs j.dl)
interval_start-is jobs j h le =
    let least = least_start jobs j.dl j.dl in
    let own = least_start jobs j.est j.dl in
    let at : least ≤ j.est = least_start-at jobs j.dl j.dl j h refl in
    let below : own ≤ least = least_start-le jobs j.dl j.dl own (omega (arith, least_start-most jobs j.est j.dl)) (λ k listed due. least_start-at jobs j.est j.dl k listed due) in
    let above : least ≤ own = least_start-le jobs j.est j.dl least at (λ k listed due. least_start-at jobs j.dl j.dl k listed due) in
    omega arith

-- each job of the list starts before its deadline, which is in the cycle
abbrev pub AreInCycle : ℕ → List Job → Type 0
AreInCycle cycle jobs = (j : Job) → Has jobs j → (j.est < j.dl) × (j.dl ≤ cycle)

-- an interval starts before its end
pub interval_start-lt : (cycle : ℕ) (jobs : List Job) (j : Job) → AreInCycle cycle jobs → Has jobs j → interval_start jobs j < j.dl
interval_start-lt cycle jobs j in_cycle h =
    let some = in_cycle j h in
    let before : end_before jobs j.dl ≤ j.dl - 1 = end_before-le jobs j.dl (j.dl - 1) (λ k listed below. omega arith) in
    omega (arith, some.0, least_start-most jobs j.est j.dl)

-- a planned point: a deadline, a start above 0, or the cycle
abbrev pub IsPlannedPoint : ℕ → List Job → ℕ → Type 0
IsPlannedPoint cycle jobs q =
    ((j : Job) × Has jobs j × (j.dl ≡ q)) ⊎ (((j : Job) × Has jobs j × (interval_start jobs j ≡ q) × (0 < q)) ⊎ (cycle ≡ q))

pub IsPlannedPoint-from_points : (cycle : ℕ) (jobs : List Job) (q : ℕ) → Has (plan_points cycle jobs) q → IsPlannedPoint cycle jobs q
IsPlannedPoint-from_points cycle jobs q h =
    let ends = map (λ (j : Job). j.dl) jobs in
    let starts = filter (nat_lt 0) (map (interval_start jobs) jobs) in
    elim (Has-append_cases (ends ++ starts) (cycle ∷ []) q h) [
      | inl early ↦ elim (Has-append_cases ends starts q early) [
        | inl e ↦ inl (Has-map_cases (λ (j : Job). j.dl) jobs q e)
        | inr s ↦ let kept = Has-filter_passes (nat_lt 0) (map (interval_start jobs) jobs) q s in
            let found = Has-map_cases (interval_start jobs) jobs q kept.0 in
            inr (inl (found.0, found.1, found.2, ltb-true 0 q kept.1))
      ]
      | inr late ↦ elim late [ inl e ↦ inr (inr e) | inr none ↦ absurd none ]
    ]

-- each planned point is in the cycle
pub planned-bounds : (cycle : ℕ) (jobs : List Job) (q : ℕ) → 1 ≤ cycle → AreInCycle cycle jobs → Has (plan_points cycle jobs) q → (1 ≤ q) × (q ≤ cycle)
planned-bounds cycle jobs q some in_cycle h =
    elim (IsPlannedPoint-from_points cycle jobs q h) [
      | inl due ↦ let fits = in_cycle due.0 due.1 in (omega (arith, due.2, fits.0), omega (arith, due.2, fits.1))
      | inr r ↦ elim r [
        | inl start ↦ let fits = in_cycle start.0 start.1 in
            let below = interval_start-lt cycle jobs start.0 in_cycle start.1 in
            (start.3, omega (arith, start.2, fits.1, below))
        | inr e ↦ (omega arith, omega arith)
      ]
    ]

-- a planned point is a point
at_itself : (cycle q : ℕ) → (nat_le q q && ((q - q) % cycle == 0)) ≡ true
at_itself cycle q =
    let none : q - q ≡ 0 = omega arith in
    and_from (nat_le q q) ((q - q) % cycle == 0) (le-leb q q (omega arith)) (eq-eqb ((q - q) % cycle) 0 (ap (λ d. d % cycle) none ∙ zero-mod cycle))

pub point-from_planned : (cycle : ℕ) (planned own : List ℕ) (q : ℕ) → Has planned q → is_point cycle planned own q ≡ true
point-from_planned cycle planned own q h =
    or_left _ _ (list_any-from_Has (λ r. nat_le r q && ((q - r) % cycle == 0)) planned q h (at_itself cycle q))

-- a point of the cycle is a planned one
same_in_cycle : (cycle q x : ℕ) → 1 ≤ q → x ≤ cycle → (nat_le q x && ((x - q) % cycle == 0)) ≡ true → q ≡ x
same_in_cycle cycle q x some within passes =
    let parts = and_parts (nat_le q x) ((x - q) % cycle == 0) passes in
    let le : q ≤ x = leb-true q x parts.0 in
    let even : (x - q) % cycle ≡ 0 = eqb-true ((x - q) % cycle) 0 parts.1 in
    let small : x - q < cycle = omega arith in
    let whole : (x - q) % cycle ≡ x - q = mod-eq_of_lt small in
    omega arith

pub planned-from_point : (cycle : ℕ) (planned : List ℕ) (x : ℕ) → ((q : ℕ) → Has planned q → 1 ≤ q) → x ≤ cycle → is_point cycle planned [] x ≡ true → Has planned x
planned-from_point cycle planned x some within passes =
    elim (or_cases _ false passes) [
      | inl found ↦ let (q, listed, at) = Has-from_list_any (λ r. nat_le r x && ((x - r) % cycle == 0)) planned found in
          subst (Has planned) (same_in_cycle cycle q x (some q listed) within at) listed
      | inr none ↦ absurd (false≢true none)
    ]

-- deadlines, starts above 0 and the cycle are planned points
pub Has-deadline : (cycle : ℕ) (jobs : List Job) (j : Job) → Has jobs j → Has (plan_points cycle jobs) j.dl
Has-deadline cycle jobs j h =
    let ends = map (λ (j : Job). j.dl) jobs in
    let starts = filter (nat_lt 0) (map (interval_start jobs) jobs) in
    Has-append_left (ends ++ starts) (cycle ∷ []) j.dl (Has-append_left ends starts j.dl (Has-map (λ (j : Job). j.dl) jobs j h))

pub Has-interval_start : (cycle : ℕ) (jobs : List Job) (j : Job) → Has jobs j → 0 < interval_start jobs j → Has (plan_points cycle jobs) (interval_start jobs j)
Has-interval_start cycle jobs j h some =
    let ends = map (λ (j : Job). j.dl) jobs in
    let starts = filter (nat_lt 0) (map (interval_start jobs) jobs) in
    let start = interval_start jobs j in
    Has-append_left (ends ++ starts) (cycle ∷ []) start (Has-append_right ends starts start (Has-filter (nat_lt 0) (map (interval_start jobs) jobs) start (Has-map (interval_start jobs) jobs j h) (lt-ltb 0 start some)))

pub Has-cycle : (cycle : ℕ) (jobs : List Job) → Has (plan_points cycle jobs) cycle
Has-cycle cycle jobs =
    Has-append_right (map (λ (j : Job). j.dl) jobs ++ filter (nat_lt 0) (map (interval_start jobs) jobs)) (cycle ∷ []) cycle (inl refl)
