-- The points of the first cycle up to an interval's end, from those up to the end before it.
use Rattle.std.proofs.Common.{◌≡◌, ℕ, ◌+◌, ◌-◌, ◌<◌, ◌≤◌, max, Bool, true, false, cond, List, [], ◌∷◌, ◌++◌, filter, refl, sym, ap, ap₂, subst, ◌∙◌, inl, inr, arith}
use Rattle.std.specs.Prelude.{nat_lt}
use Rattle.std.specs.List.{range_with_len}
use Rattle.std.proofs.lemmas.Bool.{cases_lt, cases_order, cond-true, cond-false, lt-ltb, le-ltb, false_from_ne_true}
use Rattle.slot_core.specs.declared.jobs.Job.{Job}
use Rattle.slot_core.specs.Runs.Points.{end_before, least_start, interval_start, plan_points, is_point}
use Rattle.slot_facts.proofs.Lists.Members.{Has}
use Rattle.slot_facts.proofs.Plans.Points.{IsPlannedPoint, IsPlannedPoint-from_points, AreInCycle, end_before-at, end_before-le, least_start-at, due-from_least_start, interval_start-is, interval_start-lt, planned-bounds, planned-from_point, point-from_planned, Has-deadline, Has-interval_start, Has-cycle}
use Rattle.slot_facts.proofs.Lists.RangeFilters.{filter-parts, filter-last}

-- whether a slot of the first cycle is a point, and the points up to e
abbrev pub is_cycle_point : ℕ → List Job → ℕ → Bool
is_cycle_point cycle jobs = is_point cycle (plan_points cycle jobs) []

abbrev pub points_by : ℕ → List Job → ℕ → List ℕ
points_by cycle jobs e = filter (is_cycle_point cycle jobs) (range_with_len 1 e)

-- a start at or before the end before it is no point of its own
abbrev pub start_if_later : ℕ → ℕ → List ℕ
start_if_later before start = cond (nat_lt before start) (start ∷ []) []

-- where only the last number after `before` passes
last-only : (p : ℕ → Bool) (before end : ℕ) → before < end → p end ≡ true → ((x : ℕ) → before < x → x < end → p x ≡ false) → filter p (range_with_len (before + 1) (end - before)) ≡ end ∷ []
last-only p before end low at_end none =
    let length : end - before ≡ end - before - 1 + 1 = omega arith in
    ap (λ n. filter p (range_with_len (before + 1) n)) length ∙ filter-last p (before + 1) (end - before - 1) end (omega arith) (λ x above under. none x (omega arith) under) at_end

-- the points after one end, up to the next, are the start between them, where there is one, and that end
points-between : (p : ℕ → Bool) (before start end : ℕ) → before < end → start < end → p end ≡ true → (before < start → p start ≡ true) → ((x : ℕ) → before < x → x < end → p x ≡ true → x ≡ max before start) → filter p (range_with_len 1 end) ≡ filter p (range_with_len 1 before) ++ (start_if_later before start ++ end ∷ [])
points-between p before start end low below at_end at_start only =
    filter-parts p 1 (before + 1) before (end - before) end (omega arith) (omega arith) ∙ ap (λ xs. filter p (range_with_len 1 before) ++ xs) (elim (cases_lt before start) [ inl later ↦ two later | inr first ↦ one first ])
  where
    one : start ≤ before → filter p (range_with_len (before + 1) (end - before)) ≡ start_if_later before start ++ end ∷ []
    one first =
        last-only p before end low at_end (λ x above under. false_from_ne_true (p x) (λ t. absurd (omega (arith, only x above under t)))) ∙ ap (λ xs. xs ++ end ∷ []) (sym (cond-false (nat_lt before start) (start ∷ []) [] (le-ltb before start first)))

    two : before < start → filter p (range_with_len (before + 1) (end - before)) ≡ start_if_later before start ++ end ∷ []
    two later =
        let first = last-only p before start later (at_start later) (λ x above under. false_from_ne_true (p x) (λ t. absurd (omega (arith, only x above (omega arith) t)))) in
        let second = last-only p start end below at_end (λ x above under. false_from_ne_true (p x) (λ t. absurd (omega (arith, only x (omega arith) under t)))) in
        filter-parts p (before + 1) (start + 1) (start - before) (end - start) (end - before) (omega arith) (omega arith) ∙ (ap₂ (λ xs ys. xs ++ ys) first second ∙ ap (λ xs. xs ++ end ∷ []) (sym (cond-true (nat_lt before start) (start ∷ []) [] (lt-ltb before start later))))

-- a point of the cycle is a planned one
planned-from_cycle_point : (cycle : ℕ) (jobs : List Job) (x : ℕ) → 1 ≤ cycle → AreInCycle cycle jobs → x ≤ cycle → is_cycle_point cycle jobs x ≡ true → IsPlannedPoint cycle jobs x
planned-from_cycle_point cycle jobs x some in_cycle within passes =
    IsPlannedPoint-from_points cycle jobs x (planned-from_point cycle (plan_points cycle jobs) x (λ q h. (planned-bounds cycle jobs q some in_cycle h).0) within passes)

-- jobs of one deadline have one interval
interval_start-same : (cycle : ℕ) (jobs : List Job) (a b : Job) → AreInCycle cycle jobs → Has jobs a → Has jobs b → a.dl ≡ b.dl → interval_start jobs a ≡ interval_start jobs b
interval_start-same cycle jobs a b in_cycle at_a at_b same =
    let start_of = λ (d : ℕ). max (least_start jobs d d) (end_before jobs d) in
    interval_start-is jobs a at_a (omega (arith, in_cycle a at_a)) ∙ (ap start_of same ∙ sym (interval_start-is jobs b at_b (omega (arith, in_cycle b at_b))))

-- between two neighbouring deadlines no point but the start of the interval
only_start : (cycle : ℕ) (jobs : List Job) (own : Job) (x : ℕ) → 1 ≤ cycle → AreInCycle cycle jobs → Has jobs own → end_before jobs own.dl < x → x < own.dl → is_cycle_point cycle jobs x ≡ true → x ≡ interval_start jobs own
only_start cycle jobs own x some in_cycle listed above under passes =
    let within = in_cycle own listed in
    elim (planned-from_cycle_point cycle jobs x some in_cycle (omega arith) passes) [
      | inl due ↦ absurd (omega (arith, due.2, end_before-at jobs own.dl due.0 due.1 (omega (arith, due.2))))
      | inr r ↦ elim r [
        | inl start ↦ elim (cases_order start.0.dl own.dl) [
          | inl same ↦ sym start.2 ∙ interval_start-same cycle jobs start.0 own in_cycle start.1 listed same
          | inr other ↦ elim other [
            | inl early ↦ absurd (omega (arith, start.2, interval_start-lt cycle jobs start.0 in_cycle start.1, end_before-at jobs own.dl start.0 start.1 early))
            | inr late ↦ absurd (omega (arith, start.2, end_before-at jobs start.0.dl own listed late))
          ]
        ]
        | inr e ↦ absurd (omega arith)
      ]
    ]

-- at a deadline, the points up to it
points_by-deadline : (cycle : ℕ) (jobs : List Job) (own : Job) → 1 ≤ cycle → AreInCycle cycle jobs → Has jobs own → points_by cycle jobs own.dl ≡ points_by cycle jobs (end_before jobs own.dl) ++ (start_if_later (end_before jobs own.dl) (least_start jobs own.dl own.dl) ++ own.dl ∷ [])
points_by-deadline cycle jobs own some in_cycle listed =
    let points = plan_points cycle jobs in
    let before = end_before jobs own.dl in
    let least = least_start jobs own.dl own.dl in
    let starts = interval_start-is jobs own listed (omega (arith, in_cycle own listed)) in
    let below : least < own.dl = omega (arith, in_cycle own listed, least_start-at jobs own.dl own.dl own listed refl) in
    let low : before < own.dl = omega (arith, interval_start-lt cycle jobs own in_cycle listed) in
    points-between
    (is_cycle_point cycle jobs)
    before
    least
    own.dl
    low
    below
    (point-from_planned cycle points [] own.dl (Has-deadline cycle jobs own listed))
    (λ later.
    let here : interval_start jobs own ≡ least = omega arith in
    ap (is_cycle_point cycle jobs) (sym here) ∙ point-from_planned cycle points [] (interval_start jobs own) (Has-interval_start cycle jobs own listed (omega arith)))
    (λ x above under passes. omega (arith, only_start cycle jobs own x some in_cycle listed above under passes))

pub points_by-due : (cycle : ℕ) (jobs : List Job) (before start end : ℕ) → 1 ≤ cycle → AreInCycle cycle jobs → before ≡ end_before jobs end → start ≡ least_start jobs end end → start < end → (points_by cycle jobs end ≡ points_by cycle jobs before ++ (start_if_later before start ++ end ∷ [])) × (end ≡ end_before jobs (end + 1))
points_by-due cycle jobs before start end some in_cycle is_before is_start below =
    let found = due-from_least_start jobs end end (omega arith) in
    let own = found.0 in
    let due : own.dl ≡ end = found.2 in
    let reached : own.dl ≤ end_before jobs (end + 1) = end_before-at jobs (end + 1) own found.1 (omega arith) in
    let most : end_before jobs (end + 1) ≤ end = end_before-le jobs (end + 1) end (λ j listed early. omega arith) in
    let at = λ (e b s : ℕ). points_by cycle jobs e ≡ points_by cycle jobs b ++ (start_if_later b s ++ e ∷ []) in
    let there = points_by-deadline cycle jobs own some in_cycle found.1 in
    let here : at end (end_before jobs end) (least_start jobs end end) = subst (λ e. at e (end_before jobs e) (least_start jobs e e)) due there in
    (rw (is_before, is_start) here, omega arith)

-- where no job is due at a slot, it is no end
pub end_before-none : (jobs : List Job) (before end : ℕ) → before ≡ end_before jobs end → end ≤ least_start jobs end end → ((j : Job) → Has jobs j → j.est < j.dl) → before ≡ end_before jobs (end + 1)
end_before-none jobs before end is_before none started =
    let due = λ (j : Job) (listed : Has jobs j) (early : j.dl < end + 1).
    let other : (j.dl ≡ end) → ⊥ = λ e. absurd (omega (arith, started j listed, least_start-at jobs end end j listed e)) in
    end_before-at jobs end j listed (omega (arith, other)) in
    let most : end_before jobs (end + 1) ≤ end_before jobs end = end_before-le jobs (end + 1) (end_before jobs end) due in
    let least : end_before jobs end ≤ end_before jobs (end + 1) = end_before-le jobs end (end_before jobs (end + 1)) (λ j listed early. end_before-at jobs (end + 1) j listed (omega arith)) in
    omega arith

-- after the last deadline the cycle is the only point
pub points_by-cycle : (cycle : ℕ) (jobs : List Job) (before : ℕ) → 1 ≤ cycle → AreInCycle cycle jobs → before ≡ end_before jobs (cycle + 1) → before < cycle → points_by cycle jobs cycle ≡ points_by cycle jobs before ++ cycle ∷ []
points_by-cycle cycle jobs before some in_cycle is_before low =
    let no_other = λ (x : ℕ) (above : before < x) (under : x < cycle) (passes : is_cycle_point cycle jobs x ≡ true).
    let none : ⊥ = elim (planned-from_cycle_point cycle jobs x some in_cycle (omega arith) passes) [
      | inl due ↦ omega (arith, due.2, end_before-at jobs (cycle + 1) due.0 due.1 (omega (arith, in_cycle due.0 due.1)))
      | inr r ↦ elim r [
        | inl start ↦ omega (arith, start.2, interval_start-lt cycle jobs start.0 in_cycle start.1, end_before-at jobs (cycle + 1) start.0 start.1 (omega (arith, in_cycle start.0 start.1)))
        | inr e ↦ omega arith
      ]
    ] in
    none in
    filter-parts (is_cycle_point cycle jobs) 1 (before + 1) before (cycle - before) cycle (omega arith) (omega arith) ∙ ap (λ xs. points_by cycle jobs before ++ xs) (last-only (is_cycle_point cycle jobs) before cycle low (point-from_planned cycle (plan_points cycle jobs) [] cycle (Has-cycle cycle jobs)) (λ x above under. false_from_ne_true (is_cycle_point cycle jobs x) (no_other x above under)))
