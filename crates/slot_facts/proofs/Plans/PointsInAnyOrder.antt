-- The points of the first cycle do not depend on the order of its jobs.
use Rattle.std.proofs.Common.{◌≡◌, ℕ, ◌≤◌, true, false, List, [], sym, ap, ◌∙◌, subst, inl, inr, arith}
use Rattle.std.specs.Prelude.{◌-◌, ◌%◌, ◌==◌, ◌&&◌, ◌||◌, nat_le}
use Rattle.std.specs.List.{list_any}
use Rattle.slot_core.specs.declared.jobs.Job.{Job}
use Rattle.slot_core.specs.Runs.Points.{end_before, least_start, interval_start, plan_points, is_point}
use Rattle.slot_facts.proofs.Lists.Members.{Has, list_any-from_Has, Has-from_list_any}
use Rattle.slot_facts.proofs.Lists.Tests.{same_tests}
use Rattle.slot_facts.proofs.Plans.Points.{IsPlannedPoint-from_points, Has-deadline, Has-interval_start, Has-cycle, end_before-at, end_before-le, least_start-at, least_start-most, least_start-le}

-- each job of the first list is one of the second
abbrev pub AreAmong : List Job → List Job → Type 0
AreAmong jobs others = (j : Job) → Has jobs j → Has others j

end_before-among : (jobs others : List Job) (e : ℕ) → AreAmong jobs others → end_before jobs e ≤ end_before others e
end_before-among jobs others e among =
    end_before-le jobs e (end_before others e) (λ j listed before. end_before-at others e j (among j listed) before)

least_start-among : (jobs others : List Job) (most e : ℕ) → AreAmong jobs others → least_start others most e ≤ least_start jobs most e
least_start-among jobs others most e among =
    least_start-le jobs most e (least_start others most e) (least_start-most others most e) (λ j listed due. least_start-at others most e j (among j listed) due)

-- jobs of both lists start their intervals at the same places
interval_start-among : (jobs others : List Job) (j : Job) → AreAmong jobs others → AreAmong others jobs → interval_start jobs j ≡ interval_start others j
interval_start-among jobs others j to from =
    omega (arith, end_before-among jobs others j.dl to, end_before-among others jobs j.dl from, least_start-among jobs others j.est j.dl to, least_start-among others jobs j.est j.dl from)

-- a planned point of the one list is one of the other
planned-among : (cycle : ℕ) (jobs others : List Job) (q : ℕ) → AreAmong jobs others → AreAmong others jobs → Has (plan_points cycle jobs) q → Has (plan_points cycle others) q
planned-among cycle jobs others q to from h =
    elim (IsPlannedPoint-from_points cycle jobs q h) [
      | inl due ↦ subst (Has (plan_points cycle others)) due.2 (Has-deadline cycle others due.0 (to due.0 due.1))
      | inr r ↦ elim r [
        | inl start ↦
            let same : interval_start others start.0 ≡ q = sym (interval_start-among jobs others start.0 to from) ∙ start.2 in
            subst (Has (plan_points cycle others)) same (Has-interval_start cycle others start.0 (to start.0 start.1) (omega (arith, start.3)))
        | inr e ↦ subst (Has (plan_points cycle others)) e (Has-cycle cycle others)
      ]
    ]

-- so the points are the same
pub is_point-among : (cycle : ℕ) (jobs others : List Job) → AreAmong jobs others → AreAmong others jobs → (p : ℕ) → is_point cycle (plan_points cycle jobs) [] p ≡ is_point cycle (plan_points cycle others) [] p
is_point-among cycle jobs others to from p =
    let here = λ (q : ℕ). nat_le q p && (p - q) % cycle == 0 in
    let go = λ (xs ys : List Job) (there : AreAmong xs ys) (back : AreAmong ys xs) (t : list_any here (plan_points cycle xs) ≡ true).
    let found = Has-from_list_any here (plan_points cycle xs) t in
    list_any-from_Has here (plan_points cycle ys) found.0 (planned-among cycle xs ys found.0 there back found.1) found.2 in
    ap (λ b. b || false) (same_tests (list_any here (plan_points cycle jobs)) (list_any here (plan_points cycle others)) (go jobs others to from) (go others jobs from to))
