-- What the loops over a plan's jobs and spans need.
use Rattle.std.proofs.Common.{◌≡◌, ℕ, ◌+◌, ◌*◌, ◌^◌, ◌<◌, ◌≤◌, List, [], ◌∷◌, ◌++◌, length, get_or, map, take, true, Some, leb-true, mul-le-mul_left, sym, ap, ◌∙◌, subst, arith}
use Rattle.std.specs.Prelude.{slice_get, nat_le, IfSome, All}
use Rattle.std.proofs.lemmas.List.{map_more}
use Rattle.std.proofs.lemmas.List.Elements.{All-get_or, filter_passes}
use Rattle.std.proofs.lemmas.Option.{slice_get-get_or}
use Rattle.slot_core.specs.declared.TheConstants.{CYCLES_LIMIT, SLOT_LIMIT}
use Rattle.slot_core.specs.declared.jobs.Job.{Job}
use Rattle.slot_core.specs.declared.jobs.Span.{Span}
use Rattle.slot_core.specs.Keeping.Plans.{PlanParts, IsPlan}
use Rattle.slot_core.specs.Runs.Scenes.{scene_of}
use Rattle.slot_core.specs.Runs.Spans.{spans_of}
use Rattle.slot_facts.proofs.Offline.Jobs.{cycle-positive, cycle-at_most}

-- one more job, made of the one at the place
pub one_more_job : (f : Job → Job) (jobs : List Job) (i : ℕ) (made : Job) → i < length jobs → IfSome (slice_get jobs i) (λ job. made ≡ f job) → map f (take (i + 1) jobs) ≡ map f (take i jobs) ++ made ∷ []
one_more_job f jobs i made inside is =
    let at : slice_get jobs i ≡ Some (get_or jobs i made) = slice_get-get_or jobs i made inside in
    let same : made ≡ f (get_or jobs i made) = subst (λ o. IfSome o (λ job. made ≡ f job)) at is in
    map_more f jobs i made inside ∙ ap (λ x. map f (take i jobs) ++ x ∷ []) (sym same)

-- the cycle of a plan
pub plan_cycle-bounds : (plan : PlanParts) → IsPlan plan → (1 ≤ plan.cycle) × (plan.cycle ≤ SLOT_LIMIT)
plan_cycle-bounds plan is_plan = (
  omega (arith, is_plan.cycle, cycle-positive plan.tasks is_plan.sound),
  omega (arith, is_plan.cycle, cycle-at_most plan.tasks is_plan.sound),
)

-- no span of a plan ends past the longest cycle
pub plan_end-near : (plan : PlanParts) (spans : List Span) (i : ℕ) (d : Span) → IsPlan plan → spans ≡ plan.spans → i < length spans → (get_or spans i d).end ≤ SLOT_LIMIT
plan_end-near plan spans i d is_plan same inside =
    let all = subst (All (λ s. nat_le s.end plan.cycle ≡ true)) (sym (same ∙ is_plan.spans)) (filter_passes (λ (s : Span). nat_le s.end plan.cycle) (spans_of plan.cycle (scene_of plan.tasks plan.cycle []))) in
    let low = leb-true (get_or spans i d).end plan.cycle (All-get_or (λ s. nat_le s.end plan.cycle ≡ true) spans i d inside all) in
    omega (arith, plan_cycle-bounds plan is_plan)

-- so many cycles later it is still far from an overflow
pub later_end-fits : (end cycles cycle : ℕ) → end ≤ SLOT_LIMIT → cycles ≤ CYCLES_LIMIT → cycle ≤ SLOT_LIMIT → end + cycles * cycle < 2 ^ 64
later_end-fits end cycles cycle low few short = omega (arith, mul-le-mul_left cycles short)
