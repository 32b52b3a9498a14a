-- What is kept of a plan for the tests of a task.
use Rattle.std.proofs.Common.{◌≡◌, ℕ, zero, suc, ◌*◌, ◌≤◌, not, List, [], ◌∷◌, get_or, sym, ap, ◌∙◌, subst, arith}
use Rattle.std.specs.Prelude.{filter, IsPermutation}
use Rattle.std.proofs.lemmas.List.Elements.{All-from_recursion}
use Rattle.std.proofs.lemmas.List.Kept.{IsNonDecreasingBy-filter}
use Rattle.std.proofs.lemmas.List.Sorted.{IsPermutation-trans}
use Rattle.slot_core.specs.declared.jobs.Job.{Job}
use Rattle.slot_core.specs.declared.tasks.Sporadic.{Sporadic}
use Rattle.slot_core.specs.Feasibility.Sporadics.{sporadic_demand}
use Rattle.slot_core.specs.Keeping.Plans.{PlanParts, IsPlan}
use Rattle.slot_core.specs.Offline.OfflineJobs.{cycle_jobs}
use Rattle.slot_core.specs.Sets.Cycles.{cycle_of}
use Rattle.slot_facts.proofs.Lists.SameItems.{same-from_permutation, same-filter, jobs-same_items}
use Rattle.cycle_plan.specs.StartOrder.{StartsRise}
use Rattle.margin_find.specs.Kept.{is_of, jobs_of_others, StartInOrder}

-- starts that rise, by places
pub in_order-from_StartsRise : (jobs : List Job) → StartsRise jobs → StartInOrder jobs
in_order-from_StartsRise [] rise i j d low within = absurd (omega arith)
in_order-from_StartsRise (job ∷ jobs) rise zero zero d low within = omega arith
in_order-from_StartsRise (job ∷ jobs) rise zero (suc j) d low within =
    All-from_recursion (λ (other : Job). job.est ≤ other.est) jobs rise.0 j d (omega arith)
in_order-from_StartsRise (job ∷ jobs) rise (suc i) zero d low within = absurd (omega arith)
in_order-from_StartsRise (job ∷ jobs) rise (suc i) (suc j) d low within =
    in_order-from_StartsRise jobs rise.1 i j d (omega arith) (omega arith)

-- the jobs of a plan in another order are those of its set
pub listed-from_plan : (plan : PlanParts) (jobs : List Job) → IsPlan plan → IsPermutation plan.jobs jobs → IsPermutation (cycle_jobs plan.tasks (cycle_of plan.tasks) 0) jobs
listed-from_plan plan jobs is_plan listed =
    subst (λ n. IsPermutation (cycle_jobs plan.tasks n 0) jobs) is_plan.cycle (IsPermutation-trans (cycle_jobs plan.tasks plan.cycle 0) plan.jobs jobs is_plan.jobs listed)

-- so are those of the other graphs
others-listed : (plan : PlanParts) (jobs : List Job) (graph : ℕ) → IsPlan plan → IsPermutation plan.jobs jobs → IsPermutation (jobs_of_others plan.tasks graph) (filter (λ (j : Job). not (is_of graph j.key)) jobs)
others-listed plan jobs graph is_plan listed =
    let other = λ (j : Job). not (is_of graph j.key) in
    let first = cycle_jobs plan.tasks (cycle_of plan.tasks) 0 in
    (jobs-same_items (filter other first) (filter other jobs)).0 (same-filter other first jobs (same-from_permutation first jobs (listed-from_plan plan jobs is_plan listed)))

-- the jobs that are kept
pub record AreOthers (plan : PlanParts) (graph : ℕ) (others : List Job) : Type 0 where
  pub ordered : StartInOrder others
  pub listed : IsPermutation (jobs_of_others plan.tasks graph) others

pub AreOthers-from_plan : (plan : PlanParts) (jobs others : List Job) (graph : ℕ) → IsPlan plan → IsPermutation plan.jobs jobs → StartsRise jobs → others ≡ filter (λ (j : Job). not (is_of graph j.key)) jobs → AreOthers plan graph others
AreOthers-from_plan plan jobs others graph is_plan listed rise is =
    let other = λ (j : Job). not (is_of graph j.key) in
    record {
      ordered = subst StartInOrder (sym is) (IsNonDecreasingBy-filter (λ (j : Job). j.est) other jobs (in_order-from_StartsRise jobs rise));
      listed = subst (IsPermutation (jobs_of_others plan.tasks graph)) (sym is) (others-listed plan jobs graph is_plan listed);
    }

-- the table of arrivals of a plan
pub needed-from_plan : (plan : PlanParts) (ss : List Sporadic) (cycle : ℕ) (table : List ℕ) → IsPlan plan → ss ≡ plan.tasks.sporadics → cycle ≡ plan.cycle → ((x : ℕ) → x ≤ 2 * cycle → get_or table x 0 ≡ sporadic_demand ss [] 0 x) → (x : ℕ) → x ≤ 2 * cycle_of plan.tasks → get_or table x 0 ≡ sporadic_demand plan.tasks.sporadics [] 0 x
needed-from_plan plan ss cycle table is_plan same whole values x low =
    let within : x ≤ 2 * cycle = omega (arith, whole, is_plan.cycle, low) in
    values x within ∙ ap (λ (us : List Sporadic). sporadic_demand us [] 0 x) same
