-- Work, demand, slack, capacities and spans depend on sums over the jobs alone, and not on their order.
use Rattle.std.proofs.Common.{◌≡◌, ℕ, ◌-◌, ◌&&◌, List, [], ◌∷◌, refl, ◌+◌}
use Rattle.std.specs.Prelude.{pos, ◌-ℤ◌, nat_lt, nat_le, if◌then◌else◌, ◌&&◌}
use Rattle.std.specs.List.Sorted.{IsPermutation}
use Rattle.slot_core.specs.declared.jobs.Job.{Job}
use Rattle.slot_core.specs.Runs.Demand.{work_between}
use Rattle.slot_core.specs.Runs.Matches.{HaveSameItems}
use Rattle.slot_facts.proofs.Lists.SameItems.{same-from_permutation}
use Rattle.slot_core.specs.Runs.Spans.{least, spare_capacity, spans_between}
use Rattle.slot_core.specs.declared.tasks.Sporadic.{Sporadic}
use Rattle.slot_core.specs.Feasibility.Sporadics.{sporadic_demand}
use Rattle.slot_core.specs.Feasibility.Feasible.{window_demand}

-- lists of the same jobs have the same work that is due
pub work_between-same : (jobs others : List Job) → HaveSameItems jobs others → (s e : ℕ) → work_between jobs s e ≡ work_between others s e
work_between-same jobs others same s e =
    same (λ (j : Job). if nat_lt s j.dl && nat_le j.dl e then j.left else 0)

-- the same capacities
pub spare_capacity-same : (jobs others : List Job) → HaveSameItems jobs others → (end s e : ℕ) → spare_capacity jobs end s e ≡ spare_capacity others end s e
spare_capacity-same jobs others same end s e =
    λ i. least (λ x. pos (x - s) -ℤ pos (work_between-same jobs others same s x i)) e end

-- and the same spans
pub spans_between-same : (jobs others : List Job) → HaveSameItems jobs others → (end s : ℕ) (points : List ℕ) → spans_between jobs end s points ≡ spans_between others end s points
spans_between-same jobs others same end s [] = refl
spans_between-same jobs others same end s (e ∷ points) =
    λ i.
    record { start = s; end = e; work = work_between-same jobs others same s e i; spare = spare_capacity-same jobs others same end s e i } ∷ spans_between-same jobs others same end e points i

-- a permuted list of jobs has the same spans
pub spans_between-permutation : (jobs others : List Job) → IsPermutation jobs others → (end s : ℕ) (points : List ℕ) → spans_between jobs end s points ≡ spans_between others end s points
spans_between-permutation jobs others h =
    spans_between-same jobs others (same-from_permutation jobs others h)

-- the demand of a window does not depend on the order of the jobs
pub window_demand-same : (jobs others : List Job) (sporadics : List Sporadic) (cycle a b : ℕ) → HaveSameItems jobs others → window_demand jobs sporadics cycle a b ≡ window_demand others sporadics cycle a b
window_demand-same jobs others sporadics cycle a b same =
    let within = λ (shift : ℕ). same (λ (j : Job). if nat_le a (j.est + shift) && nat_le (j.dl + shift) b then j.declared else 0) in
    λ i. within 0 i + (if nat_lt cycle b then within cycle i else 0) + sporadic_demand sporadics [] a b
