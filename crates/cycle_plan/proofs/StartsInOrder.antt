-- Jobs that are sorted by start do not start before those in front of them.
use Rattle.std.proofs.Common.{◌≡◌, ℕ, suc, ◌+◌, ◌≤◌, false, List, [], ◌∷◌, get_or, subst, arith}
use Rattle.std.specs.Cmp.Lexicographic.{slice_cmp}
use Rattle.std.specs.Cmp.{IsStrictWeakOrder}
use Rattle.std.specs.declared.cmp.Ordering.{Ordering}
use Rattle.std.specs.Ordering.{nat_cmp, is_lt, ordering_then}
use Rattle.std.proofs.lemmas.Bool.Decides.{nat_tests}
use Rattle.std.proofs.lemmas.Cmp.{nat_cmp_total, nat_list_cmp_total, on_total, then_total, back_total}
use Rattle.std.proofs.lemmas.List.Elements.{recursion_from_All}
use Rattle.std.proofs.lemmas.List.Sorted.{ranks_by, sorted_far}
use Rattle.slot_core.specs.declared.jobs.Job.{Job}
use Rattle.slot_core.specs.Offline.Keys.{deadline_order}
use Rattle.cycle_plan.specs.StartOrder.{start_cmp, AreInStartOrder, StartsRise}

-- it is an order
pub start_cmp-orders : IsStrictWeakOrder (λ a b. is_lt (start_cmp a b))
start_cmp-orders = ranks_by (then_total (on_total (λ (j : Job). j.est) nat_cmp_total) (back_total (on_total deadline_order nat_list_cmp_total))) (λ (j : Job). j)

-- what does not go before another starts no earlier
start-le : (a b : ℕ) (o : Ordering) → is_lt (ordering_then (nat_cmp b a) o) ≡ false → a ≤ b
start-le a b o e = grind (arith, nat_tests)

-- the others are sorted too
AreInStartOrder-rest : (job : Job) (jobs : List Job) → AreInStartOrder (job ∷ jobs) → AreInStartOrder jobs
AreInStartOrder-rest job jobs up = λ k d low within.
    let next : suc k + 1 ≡ suc (k + 1) = omega arith in
    subst (λ n. is_lt (start_cmp (get_or (job ∷ jobs) n d) (get_or jobs k d)) ≡ false) next (up (suc k) d (omega arith) (omega arith))

pub StartsRise-sorted : (jobs : List Job) → AreInStartOrder jobs → StartsRise jobs
StartsRise-sorted [] up = tt
StartsRise-sorted (job ∷ jobs) up =
    let first = recursion_from_All (λ (other : Job). job.est ≤ other.est) jobs (λ k d within.
    let other = get_or jobs k d in
    start-le job.est other.est (slice_cmp nat_cmp (deadline_order job) (deadline_order other)) (sorted_far (λ a b. is_lt (start_cmp a b)) start_cmp-orders (job ∷ jobs) up 0 (suc k) d (omega arith) (omega arith))) in
    (first, StartsRise-sorted jobs (AreInStartOrder-rest job jobs up))
