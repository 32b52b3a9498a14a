-- Jobs with distinct keys that are sorted by deadline and key.
use Rattle.std.proofs.Common.{◌≡◌, suc, ◌+◌, Bool, true, false, List, [], ◌∷◌, get_or, drop, sym, ap, ◌∙◌, subst, arith}
use Rattle.std.specs.Prelude.{IsPermutation}
use Rattle.std.specs.Cmp.{Equal-is}
use Rattle.std.specs.Cmp.Lexicographic.{slice_cmp}
use Rattle.std.specs.List.{IsDistinct}
use Rattle.std.specs.List.Sorted.{IsSortedBy}
use Rattle.std.specs.Ordering.{nat_cmp, is_eq, is_lt, ordering_reverse}
use Rattle.std.specs.declared.cmp.Ordering.{Ordering}
use Rattle.std.specs.declared.cmp.Ordering.TheVariants.{Less, Equal, Greater}
use Rattle.std.proofs.lemmas.Bool.{false≢true, false_from_ne_true}
use Rattle.std.proofs.lemmas.Cmp.{nat_list_cmp_total, eq_by_cmp_equiv}
use Rattle.std.proofs.lemmas.List.Elements.{recursion_from_All, All-from_recursion}
use Rattle.std.proofs.lemmas.List.Sorted.{ranks_by, sorted_far}
use Rattle.std.proofs.lemmas.Map.Keys.{IsDistinct-head, IsDistinct-tail, IsDistinct-IsPermutation}
use Rattle.std.proofs.lemmas.Map.Lookups.{exact_bytes}
use Rattle.slot_core.specs.declared.jobs.Job.{Job}
use Rattle.slot_core.specs.Offline.Keys.{key_order, deadline_order, is_earlier}
use Rattle.slot_core.specs.Keeping.Plans.{AreInDeadlineOrder}
use Rattle.slot_facts.proofs.Choice.Earliest.{job_cmp, job_cmp_total, same_from_key, equal_itself}
use Rattle.slot_facts.proofs.Offline.DistinctKeys.{IsApart}
use Rattle.slot_facts.proofs.Lists.Members.{AllByRecursion-from_Has}

-- the two jobs stand level
abbrev pub same_job : Job → Job → Bool
same_job a b = is_eq (job_cmp a b)

-- jobs of the same deadline and key have the same key
pub key-from_same : (a b : Job) → same_job a b ≡ true → a.key ≡ b.key
key-from_same a b same =
    let lists = exact_bytes (deadline_order a) (deadline_order b) ((Equal-is (job_cmp a b)).0 same) in
    let keys : key_order a.key ≡ key_order b.key = ap (drop 1) lists in
    same_from_key a.key b.key (ap (λ xs. is_eq (slice_cmp nat_cmp xs (key_order b.key))) keys ∙ equal_itself (key_order b.key))

-- jobs with distinct keys are distinct
IsDistinct-from_apart : (jobs : List Job) → IsApart (λ (j : Job). j.key) jobs → IsDistinct same_job jobs
unfolding IsDistinct
IsDistinct-from_apart [] apart = tt
IsDistinct-from_apart (job ∷ jobs) apart = (
  AllByRecursion-from_Has (λ other. same_job job other ≡ false) jobs (λ other h. false_from_ne_true (same_job job other) (λ e. apart.0 other h (key-from_same job other e))),
  IsDistinct-from_apart jobs apart.1,
)

less_from_neither : (back there : Ordering) → there ≡ ordering_reverse back → is_lt back ≡ false → is_eq there ≡ false → is_lt there ≡ true
less_from_neither Less there e up apart = absurd (false≢true (sym up))
less_from_neither Equal there e up apart = absurd (false≢true (sym apart ∙ ap is_eq e))
less_from_neither Greater there e up apart = ap is_lt e

-- of two jobs that are not the same, the one that is not the later is the earlier
pub is_earlier-from_neither : (a b : Job) → is_lt (job_cmp b a) ≡ false → same_job a b ≡ false → is_earlier a b ≡ true
is_earlier-from_neither a b up apart =
    let back : job_cmp a b ≡ ordering_reverse (job_cmp b a) = job_cmp_total.antisymm a b in
    less_from_neither (job_cmp b a) (job_cmp a b) back up apart

AreInDeadlineOrder-from_distinct : (jobs : List Job) → IsSortedBy (λ a b. is_lt (job_cmp a b)) jobs → IsDistinct same_job jobs → AreInDeadlineOrder jobs
AreInDeadlineOrder-from_distinct [] up distinct = tt
AreInDeadlineOrder-from_distinct (job ∷ jobs) up distinct =
    let order = ranks_by nat_list_cmp_total deadline_order in
    let apart = All-from_recursion (λ other. same_job job other ≡ false) jobs (IsDistinct-head same_job job jobs distinct) in
    let first = recursion_from_All (λ other. is_earlier job other ≡ true) jobs λ k d within.
    is_earlier-from_neither job (get_or jobs k d) (sorted_far (λ a b. is_lt (job_cmp a b)) order (job ∷ jobs) up 0 (suc k) d (omega arith) (omega arith)) (apart k d within) in
    let later : IsSortedBy (λ a b. is_lt (job_cmp a b)) jobs = λ k d low within.
    let next : suc k + 1 ≡ suc (k + 1) = omega arith in
    subst (λ n. is_lt (job_cmp (get_or (job ∷ jobs) n d) (get_or jobs k d)) ≡ false) next (up (suc k) d (omega arith) (omega arith)) in
    (first, AreInDeadlineOrder-from_distinct jobs later (IsDistinct-tail same_job job jobs distinct))

-- sorted jobs are in deadline order, where their keys were distinct before the sort
pub AreInDeadlineOrder-from_sorted : (before jobs : List Job) → IsApart (λ (j : Job). j.key) before → IsPermutation before jobs → IsSortedBy (λ a b. is_lt (job_cmp a b)) jobs → AreInDeadlineOrder jobs
AreInDeadlineOrder-from_sorted before jobs apart same up =
    AreInDeadlineOrder-from_distinct jobs up (IsDistinct-IsPermutation same_job (eq_by_cmp_equiv job_cmp_total).symm before jobs same (IsDistinct-from_apart before apart))
