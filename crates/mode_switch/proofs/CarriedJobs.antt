-- The jobs that are carried over, and their order.
use Rattle.std.proofs.Common.{◌≡◌, ℕ, ◌+◌, not, List, [], ◌∷◌, ◌++◌, take, Some, ap, subst, ◌∙◌}
use Rattle.std.specs.Prelude.{IsPermutation, slice_get}
use Rattle.std.specs.List.Sorted.{IsSortedBy}
use Rattle.std.specs.Ordering.{is_lt}
use Rattle.std.proofs.lemmas.List.{take_more}
use Rattle.std.proofs.lemmas.List.Elements.{filter-append}
use Rattle.std.proofs.lemmas.List.Sorted.{IsPermutation-sym, IsPermutation-trans}
use Rattle.std.proofs.lemmas.Option.{get_or_from_slice_get, slice_get_within}
use Rattle.slot_core.specs.declared.jobs.Job.{Job}
use Rattle.slot_core.specs.Keeping.Kept.{AreApart}
use Rattle.slot_core.specs.Keeping.Plans.{in_deadline_order}
use Rattle.slot_core.specs.Offline.Keys.{is_offline}
use Rattle.slot_facts.proofs.Choice.Earliest.{job_cmp}
use Rattle.slot_facts.proofs.Lists.Apart.{IsApart-filter}
use Rattle.slot_facts.proofs.Lists.ApartKeys.{IsApart-from_count}
use Rattle.slot_facts.proofs.Offline.DistinctKeys.{IsApart}
use Rattle.slot_facts.proofs.Plans.InOrder.{AreInDeadlineOrder-in_order, AreInDeadlineOrder-one, IsPermutation-in_order}
use Rattle.slot_facts.proofs.Plans.SortedJobs.{AreInDeadlineOrder-from_sorted}
use Rattle.change_laws.specs.Carried.{carried_of}
use Rattle.mode_switch.specs.Keeping.{carried_from}

-- of one more job
pub carried_of-more : (jobs : List Job) (i : ℕ) (job : Job) → slice_get jobs i ≡ Some job → carried_of (take (i + 1) jobs) ≡ carried_of (take i jobs) ++ carried_of (job ∷ [])
carried_of-more jobs i job at =
    let here = get_or_from_slice_get jobs i job job at in
    ap carried_of (take_more jobs i job (slice_get_within jobs i job at) ∙ ap (λ j. take i jobs ++ j ∷ []) here)
    ∙ filter-append (λ (j : Job). not (is_offline j.key)) (take i jobs) (job ∷ [])

-- the carried jobs of jobs with keys apart have keys apart
pub carried_of-apart : (jobs : List Job) → AreApart jobs → IsApart (λ (j : Job). j.key) (carried_of jobs)
carried_of-apart jobs apart =
    IsApart-filter (λ (j : Job). j.key) (λ (j : Job). not (is_offline j.key)) jobs (IsApart-from_count jobs apart)

-- sorted by deadline and key, they are those in deadline order
pub carried_from-sorted : (jobs gathered sorted : List Job) → AreApart jobs → gathered ≡ carried_of jobs → IsPermutation gathered sorted → IsSortedBy (λ a b. is_lt (job_cmp a b)) sorted → sorted ≡ carried_from jobs
carried_from-sorted jobs gathered sorted apart all moved up =
    let carried = carried_of jobs in
    let keys = carried_of-apart jobs apart in
    let listed = subst (λ js. IsPermutation js sorted) all moved in
    let permuted = IsPermutation-trans sorted carried (in_deadline_order carried) (IsPermutation-sym carried sorted listed) (IsPermutation-in_order carried) in
    AreInDeadlineOrder-one sorted (in_deadline_order carried) (AreInDeadlineOrder-from_sorted carried sorted keys listed up) (AreInDeadlineOrder-in_order carried keys) permuted
