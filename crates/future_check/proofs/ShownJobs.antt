-- The jobs that are shown: those of a list that are due by a time, in deadline order.
use Rattle.std.proofs.Common.{◌≡◌, ℕ, ◌+◌, ◌<◌, ◌≤◌, List, [], ◌∷◌, ◌++◌, append-nil, append_assoc, filter, take, Some, refl, sym, ap, ◌∙◌}
use Rattle.std.specs.Prelude.{All, IsPermutation, nat_le, slice_get}
use Rattle.std.specs.List.Sorted.{IsSortedBy}
use Rattle.std.specs.Ordering.{is_lt}
use Rattle.std.proofs.lemmas.Bool.{le-leb, lt-leb}
use Rattle.std.proofs.lemmas.List.{take_more}
use Rattle.std.proofs.lemmas.List.Elements.{All-from_recursion, filter-append}
use Rattle.std.proofs.lemmas.Option.{slice_get_within, get_or_from_slice_get}
use Rattle.std.proofs.lemmas.List.Sorted.{All-permutation, IsPermutation-sym, IsPermutation-trans}
use Rattle.slot_core.specs.declared.jobs.Job.{Job}
use Rattle.slot_core.specs.Keeping.Kept.{AreApart}
use Rattle.slot_core.specs.Keeping.Plans.{AreInDeadlineOrder, in_deadline_order}
use Rattle.slot_core.specs.Runs.Matches.{HaveSameItems}
use Rattle.slot_facts.proofs.Choice.Earliest.{job_cmp}
use Rattle.slot_facts.proofs.Lists.Apart.{IsApart-filter}
use Rattle.slot_facts.proofs.Lists.ApartKeys.{IsApart-from_count}
use Rattle.slot_facts.proofs.Lists.Members.{Has, Has-filter_passes, AllByRecursion-from_Has}
use Rattle.slot_facts.proofs.Lists.SameItems.{jobs-same_items, same-filter}
use Rattle.slot_facts.proofs.Offline.DistinctKeys.{IsApart}
use Rattle.slot_facts.proofs.Plans.InOrder.{IsPermutation-in_order, AreInDeadlineOrder-in_order, AreInDeadlineOrder-one}
use Rattle.slot_facts.proofs.Plans.SortedJobs.{AreInDeadlineOrder-from_sorted}

-- the jobs that are due by a time
abbrev due : ℕ → List Job → List Job
due until jobs = filter (λ (j : Job). nat_le j.dl until) jobs

-- their keys are apart too
due-apart : (jobs : List Job) (until : ℕ) → AreApart jobs → IsApart (λ (j : Job). j.key) (due until jobs)
due-apart jobs until apart =
    IsApart-filter (λ (j : Job). j.key) (λ (j : Job). nat_le j.dl until) jobs (IsApart-from_count jobs apart)

-- the same jobs with keys apart are the same in deadline order
in_order-one : (xs ys : List Job) → IsApart (λ (j : Job). j.key) ys → AreInDeadlineOrder xs → IsPermutation ys xs → xs ≡ in_deadline_order ys
in_order-one xs ys apart ordered permuted =
    let own = in_deadline_order ys in
    let same = IsPermutation-trans xs ys own (IsPermutation-sym ys xs permuted) (IsPermutation-in_order ys) in
    AreInDeadlineOrder-one xs own ordered (AreInDeadlineOrder-in_order ys apart) same

-- sorted, the due jobs are those in deadline order
pub shown-from_sorted : (jobs sorted : List Job) (until : ℕ) → AreApart jobs → IsPermutation (due until jobs) sorted → IsSortedBy (λ a b. is_lt (job_cmp a b)) sorted → sorted ≡ in_deadline_order (due until jobs)
shown-from_sorted jobs sorted until apart permuted up =
    let own = due-apart jobs until apart in
    in_order-one sorted (due until jobs) own (AreInDeadlineOrder-from_sorted (due until jobs) sorted own permuted up) permuted

-- the same jobs in another order show the same
pub shown-same : (xs ys : List Job) (until : ℕ) → AreApart xs → AreApart ys → HaveSameItems xs ys → in_deadline_order (due until xs) ≡ in_deadline_order (due until ys)
shown-same xs ys until apart_x apart_y same =
    let first = in_deadline_order (due until xs) in
    let both = (jobs-same_items (due until ys) (due until xs)).0 (λ f. sym (same-filter (λ (j : Job). nat_le j.dl until) xs ys same f)) in
    let permuted = IsPermutation-trans (due until ys) (due until xs) first both (IsPermutation-in_order (due until xs)) in
    in_order-one first (due until ys) (due-apart ys until apart_y) (AreInDeadlineOrder-in_order (due until xs) (due-apart xs until apart_x)) permuted

-- what holds of each job holds of each that is shown
pub All-shown : (P : Job → Type 0) (jobs : List Job) (until : ℕ) → ((j : Job) → Has jobs j → P j) → All P (in_deadline_order (due until jobs))
All-shown P jobs until each =
    let all = AllByRecursion-from_Has P (due until jobs) (λ j at. each j (Has-filter_passes (λ (j : Job). nat_le j.dl until) jobs j at).0) in
    All-permutation P (due until jobs) (in_deadline_order (due until jobs)) (IsPermutation-in_order (due until jobs)) (All-from_recursion P (due until jobs) all)

-- of one job more
due-more : (until place : ℕ) (jobs : List Job) (job : Job) → slice_get jobs place ≡ Some job → due until (take (place + 1) jobs) ≡ due until (take place jobs) ++ due until (job ∷ [])
due-more until place jobs job at =
    let next = take_more jobs place job (slice_get_within jobs place job at) ∙ ap (λ j. take place jobs ++ j ∷ []) (get_or_from_slice_get jobs place job job at) in
    ap (due until) next ∙ filter-append (λ (j : Job). nat_le j.dl until) (take place jobs) (job ∷ [])

-- it is one of them where it is due
pub due-pushed : (until place : ℕ) (jobs : List Job) (job : Job) (before now after : List Job) → slice_get jobs place ≡ Some job → job.dl ≤ until → now ≡ before ++ due until (take place jobs) → after ≡ now ++ job ∷ [] → after ≡ before ++ due until (take (place + 1) jobs)
due-pushed until place jobs job before now after at in_time is pushed =
    let own = due until (take place jobs) in
    let one : due until (job ∷ []) ≡ job ∷ [] = rw (le-leb job.dl until in_time) refl in
    pushed
    ∙ ap (λ xs. xs ++ job ∷ []) is
    ∙ append_assoc before own (job ∷ [])
    ∙ ap (λ xs. before ++ xs) (sym (due-more until place jobs job at ∙ ap (λ xs. own ++ xs) one))

-- and else none
pub due-kept : (until place : ℕ) (jobs : List Job) (job : Job) (before now : List Job) → slice_get jobs place ≡ Some job → until < job.dl → now ≡ before ++ due until (take place jobs) → now ≡ before ++ due until (take (place + 1) jobs)
due-kept until place jobs job before now at late is =
    let own = due until (take place jobs) in
    let none : due until (job ∷ []) ≡ [] = rw (lt-leb job.dl until late) refl in
    is ∙ ap (λ xs. before ++ xs) (sym (due-more until place jobs job at ∙ ap (λ xs. own ++ xs) none ∙ append-nil own))
