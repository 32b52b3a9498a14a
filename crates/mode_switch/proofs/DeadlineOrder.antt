-- Carried jobs in deadline order: all may start, so the first that has not ended is the earliest.
use Rattle.std.proofs.Common.{◌≡◌, ℕ, zero, suc, ◌-◌, ◌≤◌, true, List, [], ◌∷◌, drop, map, fold, Some, refl, ap, ◌∙◌, inl, inr, arith}
use Rattle.std.specs.Prelude.{slice_get}
use Rattle.std.specs.List.{AllByRecursion}
use Rattle.std.specs.Ordering.{nat_cmp, is_lt, ordering_then}
use Rattle.std.specs.Cmp.Lexicographic.{slice_cmp}
use Rattle.std.proofs.lemmas.Bool.Decides.{nat_tests}
use Rattle.slot_core.specs.declared.jobs.Job.{Job}
use Rattle.slot_core.specs.Offline.Keys.{key_order, is_earlier}
use Rattle.slot_core.specs.Keeping.Plans.{AreInDeadlineOrder}
use Rattle.slot_core.specs.Runs.Choice.{earlier_of, earliest, ready}
use Rattle.slot_facts.proofs.Lists.Members.{Has}
use Rattle.slot_facts.proofs.Plans.InOrder.{is_earlier-one_way}
use Rattle.change_laws.specs.Carried.{since}
use Rattle.mode_switch.specs.Keeping.{carried_left, with_run}
use Rattle.interval_build.proofs.Due.{AreInDeadlineOrder-drop}

-- numbers that are lowered by one that they all reach compare as before
nat_cmp-lowered : (a b c : ℕ) → c ≤ a → c ≤ b → nat_cmp (a - c) (b - c) ≡ nat_cmp a b
nat_cmp-lowered a b c la lb = grind (arith, nat_tests)

-- so do jobs whose times are counted from such a time on
is_earlier-since : (c : ℕ) (a b : Job) → c ≤ a.dl → c ≤ b.dl → is_earlier (since c a) (since c b) ≡ is_earlier a b
is_earlier-since c a b la lb = λ i.
    is_lt (ordering_then (nat_cmp-lowered a.dl b.dl c la lb i) (slice_cmp nat_cmp (key_order a.key) (key_order b.key)))

first-since : (c : ℕ) (job : Job) (jobs : List Job) → c ≤ job.dl → ((j : Job) → Has jobs j → c ≤ j.dl) → AllByRecursion (λ other. is_earlier job other ≡ true) jobs → AllByRecursion (λ other. is_earlier (since c job) other ≡ true) (map (since c) jobs)
first-since c job [] low all first = tt
first-since c job (other ∷ jobs) low all first = (
  is_earlier-since c job other low (all other (inl refl)) ∙ first.0,
  first-since c job jobs low (λ j at. all j (inr at)) first.1,
)

AreInDeadlineOrder-since : (c : ℕ) (jobs : List Job) → ((j : Job) → Has jobs j → c ≤ j.dl) → AreInDeadlineOrder jobs → AreInDeadlineOrder (map (since c) jobs)
AreInDeadlineOrder-since c [] all ordered = tt
AreInDeadlineOrder-since c (job ∷ jobs) all ordered = (
  first-since c job jobs (all job (inl refl)) (λ j at. all j (inr at)) ordered.0,
  AreInDeadlineOrder-since c jobs (λ j at. all j (inr at)) ordered.1,
)

-- where the first has run, jobs keep their order
AreInDeadlineOrder-with_run : (ran : ℕ) (jobs : List Job) → AreInDeadlineOrder jobs → AreInDeadlineOrder (with_run ran jobs)
AreInDeadlineOrder-with_run ran [] ordered = ordered
AreInDeadlineOrder-with_run ran (job ∷ jobs) ordered = ordered

pub carried_left-ordered : (c : ℕ) (carried : List Job) (ended ran : ℕ) → ((j : Job) → Has carried j → c ≤ j.dl) → AreInDeadlineOrder carried → AreInDeadlineOrder (carried_left c carried ended ran)
carried_left-ordered c carried ended ran all ordered =
    AreInDeadlineOrder-with_run ran (drop ended (map (since c) carried)) (AreInDeadlineOrder-drop ended (map (since c) carried) (AreInDeadlineOrder-since c carried all ordered))

-- the first of jobs in order is the earliest
first_stays : (job : Job) (jobs : List Job) → AllByRecursion (λ other. is_earlier job other ≡ true) jobs → fold earlier_of (Some job) jobs ≡ Some job
first_stays job [] first = refl
first_stays job (other ∷ jobs) first =
    rw (is_earlier-one_way job other first.0) (first_stays job jobs first.1)

earliest-ordered : (jobs : List Job) → AreInDeadlineOrder jobs → earliest jobs ≡ slice_get jobs 0
earliest-ordered [] ordered = refl
earliest-ordered (job ∷ jobs) ordered = first_stays job jobs ordered.0

-- where each job may start, all are ready
ready-cons : (t : ℕ) (job : Job) (jobs : List Job) → job.est ≤ t → ready t jobs ≡ jobs → ready t (job ∷ jobs) ≡ job ∷ jobs
ready-cons t job jobs early rest = grind (arith, nat_tests)

ready-all : (t : ℕ) (jobs : List Job) → ((j : Job) → Has jobs j → j.est ≤ t) → ready t jobs ≡ jobs
ready-all t [] early = refl
ready-all t (job ∷ jobs) early =
    ready-cons t job jobs (early job (inl refl)) (ready-all t jobs (λ j at. early j (inr at)))

pub earliest-all_ready : (t : ℕ) (jobs : List Job) → ((j : Job) → Has jobs j → j.est ≤ t) → AreInDeadlineOrder jobs → earliest (ready t jobs) ≡ slice_get jobs 0
earliest-all_ready t jobs early ordered = ap earliest (ready-all t jobs early) ∙ earliest-ordered jobs ordered
