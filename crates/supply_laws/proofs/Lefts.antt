-- The slots left of the jobs of the set's own tasks, and of firm jobs.
use Rattle.std.proofs.Common.{◌≡◌, ℕ, suc, ◌+◌, ◌-◌, ◌/◌, ◌<◌, ◌≤◌, Bool, true, false, not, ◌&&◌, ◌||◌, cond, List, [], ◌∷◌, ◌++◌, refl, ap, ◌∙◌, subst, inl, inr, arith}
use Rattle.std.specs.Prelude.{sum_by, nat_le, filter}
use Rattle.std.proofs.lemmas.Bool.Decides.{nat_tests}
use Rattle.std.proofs.lemmas.Bool.{both_ways}
use Rattle.std.proofs.lemmas.List.Sums.{sum_by-cons, sum_by-append, sum_by-le-sum_by}
use Rattle.slot_core.specs.declared.jobs.Job.{Job}
use Rattle.slot_core.specs.declared.tasks.TaskSet.{TaskSet}
use Rattle.slot_core.specs.declared.events.What.TheVariants.{Run}
use Rattle.slot_core.specs.Offline.OfflineJobs.{offline_jobs}
use Rattle.slot_core.specs.Runs.Demand.{work_from}
use Rattle.slot_core.specs.Runs.Histories.{History, time_of, executed, is_freed, sporadic_jobs, firm_jobs}
use Rattle.slot_core.specs.Runs.Scenes.{has_ended, with_left, guaranteed, guaranteed_in}
use Rattle.slot_core.specs.Sets.Cycles.{cycle_of}
use Rattle.slot_facts.proofs.Choice.Earliest.{equal_itself}
use Rattle.slot_facts.proofs.Legal.Left.{left_of, left_in, left_in-append, left_in-cons, left_of-le, left_in-further, due_by, from_by}
use Rattle.slot_facts.proofs.Legal.Owned.{is_further}
use Rattle.slot_facts.proofs.Legal.Jobs.{firm-key}
use Rattle.slot_facts.proofs.Lists.Members.{Has, Has-append_left, Has-append_right, Has-append_cases}
use Rattle.slot_facts.proofs.Lists.Sums.{sum_by-map, sum_by-filter}
use Rattle.supply_laws.specs.Laws.{firm_left_at}
use Rattle.supply_laws.specs.Requests.{is_firm, is_requested}

-- the jobs of the set's own tasks in a history: the offline ones of so many cycles, and the sporadic ones
abbrev pub own_in : TaskSet → ℕ → ℕ → History → List Job
own_in set cycle cycles h = offline_jobs set cycle cycles ++ sporadic_jobs set.sporadics h

-- one job, a slot later
left_of-ran : (freed : Bool) (declared ran : ℕ) → (nat_le declared ran || freed) ≡ false → cond (not (nat_le declared (suc ran) || freed)) (declared - suc ran) 0 + 1 ≤ cond (not (nat_le declared ran || freed)) (declared - ran) 0
left_of-ran true declared ran runs = grind (arith, nat_tests)
left_of-ran false declared ran runs = grind (arith, nat_tests)

-- a job that has not ended runs a slot: it has one less left
own-ran : (test : ℕ → ℕ → Bool) (h : History) (job : Job) → has_ended h job ≡ false → test job.est job.dl ≡ true → left_of test (Run job.key ∷ h) job + 1 ≤ left_of test h job
own-ran test h job runs passes =
    let less = left_of-ran (is_freed job.key h) job.declared (executed job.key h) runs in
    rw (equal_itself _) (rw passes less)

-- so have the jobs of a list with it
pub left_in-ran : (test : ℕ → ℕ → Bool) (h : History) (jobs : List Job) (job : Job) → Has jobs job → has_ended h job ≡ false → test job.est job.dl ≡ true → left_in test (Run job.key ∷ h) jobs + 1 ≤ left_in test h jobs
left_in-ran test h [] job at runs passes = absurd at
left_in-ran test h (j ∷ jobs) job (inl same) runs passes =
    let after = Run job.key ∷ h in
    let here : left_of test (Run j.key ∷ h) j + 1 ≤ left_of test h j = own-ran test h j (ap (has_ended h) same ∙ runs) (ap (λ (i : Job). test i.est i.dl) same ∙ passes) in
    let one : left_of test after j + 1 ≤ left_of test h j = subst (λ (i : Job). left_of test (Run i.key ∷ h) j + 1 ≤ left_of test h j) same here in
    omega (arith, left_in-cons test h j jobs, left_in-cons test after j jobs, one, left_in-further test h after jobs (is_further (Run job.key) h))
left_in-ran test h (j ∷ jobs) job (inr at) runs passes =
    let after = Run job.key ∷ h in
    let further = is_further (Run job.key) h in
    omega (
      arith,
      left_in-cons test h j jobs,
      left_in-cons test after j jobs,
      left_in-ran test h jobs job at runs passes,
      left_in-further test h after (j ∷ []) further,
      left_in-cons test h j [],
      left_in-cons test after j [],
    )

-- jobs due by x that have not ended start at or after a
start_of : (ended : Bool) (a x est dl n : ℕ) → (ended ≡ false → est < a → x < dl) → cond (not ended) (cond (nat_le dl x) n 0) 0 ≤ cond (not ended) (cond (nat_le a est && nat_le dl x) n 0) 0
start_of true a x est dl n late = omega arith
start_of false a x est dl n late =
    let later = late refl in
    grind (arith, nat_tests)

pub left_in-later : (h : History) (a x : ℕ) (jobs : List Job) → ((job : Job) → Has jobs job → has_ended h job ≡ false → job.est < a → x < job.dl) → left_in (due_by x) h jobs ≤ left_in (from_by a x) h jobs
left_in-later h a x [] late = omega arith
left_in-later h a x (j ∷ jobs) late =
    omega (
      arith,
      left_in-cons (due_by x) h j jobs,
      left_in-cons (from_by a x) h j jobs,
      start_of (has_ended h j) a x j.est j.dl (j.declared - executed j.key h) (late j (inl refl)),
      left_in-later h a x jobs (λ job at. late job (inr at)),
    )

-- what offline jobs have left is at most all of it
pub left_in-whole : (test : ℕ → ℕ → Bool) (h : History) (jobs : List Job) → ((job : Job) → Has jobs job → job.left ≡ job.declared) → left_in test h jobs ≤ sum_by (λ (j : Job). cond (test j.est j.dl) j.left 0) jobs
left_in-whole test h [] whole = omega arith
left_in-whole test h (j ∷ jobs) whole =
    let same = ap {B = ℕ} (λ n. cond (test j.est j.dl) n 0) (whole j (inl refl)) in
    omega (
      arith,
      left_in-cons test h j jobs,
      sum_by-cons (λ (j : Job). cond (test j.est j.dl) j.left 0) j jobs,
      left_of-le test h j,
      same,
      left_in-whole test h jobs (λ job at. whole job (inr at)),
    )

-- a window from a later start needs no more
from_wider : (a b x est dl n : ℕ) → a ≤ b → cond (nat_le b est && nat_le dl x) n 0 ≤ cond (nat_le a est && nat_le dl x) n 0
from_wider a b x est dl n low = grind (arith, nat_tests)

pub work_from-wider : (jobs : List Job) (a b x : ℕ) → a ≤ b → work_from jobs b x ≤ work_from jobs a x
work_from-wider jobs a b x low =
    sum_by-le-sum_by
    (λ (j : Job). cond (nat_le b j.est && nat_le j.dl x) j.left 0)
    (λ (j : Job). cond (nat_le a j.est && nat_le j.dl x) j.left 0)
    jobs
    (λ j. from_wider a b x j.est j.dl j.left low)

-- firm jobs have no more left, whenever they are due, than all of them
abbrev firm_of : History → Job → ℕ
firm_of h j = cond (not (has_ended h j)) (cond (is_firm j.key) (j.declared - executed j.key h) 0) 0

firm_of-all : (ended firm passes : Bool) (n : ℕ) → firm ≡ true → cond (not ended) (cond passes n 0) 0 ≤ cond (not ended) (cond firm n 0) 0
firm_of-all true firm passes n is = omega arith
firm_of-all false true true n is = omega arith
firm_of-all false true false n is = omega arith
firm_of-all false false passes n is = absurd (cc is)

left_in-firm : (test : ℕ → ℕ → Bool) (h : History) (jobs : List Job) → ((job : Job) → Has jobs job → is_firm job.key ≡ true) → left_in test h jobs ≤ sum_by (firm_of h) jobs
left_in-firm test h [] firm = omega arith
left_in-firm test h (j ∷ jobs) firm =
    omega (
      arith,
      left_in-cons test h j jobs,
      sum_by-cons (firm_of h) j jobs,
      firm_of-all (has_ended h j) (is_firm j.key) (test j.est j.dl) (j.declared - executed j.key h) (firm j (inl refl)),
      left_in-firm test h jobs (λ job at. firm job (inr at)),
    )

pub firm_left-le : (test : ℕ → ℕ → Bool) (set : TaskSet) (h : History) → left_in test h (firm_jobs h) ≤ firm_left_at set h
firm_left-le test set h =
    let cycle = cycle_of set in
    let planned = offline_jobs set cycle (time_of h / cycle + 3) in
    let firm = firm_jobs h in
    let sporadic = sporadic_jobs set.sporadics h in
    let all = guaranteed set cycle h in
    let summed : firm_left_at set h ≡ sum_by (firm_of h) all =
    sum_by-map (λ (j : Job). cond (is_firm j.key) j.left 0) (with_left h) (filter (λ (j : Job). not (has_ended h j)) all)
    ∙ sum_by-filter (λ (j : Job). cond (is_firm j.key) (j.declared - executed j.key h) 0) (λ (j : Job). not (has_ended h j)) all in
    omega (
      arith,
      summed,
      sum_by-append (firm_of h) (planned ++ firm) sporadic,
      sum_by-append (firm_of h) planned firm,
      left_in-firm test h firm (λ job at. ap is_firm (firm-key h job at)),
    )

-- a job that remains and was not requested is one of the set's own
pub own-from_guaranteed : (set : TaskSet) (cycles : ℕ) (h : History) (job : Job) → is_requested job.key ≡ false → Has (guaranteed_in set (cycle_of set) cycles h) job → Has (own_in set (cycle_of set) cycles h) job
own-from_guaranteed set cycles h job own at =
    let planned = offline_jobs set (cycle_of set) cycles in
    let sporadic = sporadic_jobs set.sporadics h in
    elim (Has-append_cases (planned ++ firm_jobs h) sporadic job at) [
      | inl a ↦ elim (Has-append_cases planned (firm_jobs h) job a) [
        | inl b ↦ Has-append_left planned sporadic job b
        | inr b ↦ absurd (both_ways (is_requested job.key) own (ap is_requested (firm-key h job b)))
      ]
      | inr a ↦ Has-append_right planned sporadic job a
    ]

-- and those are guaranteed
pub guaranteed-from_own : (set : TaskSet) (cycles : ℕ) (h : History) (job : Job) → Has (own_in set (cycle_of set) cycles h) job → Has (guaranteed_in set (cycle_of set) cycles h) job
guaranteed-from_own set cycles h job at =
    let planned = offline_jobs set (cycle_of set) cycles in
    let sporadic = sporadic_jobs set.sporadics h in
    elim (Has-append_cases planned sporadic job at) [
      | inl a ↦ Has-append_left (planned ++ firm_jobs h) sporadic job (Has-append_left planned (firm_jobs h) job a)
      | inr a ↦ Has-append_right (planned ++ firm_jobs h) sporadic job a
    ]

-- all that remains is what the set's own jobs and the firm ones have left
pub left_in-guaranteed_parts : (test : ℕ → ℕ → Bool) (set : TaskSet) (cycles : ℕ) (h : History) → left_in test h (guaranteed_in set (cycle_of set) cycles h) ≡ left_in test h (own_in set (cycle_of set) cycles h) + left_in test h (firm_jobs h)
left_in-guaranteed_parts test set cycles h =
    let planned = offline_jobs set (cycle_of set) cycles in
    let firm = firm_jobs h in
    let sporadic = sporadic_jobs set.sporadics h in
    omega (
      arith,
      left_in-append test h (planned ++ firm) sporadic,
      left_in-append test h planned firm,
      left_in-append test h planned sporadic,
    )
