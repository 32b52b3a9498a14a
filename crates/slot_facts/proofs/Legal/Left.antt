-- The slots left of jobs in a history, as a sum over the jobs, and what entries change in it.
use Rattle.std.proofs.Common.{◌≡◌, ℕ, ◌+◌, ◌-◌, ◌≤◌, Bool, true, false, not, ◌||◌, ◌&&◌, cond, List, [], ◌∷◌, ◌++◌, filter, refl, ap, ◌∙◌, inl, inr, arith}
use Rattle.std.specs.Prelude.{sum_by, nat_le}
use Rattle.std.proofs.lemmas.Bool.Decides.{nat_tests}
use Rattle.std.proofs.lemmas.List.Sums.{sum_by-cons, sum_by-append}
use Rattle.slot_core.specs.declared.jobs.Key.{Key}
use Rattle.slot_core.specs.declared.jobs.Job.{Job}
use Rattle.slot_core.specs.Runs.Histories.{History, executed, is_freed}
use Rattle.slot_core.specs.Runs.Scenes.{has_ended, with_left, unended}
use Rattle.slot_core.specs.Runs.Demand.{work_by, work_from}
use Rattle.slot_facts.proofs.Lists.Members.{Has}
use Rattle.slot_facts.proofs.Lists.Sums.{sum_by-map, sum_by-filter}

-- the slots left of a job whose start and deadline pass the test
abbrev pub left_of : (ℕ → ℕ → Bool) → History → Job → ℕ
left_of test h job =
    cond (not (has_ended h job)) (cond (test job.est job.dl) (job.declared - executed job.key h) 0) 0

-- and of jobs
abbrev pub left_in : (ℕ → ℕ → Bool) → History → List Job → ℕ
left_in test h jobs = sum_by (left_of test h) jobs

-- this is the work of those that have not ended
pub left_in-unended : (test : ℕ → ℕ → Bool) (h : History) (jobs : List Job) → sum_by (λ (j : Job). cond (test j.est j.dl) j.left 0) (unended h jobs) ≡ left_in test h jobs
left_in-unended test h jobs =
    sum_by-map (λ (j : Job). cond (test j.est j.dl) j.left 0) (with_left h) (filter (λ (j : Job). not (has_ended h j)) jobs)
    ∙ sum_by-filter (λ (j : Job). cond (test j.est j.dl) (j.declared - executed j.key h) 0) (λ (j : Job). not (has_ended h j)) jobs

-- due by x, and starting at or after a too
abbrev pub due_by : ℕ → ℕ → ℕ → Bool
due_by x est dl = nat_le dl x

abbrev pub from_by : ℕ → ℕ → ℕ → ℕ → Bool
from_by a x est dl = nat_le a est && nat_le dl x

pub work_by-unended : (h : History) (jobs : List Job) (x : ℕ) → work_by (unended h jobs) x ≡ left_in (due_by x) h jobs
work_by-unended h jobs x = left_in-unended (due_by x) h jobs

pub work_from-unended : (h : History) (jobs : List Job) (a x : ℕ) → work_from (unended h jobs) a x ≡ left_in (from_by a x) h jobs
work_from-unended h jobs a x = left_in-unended (from_by a x) h jobs

pub left_in-append : (test : ℕ → ℕ → Bool) (h : History) (xs ys : List Job) → left_in test h (xs ++ ys) ≡ left_in test h xs + left_in test h ys
left_in-append test h xs ys = sum_by-append (left_of test h) xs ys

pub left_in-cons : (test : ℕ → ℕ → Bool) (h : History) (x : Job) (xs : List Job) → left_in test h (x ∷ xs) ≡ left_of test h x + left_in test h xs
left_in-cons test h x xs = sum_by-cons (left_of test h) x xs

-- in a longer history at least as many slots have run, and what was freed stays so
pub record IsFurther (before after : History) : Type 0 where
  pub ran : (key : Key) → executed key before ≤ executed key after
  pub freed : (key : Key) → is_freed key before ≡ true → is_freed key after ≡ true

left_of-further : (passes freed later : Bool) (declared ran more : ℕ) → ran ≤ more → (freed ≡ true → later ≡ true) → cond (not (nat_le declared more || later)) (cond passes (declared - more) 0) 0 ≤ cond (not (nat_le declared ran || freed)) (cond passes (declared - ran) 0) 0
left_of-further true true later declared ran more le stays = rw (stays refl) (grind (arith, nat_tests))
left_of-further true false true declared ran more le stays = grind (arith, nat_tests)
left_of-further true false false declared ran more le stays = grind (arith, nat_tests)
left_of-further false freed later declared ran more le stays = grind (arith, nat_tests)

pub left_in-further : (test : ℕ → ℕ → Bool) (before after : History) (jobs : List Job) → IsFurther before after → left_in test after jobs ≤ left_in test before jobs
left_in-further test before after [] further = omega arith
left_in-further test before after (j ∷ jobs) further =
    omega (arith, left_in-cons test before j jobs, left_in-cons test after j jobs, left_in-further test before after jobs further, left_of-further (test j.est j.dl) (is_freed j.key before) (is_freed j.key after) j.declared (executed j.key before) (executed j.key after) (further.ran j.key) (further.freed j.key))

-- one job has at most its declared slots left, and none where it fails the test
pub left_of-le : (test : ℕ → ℕ → Bool) (h : History) (job : Job) → left_of test h job ≤ cond (test job.est job.dl) job.declared 0
left_of-le test h job = at_most (has_ended h job) (test job.est job.dl) job.declared (executed job.key h)
  where
    at_most : (ended passes : Bool) (declared ran : ℕ) → cond (not ended) (cond passes (declared - ran) 0) 0 ≤ cond passes declared 0
    at_most true true declared ran = omega arith
    at_most true false declared ran = omega arith
    at_most false true declared ran = omega arith
    at_most false false declared ran = omega arith

-- jobs that fail the test count for nothing
pub left_in-none : (test : ℕ → ℕ → Bool) (h : History) (jobs : List Job) → ((job : Job) → Has jobs job → test job.est job.dl ≡ false) → left_in test h jobs ≤ 0
left_in-none test h [] fails = omega arith
left_in-none test h (j ∷ jobs) fails =
    let here = fails j (inl refl) in
    omega (arith, left_in-cons test h j jobs, left_in-none test h jobs (λ job at. fails job (inr at)), left_of-le test h j, ap (λ b. cond b j.declared 0) here)
