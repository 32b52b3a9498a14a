-- The slots left of jobs before a time.
use Rattle.std.proofs.Common.{◌≡◌, ℕ, ◌+◌, ◌≤◌, cond, List, inl, inr, arith}
use Rattle.std.specs.Prelude.{nat_le, nat_lt, sum_by}
use Rattle.std.proofs.lemmas.Bool.Decides.{nat_tests}
use Rattle.std.proofs.lemmas.List.Sums.{sum_by-le-sum_by}
use Rattle.slot_core.specs.declared.jobs.Job.{Job}
use Rattle.slot_core.specs.Runs.Demand.{work_by}
use Rattle.slot_facts.proofs.Lists.Sums.{cond-le}
use Rattle.trace_verify.specs.Dues.{left_before, IsStretch}
use Rattle.trace_verify.specs.declared.dues.Stretch.{Stretch}

-- what a job counts for before a time
abbrev pub left_at : ℕ → Job → ℕ
left_at n j = cond (nat_lt j.dl n) j.left 0

-- no more is left before a time than in all
pub left_before-le : (jobs : List Job) (n : ℕ) → left_before jobs n ≤ sum_by (λ (j : Job). j.left) jobs
left_before-le jobs n =
    sum_by-le-sum_by (left_at n) (λ (j : Job). j.left) jobs (λ j. cond-le (nat_lt j.dl n) j.left)

by_or_before : (dl x left : ℕ) → cond (nat_lt dl (x + 1)) left 0 ≡ cond (nat_le dl x) left 0
by_or_before dl x left = grind (arith, nat_tests)

-- what is left before the next time is due by a time
pub left_before-by : (jobs : List Job) (x : ℕ) → left_before jobs (x + 1) ≡ work_by jobs x
left_before-by jobs x i = sum_by (λ (j : Job). by_or_before j.dl x j.left i) jobs

-- and no more is lacking in a stretch of times
pub stretch-lack_few : (jobs : List Job) (start end : ℕ) (stretch : Stretch) → IsStretch (left_before jobs) start end stretch → stretch.lack ≤ sum_by (λ (j : Job). j.left) jobs
stretch-lack_few jobs start end stretch is =
    elim is.lack.reached [
      | inl none ↦ omega (arith, none)
      | inr at ↦ omega (arith, at.3, left_before-le jobs (at.0 + 1))
    ]
