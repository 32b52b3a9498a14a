-- The work of a pattern's jobs, as a sum over its arrivals, task by task.
use Rattle.std.proofs.Common.{◌≡◌, ℕ, suc, ◌+◌, ◌*◌, ◌<◌, ◌≤◌, Bool, true, false, cond, ◌&&◌, ◌==◌, List, [], ◌∷◌, filter, length, Some, refl, sym, ap, ◌∙◌, inl, inr, arith}
use Rattle.std.specs.Prelude.{sum_by, nat_le, slice_get, slice_index_or}
use Rattle.std.proofs.lemmas.Bool.{eqb-true}
use Rattle.std.proofs.lemmas.Bool.Decides.{nat_tests}
use Rattle.std.proofs.lemmas.List.Sums.{sum_by-cons, sum_by-le-sum_by}
use Rattle.slot_core.specs.declared.jobs.Job.{Job}
use Rattle.slot_core.specs.declared.tasks.Sporadic.{Sporadic}
use Rattle.slot_core.specs.Runs.Histories.{sporadic_job}
use Rattle.slot_core.specs.Feasibility.Sporadics.{arrivals_due, sporadic_demand, times_of}
use Rattle.slot_core.specs.Claims.Futures.{pattern_jobs}
use Rattle.slot_core.specs.Runs.Demand.{work_by, work_from}
use Rattle.slot_facts.proofs.Lists.Members.{Has}
use Rattle.slot_facts.proofs.Lists.Sums.{sum_by-map, sum_by-filter, sum_by-plus}

-- a sum over the jobs of a pattern that does not see their rows is one over its arrivals
pub pattern_jobs-sum : (sporadics : List Sporadic) (f : Job → ℕ) (row : ℕ) (pattern : List (ℕ × ℕ)) → ((index row t : ℕ) → f (sporadic_job sporadics index row t) ≡ f (sporadic_job sporadics index 0 t)) → sum_by f (pattern_jobs sporadics row pattern) ≡ sum_by (λ (a : ℕ × ℕ). f (sporadic_job sporadics a.0 0 a.1)) pattern
pattern_jobs-sum sporadics f row [] same = refl
pattern_jobs-sum sporadics f row (a ∷ pattern) same =
    omega (
      arith,
      sum_by-cons f (sporadic_job sporadics a.0 row a.1) (pattern_jobs sporadics (row + 1) pattern),
      sum_by-cons (λ (a : ℕ × ℕ). f (sporadic_job sporadics a.0 0 a.1)) a pattern,
      same a.0 row a.1,
      pattern_jobs-sum sporadics f (row + 1) pattern same,
    )

-- a term counts for the task at k or for a later one
at_or_later : (k n v : ℕ) → cond (n == k) v 0 + cond (nat_le (k + 1) n) v 0 ≡ cond (nat_le k n) v 0
at_or_later k n v = grind (arith, nat_tests)

-- the arrivals of one task
at_index : (g : ℕ × ℕ → ℕ) (k : ℕ) (b : Bool) (a : ℕ × ℕ) → (b ≡ true → a.0 ≡ k) → cond b (g (k, a.1)) 0 ≡ cond b (g a) 0
at_index g k true a same = ap (λ m. g (m, a.1)) (sym (same refl))
at_index g k false a same = refl

pub times_of-sum : (g : ℕ × ℕ → ℕ) (k : ℕ) (pattern : List (ℕ × ℕ)) → sum_by (λ t. g (k, t)) (times_of k pattern) ≡ sum_by (λ (a : ℕ × ℕ). cond (a.0 == k) (g a) 0) pattern
times_of-sum g k pattern =
    let here = filter (λ (a : ℕ × ℕ). a.0 == k) pattern in
    let each = λ (a : ℕ × ℕ). at_index g k (a.0 == k) a (eqb-true a.0 k) in
    sum_by-map (λ t. g (k, t)) (λ (a : ℕ × ℕ). a.1) here
    ∙ sum_by-filter (λ (a : ℕ × ℕ). g (k, a.1)) (λ (a : ℕ × ℕ). a.0 == k) pattern
    ∙ (λ i. sum_by (λ (a : ℕ × ℕ). each a i) pattern)

-- no arrival counts for a task past the last
none_later : (g : ℕ × ℕ → ℕ) (k : ℕ) (pattern : List (ℕ × ℕ)) → ((a : ℕ × ℕ) → Has pattern a → a.0 < k) → sum_by (λ (a : ℕ × ℕ). cond (nat_le k a.0) (g a) 0) pattern ≡ 0
none_later g k [] below = refl
none_later g k (a ∷ pattern) below =
    omega (
      arith,
      sum_by-cons (λ (a : ℕ × ℕ). cond (nat_le k a.0) (g a) 0) a pattern,
      here k a.0 (g a) (below a (inl refl)),
      none_later g k pattern (λ b at. below b (inr at)),
    )
  where
    here : (k n v : ℕ) → n < k → cond (nat_le k n) v 0 ≡ 0
    here k n v low = grind (arith, nat_tests)

-- where the arrivals of each task from k on need no more than the densest ones of it, they all need no more than these
pub pattern_sum-le : (g : ℕ × ℕ → ℕ) (pattern : List (ℕ × ℕ)) (ss : List Sporadic) (ns : List ℕ) (k r x : ℕ) → ((a : ℕ × ℕ) → Has pattern a → a.0 < k + length ss) → ((j i : ℕ) (s : Sporadic) → k + j ≡ i → slice_get ss j ≡ Some s → sum_by (λ t. g (i, t)) (times_of i pattern) ≤ s.wcet * arrivals_due s (slice_index_or ns j 0) r x) → sum_by (λ (a : ℕ × ℕ). cond (nat_le k a.0) (g a) 0) pattern ≤ sporadic_demand ss ns r x
pattern_sum-le g pattern [] ns k r x below each = omega (arith, none_later g k pattern (λ a at. omega (arith, below a at)))
pattern_sum-le g pattern (s ∷ ss) [] k r x below each =
    omega (
      arith,
      times_of-sum g k pattern,
      sum_by-plus (λ (a : ℕ × ℕ). cond (a.0 == k) (g a) 0) (λ (a : ℕ × ℕ). cond (nat_le (k + 1) a.0) (g a) 0) (λ (a : ℕ × ℕ). cond (nat_le k a.0) (g a) 0) pattern (λ a. at_or_later k a.0 (g a)),
      each 0 k s (omega arith) refl,
      pattern_sum-le g pattern ss [] (k + 1) r x (λ a at. omega (arith, below a at)) (λ j i t place at. each (suc j) i t (omega arith) at),
    )
pattern_sum-le g pattern (s ∷ ss) (n ∷ ns) k r x below each =
    omega (
      arith,
      times_of-sum g k pattern,
      sum_by-plus (λ (a : ℕ × ℕ). cond (a.0 == k) (g a) 0) (λ (a : ℕ × ℕ). cond (nat_le (k + 1) a.0) (g a) 0) (λ (a : ℕ × ℕ). cond (nat_le k a.0) (g a) 0) pattern (λ a. at_or_later k a.0 (g a)),
      each 0 k s (omega arith) refl,
      pattern_sum-le g pattern ss ns (k + 1) r x (λ a at. omega (arith, below a at)) (λ j i t place at. each (suc j) i t (omega arith) at),
    )

-- all work that is due is work from time 0 on
starts_at_0 : (est dl x left : ℕ) → cond (nat_le dl x) left 0 ≤ cond (nat_le 0 est && nat_le dl x) left 0
starts_at_0 est dl x left = grind (arith, nat_tests)

pub work_by-le_work_from_0 : (jobs : List Job) (x : ℕ) → work_by jobs x ≤ work_from jobs 0 x
work_by-le_work_from_0 jobs x =
    sum_by-le-sum_by
    (λ (j : Job). cond (nat_le j.dl x) j.left 0)
    (λ (j : Job). cond (nat_le 0 j.est && nat_le j.dl x) j.left 0)
    jobs
    (λ j. starts_at_0 j.est j.dl x j.left)
