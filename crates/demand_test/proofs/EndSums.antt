-- The slots that are due by an end: sums of the table of ends.
use Rattle.std.proofs.Common.{◌≡◌, ℕ, zero, suc, ◌+◌, ◌*◌, ◌<◌, ◌≤◌, Bool, true, false, List, [], length, take, drop, get_or, sum, refl, ap, arith}
use Rattle.std.specs.Prelude.{All, sum_by, nat_le, ◌==◌, if◌then◌else◌}
use Rattle.std.proofs.lemmas.Bool.{le-leb}
use Rattle.std.proofs.lemmas.Bool.Decides.{nat_tests}
use Rattle.std.proofs.lemmas.List.{take_all, drop-drop}
use Rattle.std.proofs.lemmas.List.Sums.{sum_by_more_le, sum_by_more, sum_by-take-drop, sum_by-le-sum_by}
use Rattle.slot_core.specs.declared.jobs.Job.{Job}
use Rattle.demand_test.specs.EndTables.{ending_at, ending_by, first_end, next_end, IsEndTable}
use Rattle.slot_facts.proofs.Lists.Sums.{sum_by-agree, sum_by-plus}

-- by the first end, and by one end more
by_zero : (e d : ℕ) → (if e == 0 then d else 0) ≡ (if nat_le e 0 then d else 0)
by_zero e d = grind (arith, nat_tests)

by_more : (e d b : ℕ) → (if nat_le e b then d else 0) + (if e == b + 1 then d else 0) ≡ (if nat_le e (b + 1) then d else 0)
by_more e d b = grind (arith, nat_tests)

ending_by-zero : (end : Job → ℕ) (jobs : List Job) → ending_at end jobs 0 ≡ ending_by end jobs 0
unfolding ending_by
ending_by-zero end jobs =
    sum_by-agree (λ (j : Job). if end j == 0 then j.declared else 0) (λ (j : Job). if nat_le (end j) 0 then j.declared else 0) jobs (λ k d low. by_zero (end (get_or jobs k d)) (get_or jobs k d).declared)

ending_by-more : (end : Job → ℕ) (jobs : List Job) (b : ℕ) → ending_by end jobs b + ending_at end jobs (b + 1) ≡ ending_by end jobs (b + 1)
unfolding ending_by
ending_by-more end jobs b =
    sum_by-plus
    (λ (j : Job). if nat_le (end j) b then j.declared else 0)
    (λ (j : Job). if end j == b + 1 then j.declared else 0)
    (λ (j : Job). if nat_le (end j) (b + 1) then j.declared else 0)
    jobs
    (λ j. by_more (end j) j.declared b)

-- what begins to count up to an end is what is due by it
pub sum_take-IsEndTable : (first next : List Job) (cycle : ℕ) (due : List ℕ) → IsEndTable first next cycle due → (b : ℕ) → b ≤ 2 * cycle → sum (take (b + 1) due) ≡ ending_by first_end first b + ending_by (next_end cycle) next b
sum_take-IsEndTable first next cycle due h zero low =
    let len = h.len in
    let step = sum_by_more (λ x. x) due 0 0 (omega arith) in
    omega (arith, h.ends 0 low, ending_by-zero first_end first, ending_by-zero (next_end cycle) next)
sum_take-IsEndTable first next cycle due h (suc b) low =
    let len = h.len in
    let before = sum_take-IsEndTable first next cycle due h b (omega arith) in
    let step = sum_by_more (λ x. x) due (b + 1) 0 (omega arith) in
    let here = h.ends (b + 1) (omega arith) in
    let one = ending_by-more first_end first b in
    let two = ending_by-more (next_end cycle) next b in
    let same : suc b ≡ b + 1 = omega arith in
    rw same (omega arith)

-- by a later end no less is due
by_later : (e b c d : ℕ) → b ≤ c → (if nat_le e b then d else 0) ≤ (if nat_le e c then d else 0)
by_later e b c d low = grind (arith, nat_tests)

pub ending_by-rises : (end : Job → ℕ) (jobs : List Job) (b c : ℕ) → b ≤ c → ending_by end jobs b ≤ ending_by end jobs c
unfolding ending_by
ending_by-rises end jobs b c low =
    sum_by-le-sum_by (λ (j : Job). if nat_le (end j) b then j.declared else 0) (λ (j : Job). if nat_le (end j) c then j.declared else 0) jobs (λ j. by_later (end j) b c j.declared low)

-- what is due by an end is at most all that is declared
pub ending_by-le : (end : Job → ℕ) (jobs : List Job) (b : ℕ) → ending_by end jobs b ≤ sum_by (λ (j : Job). j.declared) jobs
unfolding ending_by
ending_by-le end jobs b =
    sum_by-le-sum_by (λ (j : Job). if nat_le (end j) b then j.declared else 0) (λ (j : Job). j.declared) jobs (λ j. part (nat_le (end j) b) j.declared)
  where
    part : (test : Bool) (n : ℕ) → (if test then n else 0) ≤ n
    part true n = omega arith
    part false n = omega arith

-- and all of it where each end has come
pub ending_by-all : (end : Job → ℕ) (jobs : List Job) (b : ℕ) → All (λ (j : Job). end j ≤ b) jobs → ending_by end jobs b ≡ sum_by (λ (j : Job). j.declared) jobs
unfolding ending_by
ending_by-all end jobs b come =
    sum_by-agree (λ (j : Job). if nat_le (end j) b then j.declared else 0) (λ (j : Job). j.declared) jobs (λ k d low. ap (λ test. if test then (get_or jobs k d).declared else 0) (le-leb (end (get_or jobs k d)) b (come k d low)))

-- the jobs at the front, and the others
pub ending_by-parts : (end : Job → ℕ) (jobs : List Job) (n b : ℕ) → ending_by end jobs b ≡ ending_by end (take n jobs) b + ending_by end (drop n jobs) b
unfolding ending_by
ending_by-parts end jobs n b =
    omega (arith, sum_by-take-drop (λ (j : Job). if nat_le (end j) b then j.declared else 0) jobs n)

-- one job more
pub ending_by-one_more : (end : Job → ℕ) (jobs : List Job) (i b : ℕ) (d : Job) → i < length jobs → ending_by end (take (i + 1) jobs) b ≡ ending_by end (take i jobs) b + (if nat_le (end (get_or jobs i d)) b then (get_or jobs i d).declared else 0)
unfolding ending_by
ending_by-one_more end jobs i b d low =
    sum_by_more (λ (j : Job). if nat_le (end j) b then j.declared else 0) jobs i d low

-- the whole table sums to little
pub sum-IsEndTable-le : (first next : List Job) (cycle m : ℕ) (due : List ℕ) → IsEndTable first next cycle due → sum_by (λ (j : Job). j.declared) first ≤ m → sum_by (λ (j : Job). j.declared) next ≤ m → sum due ≤ 2 * m
sum-IsEndTable-le first next cycle m due h few_first few_next =
    let len = h.len in
    let whole = ap sum (take_all (2 * cycle + 1) due (omega arith)) in
    omega (arith, sum_take-IsEndTable first next cycle due h (2 * cycle) (omega arith), ending_by-le first_end first (2 * cycle), ending_by-le (next_end cycle) next (2 * cycle))

-- of no jobs nothing is due
pub ending_by-none : (end : Job → ℕ) (b : ℕ) → ending_by end [] b ≡ 0
unfolding ending_by
ending_by-none end b = refl

-- the jobs at the front, in two steps
pub ending_by-twice : (end : Job → ℕ) (jobs rest : List Job) (p n b : ℕ) → rest ≡ drop p jobs → ending_by end (take (p + n) jobs) b ≡ ending_by end (take p jobs) b + ending_by end (take n rest) b
ending_by-twice end jobs rest p n b is =
    omega (
      arith,
      ending_by-parts end jobs p b,
      ending_by-parts end rest n b,
      ending_by-parts end jobs (p + n) b,
      ap (λ xs. ending_by end xs b) is,
      ap (λ xs. ending_by end (drop n xs) b) is,
      ap (λ xs. ending_by end xs b) (drop-drop n p jobs),
    )

pub declared-twice : (jobs rest : List Job) (p n : ℕ) → rest ≡ drop p jobs → sum_by (λ (j : Job). j.declared) (take (p + n) jobs) ≡ sum_by (λ (j : Job). j.declared) (take p jobs) + sum_by (λ (j : Job). j.declared) (take n rest)
declared-twice jobs rest p n is =
    let declared = λ (j : Job). j.declared in
    omega (
      arith,
      sum_by-take-drop declared jobs p,
      sum_by-take-drop declared rest n,
      sum_by-take-drop declared jobs (p + n),
      ap (sum_by declared) is,
      ap (λ xs. sum_by declared (drop n xs)) is,
      ap (sum_by declared) (drop-drop n p jobs),
    )

-- one job declares no more than all
pub declared-less : (jobs : List Job) (i : ℕ) (d : Job) (m : ℕ) → i < length jobs → sum_by (λ (j : Job). j.declared) jobs < m → (get_or jobs i d).declared < m
declared-less jobs i d m low few =
    omega (arith, sum_by_more_le (λ (j : Job). j.declared) jobs i d low)
