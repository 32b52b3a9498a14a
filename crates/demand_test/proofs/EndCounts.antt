-- The table of ends, and the demand of windows that its sums are.
use Rattle.std.proofs.Common.{◌≡◌, ℕ, ◌+◌, ◌-◌, ◌*◌, ◌<◌, ◌≤◌, Bool, true, false, List, [], ◌∷◌, ◌++◌, length, take, get_or, replicate, Some, None, refl, arith}
use Rattle.std.specs.Prelude.{All, sum_by, ◌==◌, nat_lt, if◌then◌else◌}
use Rattle.std.proofs.lemmas.Bool.{lt-ltb, le-ltb}
use Rattle.std.proofs.lemmas.Bool.Decides.{nat_tests}
use Rattle.std.proofs.lemmas.List.{get_or-set_same, get_or-set_other, get_or-replicate, length-set, length-replicate, get_or_default, take_more}
use Rattle.std.proofs.lemmas.List.Sums.{sum_by_push, sum_by-le-sum_by}
use Rattle.slot_core.specs.declared.jobs.Job.{Job}
use Rattle.demand_test.specs.declared.ends.Ends.{Ends}
use Rattle.demand_test.specs.EndTables.{ending_at, first_end, next_end, raised, IsEndTable, needed_in, failing_in}

-- a number that is added at one place
get_or-raised : (xs : List ℕ) (e b d : ℕ) → e < length xs → get_or (raised xs e d) b 0 ≡ get_or xs b 0 + (if e == b then d else 0)
get_or-raised xs e b d low = grind (arith, nat_tests, get_or-set_same, get_or-set_other)

-- what begins to count at one end is at most all that is declared
pub ending_at-le : (end : Job → ℕ) (jobs : List Job) (b : ℕ) → ending_at end jobs b ≤ sum_by (λ (j : Job). j.declared) jobs
ending_at-le end jobs b =
    sum_by-le-sum_by (λ (j : Job). if end j == b then j.declared else 0) (λ (j : Job). j.declared) jobs (λ j. part (end j == b) j.declared)
  where
    part : (test : Bool) (n : ℕ) → (if test then n else 0) ≤ n
    part true n = omega arith
    part false n = omega arith

-- the empty table
pub IsEndTable-none : (cycle : ℕ) → IsEndTable [] [] cycle (replicate (2 * cycle + 1) 0)
IsEndTable-none cycle =
    record {
      len = length-replicate (2 * cycle + 1) 0;
      ends = λ b low. get_or-replicate (2 * cycle + 1) b 0 0 (omega arith);
    }

-- one more job, which is counted at its two ends
pub IsEndTable-more : (first next : List Job) (cycle : ℕ) (due : List ℕ) (j : Job) → IsEndTable first next cycle due → first_end j ≤ 2 * cycle → next_end cycle j ≤ 2 * cycle → IsEndTable (first ++ j ∷ []) (next ++ j ∷ []) cycle (raised (raised due (first_end j) j.declared) (next_end cycle j) j.declared)
IsEndTable-more first next cycle due j h first_within next_within =
    let once = raised due (first_end j) j.declared in
    let len_once = length-set due (first_end j) (get_or due (first_end j) 0 + j.declared) in
    let len_twice = length-set once (next_end cycle j) (get_or once (next_end cycle j) 0 + j.declared) in
    let len = h.len in
    record {
      len = omega arith;
      ends = λ b low.
          let at_once = get_or-raised due (first_end j) b j.declared (omega arith) in
          let at_twice = get_or-raised once (next_end cycle j) b j.declared (omega arith) in
          omega (
            arith,
            h.ends b low,
            sum_by_push (λ (i : Job). if first_end i == b then i.declared else 0) first j,
            sum_by_push (λ (i : Job). if next_end cycle i == b then i.declared else 0) next j,
          );
    }

-- no entry of the table is more than all that is declared, twice
pub IsEndTable-small : (first next : List Job) (cycle : ℕ) (due : List ℕ) (m : ℕ) → IsEndTable first next cycle due → sum_by (λ (j : Job). j.declared) first ≤ m → sum_by (λ (j : Job). j.declared) next ≤ m → All (λ n. n ≤ 2 * m) due
IsEndTable-small first next cycle due m h few_first few_next k d low =
    let len = h.len in
    omega (
      arith,
      h.ends k (omega arith),
      ending_at-le first_end first k,
      ending_at-le (next_end cycle) next k,
      get_or_default due k d 0 low,
    )

-- the table of the jobs so far, and of the next
pub IsEndTable-next : (jobs : List Job) (i cycle : ℕ) (d : Job) (old new : List ℕ) → i < length jobs → 0 < cycle → All (λ (j : Job). j.dl ≤ cycle) jobs → IsEndTable (take i jobs) (take i jobs) cycle old → new ≡ raised (raised old (first_end (get_or jobs i d)) (get_or jobs i d).declared) (next_end cycle (get_or jobs i d)) (get_or jobs i d).declared → IsEndTable (take (i + 1) jobs) (take (i + 1) jobs) cycle new
IsEndTable-next jobs i cycle d old new low positive within h is =
    let j = get_or jobs i d in
    let due = within i d low in
    rw (take_more jobs i d low, is) (IsEndTable-more (take i jobs) (take i jobs) cycle old j h (omega arith) (omega arith))

-- the window that needs more than its slots
pub failing_in-Some : (ends : Ends) (arrivals : List ℕ) (a b needed : ℕ) → needed_in ends arrivals a b ≡ needed → b - a < needed → failing_in ends arrivals a b ≡ Some (record { from = a; until = b; demand = needed })
failing_in-Some ends arrivals a b needed is more =
    let fails : nat_lt (b - a) needed ≡ true = lt-ltb (b - a) needed more in
    rw (is, fails) refl

-- the window whose slots are enough
pub failing_in-None : (ends : Ends) (arrivals : List ℕ) (a b : ℕ) → needed_in ends arrivals a b ≤ b - a → failing_in ends arrivals a b ≡ None
failing_in-None ends arrivals a b fits = rw (le-ltb (b - a) (needed_in ends arrivals a b) fits) refl
