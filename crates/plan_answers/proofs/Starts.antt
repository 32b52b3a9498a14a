-- The slots that are due by each end of the windows from one start, and the tightest of these.
use Rattle.std.proofs.Common.{◌≡◌, ℕ, zero, suc, ◌+◌, ◌-◌, ◌*◌, ◌<◌, ◌≤◌, max, Bool, true, false, cond, append-nil, inl, inr, List, [], ◌∷◌, ◌++◌, length, take, get_or, sum, Option, refl, sym, ap, ◌∙◌, arith}
use Rattle.std.specs.Prelude.{IsPermutation, All, sum_by, filter, fold, nat_le, ◌==◌, ◌&&◌, nat_lt, slice_index, if◌then◌else◌}
use Rattle.std.specs.List.{range_with_len}
use Rattle.std.proofs.lemmas.Bool.{cases_lt, lt-ltb, le-ltb}
use Rattle.std.proofs.lemmas.Bool.Decides.{nat_tests}
use Rattle.std.proofs.lemmas.List.{get_or-set_same, get_or-set_other, length-set, take_more, take_all}
use Rattle.std.proofs.lemmas.List.Sums.{sum_by_push, sum_by-le-sum_by, fold_push}
use Rattle.std.proofs.lemmas.List.Elements.{filter-append}
use Rattle.slot_core.specs.declared.jobs.Job.{Job}
use Rattle.slot_core.specs.declared.jobs.Window.{Window}
use Rattle.slot_core.specs.declared.tasks.Sporadic.{Sporadic}
use Rattle.slot_core.specs.declared.tasks.TaskSet.{TaskSet}
use Rattle.slot_core.specs.Feasibility.Sporadics.{sporadic_demand}
use Rattle.slot_core.specs.Feasibility.Feasible.{declared_within, window_demand}
use Rattle.demand_test.specs.EndTables.{ending_at, ending_by, first_end, next_end, raised, IsEndTable}
use Rattle.demand_test.proofs.EndSums.{sum_take-IsEndTable}
use Rattle.slot_facts.proofs.Lists.RangeFilters.{range-parts}
use Rattle.slot_facts.proofs.Lists.Sums.{sum_by-agree, sum_by-none, sum_by-filter, cond-le}
use Rattle.slot_core.specs.Offline.OfflineJobs.{cycle_jobs}
use Rattle.slot_core.specs.Sets.Cycles.{cycle_of}
use Rattle.slot_core.specs.Sets.Ranges.{is_sound}
use Rattle.slot_facts.proofs.Bounds.CycleDemand.{FitCycle-from_sound, sporadic_demand-shifted}
use Rattle.slot_facts.proofs.Lists.SameItems.{same-from_permutation}
use Rattle.slot_facts.proofs.Offline.Cycles.{all_due_by}
use Rattle.slot_facts.proofs.Plans.SpanSums.{window_demand-same}
use Rattle.demand_test.proofs.CycleTotals.{window_demand-cycle}
use Rattle.plan_answers.specs.Tightest.{tighter, tightest_by, window_of}

-- the jobs that start at a or later
abbrev pub starting : ℕ → List Job → List Job
starting a jobs = filter (λ (j : Job). nat_le a j.est) jobs

-- a number that is added at one place
get_or-raised : (xs : List ℕ) (e b d : ℕ) → e < length xs → get_or (raised xs e d) b 0 ≡ get_or xs b 0 + (if e == b then d else 0)
get_or-raised xs e b d low = grind (arith, nat_tests, get_or-set_same, get_or-set_other)

-- one job more in the next cycle, and one more in the first
table-next : (first next : List Job) (cycle : ℕ) (due : List ℕ) (j : Job) → IsEndTable first next cycle due → next_end cycle j ≤ 2 * cycle → IsEndTable first (next ++ j ∷ []) cycle (raised due (next_end cycle j) j.declared)
table-next first next cycle due j h within =
    let len = h.len in
    let same = length-set due (next_end cycle j) (get_or due (next_end cycle j) 0 + j.declared) in
    record {
      len = omega arith;
      ends = λ b low. omega (
        arith,
        get_or-raised due (next_end cycle j) b j.declared (omega arith),
        h.ends b low,
        sum_by_push (λ (i : Job). if next_end cycle i == b then i.declared else 0) next j,
      );
    }

table-first : (first next : List Job) (cycle : ℕ) (due : List ℕ) (j : Job) → IsEndTable first next cycle due → first_end j ≤ 2 * cycle → IsEndTable (first ++ j ∷ []) next cycle (raised due (first_end j) j.declared)
table-first first next cycle due j h within =
    let len = h.len in
    let same = length-set due (first_end j) (get_or due (first_end j) 0 + j.declared) in
    record {
      len = omega arith;
      ends = λ b low. omega (
        arith,
        get_or-raised due (first_end j) b j.declared (omega arith),
        h.ends b low,
        sum_by_push (λ (i : Job). if first_end i == b then i.declared else 0) first j,
      );
    }

-- the table after a job that starts in time or not
table-more : (first next : List Job) (cycle : ℕ) (due : List ℕ) (j : Job) (starts : Bool) → IsEndTable first next cycle due → first_end j ≤ 2 * cycle → next_end cycle j ≤ 2 * cycle → IsEndTable (first ++ cond starts (j ∷ []) []) (next ++ j ∷ []) cycle (if starts then raised (raised due (next_end cycle j) j.declared) (first_end j) j.declared else raised due (next_end cycle j) j.declared)
table-more first next cycle due j true h first_within next_within =
    table-first first (next ++ j ∷ []) cycle (raised due (next_end cycle j) j.declared) j (table-next first next cycle due j h next_within) first_within
table-more first next cycle due j false h first_within next_within =
    rw append-nil (table-next first next cycle due j h next_within)

-- the jobs that start in time, with one job more
starting-more : (a : ℕ) (jobs : List Job) (j : Job) → starting a (jobs ++ j ∷ []) ≡ starting a jobs ++ cond (nat_le a j.est) (j ∷ []) []
starting-more a jobs j = filter-append (λ (i : Job). nat_le a i.est) jobs (j ∷ []) ∙ ap (λ xs. starting a jobs ++ xs) (one (nat_le a j.est))
  where
    one : (b : Bool) → cond b (j ∷ []) [] ≡ cond b (j ∷ []) []
    one b = refl

-- the table of the jobs so far, and of the next
pub table-step : (a : ℕ) (jobs : List Job) (i cycle : ℕ) (d : Job) (old new : List ℕ) → i < length jobs → 0 < cycle → All (λ (j : Job). j.dl ≤ cycle) jobs → IsEndTable (starting a (take i jobs)) (take i jobs) cycle old → new ≡ (if nat_le a (get_or jobs i d).est then raised (raised old (next_end cycle (get_or jobs i d)) (get_or jobs i d).declared) (first_end (get_or jobs i d)) (get_or jobs i d).declared else raised old (next_end cycle (get_or jobs i d)) (get_or jobs i d).declared) → IsEndTable (starting a (take (i + 1) jobs)) (take (i + 1) jobs) cycle new
table-step a jobs i cycle d old new low positive within h is =
    let j = get_or jobs i d in
    let due = within i d low in
    rw (take_more jobs i d low, starting-more a (take i jobs) j, is) (table-more (starting a (take i jobs)) (take i jobs) cycle old j (nat_le a j.est) h (omega arith) (omega arith))

-- what the jobs that start in time need in a window
first_counts : (est a dl b d : ℕ) → cond (nat_le a est) (if nat_le dl b then d else 0) 0 ≡ (if nat_le a (est + 0) && nat_le (dl + 0) b then d else 0)
first_counts est a dl b d = grind (arith, nat_tests)

declared_within-starting : (jobs : List Job) (a b : ℕ) → ending_by first_end (starting a jobs) b ≡ declared_within jobs 0 a b
unfolding ending_by
declared_within-starting jobs a b =
    sum_by-filter (λ (j : Job). if nat_le j.dl b then j.declared else 0) (λ (j : Job). nat_le a j.est) jobs
    ∙ sum_by-agree (λ (j : Job). cond (nat_le a j.est) (if nat_le j.dl b then j.declared else 0) 0) (λ (j : Job). if nat_le a (j.est + 0) && nat_le (j.dl + 0) b then j.declared else 0) jobs (λ k d _. first_counts (get_or jobs k d).est a (get_or jobs k d).dl b (get_or jobs k d).declared)

-- all jobs of the next cycle start at a or later, and count in the windows that end past the first
next_past : (est dl a b cycle d : ℕ) → a ≤ cycle → cycle < b → (if nat_le a (est + cycle) && nat_le (dl + cycle) b then d else 0) ≡ (if nat_le (max (dl + cycle) (cycle + 1)) b then d else 0)
next_past est dl a b cycle d low past = grind (arith, nat_tests)

next_not_past : (dl b cycle d : ℕ) → b ≤ cycle → (if nat_le (max (dl + cycle) (cycle + 1)) b then d else 0) ≡ 0
next_not_past dl b cycle d within = grind (arith, nat_tests)

declared_within-next : (jobs : List Job) (cycle a b : ℕ) → a ≤ cycle → (if nat_lt cycle b then declared_within jobs cycle a b else 0) ≡ ending_by (next_end cycle) jobs b
unfolding ending_by
declared_within-next jobs cycle a b low =
    let f = λ (j : Job). if nat_le a (j.est + cycle) && nat_le (j.dl + cycle) b then j.declared else 0 in
    let g = λ (j : Job). if nat_le (next_end cycle j) b then j.declared else 0 in
    elim (cases_lt cycle b) [
      | inl past ↦ rw (lt-ltb cycle b past) (sum_by-agree f g jobs (λ k d _. next_past (get_or jobs k d).est (get_or jobs k d).dl a b cycle (get_or jobs k d).declared low past))
      | inr within ↦ rw (le-ltb cycle b within) (sym (sum_by-none g jobs (λ k d _. next_not_past (get_or jobs k d).dl b cycle (get_or jobs k d).declared within)))
    ]

-- so the sums of the table are the demand of the jobs
pub sums-table : (jobs : List Job) (cycle a : ℕ) (due : List ℕ) → IsEndTable (starting a jobs) jobs cycle due → a ≤ cycle → (b : ℕ) → b ≤ 2 * cycle → sum (take (b + 1) due) ≡ window_demand jobs [] cycle a b
sums-table jobs cycle a due h low b within =
    omega (arith, sum_take-IsEndTable (starting a jobs) jobs cycle due h b within, declared_within-starting jobs a b, declared_within-next jobs cycle a b low)

-- a fold over one number more
pub fold-range_more : {B : Type 0} (f : B → ℕ → B) (z : B) (a n k : ℕ) → k ≡ a + n → fold f z (range_with_len a (n + 1)) ≡ f (fold f z (range_with_len a n)) k
fold-range_more f z a n k is =
    ap (fold f z) (range-parts a k n 1 is) ∙ fold_push f z (range_with_len a n) k

-- folds that agree at each number
pub fold-range_agree : {B : Type 0} (f g : B → ℕ → B) (z : B) (a n : ℕ) → ((k : ℕ) (x : B) → a ≤ k → k < a + n → f x k ≡ g x k) → fold f z (range_with_len a n) ≡ fold g z (range_with_len a n)
fold-range_agree f g z a zero same = refl
fold-range_agree f g z a (suc n) same =
    ap (λ x. fold f x (range_with_len (a + 1) n)) (same a z (omega arith) (omega arith))
    ∙ fold-range_agree f g (g z a) (a + 1) n (λ k x low high. same k x (omega arith) (omega arith))

-- the slots of the jobs that start in time are no more than those of all
pub starting-le : (a : ℕ) (jobs : List Job) → sum_by (λ (j : Job). j.declared) (starting a jobs) ≤ sum_by (λ (j : Job). j.declared) jobs
starting-le a jobs =
    rw (sum_by-filter (λ (j : Job). j.declared) (λ (j : Job). nat_le a j.est) jobs) (sum_by-le-sum_by (λ (j : Job). cond (nat_le a j.est) j.declared 0) (λ (j : Job). j.declared) jobs (λ j. cond-le (nat_le a j.est) j.declared))

-- the demand of a window is that of the jobs, and that of arrivals in so many slots
needs : (set : TaskSet) (cycle a b : ℕ) (jobs : List Job) → is_sound set ≡ true → cycle ≡ cycle_of set → IsPermutation (cycle_jobs set cycle 0) jobs → a ≤ b → window_demand jobs [] cycle a b + sporadic_demand set.sporadics [] 0 (b - a) ≡ window_demand (cycle_jobs set cycle 0) set.sporadics cycle a b
needs set cycle a b jobs sound whole listed order =
    let ss = set.sporadics in
    let back : b - a + a ≡ b = omega arith in
    let front : 0 + a ≡ a = omega arith in
    let moved = sporadic_demand-shifted (cycle_of set) ss 0 (b - a) a (FitCycle-from_sound set sound) (omega arith) in
    let here : sporadic_demand ss [] a b ≡ sporadic_demand ss [] 0 (b - a) = ap (λ x. sporadic_demand ss [] a x) (sym back) ∙ ap (λ x. sporadic_demand ss [] x (b - a + a)) (sym front) ∙ moved in
    let same = window_demand-same (cycle_jobs set cycle 0) jobs ss cycle a b (same-from_permutation (cycle_jobs set cycle 0) jobs listed) in
    omega (arith, here, same)

-- so the tightest window by the tables is the tightest by the demand
pub tightest-agree : (set : TaskSet) (cycle a : ℕ) (jobs : List Job) (due arrivals : List ℕ) (kept : Option Window) → is_sound set ≡ true → cycle ≡ cycle_of set → IsPermutation (cycle_jobs set cycle 0) jobs → length due ≡ 2 * cycle + 1 → a < cycle → ((b : ℕ) → b ≤ 2 * cycle → sum (take (b + 1) due) ≡ window_demand jobs [] cycle a b) → ((x : ℕ) → x ≤ 2 * cycle → slice_index arrivals x ≡ sporadic_demand set.sporadics [] 0 x) → fold (λ best b. tighter best (window_of a b (sum (take (b + 1) due) + slice_index arrivals (b - a)))) kept (range_with_len (a + 1) (length due - 1 - a)) ≡ tightest_by (window_demand (cycle_jobs set cycle 0) set.sporadics cycle a) cycle kept a
tightest-agree set cycle a jobs due arrivals kept sound whole listed len low sums arriving =
    let f = λ (best : Option Window) (b : ℕ). tighter best (window_of a b (sum (take (b + 1) due) + slice_index arrivals (b - a))) in
    let g = λ (best : Option Window) (b : ℕ). tighter best (window_of a b (window_demand (cycle_jobs set cycle 0) set.sporadics cycle a b)) in
    let count : length due - 1 - a ≡ 2 * cycle - a = omega arith in
    ap (λ n. fold f kept (range_with_len (a + 1) n)) count
    ∙ fold-range_agree f g kept (a + 1) (2 * cycle - a) (λ b best above within.
    let need : sum (take (b + 1) due) + slice_index arrivals (b - a) ≡ window_demand (cycle_jobs set cycle 0) set.sporadics cycle a b = omega (arith, sums b (omega arith), arriving (b - a) (omega arith), needs set cycle a b jobs sound whole listed (omega arith)) in
    ap (λ n. tighter best (window_of a b n)) need)

-- the slots of the jobs fit the cycle where the demand of the whole cycle does
pub declared-fits : (set : TaskSet) (cycle : ℕ) (jobs : List Job) → is_sound set ≡ true → cycle ≡ cycle_of set → IsPermutation (cycle_jobs set cycle 0) jobs → window_demand (cycle_jobs set cycle 0) set.sporadics cycle 0 cycle ≤ cycle → sum_by (λ (j : Job). j.declared) jobs ≤ cycle
declared-fits set cycle jobs sound whole listed fits =
    let same = window_demand-same (cycle_jobs set cycle 0) jobs set.sporadics cycle 0 cycle (same-from_permutation (cycle_jobs set cycle 0) jobs listed) in
    omega (arith, window_demand-cycle jobs set.sporadics cycle (all_due_by set jobs cycle sound whole listed), same)

-- the tightest of the windows so far, and of the next
pub fold-step : {B : Type 0} (f : B → ℕ → B) (z now : B) (a b : ℕ) → a ≤ b → now ≡ f (fold f z (range_with_len a (b - a))) b → now ≡ fold f z (range_with_len a (b + 1 - a))
fold-step f z now a b low is =
    let back : b ≡ a + (b - a) = omega arith in
    let count : b - a + 1 ≡ b + 1 - a = omega arith in
    is ∙ sym (fold-range_more f z a (b - a) b back) ∙ ap (λ n. fold f z (range_with_len a n)) count
