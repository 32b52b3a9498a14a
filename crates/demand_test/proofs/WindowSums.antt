-- What the tables of ends and arrivals say of the windows from a start is their demand.
use borrow.Author.Count.{below_more}
use Rattle.std.proofs.Common.{◌≡◌, ℕ, zero, suc, ◌+◌, ◌-◌, ◌*◌, ◌<◌, ◌≤◌, max, false, List, [], length, take, drop, get_or, Some, None, refl, sym, subst, ap, ◌∙◌, inl, inr, arith}
use Rattle.std.specs.Prelude.{sum_by, nat_le, nat_lt, ◌&&◌, if◌then◌else◌}
use Rattle.std.specs.List.{AllWithin, prefix_len, range_with_len}
use Rattle.std.specs.List.Sorted.{IsNonDecreasingBy}
use Rattle.std.proofs.lemmas.Bool.{cases_lt, le-ltb, lt-ltb, leb-true, leb-false}
use Rattle.std.proofs.lemmas.Bool.Decides.{nat_tests}
use Rattle.std.proofs.lemmas.List.{get_or-take, get_or-drop, length-take, length-drop, drop-drop}
use Rattle.std.proofs.lemmas.List.Sums.{sum_by-take-drop, prefix_len-le-length, prefix_len_passes, prefix_len_stops}
use Rattle.slot_core.specs.declared.TheConstants.{SLOT_LIMIT}
use Rattle.slot_core.specs.declared.jobs.Job.{Job}
use Rattle.slot_core.specs.declared.jobs.Window.{Window}
use Rattle.slot_core.specs.declared.tasks.Sporadic.{Sporadic}
use Rattle.slot_core.specs.Feasibility.Sporadics.{sporadic_demand}
use Rattle.slot_core.specs.Feasibility.Feasible.{declared_within, window_demand, failing_window, first_some, first_failing_from}
use Rattle.demand_test.specs.declared.ends.Ends.{Ends}
use Rattle.demand_test.specs.declared.windows.Bounds.{Bounds}
use Rattle.demand_test.specs.declared.windows.Known.{Known}
use Rattle.demand_test.specs.EndTables.{first_end, next_end, ending_by, HasBlocks, ArePassed, AreEnds, AreReadable, needed_in, failing_in, IsKnown, AreKnown}
use Rattle.slot_facts.proofs.Demand.Arrivals.{sporadic_demand-shifted_to_zero}
use Rattle.slot_facts.proofs.Demand.Feasible.{fits-from_first_failing}
use Rattle.slot_facts.proofs.Demand.OneSlot.{sporadic_demand-later}
use Rattle.slot_facts.proofs.Lists.FirstSome.{first_some-agree}
use Rattle.slot_facts.proofs.Lists.Sums.{sum_by-agree, sum_by-none}
use Rattle.demand_test.proofs.ArrivalsGrow.{sporadic_demand-grows}
use Rattle.demand_test.proofs.EndSums.{ending_by-rises, ending_by-le, ending_by-parts, ending_by-twice}

-- of jobs in the order of their starts, the rest starts at a or later, and those before it start before a
pub record IsStart (jobs rest : List Job) (a started : ℕ) : Type 0 where
  pub rest_is : rest ≡ drop started jobs
  pub within : started ≤ length jobs
  pub before : AllWithin (λ (j : Job). j.est < a) jobs 0 started
  pub later : AllWithin (λ (j : Job). a ≤ j.est) jobs started (length jobs)

-- past the jobs at the front of the rest that start by a, all start later
later-IsStart : (jobs rest : List Job) (a p n : ℕ) → IsNonDecreasingBy (λ (j : Job). j.est) jobs → IsStart jobs rest a p → n ≡ prefix_len (λ (j : Job). nat_le j.est a) rest → AllWithin (λ (j : Job). a + 1 ≤ j.est) jobs (p + n) (length jobs)
later-IsStart jobs rest a p n ordered start count = λ k d from upto.
    let starts = λ (j : Job). nat_le j.est a in
    let left = ap length start.rest_is in
    let len = length-drop p jobs in
    let stops : nat_le (get_or rest n d).est a ≡ false = rw count (prefix_len_stops starts rest d (omega arith)) in
    let late = leb-false (get_or rest n d).est a stops in
    let at : get_or rest n d ≡ get_or jobs (p + n) d = ap (λ xs. get_or xs n d) start.rest_is ∙ get_or-drop p jobs n d in
    let same = ap (λ (j : Job). j.est) at in
    let more = ordered (p + n) k d from upto in
    omega arith

-- the rest after the jobs that start by a
pub IsStart-next : (jobs rest later : List Job) (a p n : ℕ) → IsNonDecreasingBy (λ (j : Job). j.est) jobs → IsStart jobs rest a p → n ≡ prefix_len (λ (j : Job). nat_le j.est a) rest → later ≡ drop n rest → IsStart jobs later (a + 1) (p + n)
IsStart-next jobs rest later a p n ordered start count back =
    let starts = λ (j : Job). nat_le j.est a in
    let fit = prefix_len-le-length starts rest in
    let left = ap length start.rest_is in
    let len = length-drop p jobs in
    let within = start.within in
    record {
      rest_is = back ∙ ap (drop n) start.rest_is ∙ drop-drop n p jobs;
      within = omega arith;
      before = λ k d from upto.
          elim (cases_lt k p) [
            | inl front ↦ let early = start.before k d from front in omega arith
            | inr past ↦
                let passes = prefix_len_passes starts rest (k - p) d (omega arith) in
                let early = leb-true (get_or rest (k - p) d).est a passes in
                let at : get_or rest (k - p) d ≡ get_or jobs (p + (k - p)) d = ap (λ xs. get_or xs (k - p) d) start.rest_is ∙ get_or-drop p jobs (k - p) d in
                let place : p + (k - p) ≡ k = omega arith in
                let same = ap (λ (j : Job). j.est) (at ∙ ap (λ i. get_or jobs i d) place) in
                omega arith
          ];
      later = later-IsStart jobs rest a p n ordered start count;
    }

-- the first jobs, which start before a, do not count from a on, and the others all do
before_start : (est a dl b d : ℕ) → est < a → (if nat_le a (est + 0) && nat_le (dl + 0) b then d else 0) ≡ 0
before_start est a dl b d low = grind (arith, nat_tests)

after_start : (est a dl b d : ℕ) → a ≤ est → (if nat_le a (est + 0) && nat_le (dl + 0) b then d else 0) ≡ (if nat_le dl b then d else 0)
after_start est a dl b d low = grind (arith, nat_tests)

declared_within-IsStart : (jobs rest : List Job) (a p b : ℕ) → IsStart jobs rest a p → declared_within jobs 0 a b ≡ ending_by first_end rest b
unfolding ending_by
declared_within-IsStart jobs rest a p b start =
    let n = p in
    let f = λ (j : Job). if nat_le a (j.est + 0) && nat_le (j.dl + 0) b then j.declared else 0 in
    let g = λ (j : Job). if nat_le j.dl b then j.declared else 0 in
    let within = start.within in
    let front = sum_by-none f (take n jobs) (λ k d low.
    let short : k < n = omega (arith, length-take n jobs) in
    rw (get_or-take n jobs k d short) (before_start (get_or jobs k d).est a (get_or jobs k d).dl b (get_or jobs k d).declared (start.before k d (omega arith) short))) in
    let back = sum_by-agree f g (drop n jobs) (λ k d low.
    let short : n + k < length jobs = omega (arith, length-drop n jobs) in
    rw (get_or-drop n jobs k d) (after_start (get_or jobs (n + k) d).est a (get_or jobs (n + k) d).dl b (get_or jobs (n + k) d).declared (start.later (n + k) d (omega arith) short))) in
    omega (arith, sum_by-take-drop f jobs n, ap (sum_by g) start.rest_is)

-- all jobs of the next cycle start at a or later, and count in the windows that end past the first cycle
next_past : (est dl a b cycle d : ℕ) → a ≤ cycle → cycle < b → (if nat_le a (est + cycle) && nat_le (dl + cycle) b then d else 0) ≡ (if nat_le (max (dl + cycle) (cycle + 1)) b then d else 0)
next_past est dl a b cycle d low past = grind (arith, nat_tests)

next_not_past : (dl b cycle d : ℕ) → b ≤ cycle → (if nat_le (max (dl + cycle) (cycle + 1)) b then d else 0) ≡ 0
next_not_past dl b cycle d within = grind (arith, nat_tests)

declared_within-next : (jobs : List Job) (cycle a b : ℕ) → a ≤ cycle → (if nat_lt cycle b then declared_within jobs cycle a b else 0) ≡ ending_by (next_end cycle) jobs b
unfolding ending_by
declared_within-next jobs cycle a b low =
    let f = λ (j : Job). if nat_le a (j.est + cycle) && nat_le (j.dl + cycle) b then j.declared else 0 in
    let g = λ (j : Job). if nat_le (next_end cycle j) b then j.declared else 0 in
    elim (cases_lt cycle b) [
      | inl past ↦ rw (lt-ltb cycle b past) (sum_by-agree f g jobs (λ k d _. next_past (get_or jobs k d).est (get_or jobs k d).dl a b cycle (get_or jobs k d).declared low past))
      | inr within ↦ rw (le-ltb cycle b within) (sym (sum_by-none g jobs (λ k d _. next_not_past (get_or jobs k d).dl b cycle (get_or jobs k d).declared within)))
    ]

-- so the demand of a window is what is due by its end of the jobs that start at its start or later, and the arrivals
pub window_demand-IsStart : (jobs rest : List Job) (ss : List Sporadic) (cycle a p b : ℕ) → IsStart jobs rest a p → a ≤ cycle → window_demand jobs ss cycle a b ≡ ending_by first_end rest b + ending_by (next_end cycle) jobs b + sporadic_demand ss [] a b
window_demand-IsStart jobs rest ss cycle a p b start low =
    omega (arith, declared_within-IsStart jobs rest a p b start, declared_within-next jobs cycle a b low)

-- a longer window from a start needs no less
pub window_demand-rises : (jobs rest : List Job) (ss : List Sporadic) (cycle a p b c : ℕ) → IsStart jobs rest a p → a ≤ cycle → b ≤ c → window_demand jobs ss cycle a b ≤ window_demand jobs ss cycle a c
window_demand-rises jobs rest ss cycle a p b c start low later =
    omega (
      arith,
      window_demand-IsStart jobs rest ss cycle a p b start low,
      window_demand-IsStart jobs rest ss cycle a p c start low,
      ending_by-rises first_end rest b c later,
      ending_by-rises (next_end cycle) jobs b c later,
      sporadic_demand-grows ss a b c later,
    )

-- the window from the next start to the same end needs the slots no more of the jobs that started and are due by it
pub window_demand-next : (jobs rest others : List Job) (ss : List Sporadic) (cycle a p n b : ℕ) → IsStart jobs rest a p → IsStart jobs others (a + 1) (p + n) → others ≡ drop n rest → a < cycle → window_demand jobs ss cycle (a + 1) b + ending_by first_end (take n rest) b ≤ window_demand jobs ss cycle a b
window_demand-next jobs rest others ss cycle a p n b start next back low =
    omega (
      arith,
      window_demand-IsStart jobs rest ss cycle a p b start (omega arith),
      window_demand-IsStart jobs others ss cycle (a + 1) (p + n) b next (omega arith),
      ending_by-parts first_end rest n b,
      ap (λ xs. ending_by first_end xs b) back,
      sporadic_demand-later ss [] a (a + 1) b (omega arith),
    )

-- a window with slots for its demand does not fail
pub none-from_fits : (jobs : List Job) (ss : List Sporadic) (cycle a b : ℕ) → window_demand jobs ss cycle a b ≤ b - a → failing_window jobs ss cycle a b ≡ None
none-from_fits jobs ss cycle a b fits =
    rw (le-ltb (b - a) (window_demand jobs ss cycle a b) fits) refl

-- where no window from an earlier start fails, the arrivals from a on need what those from 0 on need
arrivals-from_zero : (jobs : List Job) (ss : List Sporadic) (cycle a b : ℕ) → ((k : ℕ) → k < a → first_failing_from jobs ss cycle k ≡ None) → a ≤ b → b ≤ 2 * cycle → 0 < cycle → sporadic_demand ss [] a b ≡ sporadic_demand ss [] 0 (b - a)
arrivals-from_zero jobs ss cycle zero b none low high positive =
    let same : b - 0 ≡ b = omega arith in
    ap (λ x. sporadic_demand ss [] 0 x) (sym same)
arrivals-from_zero jobs ss cycle (suc a) b none low high positive =
    sporadic_demand-shifted_to_zero
    ss
    (suc a)
    b
    (2 * cycle)
    low
    high
    (omega arith)
    (λ x some most. omega (arith, fits-from_first_failing jobs ss cycle 0 (none 0 (omega arith)) x some most))

-- the tables at a start: the ends of the jobs, of which those that start before are passed, the arrivals, and no
-- failing window from an earlier start
pub record AreTables (jobs rest : List Job) (ss : List Sporadic) (cycle a : ℕ) (ends : Ends) (arrivals : List ℕ) : Type 0 where
  pub started : ℕ
  pub start : IsStart jobs rest a started
  pub passed : AreEnds jobs (take started jobs) cycle ends
  pub needs : (x : ℕ) → x ≤ 2 * cycle → get_or arrivals x 0 ≡ sporadic_demand ss [] 0 x
  pub none : (k : ℕ) → k < a → first_failing_from jobs ss cycle k ≡ None

-- the tables at the next start, where no window from this one fails and the jobs that start at it are passed
abbrev pub AreTables-next : (jobs rest front others : List Job) (ss : List Sporadic) (cycle a n : ℕ) (ends later : Ends) (arrivals : List ℕ) → IsNonDecreasingBy (λ (j : Job). j.est) jobs → AreTables jobs rest ss cycle a ends arrivals → n ≡ prefix_len (λ (j : Job). nat_le j.est a) rest → front ≡ take n rest → others ≡ drop n rest → ArePassed ends later (ending_by first_end front) → first_failing_from jobs ss cycle a ≡ None → AreTables jobs others ss cycle (a + 1) later arrivals
AreTables-next jobs rest front others ss cycle a n ends later arrivals ordered h count at_front back moved here =
    let start = h.start in
    let inner = h.passed.blocks.inner in
    record {
      started = h.started + n;
      start = IsStart-next jobs rest others a h.started n ordered start count back;
      passed = record {
        len = ap length moved.sums ∙ h.passed.len;
        blocks = record {
          inner = moved.inner ∙ h.passed.blocks.inner;
          blocks = moved.blocks ∙ h.passed.blocks.blocks;
        };
        sums = λ b low. ap (λ xs. get_or xs b 0) moved.sums ∙ h.passed.sums b low;
        passed = λ b low.
            omega (
              arith,
              moved.more b (omega arith),
              h.passed.passed b low,
              ap (λ xs. ending_by first_end xs b) at_front,
              ending_by-twice first_end jobs rest h.started n b start.rest_is,
            );
      };
      needs = h.needs;
      none = below_more (λ k. first_failing_from jobs ss cycle k ≡ None) a h.none here;
    }

-- the tables at slot 0
pub AreTables-first : (jobs : List Job) (ss : List Sporadic) (cycle : ℕ) (ends : Ends) (arrivals : List ℕ) → AreEnds jobs [] cycle ends → ((x : ℕ) → x ≤ 2 * cycle → get_or arrivals x 0 ≡ sporadic_demand ss [] 0 x) → AreTables jobs jobs ss cycle 0 ends arrivals
AreTables-first jobs ss cycle ends arrivals h needs =
    record {
      started = 0;
      start = record {
        rest_is = refl;
        within = omega arith;
        before = λ k d from upto. absurd (omega arith);
        later = λ k d from upto. omega arith;
      };
      passed = h;
      needs = needs;
      none = λ k low. absurd (omega arith);
    }

-- what the tables say that a window needs is its demand
pub needed_in-AreTables : (jobs rest : List Job) (ss : List Sporadic) (cycle a : ℕ) (ends : Ends) (arrivals : List ℕ) → AreTables jobs rest ss cycle a ends arrivals → a < cycle → (b : ℕ) → a < b → b ≤ 2 * cycle → needed_in ends arrivals a b ≡ window_demand jobs ss cycle a b
needed_in-AreTables jobs rest ss cycle a ends arrivals h start b low high =
    omega (
      arith,
      h.needs (b - a) (omega arith),
      h.passed.sums b high,
      h.passed.passed b high,
      ending_by-parts first_end jobs h.started b,
      ap (λ xs. ending_by first_end xs b) h.start.rest_is,
      window_demand-IsStart jobs rest ss cycle a h.started b h.start (omega arith),
      arrivals-from_zero jobs ss cycle a b h.none (omega arith) high (omega arith),
    )

-- the tables can be read
pub AreReadable-from_AreTables : (jobs rest : List Job) (ss : List Sporadic) (cycle a : ℕ) (ends : Ends) (arrivals : List ℕ) → AreTables jobs rest ss cycle a ends arrivals → cycle ≤ SLOT_LIMIT → sum_by (λ (j : Job). j.declared) jobs ≤ cycle → AreReadable ends
AreReadable-from_AreTables jobs rest ss cycle a ends arrivals h small few =
    let len = h.passed.len in
    let last : length ends.sums.items - 1 ≡ 2 * cycle = omega arith in
    record {
      blocks = subst (HasBlocks ends) (sym last) h.passed.blocks;
      fewer = λ b low.
          omega (
            arith,
            h.passed.sums b (omega arith),
            h.passed.passed b (omega arith),
            ending_by-parts first_end jobs h.started b,
          );
      small = λ b low.
          omega (
            arith,
            h.passed.sums b (omega arith),
            ending_by-le first_end jobs b,
            ending_by-le (next_end cycle) jobs b,
          );
    }

-- what is known of what windows need is known of the same numbers
IsKnown-same : (need other : ℕ → ℕ) (a last : ℕ) (known : Known) → ((b : ℕ) → a < b → b ≤ last → other b ≡ need b) → IsKnown need a last known → IsKnown other a last known
IsKnown-same need other a last known same h =
    record {
      after = h.after;
      spare = λ b past low high. omega (arith, same b low high, h.spare b past low high);
    }

pub AreKnown-same : (need other : ℕ → ℕ) (a last : ℕ) (bounds : Bounds) → ((b : ℕ) → a < b → b ≤ last → other b ≡ need b) → AreKnown need a last bounds → AreKnown other a last bounds
AreKnown-same need other a last bounds same h =
    record {
      sought = IsKnown-same need other a last bounds.sought same h.sought;
      before = IsKnown-same need other a last bounds.before same h.before;
    }

-- the search in the tables is the search among the windows
abbrev window : ℕ → ℕ → ℕ → Window
window a b needed = record { from = a; until = b; demand = needed }

pub first_failing_from-AreTables : (jobs rest : List Job) (ss : List Sporadic) (cycle a : ℕ) (ends : Ends) (arrivals : List ℕ) → AreTables jobs rest ss cycle a ends arrivals → a < cycle → first_some (failing_in ends arrivals a) (range_with_len (a + 1) (length ends.sums.items - 1 - a)) ≡ first_failing_from jobs ss cycle a
first_failing_from-AreTables jobs rest ss cycle a ends arrivals h start =
    let len = h.passed.len in
    let count : length ends.sums.items - 1 - a ≡ 2 * cycle - a = omega arith in
    rw count (first_some-agree (failing_in ends arrivals a) (failing_window jobs ss cycle a) (a + 1) (2 * cycle - a) (λ b low high.
    ap
    (λ (needed : ℕ). if nat_lt (b - a) needed then Some (window a b needed) else None)
    (needed_in-AreTables jobs rest ss cycle a ends arrivals h start b (omega arith) (omega arith))))
