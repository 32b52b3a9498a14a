-- The densest pattern is legal, and needs all of the sporadic demand.
use Rattle.std.proofs.Common.{◌≡◌, ℕ, zero, suc, ◌+◌, ◌*◌, ◌<◌, ◌≤◌, max, Bool, true, false, cond, ◌==◌, List, [], ◌∷◌, ◌++◌, map, filter, length, Some, refl, sym, ap, ◌∙◌, subst, ◌⊎◌, inl, inr, arith}
use Rattle.std.specs.Prelude.{sum_by, count_by, nat_le, slice_get, slice_index_or}
use Rattle.std.specs.List.{range_with_len}
use Rattle.std.proofs.lemmas.Bool.{cases_lt, eq-eqb, le-leb, lt-leb}
use Rattle.std.proofs.lemmas.Bool.Decides.{nat_tests}
use Rattle.std.proofs.lemmas.List.{append-nil, map-append}
use Rattle.std.proofs.lemmas.List.Elements.{filter-append, recursion_from_All, All-from_recursion}
use Rattle.std.proofs.lemmas.List.Sums.{sum_by-cons, sum_by-append}
use Rattle.slot_core.specs.declared.jobs.Job.{Job}
use Rattle.slot_core.specs.declared.tasks.Sporadic.{Sporadic}
use Rattle.slot_core.specs.Runs.Histories.{sporadic_job}
use Rattle.slot_core.specs.Feasibility.Sporadics.{arrivals_due, sporadic_demand, densest_arrivals, densest_pattern, AreSpaced, times_of, IsLegalPattern}
use Rattle.slot_facts.specs.Patterns.{AreSeparated, TheDensestPatternNeedsAll}
use Rattle.slot_facts.proofs.Lists.Members.{Has, Has-append_cases, Has-map_cases, AllByRecursion-from_Has, AllByRecursion-at_Has, Has-from_slice_get}
use Rattle.slot_facts.proofs.Lists.Sums.{sum_by-map}
use Rattle.slot_facts.proofs.Demand.Arrivals.{count_range-is}
use Rattle.slot_facts.proofs.Patterns.Counts.{arrivals_due-from, is_due, is_counted}
use Rattle.slot_facts.proofs.Patterns.Work.{pattern_jobs-sum}

-- an item that passes counts for w
sum_by-cond_times : {X : Type 0} (w : ℕ) (p : X → Bool) (xs : List X) → sum_by (λ x. cond (p x) w 0) xs ≡ w * count_by p xs
sum_by-cond_times w p [] = omega arith
sum_by-cond_times w p (x ∷ xs) =
    let more : count_by p (x ∷ xs) ≡ cond (p x) 1 0 + count_by p xs = sum_by-cons (λ x. cond (p x) 1 0) x xs in
    omega (arith, sum_by-cons (λ x. cond (p x) w 0) x xs, ap (λ n. w * n) more, one (p x), sum_by-cond_times w p xs)
  where
    one : (b : Bool) → cond b w 0 ≡ w * cond b 1 0
    one true = omega arith
    one false = omega arith

-- of the densest arrivals up to the end those are counted that are due
due_by_end : (s : Sporadic) (b x end : ℕ) → 1 ≤ s.separation → x ≤ end → count_by (λ m. nat_le (b + m * s.separation + s.deadline) x) (range_with_len 0 (arrivals_due s 0 b end)) ≡ arrivals_due s 0 b x
due_by_end s b x end apart before =
    let k = arrivals_due s 0 b x in
    let all = arrivals_due s 0 b end in
    count_range-is
    (λ m. nat_le (b + m * s.separation + s.deadline) x)
    0
    all
    k
    (fits (cases_lt all k))
    (λ m low high. le-leb (b + m * s.separation + s.deadline) x (is_due s b x m apart (omega arith)))
    (λ m low high. lt-leb (b + m * s.separation + s.deadline) x (late m (omega arith)))
  where
    fits : (arrivals_due s 0 b end < arrivals_due s 0 b x) ⊎ (arrivals_due s 0 b x ≤ arrivals_due s 0 b end) → arrivals_due s 0 b x ≤ arrivals_due s 0 b end
    fits (inl more) = absurd (omega (arith, is_counted s b end (arrivals_due s 0 b end) apart (omega (arith, is_due s b x (arrivals_due s 0 b end) apart more))))
    fits (inr few) = few

    late : (m : ℕ) → arrivals_due s 0 b x ≤ m → x < b + m * s.separation + s.deadline
    late m past =
        elim (cases_lt x (b + m * s.separation + s.deadline)) [
          | inl over ↦ over
          | inr due ↦ absurd (omega (arith, is_counted s b x m apart due))
        ]

-- the densest arrivals of one task need all of its demand
task_need : (s : Sporadic) (next r x end : ℕ) → 1 ≤ s.separation → x ≤ end → sum_by (λ m. cond (nat_le (max r next + m * s.separation + s.deadline) x) s.wcet 0) (range_with_len 0 (arrivals_due s next r end)) ≡ s.wcet * arrivals_due s next r x
task_need s next r x end apart before =
    let b = max r next in
    let test = λ (m : ℕ). nat_le (b + m * s.separation + s.deadline) x in
    sum_by-cond_times s.wcet test (range_with_len 0 (arrivals_due s next r end))
    ∙ ap (λ n. s.wcet * count_by test (range_with_len 0 n)) (arrivals_due-from s next r end)
    ∙ ap (λ n. s.wcet * n) (due_by_end s b x end apart before ∙ sym (arrivals_due-from s next r x))

-- the sum over the densest pattern, task by task
densest_sum : (g : ℕ × ℕ → ℕ) (k : ℕ) (ss : List Sporadic) (ns : List ℕ) (r x end : ℕ) → ((j i next : ℕ) (s : Sporadic) → k + j ≡ i → slice_get ss j ≡ Some s → sum_by g (densest_arrivals i s next r end) ≡ s.wcet * arrivals_due s next r x) → sum_by g (densest_pattern k ss ns r end) ≡ sporadic_demand ss ns r x
densest_sum g k [] ns r x end each = refl
densest_sum g k (s ∷ ss) [] r x end each =
    omega (arith, sum_by-append g (densest_arrivals k s 0 r end) (densest_pattern (k + 1) ss [] r end), each 0 k 0 s (omega arith) refl, densest_sum g (k + 1) ss [] r x end (λ j i next t place at. each (suc j) i next t (omega arith) at))
densest_sum g k (s ∷ ss) (n ∷ ns) r x end each =
    omega (arith, sum_by-append g (densest_arrivals k s n r end) (densest_pattern (k + 1) ss ns r end), each 0 k n s (omega arith) refl, densest_sum g (k + 1) ss ns r x end (λ j i next t place at. each (suc j) i next t (omega arith) at))

-- the arrivals of a task are of that task, and those of all tasks are of tasks that are listed
named_arrivals : (k : ℕ) (s : Sporadic) (next r x : ℕ) (a : ℕ × ℕ) → Has (densest_arrivals k s next r x) a → k ≡ a.0
named_arrivals k s next r x a at =
    let m = Has-map_cases (λ m. (k, max r next + m * s.separation)) (range_with_len 0 (arrivals_due s next r x)) a at in
    ap (λ (b : ℕ × ℕ). b.0) m.2

named_pattern : (k : ℕ) (ss : List Sporadic) (ns : List ℕ) (r x : ℕ) (a : ℕ × ℕ) → Has (densest_pattern k ss ns r x) a → (k ≤ a.0) × (a.0 < k + length ss)
named_pattern k [] ns r x a at = absurd at
named_pattern k (s ∷ ss) [] r x a at =
    elim (Has-append_cases (densest_arrivals k s 0 r x) (densest_pattern (k + 1) ss [] r x) a at) [
      | inl here ↦ let same = named_arrivals k s 0 r x a here in (omega arith, omega arith)
      | inr later ↦ let more = named_pattern (k + 1) ss [] r x a later in (omega arith, omega arith)
    ]
named_pattern k (s ∷ ss) (n ∷ ns) r x a at =
    elim (Has-append_cases (densest_arrivals k s n r x) (densest_pattern (k + 1) ss ns r x) a at) [
      | inl here ↦ let same = named_arrivals k s n r x a here in (omega arith, omega arith)
      | inr later ↦ let more = named_pattern (k + 1) ss ns r x a later in (omega arith, omega arith)
    ]

-- the times of one task
times_of-append : (i : ℕ) (xs ys : List (ℕ × ℕ)) → times_of i (xs ++ ys) ≡ times_of i xs ++ times_of i ys
times_of-append i xs ys =
    let here = λ (a : ℕ × ℕ). a.0 == i in
    ap (map (λ (a : ℕ × ℕ). a.1)) (filter-append here xs ys) ∙ map-append (λ (a : ℕ × ℕ). a.1) (filter here xs) (filter here ys)

times_of-same : (k : ℕ) (f : ℕ → ℕ) (ms : List ℕ) → times_of k (map (λ m. (k, f m)) ms) ≡ map f ms
times_of-same k f [] = refl
times_of-same k f (m ∷ ms) = rw (eq-eqb k k refl) (ap (λ ts. f m ∷ ts) (times_of-same k f ms))

times_of-none : (i : ℕ) (pattern : List (ℕ × ℕ)) → ((a : ℕ × ℕ) → Has pattern a → i < a.0) → times_of i pattern ≡ []
times_of-none i [] later = refl
times_of-none i (a ∷ pattern) later =
    let other : (a.0 == i) ≡ false = above a.0 i (later a (inl refl)) in
    rw other (times_of-none i pattern (λ b at. later b (inr at)))
  where
    above : (n m : ℕ) → m < n → (n == m) ≡ false
    above n m h = grind (arith, nat_tests)

times_of-earlier : (i k : ℕ) (f : ℕ → ℕ) (ms : List ℕ) → k < i → times_of i (map (λ m. (k, f m)) ms) ≡ []
times_of-earlier i k f [] low = refl
times_of-earlier i k f (m ∷ ms) low =
    let other : (k == i) ≡ false = grind (arith, nat_tests) in
    rw other (times_of-earlier i k f ms low)

-- those of the first task of a pattern, and of a later one
times_of-first : (k : ℕ) (s : Sporadic) (next r x : ℕ) (later : List (ℕ × ℕ)) → ((a : ℕ × ℕ) → Has later a → k < a.0) → times_of k (densest_arrivals k s next r x ++ later) ≡ map (λ m. max r next + m * s.separation) (range_with_len 0 (arrivals_due s next r x))
times_of-first k s next r x later past =
    let time = λ (m : ℕ). max r next + m * s.separation in
    let ms = range_with_len 0 (arrivals_due s next r x) in
    times_of-append k (densest_arrivals k s next r x) later
    ∙ ap (λ ts. ts ++ times_of k later) (times_of-same k time ms)
    ∙ ap (λ ts. map time ms ++ ts) (times_of-none k later past)
    ∙ append-nil (map time ms)

times_of-later : (i k : ℕ) (s : Sporadic) (next r x : ℕ) (later : List (ℕ × ℕ)) → k < i → times_of i (densest_arrivals k s next r x ++ later) ≡ times_of i later
times_of-later i k s next r x later low =
    times_of-append i (densest_arrivals k s next r x) later
    ∙ ap (λ ts. ts ++ times_of i later) (times_of-earlier i k (λ (m : ℕ). max r next + m * s.separation) (range_with_len 0 (arrivals_due s next r x)) low)

-- those of the densest pattern
times_of-densest : (k j i : ℕ) (ss : List Sporadic) (ns : List ℕ) (r x : ℕ) (s : Sporadic) → k + j ≡ i → slice_get ss j ≡ Some s → times_of i (densest_pattern k ss ns r x) ≡ map (λ m. max r (slice_index_or ns j 0) + m * s.separation) (range_with_len 0 (arrivals_due s (slice_index_or ns j 0) r x))
times_of-densest k j i [] ns r x s place at = absurd (cc at)
times_of-densest k zero i (t ∷ ss) [] r x s place at =
    let here : k ≡ i = omega arith in
    let task : t ≡ s = cc at in
    rw (← here, ← task) (times_of-first k t 0 r x (densest_pattern (k + 1) ss [] r x) (λ a at. omega (arith, named_pattern (k + 1) ss [] r x a at)))
times_of-densest k zero i (t ∷ ss) (n ∷ ns) r x s place at =
    let here : k ≡ i = omega arith in
    let task : t ≡ s = cc at in
    rw (← here, ← task) (times_of-first k t n r x (densest_pattern (k + 1) ss ns r x) (λ a at. omega (arith, named_pattern (k + 1) ss ns r x a at)))
times_of-densest k (suc j) i (t ∷ ss) [] r x s place at =
    times_of-later i k t 0 r x (densest_pattern (k + 1) ss [] r x) (omega arith)
    ∙ times_of-densest (k + 1) j i ss [] r x s (omega arith) at
times_of-densest k (suc j) i (t ∷ ss) (n ∷ ns) r x s place at =
    times_of-later i k t n r x (densest_pattern (k + 1) ss ns r x) (omega arith)
    ∙ times_of-densest (k + 1) j i ss ns r x s (omega arith) at

-- they are spaced
densest-spaced : (separation b from a n : ℕ) → from ≤ b + a * separation → AreSpaced separation from (map (λ m. b + m * separation) (range_with_len a n))
densest-spaced separation b from a zero low = tt
densest-spaced separation b from a (suc n) low =
    (low, densest-spaced separation b (b + a * separation + separation) (a + 1) n (omega arith))

-- the densest pattern is legal
pub densest_pattern-legal : (sporadics : List Sporadic) (nexts : List ℕ) (r end : ℕ) → IsLegalPattern sporadics nexts r (densest_pattern 0 sporadics nexts r end)
densest_pattern-legal sporadics nexts r end =
    let pattern = densest_pattern 0 sporadics nexts r end in
    record {
      named = All-from_recursion (λ (a : ℕ × ℕ). a.0 < length sporadics) pattern (AllByRecursion-from_Has (λ (a : ℕ × ℕ). a.0 < length sporadics) pattern (λ a at. omega (arith, named_pattern 0 sporadics nexts r end a at)));
      spaced = λ index s at.
          let next = slice_index_or nexts index 0 in
          subst
          (AreSpaced s.separation (max r next))
          (sym (times_of-densest 0 index index sporadics nexts r end s (omega arith) at))
          (densest-spaced s.separation (max r next) (max r next) 0 (arrivals_due s next r end) (omega arith));
    }

-- the arrivals of one task need all of its demand, in the sum over jobs
arrivals_need : (sporadics : List Sporadic) (i next r x end : ℕ) (s : Sporadic) → AreSeparated sporadics → x ≤ end → slice_get sporadics i ≡ Some s → sum_by (λ (a : ℕ × ℕ). let j = sporadic_job sporadics a.0 0 a.1 in cond (nat_le j.dl x) j.left 0) (densest_arrivals i s next r end) ≡ s.wcet * arrivals_due s next r x
arrivals_need sporadics i next r x end s apart before at =
    let each = AllByRecursion-at_Has (λ (s : Sporadic). 1 ≤ s.separation) sporadics s (recursion_from_All _ sporadics apart) (Has-from_slice_get sporadics i s at) in
    sum_by-map (λ (a : ℕ × ℕ). let j = sporadic_job sporadics a.0 0 a.1 in cond (nat_le j.dl x) j.left 0) (λ m. (i, max r next + m * s.separation)) (range_with_len 0 (arrivals_due s next r end))
    ∙ rw at (task_need s next r x end each before)

-- the densest pattern is legal and needs all of the sporadic demand
pub the_densest_pattern_needs_all : TheDensestPatternNeedsAll
the_densest_pattern_needs_all sporadics nexts r row x end apart before =
    let work = λ (j : Job). cond (nat_le j.dl x) j.left 0 in (
      densest_pattern-legal sporadics nexts r end,
      pattern_jobs-sum sporadics work row (densest_pattern 0 sporadics nexts r end) (λ index row t. refl)
          ∙ densest_sum (λ (a : ℕ × ℕ). work (sporadic_job sporadics a.0 0 a.1)) 0 sporadics nexts r x end (λ j i next s place at. let same : j ≡ i = omega arith in arrivals_need sporadics i next r x end s apart before (subst (λ n. slice_get sporadics n ≡ Some s) same at)),
    )
