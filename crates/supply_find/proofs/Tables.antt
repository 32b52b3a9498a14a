-- The tables of the search, step by step.
use Rattle.std.proofs.Common.{◌≡◌, ℕ, zero, suc, ◌+◌, ◌-◌, ◌*◌, ◌^◌, ◌<◌, ◌≤◌, max, min, Bool, cond, ◌&&◌, List, [], ◌∷◌, ◌++◌, length, map, take, drop, get_or, slice_index, zero-add, refl, sym, ap, ◌∙◌, subst, inl, inr, arith}
use Rattle.std.specs.Prelude.{All, filter, sum_by, nat_le, slice_set, if◌then◌else◌}
use Rattle.std.specs.List.{range_with_len}
use Rattle.std.proofs.lemmas.Bool.{cases_eq, cases_lt, lt-leb, le-leb}
use Rattle.std.proofs.lemmas.Bool.Decides.{nat_tests}
use Rattle.std.proofs.lemmas.List.{get_or-set_same, get_or-set_other, get_or-take, length-set, length-take}
use Rattle.std.proofs.lemmas.List.Elements.{All-from_recursion}
use Rattle.std.proofs.lemmas.List.FromFn.{get_or-map-range_with_len, length-map-range_with_len, map-range_with_len_more}
use Rattle.std.proofs.lemmas.List.Sums.{sum_by-take-drop, sum_by-take-le, sum_by-le-sum_by}
use Rattle.slot_core.specs.declared.TheConstants.{SLOT_LIMIT}
use Rattle.slot_core.specs.declared.jobs.Job.{Job}
use Rattle.slot_facts.proofs.Lists.RangeFilters.{filter-parts}
use Rattle.slot_facts.proofs.Lists.Sums.{sum_by-agree, sum_by-none, cond-le}
use Rattle.cycle_plan.specs.StartOrder.{StartsRise}
use Rattle.demand_test.proofs.EndSums.{declared-less}
use Rattle.supply_find.specs.Due.{due_by, due_from, later_by, inside}
use Rattle.supply_find.specs.Keys.{key_of, window_key, IsCounted, IsSplit, IsGreatest, IsShortest}

-- a table and its next value
pub pushed : {X : Type 0} (f : ℕ → X) (table longer : List X) (end : ℕ) (x : X) → table ≡ map f (range_with_len 0 end) → longer ≡ table ++ x ∷ [] → x ≡ f end → longer ≡ map f (range_with_len 0 (end + 1))
pushed f table longer end x so_far push value =
    let more = map-range_with_len_more f 0 end end (zero-add end) in
    let last : map f (range_with_len 0 end) ++ x ∷ [] ≡ map f (range_with_len 0 end) ++ f end ∷ [] = ap (λ n. map f (range_with_len 0 end) ++ n ∷ []) value in
    push ∙ ap (λ t. t ++ x ∷ []) so_far ∙ last ∙ sym more

-- no more is due than is declared
pub due_by-le : (jobs : List Job) (b : ℕ) → due_by jobs b ≤ sum_by (λ (j : Job). j.declared) jobs
due_by-le jobs b =
    sum_by-le-sum_by (λ (j : Job). if nat_le j.dl b then j.declared else 0) (λ (j : Job). j.declared) jobs (λ j. cond-le (nat_le j.dl b) j.declared)

-- a number of a table of what is due, raised by one job more, is small
pub raise-fits : (jobs : List Job) (due : List ℕ) (i cycle : ℕ) (d : Job) → i < length jobs → sum_by (λ (j : Job). j.declared) jobs ≤ cycle → cycle ≤ SLOT_LIMIT → length due ≡ cycle + 1 → ((b : ℕ) → b ≤ cycle → slice_index due b ≡ due_by (take i jobs) b) → (k : ℕ) → k < length due → slice_index due k + (get_or jobs i d).declared < 2 ^ 32
raise-fits jobs due i cycle d low few short len is k within =
    omega (
      arith,
      is k (omega (arith, len, within)),
      due_by-le (take i jobs) k,
      sum_by-take-le (λ (j : Job). j.declared) jobs i,
      declared-less jobs i d (2 ^ 14) low (omega (arith, few, short)),
    )

pub count-fits : (jobs : List Job) (due : List ℕ) (left i : ℕ) (d : Job) → i < length jobs → sum_by (λ (j : Job). j.declared) jobs ≤ SLOT_LIMIT → IsCounted jobs left due → (k : ℕ) → k < length due → slice_index due k + (get_or jobs i d).declared < 2 ^ 32
count-fits jobs due left i d low few is k within =
    omega (
      arith,
      is k within,
      due_by-le (drop left jobs) k,
      sum_by-take-drop (λ (j : Job). j.declared) jobs left,
      declared-less jobs i d (2 ^ 14) low (omega (arith, few)),
    )

-- jobs in the order of their starts
rises : (jobs : List Job) (i n : ℕ) (d e : Job) → StartsRise jobs → i ≤ n → n < length jobs → (get_or jobs i d).est ≤ (get_or jobs n e).est
rises [] i n d e order le low = absurd (omega (arith, low))
rises (j ∷ jobs) zero zero d e order le low = omega arith
rises (j ∷ jobs) zero (suc n) d e order le low = All-from_recursion (λ (other : Job). j.est ≤ other.est) jobs order.0 n e (omega (arith, low))
rises (j ∷ jobs) (suc i) zero d e order le low = absurd (omega (arith, le))
rises (j ∷ jobs) (suc i) (suc n) d e order le low = rises jobs i n d e order.1 (omega (arith, le)) (omega (arith, low))

pub split-at : (jobs : List Job) (left from told : ℕ) (d : Job) → StartsRise jobs → 0 < left → left ≤ length jobs → told ≡ from → (get_or jobs (left - 1) d).est < told → All (λ (j : Job). from ≤ j.est) (drop left jobs) → IsSplit jobs from left
split-at jobs left from told d order some low same early later = record {
  before = λ i e within.
      let short : i < left = omega (arith, length-take left jobs, within) in
      let one = ap (λ (j : Job). j.est) (get_or-take left jobs i e short) in
      omega (arith, one, same, rises jobs i (left - 1) e d order (omega (arith, short)) (omega (arith, some, low)), early);
  later = later;
}

-- one place more of the search for the first least number
pub record IsSearched (numbers : List ℕ) (place best : ℕ) (shortest : List ℕ) : Type 0 where
  pub low : place ≤ length numbers
  pub inside : best < length numbers
  pub from : place < length numbers → place ≤ best
  pub last : place ≡ length numbers → best + 1 ≡ length numbers
  pub least : (k : ℕ) → place ≤ k → k < length numbers → slice_index numbers best ≤ slice_index numbers k
  pub first : (k : ℕ) → place ≤ k → k < best → slice_index numbers best < slice_index numbers k
  pub len : length shortest ≡ length numbers
  pub written : (n : ℕ) → place ≤ n → n < length numbers → IsShortest numbers n (slice_index shortest n)

searched-ahead : (numbers : List ℕ) (place best : ℕ) (shortest : List ℕ) → IsSearched numbers (suc place) best shortest → slice_index numbers best < slice_index numbers place → place < best
searched-ahead numbers place best shortest h less =
    elim (cases_lt (suc place) (length numbers)) [
      | inl inside ↦ omega (arith, h.from inside)
      | inr end ↦
          let last = h.last (omega (arith, h.low, end)) in
          let here : best ≡ place = omega (arith, last, h.low, end) in
          absurd (omega (arith, ap (slice_index numbers) here, less))
    ]

searched-best : (numbers : List ℕ) (place best next : ℕ) (shortest : List ℕ) → IsSearched numbers (suc place) best shortest → next ≡ (if nat_le (slice_index numbers place) (slice_index numbers best) then place else best) → IsShortest numbers place next
searched-best numbers place best next shortest h is =
    elim (cases_lt (slice_index numbers best) (slice_index numbers place)) [
      | inl less ↦
          let same : next ≡ best = is ∙ ap (λ b. if b then place else best) (lt-leb (slice_index numbers place) (slice_index numbers best) less) in
          let ahead = searched-ahead numbers place best shortest h less in
          subst (IsShortest numbers place) (sym same) (record {
            from = omega (arith, ahead);
            within = h.inside;
            least = λ k low high. elim (cases_eq k place) [
              | inl here ↦ omega (arith, ap (slice_index numbers) here, less)
              | inr later ↦ h.least k (omega (arith, later, low)) high
            ];
            first = λ k low high. elim (cases_eq k place) [
              | inl here ↦ omega (arith, ap (slice_index numbers) here, less)
              | inr later ↦ h.first k (omega (arith, later, low)) high
            ];
          })
      | inr more ↦
          let same : next ≡ place = is ∙ ap (λ b. if b then place else best) (le-leb (slice_index numbers place) (slice_index numbers best) more) in
          subst (IsShortest numbers place) (sym same) (record {
            from = omega arith;
            within = omega (arith, h.low);
            least = λ k low high. elim (cases_eq k place) [
              | inl here ↦ omega (arith, ap (slice_index numbers) here)
              | inr later ↦ omega (arith, more, h.least k (omega (arith, later, low)) high)
            ];
            first = λ k low high. absurd (omega (arith, low, high));
          })
    ]

pub searched-step : (numbers : List ℕ) (before place best next : ℕ) (shortest longer : List ℕ) → IsSearched numbers before best shortest → before ≡ suc place → next ≡ (if nat_le (slice_index numbers place) (slice_index numbers best) then place else best) → longer ≡ slice_set shortest place next → IsSearched numbers place next longer
searched-step numbers before place best next shortest longer h at is set =
    let old = subst (λ p. IsSearched numbers p best shortest) at h in
    let one = searched-best numbers place best next shortest old is in
    let inside : place < length shortest = omega (arith, old.len, old.low) in
    record {
      low = omega (arith, old.low);
      inside = one.within;
      from = λ low. one.from;
      last = λ same. absurd (omega (arith, same, old.low));
      least = one.least;
      first = one.first;
      len = ap length set ∙ length-set shortest place next ∙ old.len;
      written = λ n low high. elim (cases_eq n place) [
        | inl here ↦
            let read : slice_index longer n ≡ next = ap (λ xs. slice_index xs n) set ∙ ap (slice_index (slice_set shortest place next)) here ∙ get_or-set_same shortest place next 0 inside in
            subst (λ m. IsShortest numbers m (slice_index longer n)) (sym here) (subst (IsShortest numbers place) (sym read) one)
        | inr other ↦
            let read : slice_index longer n ≡ slice_index shortest n = ap (λ xs. slice_index xs n) set ∙ get_or-set_other shortest place n next 0 other in
            subst (IsShortest numbers n) (sym read) (old.written n (omega (arith, low, other)) high)
      ];
    }

-- the greatest value, with one place more
greatest-step : (f : ℕ → ℕ) (low high value more : ℕ) → low < high → IsGreatest f (suc low) high value → more ≡ max value (f low) → IsGreatest f low high more
greatest-step f low high value more some h is = record {
  bound = λ a from upto. elim (cases_eq a low) [
    | inl here ↦ omega (arith, ap f here, is)
    | inr later ↦ omega (arith, h.bound a (omega (arith, later, from)) upto, is)
  ];
  reached = elim (cases_lt (f low) value) [
    | inr last ↦ inr (low, omega arith, some, omega (arith, is, last))
    | inl before ↦ elim h.reached [
      | inl none ↦ absurd (omega (arith, none, before))
      | inr at ↦ inr (at.0, omega (arith, at.1), at.2, omega (arith, at.3, is, before))
    ]
  ];
}

-- where the front starts before a, what is due of the others is what is due from a on
due_from-split : (jobs : List Job) (a front b : ℕ) → IsSplit jobs a front → due_by (drop front jobs) b ≡ due_from jobs a b
due_from-split jobs a front b split =
    let f = λ (j : Job). if nat_le a j.est && nat_le j.dl b then j.declared else 0 in
    let g = λ (j : Job). if nat_le j.dl b then j.declared else 0 in
    let none = sum_by-none f (take front jobs) (λ i d low. starts_before a (get_or (take front jobs) i d).est (get_or (take front jobs) i d).dl b (get_or (take front jobs) i d).declared (split.before i d low)) in
    let same = sum_by-agree g f (drop front jobs) (λ i d low. starts_at a (get_or (drop front jobs) i d).est (get_or (drop front jobs) i d).dl b (get_or (drop front jobs) i d).declared (split.later i d low)) in
    omega (arith, none, same, sum_by-take-drop f jobs front)
  where
    starts_before : (a est dl b w : ℕ) → est < a → (if nat_le a est && nat_le dl b then w else 0) ≡ 0
    starts_before a est dl b w early = grind (arith, nat_tests)

    starts_at : (a est dl b w : ℕ) → a ≤ est → (if nat_le dl b then w else 0) ≡ (if nat_le a est && nat_le dl b then w else 0)
    starts_at a est dl b w late = grind (arith, nat_tests)

-- the jobs of the first cycle as the search asks for them
abbrev pub AreWithin : ℕ → List Job → Type 0
AreWithin cycle jobs = All (λ (j : Job). (1 ≤ j.dl) × (j.dl ≤ cycle) × (j.est < cycle)) jobs

later-agrees : (cycle b dl w : ℕ) → 1 ≤ dl → dl ≤ cycle → b ≤ 3 * cycle → (if nat_le dl (min (b - cycle) cycle) then w else 0) ≡ (if nat_le (dl + cycle) b then w else 0)
later-agrees cycle b dl w some within end = grind (arith, nat_tests)

third-agrees : (cycle b dl w : ℕ) → 1 ≤ dl → (if nat_le dl (b - 2 * cycle) then w else 0) ≡ (if nat_le (dl + 2 * cycle) b then w else 0)
third-agrees cycle b dl w some = grind (arith, nat_tests)

-- what is due of later cycles, from what is due by each time of one
pub later-is : (jobs : List Job) (cycle b : ℕ) (due : List ℕ) → AreWithin cycle jobs → b ≤ 3 * cycle → ((k : ℕ) → k ≤ cycle → slice_index due k ≡ due_by jobs k) → slice_index due (min (b - cycle) cycle) + slice_index due (b - 2 * cycle) ≡ later_by jobs cycle b
later-is jobs cycle b due within end is =
    let second = sum_by-agree (λ (j : Job). if nat_le j.dl (min (b - cycle) cycle) then j.declared else 0) (λ (j : Job). if nat_le (j.dl + cycle) b then j.declared else 0) jobs (λ i d low.
    let w = within i d low in
    later-agrees cycle b (get_or jobs i d).dl (get_or jobs i d).declared w.0 w.1 end) in
    let third = sum_by-agree (λ (j : Job). if nat_le j.dl (b - 2 * cycle) then j.declared else 0) (λ (j : Job). if nat_le (j.dl + 2 * cycle) b then j.declared else 0) jobs (λ i d low. third-agrees cycle b (get_or jobs i d).dl (get_or jobs i d).declared (within i d low).0) in
    omega (arith, is (min (b - cycle) cycle) (omega arith), is (b - 2 * cycle) (omega (arith, end)), second, third)

-- in the first cycle nothing of later ones is due, and past it all of the first
later-none : (jobs : List Job) (cycle b : ℕ) → AreWithin cycle jobs → b ≤ cycle → later_by jobs cycle b ≡ 0
later-none jobs cycle b within early =
    let second = sum_by-none (λ (j : Job). if nat_le (j.dl + cycle) b then j.declared else 0) jobs (λ i d low. not_yet cycle (get_or jobs i d).dl b (get_or jobs i d).declared (within i d low).0 early) in
    let third = sum_by-none (λ (j : Job). if nat_le (j.dl + 2 * cycle) b then j.declared else 0) jobs (λ i d low. not_yet_third cycle (get_or jobs i d).dl b (get_or jobs i d).declared (within i d low).0 early) in
    omega (arith, second, third)
  where
    not_yet : (cycle dl b w : ℕ) → 1 ≤ dl → b ≤ cycle → (if nat_le (dl + cycle) b then w else 0) ≡ 0
    not_yet cycle dl b w some early = grind (arith, nat_tests)

    not_yet_third : (cycle dl b w : ℕ) → 1 ≤ dl → b ≤ cycle → (if nat_le (dl + 2 * cycle) b then w else 0) ≡ 0
    not_yet_third cycle dl b w some early = grind (arith, nat_tests)

due_from-all : (jobs : List Job) (cycle a b : ℕ) → AreWithin cycle jobs → cycle ≤ b → due_from jobs a b ≡ due_from jobs a cycle
due_from-all jobs cycle a b within late =
    sum_by-agree (λ (j : Job). if nat_le a j.est && nat_le j.dl b then j.declared else 0) (λ (j : Job). if nat_le a j.est && nat_le j.dl cycle then j.declared else 0) jobs (λ i d low. due_either a (get_or jobs i d).est (get_or jobs i d).dl b cycle (get_or jobs i d).declared (within i d low).1 late)
  where
    due_either : (a est dl b cycle w : ℕ) → dl ≤ cycle → cycle ≤ b → (if nat_le a est && nat_le dl b then w else 0) ≡ (if nat_le a est && nat_le dl cycle then w else 0)
    due_either a est dl b cycle w within late = grind (arith, nat_tests)

-- the work of a window, read from the tables
inside-read : (jobs : List Job) (cycle from front b : ℕ) (due later : List ℕ) → AreWithin cycle jobs → length due ≡ cycle + 1 → IsCounted jobs front due → IsSplit jobs from front → slice_index later b ≡ later_by jobs cycle b → (if nat_le b cycle then slice_index due b else slice_index due cycle + slice_index later b) ≡ inside jobs cycle from b
inside-read jobs cycle from front b due later within len counted split is =
    elim (cases_lt cycle b) [
      | inl past ↦
          let test = ap (λ t. if t then slice_index due b else slice_index due cycle + slice_index later b) (lt-leb b cycle past) in
          omega (arith, test, is, counted cycle (omega (arith, len)), due_from-split jobs from front cycle split, due_from-all jobs cycle from b within (omega (arith, past)))
      | inr near ↦
          let test = ap (λ t. if t then slice_index due b else slice_index due cycle + slice_index later b) (le-leb b cycle near) in
          omega (arith, test, counted b (omega (arith, len, near)), due_from-split jobs from front b split, later-none jobs cycle b within near)
    ]

-- the greatest keys so far, of the windows from one start more
pub keyed-step : (jobs : List Job) (cycle before from front n old new : ℕ) (due later : List ℕ) → before ≡ suc from → AreWithin cycle jobs → length due ≡ cycle + 1 → IsCounted jobs front due → IsSplit jobs from front → slice_index later (from + n) ≡ later_by jobs cycle (from + n) → from < cycle → IsGreatest (window_key jobs cycle n) before cycle old → new ≡ max old (key_of cycle (if nat_le (from + n) cycle then slice_index due (from + n) else slice_index due cycle + slice_index later (from + n)) from) → IsGreatest (window_key jobs cycle n) from cycle new
keyed-step jobs cycle before from front n old new due later step within len counted split is low h kept =
    let read = inside-read jobs cycle from front (from + n) due later within len counted split is in
    greatest-step (window_key jobs cycle n) from cycle old new low (subst (λ a. IsGreatest (window_key jobs cycle n) a cycle old) step h) (kept ∙ ap (λ w. max old (key_of cycle w from)) read)

-- every number of a table is small where those in it are
pub small-all : (xs : List ℕ) (m : ℕ) → ((b : ℕ) → b < length xs → slice_index xs b ≤ m) → (b : ℕ) → slice_index xs b ≤ m
small-all [] m small b = omega arith
small-all (x ∷ xs) m small zero = small 0 (omega arith)
small-all (x ∷ xs) m small (suc b) = small-all xs m (λ k low. small (suc k) (omega (arith, low))) b

pub whole-small : (jobs : List Job) (cycle : ℕ) (whole : List ℕ) → sum_by (λ (j : Job). j.declared) jobs ≤ cycle → cycle ≤ SLOT_LIMIT → length whole ≡ cycle + 1 → ((b : ℕ) → b ≤ cycle → slice_index whole b ≡ due_by jobs b) → (b : ℕ) → slice_index whole b ≤ SLOT_LIMIT
whole-small jobs cycle whole few short len is =
    small-all whole SLOT_LIMIT (λ b low. omega (arith, is b (omega (arith, len, low)), due_by-le jobs b, few, short))

pub counted-small : (jobs : List Job) (front cycle : ℕ) (due : List ℕ) → sum_by (λ (j : Job). j.declared) jobs ≤ cycle → cycle ≤ SLOT_LIMIT → IsCounted jobs front due → (b : ℕ) → slice_index due b ≤ SLOT_LIMIT
counted-small jobs front cycle due few short is =
    small-all due SLOT_LIMIT (λ b low. omega (arith, is b low, due_by-le (drop front jobs) b, sum_by-take-drop (λ (j : Job). j.declared) jobs front, few, short))

-- the table of later cycles
pub mapped-length : (f : ℕ → ℕ) (table : List ℕ) (n : ℕ) → table ≡ map f (range_with_len 0 n) → length table ≡ n
mapped-length f table n is = ap length is ∙ length-map-range_with_len f 0 n

pub mapped-at : (f : ℕ → ℕ) (table : List ℕ) (n b : ℕ) → table ≡ map f (range_with_len 0 n) → b < n → slice_index table b ≡ f b
mapped-at f table n b is low = ap (λ xs. get_or xs b 0) is ∙ get_or-map-range_with_len f 0 n b b 0 low (zero-add b)

abbrev pub later_of : List ℕ → ℕ → ℕ → ℕ
later_of whole cycle b = slice_index whole (min (b - cycle) cycle) + slice_index whole (b - 2 * cycle)

pub later-small : (whole later : List ℕ) (cycle n : ℕ) → later ≡ map (later_of whole cycle) (range_with_len 0 n) → ((b : ℕ) → slice_index whole b ≤ SLOT_LIMIT) → (b : ℕ) → slice_index later b ≤ 2 * SLOT_LIMIT
later-small whole later cycle n is small =
    small-all later (2 * SLOT_LIMIT) (λ b low. omega (arith, mapped-at (later_of whole cycle) later n b is (omega (arith, mapped-length (later_of whole cycle) later n is, low)), small (min (b - cycle) cycle), small (b - 2 * cycle)))

pub later-reads : (jobs : List Job) (whole later : List ℕ) (cycle b : ℕ) → AreWithin cycle jobs → later ≡ map (later_of whole cycle) (range_with_len 0 (3 * cycle + 1)) → ((k : ℕ) → k ≤ cycle → slice_index whole k ≡ due_by jobs k) → b ≤ 3 * cycle → slice_index later b ≡ later_by jobs cycle b
later-reads jobs whole later cycle b within is due end =
    mapped-at (later_of whole cycle) later (3 * cycle + 1) b is (omega (arith, end)) ∙ later-is jobs cycle b whole within end due

-- the places of a range that pass, with one place more
pub filter-more : (p : ℕ → Bool) (a n place : ℕ) → a + n ≡ place → filter p (range_with_len a (n + 1)) ≡ filter p (range_with_len a n) ++ cond (p place) (place ∷ []) []
filter-more p a n place at =
    filter-parts p a place n 1 (n + 1) (sym at) refl ∙ ap (λ xs. filter p (range_with_len a n) ++ xs) (filter-one p place)
  where
    filter-one : (p : ℕ → Bool) (k : ℕ) → filter p (range_with_len k 1) ≡ cond (p k) (k ∷ []) []
    filter-one p k = refl

pub flat-step : (p : ℕ → Bool) (place : ℕ) (ends longer : List ℕ) (b : Bool) → 1 ≤ place → ends ≡ filter p (range_with_len 1 (place - 1)) → p place ≡ b → longer ≡ ends ++ cond b (place ∷ []) [] → longer ≡ filter p (range_with_len 1 (place + 1 - 1))
flat-step p place ends longer b some is passes push =
    let n : ℕ = place - 1 in
    let same : n + 1 ≡ place + 1 - 1 = omega arith in
    let more = filter-more p 1 n place (omega arith) in
    push
    ∙ ap (λ xs. xs ++ cond b (place ∷ []) []) is
    ∙ ap (λ t. filter p (range_with_len 1 n) ++ cond t (place ∷ []) []) (sym passes)
    ∙ sym more
    ∙ ap (λ m. filter p (range_with_len 1 m)) same
