-- Nanoseconds that the slots of a job give it.
use Rattle.std.proofs.Common.{◌≡◌, ℕ, suc, ◌+◌, ◌-◌, ◌*◌, ◌≤◌, ◌<◌, min, Bool, true, false, cond, ◌||◌, nat_le, List, [], ◌∷◌, refl, sym, ap, ◌∙◌, inl, inr, arith}
use Rattle.std.specs.Prelude.{sum_by}
use Rattle.std.specs.List.{range_with_len}
use Rattle.std.proofs.Math.Nat.{add-mul, mul-le-mul_right, min-le_right}
use Rattle.std.proofs.lemmas.Bool.{both_ways, cases_lt, leb-true, or_cases}
use Rattle.std.proofs.lemmas.List.Sums.{sum_by-append}
use Rattle.slot_core.specs.declared.jobs.Key.{Key}
use Rattle.slot_core.specs.declared.events.What.{What}
use Rattle.slot_core.specs.declared.events.What.TheVariants.{Run}
use Rattle.slot_core.specs.Offline.Keys.{same_key}
use Rattle.slot_core.specs.Offline.Windows.{raw_release, raw_deadline}
use Rattle.slot_core.specs.Runs.Histories.{History, Follows, time_of, executed, is_freed}
use Rattle.slot_facts.proofs.Choice.Earliest.{same_from_key}
use Rattle.slot_facts.proofs.Legal.Rows.{time-rises}
use Rattle.slot_facts.proofs.Lists.RangeFilters.{range-parts}
use Rattle.clock_laws.specs.Processor.{Processor, is_of, nanos_in, nanos_between}
use Rattle.clock_laws.specs.Service.{SlotsGiveTime}

-- 1 where the nanosecond is the job's, else 0
abbrev pub own : Processor → Key → ℕ → ℕ
own has key t = cond (is_of key (has t)) 1 0

-- those of one stretch and those of the next
pub nanos-parts : (has : Processor) (key : Key) (from middle m n : ℕ) → middle ≡ from + m → nanos_in has key from (m + n) ≡ nanos_in has key from m + nanos_in has key middle n
nanos-parts has key from middle m n is =
    ap (λ (ts : List ℕ). sum_by (own has key) ts) (range-parts from middle m n is)
    ∙ sum_by-append (own has key) (range_with_len from m) (range_with_len middle n)

-- a wider stretch has no fewer
pub nanos-wider : (has : Processor) (key : Key) (from to earlier later : ℕ) → earlier ≤ from → to ≤ later → nanos_between has key from to ≤ nanos_between has key earlier later
nanos-wider has key from to earlier later before after =
    elim (cases_lt from to) [
      | inr none ↦
          let empty : to - from ≡ 0 = omega arith in
          rw empty (omega arith)
      | inl some ↦
          let a : ℕ = from - earlier in
          let b : ℕ = to - from in
          let c : ℕ = later - to in
          let all : later - earlier ≡ a + (b + c) = omega arith in
          let front = nanos-parts has key earlier from a (b + c) (omega arith) in
          let back = nanos-parts has key from to b c (omega arith) in
          rw all (omega (arith, front, back))
    ]

-- a run of the job lies between two slots and gives it all but the overhead
pub record IsGiven (slot overhead a b : ℕ) (has : Processor) (key : Key) (earlier : History) : Type 0 where
  pub starts : a ≤ time_of earlier
  pub ends : time_of earlier < b
  pub gets : slot ≤ nanos_in has key (time_of earlier * slot) slot + overhead

-- so do all of a history
abbrev pub RunsInside : ℕ → ℕ → ℕ → ℕ → Processor → Key → History → Type 0
RunsInside slot overhead a b has key h =
    (earlier : History) → Follows h (Run key) earlier → IsGiven slot overhead a b has key earlier

inside-before : (slot overhead a b : ℕ) (has : Processor) (key : Key) (what : What) (h : History) → RunsInside slot overhead a b has key (what ∷ h) → RunsInside slot overhead a b has key h
inside-before slot overhead a b has key what h inside =
    λ earlier follows. inside earlier (what ∷ follows.0, ap (λ (l : History). what ∷ l) follows.1)

-- one slot more, of the job or of another
nanos-run : (slot overhead a b t count : ℕ) (has : Processor) (key k : Key) (h : History) → overhead ≤ slot → t ≡ time_of h → (same_key key k ≡ true → IsGiven slot overhead a b has key h) → count * (slot - overhead) ≤ nanos_between has key (a * slot) (min t b * slot) → (same : Bool) → same_key key k ≡ same
    → cond same (suc count) count * (slot - overhead) ≤ nanos_between has key (a * slot) (min (suc t) b * slot)
nanos-run slot overhead a b t count has key k h le is given before false other =
    let later : min t b ≤ min (suc t) b = omega arith in
    omega (arith, before, nanos-wider has key (a * slot) (min t b * slot) (a * slot) (min (suc t) b * slot) (omega arith) (mul-le-mul_right slot later))
nanos-run slot overhead a b t count has key k h le is given before true same =
    let run = given same in
    let gets : slot ≤ nanos_in has key (t * slot) slot + overhead = rw is run.gets in
    let now : min t b ≡ t = omega (arith, run.ends) in
    let next : min (suc t) b ≡ t + 1 = omega (arith, run.ends) in
    let worth : ℕ = slot - overhead in
    let one : suc count ≡ count + 1 = omega arith in
    let end : (t + 1) * slot ≡ t * slot + slot = omega (arith, add-mul t 1 slot) in
    let from : a * slot ≤ t * slot = mul-le-mul_right slot (omega (arith, run.starts)) in
    let length : (t + 1) * slot - a * slot ≡ (t * slot - a * slot) + slot = omega arith in
    let parts = nanos-parts has key (a * slot) (t * slot) (t * slot - a * slot) slot (omega arith) in
    let so_far : count * worth ≤ nanos_in has key (a * slot) (t * slot - a * slot) = rw now at before in
    rw (next, one, length) (omega (arith, parts, so_far, gets, add-mul count 1 worth))

-- the slots that a job has run gave it as many nanoseconds, between the slots in which it may run
pub nanos-executed : (slot overhead a b : ℕ) (has : Processor) (key : Key) (h : History) → overhead ≤ slot → RunsInside slot overhead a b has key h → executed key h * (slot - overhead) ≤ nanos_between has key (a * slot) (min (time_of h) b * slot)
nanos-executed slot overhead a b has key [] le inside = omega arith
nanos-executed slot overhead a b has key (Run k ∷ h) le inside =
    let before = nanos-executed slot overhead a b has key h le (inside-before slot overhead a b has key (Run k) h inside) in
    nanos-run slot overhead a b (time_of h) (executed key h) has key k h le refl
    (λ same. inside h ([], ap (λ (q : Key). Run q ∷ h) (sym (same_from_key key k same))))
    before (same_key key k) refl
nanos-executed slot overhead a b has key (what ∷ h) le inside =
    let before = nanos-executed slot overhead a b has key h le (inside-before slot overhead a b has key what h inside) in
    let later : min (time_of h) b ≤ min (time_of (what ∷ h)) b = omega (arith, time-rises what h) in
    omega (arith, before, nanos-wider has key (a * slot) (min (time_of h) b * slot) (a * slot) (min (time_of (what ∷ h)) b * slot) (omega arith) (mul-le-mul_right slot later))

-- a job that has ended and was not ended early has run its slots
pub ran-ended : (declared : ℕ) (key : Key) (h : History) → (nat_le declared (executed key h) || is_freed key h) ≡ true → is_freed key h ≡ false → declared ≤ executed key h
ran-ended declared key h ended kept =
    elim (or_cases (nat_le declared (executed key h)) (is_freed key h) ended) [
      | inl enough ↦ leb-true declared (executed key h) enough
      | inr freed ↦ absurd (both_ways (is_freed key h) kept freed)
    ]

pub slots_give_time : SlotsGiveTime
slots_give_time set cycle slot overhead has h job le served given listed due kept =
    let key = job.key in
    let a = raw_release set job in
    let b = raw_deadline set job in
    let ran = ran-ended job.declared key h (served.in_time job [] h listed refl due) kept in
    let inside : RunsInside slot overhead a b has key h = λ earlier follows.
    let within = served.inside job earlier listed follows in
    record {
      starts = omega (arith, within.0, within.1);
      ends = omega (arith, within.2, within.3);
      gets = given key earlier follows;
    } in
    let got = nanos-executed slot overhead a b has key h le inside in
    let most = mul-le-mul_right slot (min-le_right (time_of h) b) in
    omega (arith, mul-le-mul_right (slot - overhead) ran, got, nanos-wider has key (a * slot) (min (time_of h) b * slot) (a * slot) (b * slot) (omega arith) most)
