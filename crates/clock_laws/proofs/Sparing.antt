-- A processor that gives each slot no more than it has to carries its history, and gives exactly what the slots are worth.
use Rattle.std.proofs.Common.{◌≡◌, ℕ, zero, suc, ◌+◌, ◌-◌, ◌*◌, ◌/◌, ◌%◌, ◌≤◌, ◌<◌, Bool, true, false, cond, ◌==◌, nat_lt, [], ◌∷◌, ◌++◌, Some, None, refl, sym, ap, ◌∙◌, inl, inr, arith}
use Rattle.std.specs.Prelude.{sum_by, count_by}
use Rattle.std.specs.List.{range_with_len}
use Rattle.std.proofs.Math.Nat.{add-mul}
use Rattle.std.proofs.lemmas.Bool.{cases_lt, eq-eqb, eqb-true, ne_eqb, lt-ltb, le-ltb}
use Rattle.std.proofs.lemmas.List.Sums.{sum_by-append, sum_by-cons}
use Rattle.std.proofs.lemmas.Nat.{div-mul-add, mod-mul-add}
use Rattle.slot_core.specs.declared.jobs.Key.{Key}
use Rattle.slot_core.specs.declared.events.What.{What}
use Rattle.slot_core.specs.declared.events.What.TheVariants.{Run, Idle}
use Rattle.slot_core.specs.Offline.Keys.{same_key, key_order}
use Rattle.slot_core.specs.Runs.Histories.{History, Follows, time_of, executed}
use Rattle.slot_facts.proofs.Choice.Earliest.{equal_itself}
use Rattle.slot_facts.proofs.Demand.Arrivals.{count_range-is}
use Rattle.slot_facts.proofs.Legal.Known.{time-earlier}
use Rattle.slot_facts.proofs.Lists.RangeFilters.{range-more}
use Rattle.clock_units.proofs.Roundings.{up-le}
use Rattle.clock_laws.specs.Processor.{is_of, nanos_in}
use Rattle.clock_laws.specs.Exact.{ran_in, sparing, EveryHistoryIsCarried, SparingIsExact, FewerSlotsAreTooFew}
use Rattle.clock_laws.proofs.Nanos.{nanos-parts}

-- the slots up to a time, of those that ran before it, do not change by the slot at it
ran_in-earlier : (key : Key) (h : History) (s : ℕ) → s < time_of h → ran_in (Run key ∷ h) s ≡ ran_in h s
ran_in-earlier key h s before =
    let other : (s == time_of h) ≡ false = ne_eqb s (time_of h) (λ same. omega arith) in
    rw other refl

-- what follows a run is later
time-run : (later earlier : History) (key : Key) → time_of earlier < time_of (later ++ Run key ∷ earlier)
time-run later earlier key = omega (arith, time-earlier later (Run key ∷ earlier))

-- the job of a run is found in its slot
ran_in-run : (key : Key) (later earlier : History) → ran_in (later ++ Run key ∷ earlier) (time_of earlier) ≡ Some key
ran_in-run key [] earlier = rw (eq-eqb (time_of earlier) (time_of earlier) refl) refl
ran_in-run key (Run k ∷ later) earlier =
    ran_in-earlier k (later ++ Run key ∷ earlier) (time_of earlier) (time-run later earlier key) ∙ ran_in-run key later earlier
ran_in-run key (what ∷ later) earlier = ran_in-run key later earlier

-- a slot in which a job is found has its run
record RanIn (h : History) (s : ℕ) (key : Key) : Type 0 where
  pub earlier : History
  pub follows : Follows h (Run key) earlier
  pub at : time_of earlier ≡ s

RanIn-later : (what : What) (h : History) (s : ℕ) (key : Key) → RanIn h s key → RanIn (what ∷ h) s key
RanIn-later what h s key ran =
    record { earlier = ran.earlier; follows = (what ∷ ran.follows.0, ap (λ (l : History). what ∷ l) ran.follows.1); at = ran.at }

RanIn-from_ran_in : (h : History) (s : ℕ) (key : Key) → ran_in h s ≡ Some key → RanIn h s key
RanIn-from_ran_in [] s key ran = cc
RanIn-from_ran_in (Run k ∷ h) s key ran = by_slot (s == time_of h) refl (λ more. RanIn-later (Run k) h s key (RanIn-from_ran_in h s key more)) ran
  where
    by_slot : (b : Bool) → (s == time_of h) ≡ b → (ran_in h s ≡ Some key → RanIn (Run k ∷ h) s key) → cond b (Some k) (ran_in h s) ≡ Some key → RanIn (Run k ∷ h) s key
    by_slot false other more ran = more ran
    by_slot true here more ran =
        let same : k ≡ key = cc in
        record { earlier = h; follows = ([], ap (λ (q : Key). Run q ∷ h) same); at = sym (eqb-true s (time_of h) here) }
RanIn-from_ran_in (what ∷ h) s key ran = RanIn-later what h s key (RanIn-from_ran_in h s key ran)

-- a nanosecond of a slot, by its place in the slot
record InSlot (slot s x b : ℕ) : Type 0 where
  pub place : x % slot ≡ b
  pub slot_is : x / slot ≡ s

InSlot-at : (slot s x b : ℕ) → x ≡ s * slot + b → b < slot → InSlot slot s x b
InSlot-at slot s x b is below =
    record { place = rw is (mod-mul-add s slot b below); slot_is = rw is (div-mul-add s slot b below) }

-- in a slot the sparing processor has the job of the slot after the overhead, and none before
sparing-none : (slot overhead s x b : ℕ) (h : History) → x ≡ s * slot + b → b < slot → b < overhead → sparing slot overhead h x ≡ None
sparing-none slot overhead s x b h is below early =
    let at = InSlot-at slot s x b is below in
    let test : nat_lt (x % slot) overhead ≡ true = lt-ltb (x % slot) overhead (omega (arith, at.place)) in
    rw test refl

sparing-job : (slot overhead s x b : ℕ) (h : History) → x ≡ s * slot + b → b < slot → overhead ≤ b → sparing slot overhead h x ≡ ran_in h s
sparing-job slot overhead s x b h is below late =
    let at = InSlot-at slot s x b is below in
    let test : nat_lt (x % slot) overhead ≡ false = le-ltb (x % slot) overhead (omega (arith, at.place)) in
    rw (test, at.slot_is) refl

-- what a slot gives to a job: all but the overhead where the job runs in it, else nothing
sparing-slot : (slot overhead s : ℕ) (h : History) (key : Key) → overhead ≤ slot → nanos_in (sparing slot overhead h) key (s * slot) slot ≡ cond (is_of key (ran_in h s)) (slot - overhead) 0
sparing-slot slot overhead s h key less =
    let has = sparing slot overhead h in
    let p : ℕ → Bool = λ x. is_of key (has x) in
    let worth : ℕ = slot - overhead in
    let start : ℕ = s * slot + overhead in
    let whole : slot ≡ overhead + worth = omega arith in
    let front : count_by p (range_with_len (s * slot) overhead) ≡ 0 = count_range-is p (s * slot) overhead 0 (omega arith) (λ m low high. absurd (omega arith)) (λ m low high.
    ap (is_of key) (sparing-none slot overhead s m (m - s * slot) h (omega arith) (omega arith) (omega arith))) in
    let parts = nanos-parts has key (s * slot) start overhead worth refl in
    ap (λ n. nanos_in has key (s * slot) n) whole ∙ parts ∙ ap (λ n. n + nanos_in has key start worth) front ∙ rest start worth (is_of key (ran_in h s)) refl (λ m low high. ap (is_of key) (sparing-job slot overhead s m (m - s * slot) h (omega arith) (omega arith) (omega arith)))
  where
    rest : (start worth : ℕ) (b : Bool) → is_of key (ran_in h s) ≡ b → ((m : ℕ) → start ≤ m → m < start + worth → is_of key (sparing slot overhead h m) ≡ is_of key (ran_in h s)) → 0 + nanos_in (sparing slot overhead h) key start worth ≡ cond b worth 0
    rest start worth true e same =
        omega (arith, count_range-is (λ x. is_of key (sparing slot overhead h x)) start worth worth (omega arith) (λ m low high. same m low high ∙ e) (λ m low high. absurd (omega arith)))
    rest start worth false e same =
        omega (arith, count_range-is (λ x. is_of key (sparing slot overhead h x)) start worth 0 (omega arith) (λ m low high. absurd (omega arith)) (λ m low high. same m (omega arith) high ∙ e))

-- one slot more
slot-more : (b : Bool) (n worth : ℕ) → n * worth + cond b worth 0 ≡ (n + cond b 1 0) * worth
slot-more true n worth = omega (arith, add-mul n 1 worth)
slot-more false n worth = omega (arith, add-mul n 0 worth)

count-more : (q : ℕ → Bool) (n : ℕ) → count_by q (range_with_len 0 (suc n)) ≡ count_by q (range_with_len 0 n) + cond (q n) 1 0
count-more q n =
    let one : ℕ → ℕ = λ m. cond (q m) 1 0 in
    let next : suc n ≡ n + 1 = omega arith in
    ap (λ k. sum_by one (range_with_len 0 k)) next
    ∙ ap (sum_by one) (range-more n)
    ∙ omega (arith, sum_by-append one (range_with_len 0 n) (n ∷ []), sum_by-cons one n [])

-- up to a slot, a job gets what the slots are worth in which it runs
nanos-slots : (slot overhead : ℕ) (h : History) (key : Key) (n : ℕ) → overhead ≤ slot → nanos_in (sparing slot overhead h) key 0 (n * slot) ≡ count_by (λ s. is_of key (ran_in h s)) (range_with_len 0 n) * (slot - overhead)
nanos-slots slot overhead h key zero less =
    let none : 0 * slot ≡ 0 = omega arith in
    rw none (omega arith)
nanos-slots slot overhead h key (suc n) less =
    let has = sparing slot overhead h in
    let q : ℕ → Bool = λ s. is_of key (ran_in h s) in
    let worth : ℕ = slot - overhead in
    let one : suc n ≡ n + 1 = omega arith in
    let more : suc n * slot ≡ n * slot + slot = ap (λ k. k * slot) one ∙ omega (arith, add-mul n 1 slot) in
    let parts = nanos-parts has key 0 (n * slot) (n * slot) slot (omega arith) in
    let front = nanos-slots slot overhead h key n less in
    let back = sparing-slot slot overhead n h key less in
    let sum : nanos_in has key 0 (n * slot) + nanos_in has key (n * slot) slot ≡ count_by q (range_with_len 0 n) * worth + cond (q n) worth 0 = omega (arith, front, back) in
    ap (nanos_in has key 0) more ∙ parts ∙ sum ∙ slot-more (q n) (count_by q (range_with_len 0 n)) worth ∙ ap (λ k. k * worth) (sym (count-more q n))

-- no job is found in a slot from the time on
ran_in-none : (h : History) (s : ℕ) → time_of h ≤ s → ran_in h s ≡ None
ran_in-none [] s late = refl
ran_in-none (Run k ∷ h) s late =
    let other : (s == time_of h) ≡ false = ne_eqb s (time_of h) (λ same. omega arith) in
    rw other (ran_in-none h s (omega arith))
ran_in-none (Idle ∷ h) s late = ran_in-none h s (omega arith)
ran_in-none (what ∷ h) s late = ran_in-none h s late

-- tests that agree in a range count alike
count-same : (p q : ℕ → Bool) (a n : ℕ) → ((m : ℕ) → a ≤ m → m < a + n → p m ≡ q m) → count_by p (range_with_len a n) ≡ count_by q (range_with_len a n)
count-same p q a zero same = refl
count-same p q a (suc n) same =
    let here : ◌≡◌ {A = ℕ} (cond (p a) 1 0) (cond (q a) 1 0) = ap (λ b. cond b 1 0) (same a (omega arith) (omega arith)) in
    let rest = count-same p q (a + 1) n (λ m low high. same m (omega arith) (omega arith)) in
    omega (arith, here, rest, sum_by-cons (λ m. cond (p m) 1 0) a (range_with_len (a + 1) n), sum_by-cons (λ m. cond (q m) 1 0) a (range_with_len (a + 1) n))

-- the slots in which a job is found are those that it has run
count-executed : (key : Key) (h : History) → count_by (λ s. is_of key (ran_in h s)) (range_with_len 0 (time_of h)) ≡ executed key h
count-executed key [] = refl
count-executed key (Run k ∷ h) =
    let q : ℕ → Bool = λ s. is_of key (ran_in (Run k ∷ h) s) in
    let t : ℕ = time_of h in
    let earlier = count-same q (λ s. is_of key (ran_in h s)) 0 t (λ m low high. ap (is_of key) (ran_in-earlier k h m (omega arith))) in
    let last : q t ≡ same_key key k = rw (eq-eqb t t refl) refl in
    count-more q t ∙ ap (λ n. n + cond (q t) 1 0) (earlier ∙ count-executed key h) ∙ ap (λ b. executed key h + cond b 1 0) last ∙ by_key (same_key key k)
  where
    by_key : (b : Bool) → executed key h + cond b 1 0 ≡ cond b (suc (executed key h)) (executed key h)
    by_key true = omega arith
    by_key false = omega arith
count-executed key (Idle ∷ h) =
    let q : ℕ → Bool = λ s. is_of key (ran_in h s) in
    let last : q (time_of h) ≡ false = ap (is_of key) (ran_in-none h (time_of h) (omega arith)) in
    count-more q (time_of h) ∙ ap (λ b. count_by q (range_with_len 0 (time_of h)) + cond b 1 0) last ∙ omega (arith, count-executed key h)
count-executed key (what ∷ h) = count-executed key h

pub sparing_is_exact : SparingIsExact
sparing_is_exact slot overhead h key some less =
    nanos-slots slot overhead h key (time_of h) less ∙ ap (λ n. n * (slot - overhead)) (count-executed key h)

pub every_history_is_carried : EveryHistoryIsCarried
every_history_is_carried slot overhead h some less = record {
  gives = λ key earlier follows.
      let s = time_of earlier in
      let ran : ran_in h s ≡ Some key = ap (λ (l : History). ran_in l s) follows.1 ∙ ran_in-run key follows.0 earlier in
      let its : is_of key (ran_in h s) ≡ true = ap (is_of key) ran ∙ equal_itself (key_order key) in
      let got : nanos_in (sparing slot overhead h) key (s * slot) slot ≡ slot - overhead = sparing-slot slot overhead s h key less ∙ ap (λ b. cond b (slot - overhead) 0) its in
      omega (arith, got);
  only = λ key x now has. by_place key x (nat_lt (x % slot) overhead) refl has;
}
  where
    by_place : (key : Key) (x : ℕ) (b : Bool) → nat_lt (x % slot) overhead ≡ b → cond b None (ran_in h (x / slot)) ≡ Some key → (earlier : History) × Follows h (Run key) earlier × (time_of earlier ≡ x / slot)
    by_place key x true e has = cc
    by_place key x false e has = let ran = RanIn-from_ran_in h (x / slot) key has in (ran.earlier, ran.follows, ran.at)

pub fewer_slots_are_too_few : FewerSlotsAreTooFew
fewer_slots_are_too_few slot overhead wcet h key below few =
    let worth : ℕ = slot - overhead in
    let exact = sparing_is_exact slot overhead h key (omega arith) (omega arith) in
    elim (cases_lt (executed key h * worth) wcet) [
      | inl less ↦ omega (arith, exact, less)
      | inr enough ↦ absurd (omega (arith, few, up-le worth (executed key h) wcet (omega arith) enough))
    ]
