-- The need of an offer grows at the deadlines of jobs and where sporadic demand rises alone.
use Rattle.std.proofs.Common.{◌≡◌, ℕ, zero, suc, ◌+◌, ◌-◌, ◌<◌, ◌≤◌, Bool, true, false, cond, List, Option, Some, None, refl, sym, ap, ◌∙◌, ⊎_elim, arith}
use Rattle.std.specs.Prelude.{find}
use Rattle.std.specs.List.{range_with_len}
use Rattle.std.specs.Option.{option_map}
use Rattle.std.proofs.lemmas.Bool.{cases_lt, lt-ltb, le-ltb}
use Rattle.slot_core.specs.declared.jobs.Job.{Job}
use Rattle.slot_core.specs.declared.jobs.Evidence.{Evidence}
use Rattle.slot_core.specs.declared.tasks.Sporadic.{Sporadic}
use Rattle.slot_core.specs.Feasibility.Sporadics.{sporadic_demand}
use Rattle.slot_core.specs.Runs.Answers.{evidence_at}
use Rattle.slot_core.specs.Runs.Demand.{is_overloaded, work_by}
use Rattle.trace_verify.specs.Offers.{offer_scene}

-- a search over a range finds nothing where nothing passes
pub find-none : (p : ℕ → Bool) (a n : ℕ) → ((y : ℕ) → a ≤ y → y < a + n → p y ≡ false) → find p (range_with_len a n) ≡ None
find-none p a zero none = refl
find-none p a (suc n) none =
    rw (none a (omega arith) (omega arith)) (find-none p (a + 1) n (λ y from below. none y (omega arith) (omega arith)))

-- and what passes first
pub find-first : (p : ℕ → Bool) (a n x : ℕ) → a ≤ x → x < a + n → ((y : ℕ) → a ≤ y → y < x → p y ≡ false) → p x ≡ true → find p (range_with_len a n) ≡ Some x
find-first p a zero x from below before passes = absurd (omega arith)
find-first p a (suc n) x from below before passes =
    ⊎_elim
    (λ (less : a < x). rw (before a (omega arith) less) (find-first p (a + 1) n x (omega arith) (omega arith) (λ y low high. before y (omega arith) high) passes))
    (λ (same : x ≤ a).
    let is : a ≡ x = omega arith in
    let here : p a ≡ true = ap p is ∙ passes in
    rw here (ap Some is))
    (cases_lt a x)

-- what fails before a time is passed
find-later : (p : ℕ → Bool) (a n b : ℕ) → a ≤ b → ((y : ℕ) → a ≤ y → y < b → p y ≡ false) → find p (range_with_len a n) ≡ find p (range_with_len b (a + n - b))
find-later p a zero b later none =
    let empty : a + zero - b ≡ 0 = omega arith in
    sym (ap (λ m. find p (range_with_len b m)) empty)
find-later p a (suc n) b later none =
    ⊎_elim
    (λ (less : a < b).
    let count : a + 1 + n - b ≡ a + suc n - b = omega arith in
    rw (none a (omega arith) less) (find-later p (a + 1) n b (omega arith) (λ y low high. none y (omega arith) high) ∙ ap (λ m. find p (range_with_len b m)) count))
    (λ (same : b ≤ a).
    let is : a ≡ b = omega arith in
    let count : suc n ≡ a + suc n - b = omega arith in
    ap (find p) (ap (λ m. range_with_len a m) count ∙ ap (λ m. range_with_len m (a + suc n - b)) is))
    (cases_lt a b)

pub find-from : (p : ℕ → Bool) (from end start : ℕ) → from ≤ start → ((y : ℕ) → from ≤ y → y < start → p y ≡ false) → find p (range_with_len from (end + 1 - from)) ≡ find p (range_with_len start (end + 1 - start))
find-from p from end start later none =
    let count : from + (end + 1 - from) - start ≡ end + 1 - start = omega arith in
    find-later p from (end + 1 - from) start later none ∙ ap (λ m. find p (range_with_len start m)) count

-- what is found first in a range is found first in a longer one
pub found-longer : {X : Type 0} (p : ℕ → Bool) (f : ℕ → X) (a n m : ℕ) (x : X) → n ≤ m → Some x ≡ option_map f (find p (range_with_len a n)) → Some x ≡ option_map f (find p (range_with_len a m))
found-longer p f a zero m x le is = absurd (cc is)
found-longer p f a (suc n) zero x le is = absurd (omega arith)
found-longer {X = X} p f a (suc n) (suc m) x le is = by_test (p a) is (found-longer p f (a + 1) n m x (omega arith))
  where
    by_test : (b : Bool) → Some x ≡ option_map f (cond b (Some a) (find p (range_with_len (a + 1) n))) → (Some x ≡ option_map f (find p (range_with_len (a + 1) n)) → Some x ≡ option_map f (find p (range_with_len (a + 1) m))) → Some x ≡ option_map f (cond b (Some a) (find p (range_with_len (a + 1) m)))
    by_test true here later = here
    by_test false here later = later here

-- and where nothing is found in a range, nothing in it passes
pub none-found : {X : Type 0} (p : ℕ → Bool) (f : ℕ → X) (a n y : ℕ) → None ≡ option_map f (find p (range_with_len a n)) → a ≤ y → y < a + n → p y ≡ false
none-found p f a zero y is low high = absurd (omega arith)
none-found p f a (suc n) y is low high = by_test (p a) refl is (λ rest later. none-found p f (a + 1) n y rest later (omega arith))
  where
    by_test : (b : Bool) → p a ≡ b → None ≡ option_map f (cond b (Some a) (find p (range_with_len (a + 1) n))) → (None ≡ option_map f (find p (range_with_len (a + 1) n)) → a + 1 ≤ y → p y ≡ false) → p y ≡ false
    by_test true here is later = absurd (cc is)
    by_test false here is later =
        ⊎_elim
        (λ (less : a < y). later is (omega arith))
        (λ (same : y ≤ a).
        let at : y ≡ a = omega arith in
        ap p at ∙ here)
        (cases_lt a y)

module _ (sporadics : List Sporadic) (nexts : List ℕ) (now slots : ℕ) (jobs : List Job) where
  -- more is needed by the time than there are slots
  abbrev short : ℕ → Bool
  short = is_overloaded sporadics (offer_scene now jobs nexts) slots now

  -- what sporadic arrivals need
  abbrev demand : ℕ → ℕ
  demand y = sporadic_demand sporadics nexts now y

  -- a time is not short where the need fits the slots up to an earlier one
  pub not_short : (y x need : ℕ) → slots + (work_by jobs y + demand y) ≤ need → need ≤ x - now → x ≤ y → short y ≡ false
  not_short y x need is fits later = le-ltb (y - now) (slots + (work_by jobs y + demand y)) (omega arith)

  -- a time is short where the need is above the slots
  pub is_short : (x need : ℕ) → slots + (work_by jobs x + demand x) ≡ need → x - now < need → short x ≡ true
  is_short x need is above = lt-ltb (x - now) (slots + (work_by jobs x + demand x)) (omega arith)

  -- the evidence at the first short time
  pub evidence-found : (from end x need : ℕ) → from ≤ x → x ≤ end → ((y : ℕ) → from ≤ y → y < x → short y ≡ false) → slots + (work_by jobs x + demand x) ≡ need → x - now < need → ◌≡◌ {A = Option Evidence} (Some (record { until = x; need = need; room = x - now })) (option_map (evidence_at sporadics (offer_scene now jobs nexts) slots) (find short (range_with_len from (end + 1 - from))))
  evidence-found from end x need low within before is above =
      let found = find-first short from (end + 1 - from) x low (omega arith) before (is_short x need is above) in
      rw found (ap (λ n. Some (record { until = x; need = n; room = x - now })) (sym is))

  -- and none where none is
  pub evidence-none : (from end x : ℕ) → end < x → ((y : ℕ) → from ≤ y → y < x → short y ≡ false) → ◌≡◌ {A = Option Evidence} None (option_map (evidence_at sporadics (offer_scene now jobs nexts) slots) (find short (range_with_len from (end + 1 - from))))
  evidence-none from end x past before =
      rw (find-none short from (end + 1 - from) (λ y low high. before y low (omega arith))) refl
