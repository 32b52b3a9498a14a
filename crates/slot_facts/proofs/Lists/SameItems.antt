-- Lists that have the same items in any order, by the sums over them.
use Rattle.std.proofs.Common.{◌≡◌, ℕ, ◌+◌, ◌-◌, ◌≤◌, ◌↔◌, Bool, true, cond, not, ◌==◌, List, [], ◌∷◌, ◌++◌, map, filter, drop, nat_cmp, is_eq, refl, sym, ap, subst, ◌∙◌, inl, inr, arith}
use Rattle.std.specs.Prelude.{sum_by, nat_lt, IsPermutation}
use Rattle.std.specs.Cmp.{Equal-is}
use Rattle.std.specs.Cmp.Lexicographic.{slice_cmp}
use Rattle.std.proofs.lemmas.Bool.{cases_Bool, true_from_ne_false, not_from_false, not-true, both_ways, eq-eqb, eqb-true}
use Rattle.std.proofs.lemmas.Cmp.{nat_list_cmp_total, tied_itself}
use Rattle.std.proofs.lemmas.Map.Lookups.{exact_bytes}
use Rattle.std.proofs.lemmas.List.Sums.{sum_by-cons, sum_by-append}
use Rattle.std.proofs.lemmas.List.Sorted.{sum_by-IsPermutation, IsPermutation-refl, IsPermutation-sym, IsPermutation-trans, IsPermutation-cons, IsPermutation-middle}
use Rattle.slot_core.specs.declared.jobs.Key.{Key}
use Rattle.slot_core.specs.declared.jobs.Job.{Job}
use Rattle.slot_core.specs.Offline.Keys.{key_order, same_key}
use Rattle.slot_core.specs.Claims.Safety.{after_run, after_slot}
use Rattle.slot_core.specs.Runs.Matches.{HaveSameItems}
use Rattle.slot_facts.proofs.Choice.Earliest.{same_from_order}
use Rattle.slot_facts.proofs.Lists.Members.{Has}
use Rattle.slot_facts.proofs.Lists.Sums.{sum_by-map, sum_by-filter}
use Rattle.slot_core.specs.declared.events.Ran.{Ran}
use Rattle.slot_core.specs.declared.events.Ran.TheVariants.{Idle as RanIdle, Key as RanKey}

-- a list and its permutation have the same items
pub same-from_permutation : {X : Type 0} (xs ys : List X) → IsPermutation xs ys → HaveSameItems xs ys
same-from_permutation xs ys h f = sym (sum_by-IsPermutation f xs ys h)

-- lists that are the same up to order stay so
pub same-sym : {X : Type 0} (xs ys : List X) → HaveSameItems xs ys → HaveSameItems ys xs
same-sym xs ys same = λ f. sym (same f)

pub same-map : {X Y : Type 0} (g : X → Y) (xs ys : List X) → HaveSameItems xs ys → HaveSameItems (map g xs) (map g ys)
same-map g xs ys same = λ f. sum_by-map f g xs ∙ (same (λ x. f (g x)) ∙ sym (sum_by-map f g ys))

pub same-filter : {X : Type 0} (p : X → Bool) (xs ys : List X) → HaveSameItems xs ys → HaveSameItems (filter p xs) (filter p ys)
same-filter p xs ys same =
    λ f. sum_by-filter f p xs ∙ (same (λ x. cond (p x) (f x) 0) ∙ sym (sum_by-filter f p ys))

pub same-append : {X : Type 0} (xs ys us vs : List X) → HaveSameItems xs ys → HaveSameItems us vs → HaveSameItems (xs ++ us) (ys ++ vs)
same-append xs ys us vs same more =
    λ f. omega (arith, sum_by-append f xs us, sum_by-append f ys vs, same f, more f)

pub same-after_run : (key : Key) (xs ys : List Job) → HaveSameItems xs ys → HaveSameItems (after_run key xs) (after_run key ys)
same-after_run key xs ys same =
    let ran = λ (j : Job). cond (same_key j.key key) (record j { left = j.left - 1 }) j in
    same-filter (λ (j : Job). nat_lt 0 j.left) (map ran xs) (map ran ys) (same-map ran xs ys same)

-- how many items pass a test, by sums
abbrev pub count : {X : Type 0} → (X → Bool) → List X → ℕ
count p xs = sum_by (λ x. cond (p x) 1 0) xs

count-cons : {X : Type 0} (p : X → Bool) (x : X) (xs : List X) → count p (x ∷ xs) ≡ cond (p x) 1 0 + count p xs
count-cons p x xs = sum_by-cons (λ x. cond (p x) 1 0) x xs

-- an item that passes is counted
pub counted : {X : Type 0} (p : X → Bool) (xs : List X) (x : X) → Has xs x → p x ≡ true → 1 ≤ count p xs
counted p [] x at passes = absurd at
counted p (y ∷ ys) x (inl e) passes = omega (arith, count-cons p y ys, ap {B = ℕ} (λ b. cond b 1 0) (ap p e ∙ passes))
counted p (y ∷ ys) x (inr at) passes = omega (arith, count-cons p y ys, counted p ys x at passes)

-- where one is counted, some item passes
found : {X : Type 0} (p : X → Bool) (xs : List X) → 1 ≤ count p xs → (x : X) × Has xs x × (p x ≡ true)
found p [] some = absurd (omega arith)
found p (x ∷ xs) some =
    elim (cases_Bool (p x)) [
      | inl passes ↦ (x, inl refl, passes)
      | inr fails ↦
          let more = found p xs (omega (arith, count-cons p x xs, ap {B = ℕ} (λ b. cond b 1 0) fails)) in
          (more.0, inr more.1, more.2)
    ]

-- where an item of one list passes, so does one of the other
pub passes-same : {X : Type 0} (p : X → Bool) (xs ys : List X) (x : X) → HaveSameItems xs ys → Has xs x → p x ≡ true → (other : X) × Has ys other × (p other ≡ true)
passes-same p xs ys x same at passes =
    found p ys (omega (arith, same (λ y. cond (p y) 1 0), counted p xs x at passes))

-- what passes for each item of one list passes for each of the other
pub all-same : {X : Type 0} (p : X → Bool) (xs ys : List X) → HaveSameItems xs ys → ((x : X) → Has xs x → p x ≡ true) → (x : X) → Has ys x → p x ≡ true
all-same p xs ys same each x at =
    true_from_ne_false (p x) λ fails.
    let m = passes-same (λ y. not (p y)) ys xs x (same-sym xs ys same) at (not_from_false (p x) fails) in
    both_ways (p m.0) (not-true (p m.0) m.2) (each m.0 m.1)

-- the two parts of a list around a member
pub around : {X : Type 0} (xs : List X) (x : X) → Has xs x → (us vs : List X) × (xs ≡ us ++ x ∷ vs)
around [] x at = absurd at
around (y ∷ xs) x (inl e) = ([], xs, ap (λ z. z ∷ xs) e)
around (y ∷ xs) x (inr at) =
    let r = around xs x at in
    (y ∷ r.0, r.1, ap (λ zs. y ∷ zs) r.2)

-- without an item in both
same-without : {X : Type 0} (x : X) (xs us vs : List X) → HaveSameItems (x ∷ xs) (us ++ x ∷ vs) → HaveSameItems xs (us ++ vs)
same-without x xs us vs same f =
    omega (arith, same f, sum_by-cons f x xs, sum_by-append f us (x ∷ vs), sum_by-cons f x vs, sum_by-append f us vs)

none_left : {X : Type 0} (ys : List X) → HaveSameItems [] ys → ys ≡ []
none_left [] same = refl
none_left (y ∷ ys) same = absurd (omega (arith, same (λ z. 1), sum_by-cons (λ z. 1) y ys))

-- where a test tells items apart, lists with the same items are permutations of each other
permutation-from_same : {X : Type 0} (eq : X → X → Bool) → ((x : X) → eq x x ≡ true) → ((x y : X) → eq x y ≡ true → x ≡ y) → (xs ys : List X) → HaveSameItems xs ys → IsPermutation xs ys
permutation-from_same eq itself exact [] ys same = subst (IsPermutation []) (sym (none_left ys same)) (IsPermutation-refl [])
permutation-from_same eq itself exact (x ∷ xs) ys same =
    let twin = passes-same (eq x) (x ∷ xs) ys x same (inl refl) (itself x) in
    let parts = around ys x (subst (Has ys) (sym (exact x twin.0 twin.2)) twin.1) in
    let us = parts.0 in
    let vs = parts.1 in
    let rest = permutation-from_same eq itself exact xs (us ++ vs) (same-without x xs us vs (subst (HaveSameItems (x ∷ xs)) parts.2 same)) in
    let all = IsPermutation-trans (x ∷ xs) (x ∷ (us ++ vs)) (us ++ x ∷ vs) (IsPermutation-cons x xs (us ++ vs) rest) (IsPermutation-sym (us ++ x ∷ vs) (x ∷ (us ++ vs)) (IsPermutation-middle us x vs)) in
    subst (IsPermutation (x ∷ xs)) (sym parts.2) all

-- so it is for numbers and for jobs: 'the same items' and 'a permutation' are one
pub numbers-same_items : (xs ys : List ℕ) → HaveSameItems xs ys ↔ IsPermutation xs ys
numbers-same_items xs ys =
    (permutation-from_same (λ a b. a == b) (λ a. eq-eqb a a refl) (λ a b e. eqb-true a b e) xs ys, same-from_permutation xs ys)

abbrev job_numbers : Job → List ℕ
job_numbers job = job.est ∷ job.dl ∷ job.left ∷ job.declared ∷ key_order job.key

same_job : (a b : Job) → job_numbers a ≡ job_numbers b → a ≡ b
same_job a b e =
    let key = same_from_order a.key b.key (ap (drop 4) e) in
    let est : a.est ≡ b.est = cc in
    let dl : a.dl ≡ b.dl = cc in
    let left : a.left ≡ b.left = cc in
    let declared : a.declared ≡ b.declared = cc in
    λ i. record { key = key i; est = est i; dl = dl i; left = left i; declared = declared i }

pub jobs-same_items : (xs ys : List Job) → HaveSameItems xs ys ↔ IsPermutation xs ys
jobs-same_items xs ys =
    let eq = λ (a b : Job). is_eq (slice_cmp nat_cmp (job_numbers a) (job_numbers b)) in (
      permutation-from_same
          eq
          (λ a. ap is_eq (tied_itself nat_list_cmp_total (job_numbers a)))
          (λ a b e. same_job a b (exact_bytes (job_numbers a) (job_numbers b) ((Equal-is (slice_cmp nat_cmp (job_numbers a) (job_numbers b))).0 e)))
          xs
          ys,
      same-from_permutation xs ys,
    )

-- what is the same up to order stays so in a slot
pub same-after_slot : (ran : Ran) (xs ys : List Job) → HaveSameItems xs ys → HaveSameItems (after_slot ran xs) (after_slot ran ys)
same-after_slot RanIdle xs ys same = same
same-after_slot (RanKey key) xs ys same = same-after_run key xs ys same
