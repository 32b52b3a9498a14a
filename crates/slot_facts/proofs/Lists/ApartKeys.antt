-- Lists of jobs whose keys are apart, by a count and by members.
use Rattle.std.proofs.Common.{◌≡◌, ℕ, ◌<◌, ◌≤◌, true, cond, List, [], ◌∷◌, ◌++◌, refl, sym, ap, ◌∙◌, inl, inr, arith}
use Rattle.std.proofs.lemmas.Bool.{cases_Bool, cases_lt, cond-true, cond-false, false_from_ne_true}
use Rattle.std.proofs.lemmas.List.Sums.{sum_by-cons, sum_by-append}
use Rattle.slot_core.specs.declared.jobs.Key.{Key}
use Rattle.slot_core.specs.declared.jobs.Job.{Job}
use Rattle.slot_core.specs.Offline.Keys.{key_order, same_key, row_of}
use Rattle.slot_core.specs.Keeping.Kept.{AreApart}
use Rattle.slot_facts.proofs.Lists.Members.{Has}
use Rattle.slot_facts.proofs.Lists.Apart.{count-none}
use Rattle.slot_facts.proofs.Lists.Sums.{cond-le}
use Rattle.slot_facts.proofs.Lists.SameItems.{counted}
use Rattle.slot_facts.proofs.Choice.Earliest.{same_from_key, equal_itself}
use Rattle.slot_facts.proofs.Offline.DistinctKeys.{IsApart}

-- a key tests as itself
pub same_key-itself : (a b : Key) → a ≡ b → same_key a b ≡ true
same_key-itself a b e = ap (same_key a) (sym e) ∙ equal_itself (key_order a)

-- where each key is counted at most once, no two members have one
pub IsApart-from_count : (jobs : List Job) → AreApart jobs → IsApart (λ (j : Job). j.key) jobs
IsApart-from_count [] apart = tt
IsApart-from_count (x ∷ xs) apart =
    let split = λ (key : Key). sum_by-cons (λ (j : Job). cond (same_key j.key key) 1 0) x xs in (
      λ y at e.
          let own = cond-true {A = ℕ} (same_key x.key x.key) 1 0 (same_key-itself x.key x.key refl) in
          let other = counted (λ (j : Job). same_key j.key x.key) xs y at (same_key-itself y.key x.key (sym e)) in
          absurd (omega (arith, split x.key, own, other, apart x.key)),
      IsApart-from_count xs (λ key. omega (arith, split key, apart key)),
    )

-- two members of one value are one
pub same_member-from_apart : {X Y : Type 0} (f : X → Y) (xs : List X) (a b : X) → IsApart f xs → Has xs a → Has xs b → f a ≡ f b → a ≡ b
same_member-from_apart f [] a b apart at_a at_b e = absurd at_a
same_member-from_apart f (x ∷ xs) a b apart (inl i) (inl j) e = sym i ∙ j
same_member-from_apart f (x ∷ xs) a b apart (inl i) (inr at_b) e = absurd (apart.0 b at_b (ap f i ∙ e))
same_member-from_apart f (x ∷ xs) a b apart (inr at_a) (inl j) e = absurd (apart.0 a at_a (ap f j ∙ sym e))
same_member-from_apart f (x ∷ xs) a b apart (inr at_a) (inr at_b) e = same_member-from_apart f xs a b apart.1 at_a at_b e

-- where no two members have one key, each is counted at most once
pub AreApart-from_members : (jobs : List Job) → IsApart (λ (j : Job). j.key) jobs → AreApart jobs
AreApart-from_members [] apart = λ key. omega arith
AreApart-from_members (x ∷ xs) apart = λ key.
    let split = sum_by-cons (λ (j : Job). cond (same_key j.key key) 1 0) x xs in
    let one = cond-le (same_key x.key key) 1 in
    let rest = AreApart-from_members xs apart.1 key in
    elim (cases_Bool (same_key x.key key)) [
      | inl own ↦
          let none = count-none (λ (j : Job). same_key j.key key) xs (λ y at. false_from_ne_true (same_key y.key key) (λ same. apart.0 y at (same_from_key x.key key own ∙ sym (same_from_key y.key key same)))) in
          omega arith
      | inr other ↦ omega (arith, cond-false {A = ℕ} (same_key x.key key) 1 0 other)
    ]

-- rows keep the keys of two lists apart
pub AreApart-append : (row : ℕ) (xs ys : List Job) → ((job : Job) → Has xs job → row_of job.key < row) → ((job : Job) → Has ys job → row ≤ row_of job.key) → AreApart xs → AreApart ys → AreApart (xs ++ ys)
AreApart-append row xs ys low high first second = λ key.
    let split = sum_by-append (λ (j : Job). cond (same_key j.key key) 1 0) xs ys in
    let test = λ (j : Job). same_key j.key key in
    let a = first key in
    let b = second key in
    elim (cases_lt (row_of key) row) [
      | inr above ↦
          let none = count-none test xs (λ j at. false_from_ne_true (same_key j.key key) (λ same. absurd (omega (arith, low j at, ap row_of (same_from_key j.key key same))))) in
          omega arith
      | inl below ↦
          let none = count-none test ys (λ j at. false_from_ne_true (same_key j.key key) (λ same. absurd (omega (arith, high j at, ap row_of (same_from_key j.key key same))))) in
          omega arith
    ]
