-- Jobs put in deadline order: they are the same jobs, each goes before those after it, and no other list of them does so.
use Rattle.std.proofs.Common.{◌≡◌, true, false, List, [], ◌∷◌, Ordering, refl, sym, ap, ap₂, ◌∙◌, subst, inl, inr}
use Rattle.std.specs.Prelude.{IsPermutation}
use Rattle.std.specs.List.{AllByRecursion}
use Rattle.std.specs.Ordering.{is_lt}
use Rattle.std.specs.declared.cmp.Ordering.TheVariants.{Less, Equal, Greater}
use Rattle.std.proofs.lemmas.Bool.{cases_Bool, false≢true, false_from_ne_true}
use Rattle.std.proofs.lemmas.Cmp.{nat_list_cmp_total}
use Rattle.std.proofs.lemmas.List.Sorted.{ranks_by, IsPermutation-refl, IsPermutation-sym, IsPermutation-trans, IsPermutation-cons, IsPermutation-middle}
use Rattle.slot_core.specs.declared.jobs.Job.{Job}
use Rattle.slot_core.specs.Offline.Keys.{deadline_order, is_earlier}
use Rattle.slot_core.specs.Keeping.Plans.{AreInDeadlineOrder, with_job, in_deadline_order}
use Rattle.slot_facts.proofs.Choice.Earliest.{job_cmp, job_cmp_total}
use Rattle.slot_facts.proofs.Lists.Members.{Has, AllByRecursion-from_Has, AllByRecursion-at_Has, AllByRecursion-weaker}
use Rattle.slot_facts.proofs.Lists.Permuted.{Has-permuted, AllByRecursion-permuted}
use Rattle.slot_facts.proofs.Offline.DistinctKeys.{IsApart}
use Rattle.slot_facts.proofs.Plans.SortedJobs.{same_job, key-from_same, is_earlier-from_neither}

-- what is less is told as Less
Less-from_is_lt : (o : Ordering) → is_lt o ≡ true → o ≡ Less
Less-from_is_lt Less e = refl
Less-from_is_lt Equal e = cc
Less-from_is_lt Greater e = cc

-- a job that goes before one that goes before a third goes before the third
pub is_earlier-trans : (a b d : Job) → is_earlier a b ≡ true → is_earlier b d ≡ true → is_earlier a d ≡ true
is_earlier-trans a b d first second =
    ap is_lt (job_cmp_total.trans a b d (Less-from_is_lt (job_cmp a b) first) (Less-from_is_lt (job_cmp b d) second))

-- the third does not go before the first then
pub is_earlier-one_way : (a b : Job) → is_earlier a b ≡ true → is_earlier b a ≡ false
is_earlier-one_way a b first = (ranks_by nat_list_cmp_total deadline_order).one_way a b first

-- the keys of two jobs are distinct
abbrev pub HaveOtherKeys : Job → Job → Type 0
HaveOtherKeys a b = a.key ≡ b.key → ⊥

-- of two such jobs one goes before the other
pub is_earlier-other_way : (a b : Job) → is_earlier b a ≡ false → HaveOtherKeys a b → is_earlier a b ≡ true
is_earlier-other_way a b after apart =
    is_earlier-from_neither a b after (false_from_ne_true (same_job a b) (λ same. apart (key-from_same a b same)))

-- a job put among others stands there with them, and nothing else does
pub IsPermutation-with_job : (job : Job) (jobs : List Job) → IsPermutation (job ∷ jobs) (with_job job jobs)
IsPermutation-with_job job [] = IsPermutation-refl (job ∷ [])
IsPermutation-with_job job (other ∷ jobs) =
    elim (cases_Bool (is_earlier other job)) [
      | inl before ↦
          let swap = IsPermutation-sym (other ∷ job ∷ jobs) (job ∷ other ∷ jobs) (IsPermutation-middle (other ∷ []) job jobs) in
          let rest = IsPermutation-cons other (job ∷ jobs) (with_job job jobs) (IsPermutation-with_job job jobs) in
          rw before (IsPermutation-trans (job ∷ other ∷ jobs) (other ∷ job ∷ jobs) (other ∷ with_job job jobs) swap rest)
      | inr after ↦ rw after (IsPermutation-refl (job ∷ other ∷ jobs))
    ]

-- jobs put in order are the same jobs
pub IsPermutation-in_order : (jobs : List Job) → IsPermutation jobs (in_deadline_order jobs)
IsPermutation-in_order [] = IsPermutation-refl []
IsPermutation-in_order (job ∷ jobs) =
    let later = in_deadline_order jobs in
    let rest = IsPermutation-cons job jobs later (IsPermutation-in_order jobs) in
    IsPermutation-trans (job ∷ jobs) (job ∷ later) (with_job job later) rest (IsPermutation-with_job job later)

-- a job put among ordered ones of other keys is in order with them
pub AreInDeadlineOrder-with_job : (job : Job) (jobs : List Job) → AreInDeadlineOrder jobs → AllByRecursion (HaveOtherKeys job) jobs → AreInDeadlineOrder (with_job job jobs)
AreInDeadlineOrder-with_job job [] ordered apart = (tt, tt)
AreInDeadlineOrder-with_job job (other ∷ jobs) ordered apart =
    let After : Job → Job → Type 0 = λ a b. is_earlier a b ≡ true in
    elim (cases_Bool (is_earlier other job)) [
      | inl before ↦
          let among = AllByRecursion-permuted (After other) (job ∷ jobs) (with_job job jobs) (IsPermutation-with_job job jobs) (before, ordered.0) in
          rw before (among, AreInDeadlineOrder-with_job job jobs ordered.1 apart.1)
      | inr after ↦
          let first = is_earlier-other_way job other after apart.0 in
          let rest = AllByRecursion-weaker (After other) (After job) jobs (λ d next. is_earlier-trans job other d first next) ordered.0 in
          rw after ((first, rest), ordered)
    ]

-- jobs with distinct keys put in order are in order
pub AreInDeadlineOrder-in_order : (jobs : List Job) → IsApart (λ (j : Job). j.key) jobs → AreInDeadlineOrder (in_deadline_order jobs)
AreInDeadlineOrder-in_order [] apart = tt
AreInDeadlineOrder-in_order (job ∷ jobs) apart =
    let later = in_deadline_order jobs in
    let others = AllByRecursion-permuted (HaveOtherKeys job) jobs later (IsPermutation-in_order jobs) (AllByRecursion-from_Has (HaveOtherKeys job) jobs apart.0) in
    AreInDeadlineOrder-with_job job later (AreInDeadlineOrder-in_order jobs apart.1) others

-- two lists in deadline order with the same members have the same first job
same_first : (x y : Job) (xs ys : List Job) → AreInDeadlineOrder (x ∷ xs) → AreInDeadlineOrder (y ∷ ys) → Has (y ∷ ys) x → Has (x ∷ xs) y → x ≡ y
same_first x y xs ys ox oy (inl e) back = sym e
same_first x y xs ys ox oy (inr there) (inl e) = e
same_first x y xs ys ox oy (inr there) (inr back) =
    let first = AllByRecursion-at_Has (λ other. is_earlier x other ≡ true) xs y ox.0 back in
    let second = AllByRecursion-at_Has (λ other. is_earlier y other ≡ true) ys x oy.0 there in
    absurd (false≢true (sym (is_earlier-one_way x y first) ∙ second))

-- a member after the first is one after the first of the other list
member_after : (x y z : Job) (xs ys : List Job) → x ≡ y → AreInDeadlineOrder (x ∷ xs) → Has xs z → Has (y ∷ ys) z → Has ys z
member_after x y z xs ys same ox at (inr there) = there
member_after x y z xs ys same ox at (inl e) =
    let own = AllByRecursion-at_Has (λ other. is_earlier x other ≡ true) xs z ox.0 at in
    let itself = subst (λ j. is_earlier j z ≡ true) (same ∙ e) own in
    absurd (false≢true (sym (is_earlier-one_way z z itself) ∙ itself))

-- so they are one list
same_in_order : (xs ys : List Job) → AreInDeadlineOrder xs → AreInDeadlineOrder ys → ((z : Job) → Has xs z → Has ys z) → ((z : Job) → Has ys z → Has xs z) → xs ≡ ys
same_in_order [] [] ox oy there back = refl
same_in_order [] (y ∷ ys) ox oy there back = absurd (back y (inl refl))
same_in_order (x ∷ xs) [] ox oy there back = absurd (there x (inl refl))
same_in_order (x ∷ xs) (y ∷ ys) ox oy there back =
    let first = same_first x y xs ys ox oy (there x (inl refl)) (back y (inl refl)) in
    let forth = λ (z : Job) (at : Has xs z). member_after x y z xs ys first ox at (there z (inr at)) in
    let home = λ (z : Job) (at : Has ys z). member_after y x z ys xs (sym first) oy at (back z (inr at)) in
    ap₂ (λ j js. j ∷ js) first (same_in_order xs ys ox.1 oy.1 forth home)

-- the same jobs are in deadline order in one way alone
pub AreInDeadlineOrder-one : (xs ys : List Job) → AreInDeadlineOrder xs → AreInDeadlineOrder ys → IsPermutation xs ys → xs ≡ ys
AreInDeadlineOrder-one xs ys ox oy permuted =
    same_in_order xs ys ox oy (λ z at. Has-permuted xs ys z permuted at) (λ z at. Has-permuted ys xs z (IsPermutation-sym xs ys permuted) at)
