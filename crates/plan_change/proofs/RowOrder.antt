-- Jobs in the order in which they are carried over: they are the same jobs, and no other list of them is in that order.
use Rattle.std.proofs.Common.{◌≡◌, suc, ◌+◌, Bool, true, false, List, [], ◌∷◌, get_or, drop, Ordering, refl, sym, ap, ap₂, ◌∙◌, subst, inl, inr, arith}
use Rattle.std.specs.Prelude.{IsPermutation, ⊤}
use Rattle.std.specs.Cmp.{Equal-is, IsTotalOrder}
use Rattle.std.specs.Cmp.Lexicographic.{slice_cmp}
use Rattle.std.specs.List.{AllByRecursion, IsDistinct}
use Rattle.std.specs.List.Sorted.{IsSortedBy}
use Rattle.std.specs.Ordering.{is_eq, is_lt, nat_cmp, ordering_reverse}
use Rattle.std.specs.declared.cmp.Ordering.TheVariants.{Less, Equal, Greater}
use Rattle.std.proofs.lemmas.Bool.{cases_Bool, false_from_ne_true, false≢true}
use Rattle.std.proofs.lemmas.Cmp.{eq_by_cmp_equiv, nat_list_cmp_total, on_total}
use Rattle.std.proofs.lemmas.List.Elements.{All-from_recursion, recursion_from_All}
use Rattle.std.proofs.lemmas.List.Sorted.{IsPermutation-cons, IsPermutation-middle, IsPermutation-refl, IsPermutation-sym, IsPermutation-trans, ranks_by, sorted_far}
use Rattle.std.proofs.lemmas.Map.Keys.{IsDistinct-head, IsDistinct-IsPermutation, IsDistinct-tail}
use Rattle.std.proofs.lemmas.Map.Lookups.{exact_bytes}
use Rattle.slot_core.specs.declared.jobs.Job.{Job}
use Rattle.slot_facts.proofs.Choice.Earliest.{same_from_order}
use Rattle.slot_facts.proofs.Lists.Members.{AllByRecursion-at_Has, AllByRecursion-from_Has, AllByRecursion-weaker, Has}
use Rattle.slot_facts.proofs.Lists.Permuted.{AllByRecursion-permuted, Has-permuted}
use Rattle.slot_facts.proofs.Offline.DistinctKeys.{IsApart}
use Rattle.plan_change.specs.Carrying.{carrying_order, goes_first, in_row_order, with_carried}

-- how two jobs stand in that order
abbrev pub carrying_cmp : Job → Job → Ordering
carrying_cmp a b = slice_cmp nat_cmp (carrying_order a) (carrying_order b)

pub carrying_cmp_total : IsTotalOrder carrying_cmp
carrying_cmp_total = on_total carrying_order nat_list_cmp_total

-- each job goes before all after it
abbrev pub AreInRowOrder : List Job → Type 0
AreInRowOrder [] = ⊤
AreInRowOrder (job ∷ jobs) =
    AllByRecursion (λ other. goes_first job other ≡ true) jobs × AreInRowOrder jobs

-- the two jobs stand level
abbrev stand_level : Job → Job → Bool
stand_level a b = is_eq (carrying_cmp a b)

key-from_level : (a b : Job) → stand_level a b ≡ true → a.key ≡ b.key
key-from_level a b same =
    let lists = exact_bytes (carrying_order a) (carrying_order b) ((Equal-is (carrying_cmp a b)).0 same) in
    same_from_order a.key b.key (ap (drop 2) lists)

Less-from_is_lt : (o : Ordering) → is_lt o ≡ true → o ≡ Less
Less-from_is_lt Less e = refl
Less-from_is_lt Equal e = cc
Less-from_is_lt Greater e = cc

pub goes_first-trans : (a b d : Job) → goes_first a b ≡ true → goes_first b d ≡ true → goes_first a d ≡ true
goes_first-trans a b d first second =
    ap is_lt (carrying_cmp_total.trans a b d (Less-from_is_lt (carrying_cmp a b) first) (Less-from_is_lt (carrying_cmp b d) second))

pub goes_first-one_way : (a b : Job) → goes_first a b ≡ true → goes_first b a ≡ false
goes_first-one_way a b first = (ranks_by nat_list_cmp_total carrying_order).one_way a b first

less_from_neither : (back there : Ordering) → there ≡ ordering_reverse back → is_lt back ≡ false → is_eq there ≡ false → is_lt there ≡ true
less_from_neither Less there e up apart = absurd (false≢true (sym up))
less_from_neither Equal there e up apart = absurd (false≢true (sym apart ∙ ap is_eq e))
less_from_neither Greater there e up apart = ap is_lt e

goes_first-from_neither : (a b : Job) → goes_first b a ≡ false → stand_level a b ≡ false → goes_first a b ≡ true
goes_first-from_neither a b up apart =
    let back : carrying_cmp a b ≡ ordering_reverse (carrying_cmp b a) = carrying_cmp_total.antisymm a b in
    less_from_neither (carrying_cmp b a) (carrying_cmp a b) back up apart

-- the keys of two jobs are distinct
abbrev HaveOtherKeys : Job → Job → Type 0
HaveOtherKeys a b = a.key ≡ b.key → ⊥

goes_first-other_way : (a b : Job) → goes_first b a ≡ false → HaveOtherKeys a b → goes_first a b ≡ true
goes_first-other_way a b after apart =
    goes_first-from_neither a b after (false_from_ne_true (stand_level a b) (λ same. apart (key-from_level a b same)))

-- a job put among others stands there with them
IsPermutation-with_carried : (job : Job) (jobs : List Job) → IsPermutation (job ∷ jobs) (with_carried job jobs)
IsPermutation-with_carried job [] = IsPermutation-refl (job ∷ [])
IsPermutation-with_carried job (other ∷ jobs) =
    elim (cases_Bool (goes_first other job)) [
      | inl before ↦
          let swap = IsPermutation-sym (other ∷ job ∷ jobs) (job ∷ other ∷ jobs) (IsPermutation-middle (other ∷ []) job jobs) in
          let rest = IsPermutation-cons other (job ∷ jobs) (with_carried job jobs) (IsPermutation-with_carried job jobs) in
          rw before (IsPermutation-trans (job ∷ other ∷ jobs) (other ∷ job ∷ jobs) (other ∷ with_carried job jobs) swap rest)
      | inr after ↦ rw after (IsPermutation-refl (job ∷ other ∷ jobs))
    ]

-- jobs put in order are the same jobs
pub IsPermutation-in_row_order : (jobs : List Job) → IsPermutation jobs (in_row_order jobs)
IsPermutation-in_row_order [] = IsPermutation-refl []
IsPermutation-in_row_order (job ∷ jobs) =
    let later = in_row_order jobs in
    let rest = IsPermutation-cons job jobs later (IsPermutation-in_row_order jobs) in
    IsPermutation-trans (job ∷ jobs) (job ∷ later) (with_carried job later) rest (IsPermutation-with_carried job later)

-- a job put among ordered ones of other keys is in order with them
AreInRowOrder-with_carried : (job : Job) (jobs : List Job) → AreInRowOrder jobs → AllByRecursion (HaveOtherKeys job) jobs → AreInRowOrder (with_carried job jobs)
AreInRowOrder-with_carried job [] ordered apart = (tt, tt)
AreInRowOrder-with_carried job (other ∷ jobs) ordered apart =
    let After : Job → Job → Type 0 = λ a b. goes_first a b ≡ true in
    elim (cases_Bool (goes_first other job)) [
      | inl before ↦
          let among = AllByRecursion-permuted (After other) (job ∷ jobs) (with_carried job jobs) (IsPermutation-with_carried job jobs) (before, ordered.0) in
          rw before (among, AreInRowOrder-with_carried job jobs ordered.1 apart.1)
      | inr after ↦
          let first = goes_first-other_way job other after apart.0 in
          let rest = AllByRecursion-weaker (After other) (After job) jobs (λ d next. goes_first-trans job other d first next) ordered.0 in
          rw after ((first, rest), ordered)
    ]

-- jobs with distinct keys put in order are in order
pub AreInRowOrder-in_order : (jobs : List Job) → IsApart (λ (j : Job). j.key) jobs → AreInRowOrder (in_row_order jobs)
AreInRowOrder-in_order [] apart = tt
AreInRowOrder-in_order (job ∷ jobs) apart =
    let later = in_row_order jobs in
    let others = AllByRecursion-permuted (HaveOtherKeys job) jobs later (IsPermutation-in_row_order jobs) (AllByRecursion-from_Has (HaveOtherKeys job) jobs apart.0) in
    AreInRowOrder-with_carried job later (AreInRowOrder-in_order jobs apart.1) others

-- two lists in order with the same members have the same first job
same_first : (x y : Job) (xs ys : List Job) → AreInRowOrder (x ∷ xs) → AreInRowOrder (y ∷ ys) → Has (y ∷ ys) x → Has (x ∷ xs) y → x ≡ y
same_first x y xs ys ox oy (inl e) back = sym e
same_first x y xs ys ox oy (inr there) (inl e) = e
same_first x y xs ys ox oy (inr there) (inr back) =
    let first = AllByRecursion-at_Has (λ other. goes_first x other ≡ true) xs y ox.0 back in
    let second = AllByRecursion-at_Has (λ other. goes_first y other ≡ true) ys x oy.0 there in
    absurd (false≢true (sym (goes_first-one_way x y first) ∙ second))

-- a member after the first is one after the first of the other list
member_after : (x y z : Job) (xs ys : List Job) → x ≡ y → AreInRowOrder (x ∷ xs) → Has xs z → Has (y ∷ ys) z → Has ys z
member_after x y z xs ys same ox at (inr there) = there
member_after x y z xs ys same ox at (inl e) =
    let own = AllByRecursion-at_Has (λ other. goes_first x other ≡ true) xs z ox.0 at in
    let itself = subst (λ j. goes_first j z ≡ true) (same ∙ e) own in
    absurd (false≢true (sym (goes_first-one_way z z itself) ∙ itself))

same_in_order : (xs ys : List Job) → AreInRowOrder xs → AreInRowOrder ys → ((z : Job) → Has xs z → Has ys z) → ((z : Job) → Has ys z → Has xs z) → xs ≡ ys
same_in_order [] [] ox oy there back = refl
same_in_order [] (y ∷ ys) ox oy there back = absurd (back y (inl refl))
same_in_order (x ∷ xs) [] ox oy there back = absurd (there x (inl refl))
same_in_order (x ∷ xs) (y ∷ ys) ox oy there back =
    let first = same_first x y xs ys ox oy (there x (inl refl)) (back y (inl refl)) in
    let forth = λ (z : Job) (at : Has xs z). member_after x y z xs ys first ox at (there z (inr at)) in
    let home = λ (z : Job) (at : Has ys z). member_after y x z ys xs (sym first) oy at (back z (inr at)) in
    ap₂ (λ j js. j ∷ js) first (same_in_order xs ys ox.1 oy.1 forth home)

-- the same jobs are in order in one way alone
pub AreInRowOrder-one : (xs ys : List Job) → AreInRowOrder xs → AreInRowOrder ys → IsPermutation xs ys → xs ≡ ys
AreInRowOrder-one xs ys ox oy permuted =
    same_in_order xs ys ox oy (λ z at. Has-permuted xs ys z permuted at) (λ z at. Has-permuted ys xs z (IsPermutation-sym xs ys permuted) at)

-- jobs with distinct keys are distinct
IsDistinct-from_apart : (jobs : List Job) → IsApart (λ (j : Job). j.key) jobs → IsDistinct stand_level jobs
unfolding IsDistinct
IsDistinct-from_apart [] apart = tt
IsDistinct-from_apart (job ∷ jobs) apart = (
  AllByRecursion-from_Has (λ other. stand_level job other ≡ false) jobs (λ other h. false_from_ne_true (stand_level job other) (λ e. apart.0 other h (key-from_level job other e))),
  IsDistinct-from_apart jobs apart.1,
)

AreInRowOrder-from_distinct : (jobs : List Job) → IsSortedBy (λ a b. is_lt (carrying_cmp a b)) jobs → IsDistinct stand_level jobs → AreInRowOrder jobs
AreInRowOrder-from_distinct [] up distinct = tt
AreInRowOrder-from_distinct (job ∷ jobs) up distinct =
    let order = ranks_by nat_list_cmp_total carrying_order in
    let apart = All-from_recursion (λ other. stand_level job other ≡ false) jobs (IsDistinct-head stand_level job jobs distinct) in
    let first = recursion_from_All (λ other. goes_first job other ≡ true) jobs λ k d within.
    goes_first-from_neither job (get_or jobs k d) (sorted_far (λ a b. is_lt (carrying_cmp a b)) order (job ∷ jobs) up 0 (suc k) d (omega arith) (omega arith)) (apart k d within) in
    let later : IsSortedBy (λ a b. is_lt (carrying_cmp a b)) jobs = λ k d low within.
    let next : suc k + 1 ≡ suc (k + 1) = omega arith in
    subst (λ n. is_lt (carrying_cmp (get_or (job ∷ jobs) n d) (get_or jobs k d)) ≡ false) next (up (suc k) d (omega arith) (omega arith)) in
    (first, AreInRowOrder-from_distinct jobs later (IsDistinct-tail stand_level job jobs distinct))

-- a list of jobs that is sorted so is the one in order
pub in_row_order-sorted : (jobs sorted : List Job) → IsApart (λ (j : Job). j.key) jobs → IsPermutation jobs sorted → IsSortedBy (λ a b. is_lt (carrying_cmp a b)) sorted → sorted ≡ in_row_order jobs
in_row_order-sorted jobs sorted apart moved up =
    let distinct = IsDistinct-IsPermutation stand_level (eq_by_cmp_equiv carrying_cmp_total).symm jobs sorted moved (IsDistinct-from_apart jobs apart) in
    let permuted = IsPermutation-trans sorted jobs (in_row_order jobs) (IsPermutation-sym jobs sorted moved) (IsPermutation-in_row_order jobs) in
    AreInRowOrder-one sorted (in_row_order jobs) (AreInRowOrder-from_distinct sorted up distinct) (AreInRowOrder-in_order jobs apart) permuted
