-- What the earliest job of a list is, and when keys are the same.
use Rattle.std.proofs.Common.{◌≡◌, ℕ, ◌≤◌, true, false, cond, List, [], ◌∷◌, fold, Some, Ordering, Less, Equal, Greater, nat_cmp, is_lt, is_gt, refl, sym, ap, ◌∙◌, inl, inr, arith}
use Rattle.std.specs.Cmp.{Equal-is, IsTotalOrder}
use Rattle.std.specs.Ordering.{ordering_reverse, nat_cmp, is_eq}
use Rattle.std.specs.Cmp.Lexicographic.{slice_cmp}
use Rattle.std.proofs.lemmas.Bool.Decides.{nat_tests}
use Rattle.std.proofs.lemmas.Cmp.{nat_list_cmp_total, on_total, upto, tied_itself}
use Rattle.std.proofs.lemmas.Map.Lookups.{exact_bytes}
use Rattle.slot_core.specs.declared.jobs.Key.{Key}
use Rattle.slot_core.specs.declared.jobs.Key.TheVariants.{Offline, Sporadic, Firm, Soft}
use Rattle.slot_core.specs.declared.jobs.Job.{Job}
use Rattle.slot_core.specs.Offline.Keys.{key_order, same_key, deadline_order, is_earlier}
use Rattle.slot_core.specs.Runs.Choice.{earlier_of, earliest}
use Rattle.slot_facts.proofs.Lists.Members.{Has}

-- keys of one kind and with the same numbers are one
pub same_from_order : (a b : Key) → key_order a ≡ key_order b → a ≡ b
same_from_order (Offline g t k) (Offline h u l) e = cc
same_from_order (Sporadic i r) (Sporadic j s) e = cc
same_from_order (Firm r) (Firm s) e = cc
same_from_order (Soft r) (Soft s) e = cc
same_from_order (Offline g t k) b e = cc
same_from_order (Sporadic i r) b e = cc
same_from_order (Firm r) b e = cc
same_from_order (Soft r) b e = cc

-- keys that test as the same are one
pub same_from_key : (a b : Key) → same_key a b ≡ true → a ≡ b
same_from_key a b same =
    same_from_order a b (exact_bytes (key_order a) (key_order b) ((Equal-is (slice_cmp nat_cmp (key_order a) (key_order b))).0 same))

-- how two jobs stand by earliest deadline first
abbrev pub job_cmp : Job → Job → Ordering
job_cmp a b = slice_cmp nat_cmp (deadline_order a) (deadline_order b)

pub job_cmp_total : IsTotalOrder job_cmp
job_cmp_total = on_total deadline_order nat_list_cmp_total

-- the first job does not go after the second
abbrev pub IsNotAfter : Job → Job → Type 0
IsNotAfter a b = is_gt (job_cmp a b) ≡ false

-- so it is where it goes before it
not_gt-from_lt : (o : Ordering) → is_lt o ≡ true → is_gt o ≡ false
not_gt-from_lt Less e = refl
not_gt-from_lt Equal e = cc
not_gt-from_lt Greater e = cc

pub IsNotAfter-from_earlier : (a b : Job) → is_earlier a b ≡ true → IsNotAfter a b
IsNotAfter-from_earlier a b e = not_gt-from_lt (job_cmp a b) e

-- and where the second does not go before it
not_gt-from_reverse : (o : Ordering) → is_lt o ≡ false → is_gt (ordering_reverse o) ≡ false
not_gt-from_reverse Less e = cc
not_gt-from_reverse Equal e = refl
not_gt-from_reverse Greater e = refl

pub IsNotAfter-from_not_earlier : (a b : Job) → is_earlier b a ≡ false → IsNotAfter a b
IsNotAfter-from_not_earlier a b e =
    ap is_gt (job_cmp_total.antisymm a b) ∙ not_gt-from_reverse (job_cmp b a) e

-- it is due no later then
due-from_order : (a b : ℕ) (xs ys : List ℕ) → is_gt (slice_cmp nat_cmp (a ∷ xs) (b ∷ ys)) ≡ false → a ≤ b
due-from_order a b xs ys e = grind (arith, nat_tests)

pub due-from_not_after : (a b : Job) → IsNotAfter a b → a.dl ≤ b.dl
due-from_not_after a b e = due-from_order a.dl b.dl (key_order a.key) (key_order b.key) e

-- the earliest job is one of the list, and goes after none of them
pub record IsEarliest (jobs : List Job) (best : Job) : Type 0 where
  pub among : Has jobs best
  pub first : (job : Job) → Has jobs job → IsNotAfter best job

-- where the second of two jobs does not go before the first, it changes nothing
past_second : (a b best : Job) (js : List Job) → IsNotAfter a b → IsEarliest (a ∷ js) best → IsEarliest (a ∷ b ∷ js) best
past_second a b best js order more =
    record {
      among = elim more.among [ inl e ↦ inl e | inr i ↦ inr (inr i) ];
      first = λ job at.
          elim at [
            | inl e ↦ more.first job (inl e)
            | inr i ↦ elim i [
              | inl e ↦ rw (sym e) (upto job_cmp_total best a b (more.first a (inl refl)) order)
              | inr k ↦ more.first job (inr k)
            ]
          ];
    }

-- nor does the first where it does not go before the second
past_first : (a b best : Job) (js : List Job) → IsNotAfter b a → IsEarliest (b ∷ js) best → IsEarliest (a ∷ b ∷ js) best
past_first a b best js order more =
    record {
      among = inr more.among;
      first = λ job at.
          elim at [
            | inl e ↦ rw (sym e) (upto job_cmp_total best b a (more.first b (inl refl)) order)
            | inr i ↦ more.first job i
          ];
    }

-- from a best job so far, the fold answers the earliest of it and the rest
earliest_from : (a best : Job) (js : List Job) → fold earlier_of (Some a) js ≡ Some best → IsEarliest (a ∷ js) best
earliest_from a best [] e =
    let same : a ≡ best = cc in
    record {
      among = inl same;
      first = λ job at.
          elim at [ inl s ↦ rw (sym same, sym s) (ap is_gt (tied_itself job_cmp_total a)) | inr i ↦ absurd i ];
    }
earliest_from a best (j ∷ js) e =
    elim (is_earlier j a) as (λ b. is_earlier j a ≡ b → fold earlier_of (cond b (Some j) (Some a)) js ≡ Some best → IsEarliest (a ∷ j ∷ js) best) [
      | true ↦ λ t f. past_first a j best js (IsNotAfter-from_earlier j a t) (earliest_from j best js f)
      | false ↦ λ t f. past_second a j best js (IsNotAfter-from_not_earlier a j t) (earliest_from a best js f)
    ] refl e

-- what `earliest` answers is the earliest job
pub IsEarliest-from_earliest : (jobs : List Job) (best : Job) → earliest jobs ≡ Some best → IsEarliest jobs best
IsEarliest-from_earliest [] best e = cc
IsEarliest-from_earliest (j ∷ js) best e = earliest_from j best js e

-- it is due no later than any other
pub least_due : (jobs : List Job) (best job : Job) → IsEarliest jobs best → Has jobs job → best.dl ≤ job.dl
least_due jobs best job most at = due-from_not_after best job (most.first job at)

pub equal_itself : (xs : List ℕ) → is_eq (slice_cmp nat_cmp xs xs) ≡ true
equal_itself xs = ap is_eq (tied_itself nat_list_cmp_total xs)
