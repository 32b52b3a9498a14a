-- The earliest job of a list, and of a list with the same jobs.
use Rattle.std.proofs.Common.{◌≡◌, Bool, true, false, cond, List, [], ◌∷◌, Some, None, fold, Ordering, Less, Equal, Greater, is_eq, is_gt, nat_cmp, refl, sym, ap, ◌∙◌}
use Rattle.std.specs.Ordering.{ordering_then, ordering_reverse}
use Rattle.std.specs.Cmp.{Equal-is}
use Rattle.std.specs.Cmp.Lexicographic.{slice_cmp}
use Rattle.std.proofs.lemmas.Cmp.{alike_right, tied_itself}
use Rattle.slot_core.specs.declared.jobs.Job.{Job}
use Rattle.slot_core.specs.Offline.Keys.{key_order, is_earlier}
use Rattle.slot_core.specs.Runs.Choice.{earlier_of, earliest}
use Rattle.slot_facts.proofs.Choice.Earliest.{same_from_key, job_cmp, job_cmp_total, IsNotAfter, IsEarliest}
use Rattle.slot_facts.proofs.Lists.Members.{Has}
use Rattle.slot_core.specs.Runs.Matches.{HaveSameItems}
use Rattle.slot_facts.proofs.Lists.SameItems.{same-sym, passes-same}

-- where there is a job there is an earliest one
earliest_of_some : (a : Job) (js : List Job) → fold earlier_of (Some a) js ≡ None → ⊥
earliest_of_some a [] e = cc
earliest_of_some a (j ∷ js) e = by_test (is_earlier j a) e (earliest_of_some j js) (earliest_of_some a js)
  where
    by_test : (b : Bool) → fold earlier_of (cond b (Some j) (Some a)) js ≡ None → (fold earlier_of (Some j) js ≡ None → ⊥) → (fold earlier_of (Some a) js ≡ None → ⊥) → ⊥
    by_test true none taken skipped = taken none
    by_test false none taken skipped = skipped none

pub earliest_of : (jobs : List Job) (job : Job) → Has jobs job → earliest jobs ≡ None → ⊥
earliest_of [] job at e = absurd at
earliest_of (j ∷ js) job at e = earliest_of_some j js e

-- two jobs neither of which goes after the other have one key
level : (o : Ordering) → is_gt o ≡ false → is_gt (ordering_reverse o) ≡ false → o ≡ Equal
level Less a b = cc
level Equal a b = refl
level Greater a b = cc

second_is_equal : (o p : Ordering) → ordering_then o p ≡ Equal → p ≡ Equal
second_is_equal Less p e = cc
second_is_equal Equal p e = e
second_is_equal Greater p e = cc

pub one_key : (a b : Job) → IsNotAfter a b → IsNotAfter b a → a.key ≡ b.key
one_key a b after before =
    let back : is_gt (ordering_reverse (job_cmp a b)) ≡ false = sym (ap is_gt (job_cmp_total.antisymm b a)) ∙ before in
    let keys = second_is_equal (nat_cmp a.dl b.dl) (slice_cmp nat_cmp (key_order a.key) (key_order b.key)) (level (job_cmp a b) after back) in
    same_from_key a.key b.key (ap is_eq keys)

-- the job of the other list that stands where this one stands
twin : (xs ys : List Job) (job : Job) → HaveSameItems xs ys → Has xs job → (other : Job) × Has ys other × (job_cmp other job ≡ Equal)
twin xs ys job same at =
    let itself : is_eq (job_cmp job job) ≡ true = ap is_eq (tied_itself job_cmp_total job) in
    let m = passes-same (λ (j : Job). is_eq (job_cmp j job)) xs ys job same at itself in
    (m.0, m.1, (Equal-is (job_cmp m.0 job)).0 m.2)

-- so the earliest one goes after none of the other list
earliest-not_after : (xs ys : List Job) (best job : Job) → HaveSameItems xs ys → IsEarliest xs best → Has ys job → IsNotAfter best job
earliest-not_after xs ys best job same earliest_one at =
    let m = twin ys xs job (same-sym xs ys same) at in
    ap is_gt (sym (alike_right job_cmp_total m.0 job best m.2)) ∙ earliest_one.first m.0 m.1

-- and the earliest ones of the two have one key
pub one_key-earliest : (xs ys : List Job) (a b : Job) → HaveSameItems xs ys → IsEarliest xs a → IsEarliest ys b → a.key ≡ b.key
one_key-earliest xs ys a b same first second =
    one_key a b (earliest-not_after xs ys a b same first second.among) (earliest-not_after ys xs b a (same-sym xs ys same) second first.among)
