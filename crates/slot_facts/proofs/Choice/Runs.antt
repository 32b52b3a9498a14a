-- A run of a job in a list without two jobs of one key.
use Rattle.std.proofs.Common.{◌≡◌, ◌-◌, ◌≤◌, true, false, cond, List, [], ◌∷◌, nat_cmp, is_eq, is_lt, refl, sym, ap, ◌∙◌, inl, inr, arith}
use Rattle.std.specs.Prelude.{nat_lt}
use Rattle.std.specs.List.{AllByRecursion}
use Rattle.std.specs.Cmp.Lexicographic.{slice_cmp}
use Rattle.std.proofs.lemmas.Bool.{both_ways, false_from_ne_true}
use Rattle.std.proofs.lemmas.Bool.Decides.{nat_tests}
use Rattle.std.proofs.lemmas.Cmp.{tied_itself, nat_list_cmp_total}
use Rattle.slot_core.specs.declared.jobs.Key.{Key}
use Rattle.slot_core.specs.declared.jobs.Job.{Job}
use Rattle.slot_core.specs.Offline.Keys.{key_order, same_key, deadline_order, is_earlier}
use Rattle.slot_core.specs.Keeping.Plans.{AreInDeadlineOrder}
use Rattle.slot_core.specs.Claims.Safety.{after_run}
use Rattle.slot_facts.proofs.Choice.Earliest.{same_from_key, job_cmp_total}
use Rattle.slot_facts.proofs.Offline.DistinctKeys.{IsApart}
use Rattle.slot_facts.proofs.Lists.Members.{Has, AllByRecursion-at_Has}

-- no two jobs have one key
abbrev pub AreApart : List Job → Type 0
AreApart = IsApart (λ (j : Job). j.key)

-- in deadline order this is so where jobs of one key have one deadline
not_earlier_itself : (a b : Job) → a.key ≡ b.key → a.dl ≡ b.dl → is_earlier a b ≡ true → ⊥
not_earlier_itself a b key due e =
    let same : deadline_order a ≡ deadline_order b = cc in
    let level : is_earlier a b ≡ false = ap (λ o. is_lt (slice_cmp nat_cmp (deadline_order a) o)) (sym same) ∙ ap is_lt (tied_itself job_cmp_total a) in
    both_ways (is_earlier a b) level e

pub AreApart-from_order : (jobs : List Job) → AreInDeadlineOrder jobs → ((a b : Job) → Has jobs a → Has jobs b → a.key ≡ b.key → a.dl ≡ b.dl) → AreApart jobs
AreApart-from_order [] ordered due = tt
AreApart-from_order (j ∷ jobs) ordered due = (
  λ o at key.
      not_earlier_itself j o key (due j o (inl refl) (inr at) key) (AllByRecursion-at_Has (λ x. is_earlier j x ≡ true) jobs o ordered.0 at),
  AreApart-from_order jobs ordered.1 (λ a b at_a at_b. due a b (inr at_a) (inr at_b)),
)

-- a run of another job changes nothing
pub run_of_another : (key : Key) (jobs : List Job) → ((o : Job) → Has jobs o → key ≡ o.key → ⊥) → AllByRecursion (λ (o : Job). 1 ≤ o.left) jobs → after_run key jobs ≡ jobs
run_of_another key [] other some = refl
run_of_another key (j ∷ jobs) other some =
    let differs = false_from_ne_true (same_key j.key key) λ same. other j (inl refl) (sym (same_from_key j.key key same)) in
    let rest = run_of_another key jobs (λ o at. other o (inr at)) some.1 in
    let here : 1 ≤ j.left = some.0 in
    grind (arith, nat_tests)

-- a run of the first job of a list
pub run_of_first : (j : Job) (jobs : List Job) → after_run j.key jobs ≡ jobs → after_run j.key (j ∷ jobs) ≡ cond (nat_lt 1 j.left) (record j { left = j.left - 1 } ∷ jobs) jobs
run_of_first j jobs rest =
    let itself : same_key j.key j.key ≡ true = ap is_eq (tied_itself nat_list_cmp_total (key_order j.key)) in
    grind (arith, nat_tests)

-- a run of a later job leaves the first one
pub run_of_later : (key : Key) (j : Job) (jobs : List Job) → same_key j.key key ≡ false → 1 ≤ j.left → after_run key (j ∷ jobs) ≡ j ∷ after_run key jobs
run_of_later key j jobs differs some = grind (arith, nat_tests)
