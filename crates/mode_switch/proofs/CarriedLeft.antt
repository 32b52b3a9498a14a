-- The carried jobs that remain, and a slot of the first of them.
use Rattle.std.proofs.Common.{◌≡◌, ℕ, zero, suc, ◌+◌, ◌-◌, ◌<◌, ◌≤◌, add-one, List, [], ◌∷◌, drop, get_or, map, length, Some, refl, sym, ap, subst, ◌∙◌, arith}
use Rattle.std.specs.Prelude.{All, slice_get}
use Rattle.std.proofs.lemmas.Bool.Decides.{nat_tests}
use Rattle.std.specs.List.{AllByRecursion}
use Rattle.std.proofs.lemmas.List.{length-map}
use Rattle.std.proofs.lemmas.List.Elements.{All-head, All-from_recursion, recursion_from_All}
use Rattle.std.proofs.lemmas.Option.{slice_get-get_or}
use Rattle.slot_core.specs.declared.jobs.Job.{Job}
use Rattle.change_laws.specs.Carried.{since}
use Rattle.mode_switch.specs.Keeping.{carried_left, front_run, with_run}

-- they begin with the job at that place
pub carried_left-first : (c : ℕ) (carried : List Job) (ended ran : ℕ) (job : Job) → slice_get carried ended ≡ Some job → carried_left c carried ended ran ≡ record (since c job) { left = job.left - ran } ∷ drop (suc ended) (map (since c) carried)
carried_left-first c [] ended ran job at = absurd (cc at)
carried_left-first c (other ∷ carried) zero ran job at =
    let same : other ≡ job = cc at in
    ap (λ (j : Job). record (since c j) { left = j.left - ran } ∷ map (since c) carried) same
carried_left-first c (other ∷ carried) (suc ended) ran job at =
    carried_left-first c carried ended ran job at

-- so there are some only where there is one
pub carried_left-some : (c : ℕ) (carried : List Job) (ended ran : ℕ) → 1 ≤ length (carried_left c carried ended ran) → ended < length carried
carried_left-some c [] zero ran some = absurd (omega arith)
carried_left-some c [] (suc ended) ran some = absurd (omega arith)
carried_left-some c (job ∷ carried) zero ran some = omega arith
carried_left-some c (job ∷ carried) (suc ended) ran some =
    omega (arith, carried_left-some c carried ended ran some)

-- it has more slots left than it has run
pub left-first : (c : ℕ) (carried : List Job) (ended ran : ℕ) (job : Job) → slice_get carried ended ≡ Some job → All (λ (j : Job). 1 ≤ j.left) (carried_left c carried ended ran) → 1 ≤ job.left - ran
left-first c carried ended ran job at left =
    let all = subst (All (λ (j : Job). 1 ≤ j.left)) (carried_left-first c carried ended ran job at) left in
    All-head (λ (j : Job). 1 ≤ j.left) (record (since c job) { left = job.left - ran }) (drop (suc ended) (map (since c) carried)) all

-- where nothing has run of the first, they are as they were
pub with_run-none : (jobs : List Job) → with_run 0 jobs ≡ jobs
with_run-none [] = refl
with_run-none (job ∷ jobs) =
    let same : job.left - 0 ≡ job.left = omega arith in
    ap (λ n. record job { left = n } ∷ jobs) same

-- a slot of the first, where it has more than one left
front_run-more : (job : Job) (jobs : List Job) → 1 < job.left → front_run (job ∷ jobs) ≡ record job { left = job.left - 1 } ∷ jobs
front_run-more job jobs more = grind (arith, nat_tests)

-- and where that is its last one
front_run-last : (job : Job) (jobs : List Job) → job.left ≤ 1 → front_run (job ∷ jobs) ≡ jobs
front_run-last job jobs last = grind (arith, nat_tests)

pub carried_left-ran : (c : ℕ) (carried : List Job) (ended ran : ℕ) (job : Job) → slice_get carried ended ≡ Some job → 1 < job.left - ran → carried_left c carried ended (ran + 1) ≡ front_run (carried_left c carried ended ran)
carried_left-ran c carried ended ran job at more =
    let rest = drop (suc ended) (map (since c) carried) in
    let less : job.left - (ran + 1) ≡ job.left - ran - 1 = omega arith in
    carried_left-first c carried ended (ran + 1) job at
    ∙ ap (λ n. record (since c job) { left = n } ∷ rest) less
    ∙ sym (front_run-more (record (since c job) { left = job.left - ran }) rest more)
    ∙ ap front_run (sym (carried_left-first c carried ended ran job at))

pub carried_left-ended : (c : ℕ) (carried : List Job) (ended ran : ℕ) (job : Job) → slice_get carried ended ≡ Some job → job.left - ran ≤ 1 → carried_left c carried (ended + 1) 0 ≡ front_run (carried_left c carried ended ran)
carried_left-ended c carried ended ran job at last =
    let rest = drop (suc ended) (map (since c) carried) in
    with_run-none (drop (ended + 1) (map (since c) carried))
    ∙ ap (λ n. drop n (map (since c) carried)) (add-one ended)
    ∙ sym (front_run-last (record (since c job) { left = job.left - ran }) rest last)
    ∙ ap front_run (sym (carried_left-first c carried ended ran job at))

-- the same by the job that stands at the place
pub left-at : (c : ℕ) (carried : List Job) (ended ran : ℕ) (d : Job) → 1 ≤ length (carried_left c carried ended ran) → All (λ (j : Job). 1 ≤ j.left) (carried_left c carried ended ran) → ran ≤ (get_or carried ended d).left
left-at c carried ended ran d some left =
    let at = slice_get-get_or carried ended d (carried_left-some c carried ended ran some) in
    omega (arith, left-first c carried ended ran (get_or carried ended d) at left)

pub ran-at : (carried : List Job) (ended ran : ℕ) (d : Job) → 1 ≤ length (carried_left 0 carried ended ran) → 1 < (get_or carried ended d).left - ran → (c : ℕ) → carried_left c carried ended (ran + 1) ≡ front_run (carried_left c carried ended ran)
ran-at carried ended ran d some more c =
    carried_left-ran c carried ended ran (get_or carried ended d) (slice_get-get_or carried ended d (carried_left-some 0 carried ended ran some)) more

pub ended-at : (carried : List Job) (ended ran : ℕ) (d : Job) → 1 ≤ length (carried_left 0 carried ended ran) → (get_or carried ended d).left - ran ≤ 1 → (c : ℕ) → carried_left c carried (ended + 1) 0 ≡ front_run (carried_left c carried ended ran)
ended-at carried ended ran d some last c =
    carried_left-ended c carried ended ran (get_or carried ended d) (slice_get-get_or carried ended d (carried_left-some 0 carried ended ran some)) last

-- how many remain, and what each has left, does not depend on the time of the change
since-left : (c d : ℕ) (jobs : List Job) → All (λ (j : Job). 1 ≤ j.left) (map (since c) jobs) → All (λ (j : Job). 1 ≤ j.left) (map (since d) jobs)
since-left c d jobs left =
    All-from_recursion (λ (j : Job). 1 ≤ j.left) (map (since d) jobs) (each jobs (recursion_from_All (λ (j : Job). 1 ≤ j.left) (map (since c) jobs) left))
  where
    each : (js : List Job) → AllByRecursion (λ (j : Job). 1 ≤ j.left) (map (since c) js) → AllByRecursion (λ (j : Job). 1 ≤ j.left) (map (since d) js)
    each [] all = tt
    each (job ∷ js) all = (all.0, each js all.1)

pub left-any : (c d : ℕ) (carried : List Job) (ended ran : ℕ) → All (λ (j : Job). 1 ≤ j.left) (carried_left c carried ended ran) → All (λ (j : Job). 1 ≤ j.left) (carried_left d carried ended ran)
left-any c d [] zero ran left = left
left-any c d [] (suc ended) ran left = left
left-any c d (job ∷ carried) (suc ended) ran left = left-any c d carried ended ran left
left-any c d (job ∷ carried) zero ran left =
    let each = recursion_from_All (λ (j : Job). 1 ≤ j.left) (record (since c job) { left = job.left - ran } ∷ map (since c) carried) left in
    let others = recursion_from_All (λ (j : Job). 1 ≤ j.left) (map (since d) carried) (since-left c d carried (All-from_recursion (λ (j : Job). 1 ≤ j.left) (map (since c) carried) each.1)) in
    All-from_recursion (λ (j : Job). 1 ≤ j.left) (record (since d job) { left = job.left - ran } ∷ map (since d) carried) (each.0, others)

pub length-any : (c d : ℕ) (carried : List Job) (ended ran : ℕ) → length (carried_left c carried ended ran) ≡ length (carried_left d carried ended ran)
length-any c d [] zero ran = refl
length-any c d [] (suc ended) ran = refl
length-any c d (job ∷ carried) (suc ended) ran = length-any c d carried ended ran
length-any c d (job ∷ carried) zero ran =
    ap suc (length-map carried (since c) ∙ sym (length-map carried (since d)))
