-- What jobs lack: no work due by a later time is more above the slots up to it, and some is as much.
use Rattle.std.proofs.Common.{◌≡◌, ℕ, ◌+◌, ◌-◌, ◌<◌, ◌≤◌, ◌⊎◌, ℤ, pos, neg_ℤ, ◌≤ℤ◌, Bool, true, false, ◌&&◌, cond, ltb, leb, List, [], ◌∷◌, filter, sum_by, refl, sym, ap, subst, ◌∙◌, inl, inr, ⊎_elim, arith}
use Rattle.std.specs.Prelude.{max, nat_le, nat_lt}
use Rattle.std.specs.Int.{int_min}
use Rattle.std.specs.List.{AllByRecursion}
use Rattle.std.proofs.lemmas.Bool.{cases_lt, le-leb, le-ltb, lt-leb, lt-ltb}
use Rattle.std.proofs.lemmas.Bool.Decides.{nat_tests}
use Rattle.std.proofs.lemmas.Int.{ints, clamps}
use Rattle.std.proofs.lemmas.List.Sums.{sum_by-cons}
use Rattle.slot_core.specs.declared.jobs.Job.{Job}
use Rattle.slot_core.specs.Keeping.Plans.{AreInDeadlineOrder}
use Rattle.slot_core.specs.Offline.Keys.{is_earlier}
use Rattle.slot_core.specs.Runs.Demand.{work_between, work_by}
use Rattle.slot_core.specs.Runs.Spans.{slack}
use Rattle.slot_facts.proofs.Lists.Members.{AllByRecursion-weaker}
use Rattle.slot_facts.proofs.Lists.Sums.{sum_by-filter, sum_by-plus}
use Rattle.slot_facts.proofs.Plans.DeadlineOrder.{is_earlier-le}
use Rattle.interval_build.proofs.Due.{is_due_after}
use Rattle.interval_build.proofs.Least.{IsLeast}
use Rattle.trace_verify.specs.Dues.{due_before, left_before, AreDues, IsLackAfter}
use Rattle.trace_verify.specs.Lacks.{lack, lack_beside}
use Rattle.trace_verify.proofs.LeftSums.{left_before-le}

-- each of the jobs is due at this time or later
abbrev pub AreDueFrom : ℕ → List Job → Type 0
AreDueFrom b jobs = AllByRecursion (λ (j : Job). b ≤ j.dl) jobs

-- each of the jobs is due by this time
abbrev pub AreDueBy : ℕ → List Job → Type 0
AreDueBy end jobs = AllByRecursion (λ (j : Job). j.dl ≤ end) jobs

-- the jobs after one in deadline order are due at its deadline or later
pub AreDueFrom-first : (job : Job) (jobs : List Job) → AllByRecursion (λ other. is_earlier job other ≡ true) jobs → AreDueFrom job.dl jobs
AreDueFrom-first job [] later = tt
AreDueFrom-first job (j ∷ jobs) later = (is_earlier-le job j later.0, AreDueFrom-first job jobs later.1)

-- the first job adds its slots left to the work from its deadline on
pub work_by-due : (job : Job) (jobs : List Job) (x : ℕ) → job.dl ≤ x → work_by (job ∷ jobs) x ≡ job.left + work_by jobs x
work_by-due job jobs x due =
    sum_by-cons (λ (j : Job). cond (nat_le j.dl x) j.left 0) job jobs ∙ ap (λ b. cond b job.left 0 + work_by jobs x) (le-leb job.dl x due)

-- and nothing before
pub work_by-later : (job : Job) (jobs : List Job) (x : ℕ) → x < job.dl → work_by (job ∷ jobs) x ≡ work_by jobs x
work_by-later job jobs x later =
    sum_by-cons (λ (j : Job). cond (nat_le j.dl x) j.left 0) job jobs ∙ ap (λ b. cond b job.left 0 + work_by jobs x) (lt-leb job.dl x later) ∙ omega arith

-- before the first deadline no work is due
pub work_by-none : (b x : ℕ) (jobs : List Job) → AreDueFrom b jobs → x < b → work_by jobs x ≡ 0
work_by-none b x [] from before = refl
work_by-none b x (j ∷ jobs) from before =
    work_by-later j jobs x (omega (arith, from.0)) ∙ work_by-none b x jobs from.1 before

-- the work due by a later time is at most the slots up to it and what is lacking
lack_beside-bound : (from due most x : ℕ) (jobs : List Job) → AreInDeadlineOrder jobs → due ≤ most + (x - from) → due + work_by jobs x ≤ max most (lack_beside from due jobs) + (x - from)
lack_beside-bound from due most x [] ordered before = omega arith
lack_beside-bound from due most x (j ∷ jobs) ordered before =
    ⊎_elim
    (λ early. let none = work_by-none j.dl x (j ∷ jobs) (omega arith, AreDueFrom-first j jobs ordered.0) early in omega (arith, none))
    (λ late.
    let first : ℕ = due + j.left - (j.dl - from) in
    let reached : due + j.left ≤ max most first + (x - from) = omega arith in
    let rest = lack_beside-bound from (due + j.left) (max most first) x jobs ordered.1 reached in
    omega (arith, rest, work_by-due j jobs x late))
    (cases_lt x j.dl)

-- where something is lacking, at some deadline the work due by it is as much above the slots up to it
abbrev IsReached : ℕ → ℕ → ℕ → ℕ → List Job → ℕ → Type 0
IsReached from due b end jobs n =
    (n ≡ 0) ⊎ ((x : ℕ) × (b ≤ x) × (x ≤ end) × (n + (x - from) ≤ due + work_by jobs x))

lack_beside-reached : (from due b end : ℕ) (jobs : List Job) → AreInDeadlineOrder jobs → AreDueFrom b jobs → AreDueBy end jobs → IsReached from due b end jobs (lack_beside from due jobs)
lack_beside-reached from due b end [] ordered later by = inl refl
lack_beside-reached from due b end (j ∷ jobs) ordered later by =
    ⊎_elim
    (λ less. by_rest less (lack_beside-reached from (due + j.left) j.dl end jobs ordered.1 (AreDueFrom-first j jobs ordered.0) by.1))
    by_first
    (cases_lt first rest)
  where
    first : ℕ
    first = due + j.left - (j.dl - from)

    rest : ℕ
    rest = lack_beside from (due + j.left) jobs

    by_first : rest ≤ first → IsReached from due b end (j ∷ jobs) (max first rest)
    by_first more =
        ⊎_elim
        (λ some. inr (j.dl, later.0, by.0, omega (arith, work_by-due j jobs j.dl (omega arith))))
        (λ none. inl (omega arith))
        (cases_lt 0 first)

    by_rest : first < rest → IsReached from (due + j.left) j.dl end jobs rest → IsReached from due b end (j ∷ jobs) (max first rest)
    by_rest less reached =
        ⊎_elim
        (λ none. absurd (omega arith))
        (λ w. inr (w.0, omega (arith, later.0, w.1), w.2, omega (arith, w.3, work_by-due j jobs w.0 w.1)))
        reached

-- one test in the other is both tests
cond-both : (a b : Bool) (n : ℕ) → cond a (cond b n 0) 0 ≡ cond (a && b) n 0
cond-both true b n = refl
cond-both false b n = refl

-- the work of the jobs due after a time is the work between
pub work_by-after : (e x : ℕ) (jobs : List Job) → work_by (filter (is_due_after e) jobs) x ≡ work_between jobs e x
work_by-after e x jobs =
    sum_by-filter (λ (j : Job). cond (nat_le j.dl x) j.left 0) (is_due_after e) jobs ∙ (λ i. sum_by (λ (j : Job). cond-both (is_due_after e j) (nat_le j.dl x) j.left i) jobs)

-- the lesser of 0 and a number that is no less than 0
min-none : (m : ℤ) (n : ℕ) → n ≡ 0 → neg_ℤ (pos n) ≤ℤ m → int_min (pos 0) m ≡ neg_ℤ (pos n)
min-none m n none bound = omega (arith, ints, clamps)

-- and of 0 and a number that is between two that are not above 0 and the same
min-reached : (m : ℤ) (n : ℕ) (z : ℤ) → neg_ℤ (pos n) ≤ℤ m → m ≤ℤ z → z ≤ℤ neg_ℤ (pos n) → int_min (pos 0) m ≡ neg_ℤ (pos n)
min-reached m n z low high least = omega (arith, ints, clamps)

-- what the jobs due after a time lack is what their least slack is below 0
pub least-lack : (jobs : List Job) (e next end : ℕ) (m : ℤ) → e < next → next ≤ end → AreInDeadlineOrder (filter (is_due_after e) jobs) → AreDueFrom next (filter (is_due_after e) jobs) → AreDueBy end (filter (is_due_after e) jobs) → IsLeast (slack jobs e) next end m → int_min (pos 0) m ≡ neg_ℤ (pos (lack e (filter (is_due_after e) jobs)))
least-lack jobs e next end m after within ordered from by least = both
  where
    rest : List Job
    rest = filter (is_due_after e) jobs

    n : ℕ
    n = lack e rest

    bound : (x : ℕ) → neg_ℤ (pos n) ≤ℤ slack jobs e x
    bound x =
        let most = lack_beside-bound e 0 0 x rest ordered (omega arith) in
        let same = work_by-after e x jobs in
        omega (arith, ints, most, same)

    least_bound : neg_ℤ (pos n) ≤ℤ m
    least_bound = subst (λ v. neg_ℤ (pos n) ≤ℤ v) (sym least.reached.3) (bound least.reached.0)

    some_slack : (x : ℕ) → e ≤ x → n + (x - e) ≤ 0 + work_by rest x → slack jobs e x ≤ℤ neg_ℤ (pos n)
    some_slack x from_e most =
        let same = work_by-after e x jobs in
        omega (arith, ints, most, same)

    both : int_min (pos 0) m ≡ neg_ℤ (pos n)
    both =
        elim (lack_beside-reached e 0 next end rest ordered from by) as (λ _. int_min (pos 0) m ≡ neg_ℤ (pos n)) [
          | inl none ↦ min-none m n none least_bound
          | inr w ↦ min-reached m n (slack jobs e w.0) least_bound (least.bound w.0 w.1 w.2) (some_slack w.0 (omega (arith, w.1)) w.3)
        ]

-- each of the jobs is due by some time
all_by : (jobs : List Job) → (end : ℕ) × AreDueBy end jobs
all_by [] = (0, tt)
all_by (j ∷ jobs) =
    let rest = all_by jobs in
    (max j.dl rest.0, (omega arith, AllByRecursion-weaker (λ (j : Job). j.dl ≤ rest.0) (λ (o : Job). o.dl ≤ max j.dl rest.0) jobs (λ o by. omega (arith, by)) rest.1))

-- jobs due after a time are due at the next time or later
due_from_next : (e : ℕ) (jobs : List Job) → AreDueFrom (e + 1) (filter (is_due_after e) jobs)
due_from_next e [] = tt
due_from_next e (j ∷ jobs) =
    ⊎_elim
    (λ after. rw (lt-ltb e j.dl after) (omega arith, due_from_next e jobs))
    (λ past. rw (le-ltb e j.dl past) (due_from_next e jobs))
    (cases_lt e j.dl)

in_parts : (left dl e x : ℕ) → e ≤ x → cond (ltb dl (e + 1)) left 0 + cond (ltb e dl) (cond (leb dl x) left 0) 0 ≡ cond (ltb dl (x + 1)) left 0
in_parts left dl e x le = grind (arith, nat_tests)

-- what is left before a later time is what is left before a time and of the jobs due after it
after_parts : (e x : ℕ) (jobs : List Job) → e ≤ x → left_before jobs (x + 1) ≡ left_before jobs (e + 1) + work_by (filter (is_due_after e) jobs) x
after_parts e x jobs le =
    let rest = sum_by-filter (λ (j : Job). cond (nat_le j.dl x) j.left 0) (is_due_after e) jobs in
    let both = sum_by-plus (λ (j : Job). cond (nat_lt j.dl (e + 1)) j.left 0) (λ (j : Job). cond (is_due_after e j) (cond (nat_le j.dl x) j.left 0) 0) (λ (j : Job). cond (nat_lt j.dl (x + 1)) j.left 0) jobs (λ j. in_parts j.left j.dl e x le) in
    omega (arith, rest, both)

-- what the slots due after a time lack is what the jobs due after it lack
pub lack-of_dues : (due : List ℕ) (jobs : List Job) (e n : ℕ) → AreDues due jobs → AreInDeadlineOrder (filter (is_due_after e) jobs) → IsLackAfter (due_before due) e n → n ≡ lack e (filter (is_due_after e) jobs)
lack-of_dues due jobs e n are ordered lacks = omega (arith, no_more, no_less)
  where
    rest : List Job
    rest = filter (is_due_after e) jobs

    between : (x : ℕ) → e ≤ x → due_before due (x + 1) ≡ due_before due (e + 1) + work_by rest x
    between x le = omega (arith, are.same (x + 1), are.same (e + 1), after_parts e x jobs le)

    no_more : n ≤ lack e rest
    no_more =
        ⊎_elim
        (λ none. omega arith)
        (λ r. omega (arith, r.1, r.2, between r.0 (omega (arith, r.1)), lack_beside-bound e 0 0 r.0 rest ordered (omega arith)))
        lacks.reached

    no_less : lack e rest ≤ n
    no_less =
        let all = all_by rest in
        ⊎_elim
        (λ none. omega arith)
        (λ r. omega (arith, r.1, r.3, between r.0 (omega (arith, r.1)), lacks.bound r.0 (omega (arith, r.1))))
        (lack_beside-reached e 0 (e + 1) all.0 rest ordered (due_from_next e jobs) all.1)

-- which is no more than they have left
pub lack-few : (due : List ℕ) (jobs : List Job) (e n : ℕ) → AreDues due jobs → IsLackAfter (due_before due) e n → n ≤ sum_by (λ (j : Job). j.left) jobs
lack-few due jobs e n are lacks =
    ⊎_elim
    (λ none. omega arith)
    (λ r. omega (arith, r.2, are.same (r.0 + 1), left_before-le jobs (r.0 + 1)))
    lacks.reached
