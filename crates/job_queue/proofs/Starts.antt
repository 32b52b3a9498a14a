-- The first start of some jobs: what it is, and how a walk finds it.
use Rattle.std.proofs.Common.{◌≡◌, ℕ, zero, suc, ◌+◌, ◌<◌, ◌≤◌, ◌⊎◌, ◌&&◌, min, Bool, true, false, cond, List, [], ◌∷◌, ◌++◌, fold, Option, Some, None, refl, sym, ap, ◌∙◌, inl, inr, arith}
use Rattle.std.specs.Prelude.{count_by, filter, drop, get_or, length, nat_lt, reverse}
use Rattle.std.specs.List.Sorted.{IsNonDecreasingBy}
use Rattle.std.proofs.lemmas.Bool.{and_parts, cond-false, cond-true, cases_lt, le-ltb, ltb-true, lt-ltb}
use Rattle.std.proofs.lemmas.List.{drop_more, length-reverse}
use Rattle.std.proofs.lemmas.List.Elements.{filter-append}
use Rattle.std.proofs.lemmas.List.Sums.{fold-append, sum_by-cons}
use Rattle.slot_core.specs.declared.jobs.Job.{Job}
use Rattle.slot_facts.proofs.Lists.Members.{Has, Contains-from_Has, Has-filter, Has-filter_passes}
use Rattle.slot_core.specs.Offline.Keys.{is_earlier}
use Rattle.job_queue.specs.Queues.{IsEarliestLast}
use Rattle.job_queue.specs.Starts.{first_start, first_start_within, goes_before, sooner, starts_before, starts_within}
use Rattle.job_queue.proofs.Comes.{none-behind, not_earlier-trans}

some_same : (a b : ℕ) → Some a ≡ Some b → a ≡ b
some_same a b e = cc

-- what is found is at most the start so far, and at most that of each job
sooner-le : (best : Option ℕ) (js : List Job) (s : ℕ) → fold sooner best js ≡ Some s → ((b : ℕ) → best ≡ Some b → s ≤ b) × ((j : Job) → Has js j → s ≤ j.est)
sooner-le best [] s e = (λ b is. omega (arith, some_same s b (sym e ∙ is)), λ j at. absurd at)
sooner-le None (x ∷ js) s e =
    let rest = sooner-le (Some x.est) js s e in (
      λ b is. absurd (cc is),
      λ j at. elim at [
        | inl same ↦ omega (arith, rest.0 x.est refl, ap (λ (o : Job). o.est) same)
        | inr there ↦ rest.1 j there
      ],
    )
sooner-le (Some a) (x ∷ js) s e =
    let rest = sooner-le (Some (min a x.est)) js s e in (
      λ b is. omega (arith, rest.0 (min a x.est) refl, some_same a b is),
      λ j at. elim at [
        | inl same ↦ omega (arith, rest.0 (min a x.est) refl, ap (λ (o : Job). o.est) same)
        | inr there ↦ rest.1 j there
      ],
    )

-- it is the start so far, or that of a job
sooner-reached : (best : Option ℕ) (js : List Job) (s : ℕ) → fold sooner best js ≡ Some s → (best ≡ Some s) ⊎ ((j : Job) × Has js j × (j.est ≡ s))
sooner-reached best [] s e = inl e
sooner-reached None (x ∷ js) s e =
    elim (sooner-reached (Some x.est) js s e) [
      | inl is ↦ inr (x, inl refl, some_same x.est s is)
      | inr found ↦ inr (found.0, inr found.1, found.2)
    ]
sooner-reached (Some a) (x ∷ js) s e =
    elim (sooner-reached (Some (min a x.est)) js s e) [
      | inl is ↦
          let least = some_same (min a x.est) s is in
          elim (cases_lt x.est a) [
            | inl earlier ↦ inr (x, inl refl, omega arith)
            | inr later ↦ let own : a ≡ s = omega arith in inl (ap (λ (n : ℕ). Some n) own)
          ]
      | inr found ↦ inr (found.0, inr found.1, found.2)
    ]

-- where one is known, one is found
sooner-some : (a : ℕ) (js : List Job) → fold sooner (Some a) js ≡ None → ⊥
sooner-some a [] e = cc
sooner-some a (x ∷ js) e = sooner-some (min a x.est) js e

sooner-none : (js : List Job) (j : Job) → fold sooner None js ≡ None → Has js j → ⊥
sooner-none [] j e at = at
sooner-none (x ∷ js) j e at = sooner-some x.est js e

-- the first start: none of a job that starts after `now` and goes before the other
pub first_start-none : (now : ℕ) (other : Option Job) (jobs : List Job) (job : Job) → first_start now other jobs ≡ None → Has jobs job → now < job.est → goes_before other job ≡ true → ⊥
first_start-none now other jobs job none at later before =
    sooner-none (filter (starts_before now other) jobs) job none (Has-filter (starts_before now other) jobs job at (rw (lt-ltb now job.est later) before))

-- or it is at most that of each such job
pub first_start-le : (now s : ℕ) (other : Option Job) (jobs : List Job) (job : Job) → first_start now other jobs ≡ Some s → Has jobs job → now < job.est → goes_before other job ≡ true → s ≤ job.est
first_start-le now s other jobs job some at later before =
    (sooner-le None (filter (starts_before now other) jobs) s some).1 job (Has-filter (starts_before now other) jobs job at (rw (lt-ltb now job.est later) before))

-- and that of one
pub first_start-some : (now s : ℕ) (other : Option Job) (jobs : List Job) → first_start now other jobs ≡ Some s → (job : Job) × Has jobs job × (job.est ≡ s) × (now < s) × (goes_before other job ≡ true)
first_start-some now s other jobs some =
    elim (sooner-reached None (filter (starts_before now other) jobs) s some) [
      | inl none ↦ absurd (cc none)
      | inr (job, at, is) ↦
          let (listed, passes) = Has-filter_passes (starts_before now other) jobs job at in
          let (later, before) = and_parts (nat_lt now job.est) (goes_before other job) passes in
          (job, listed, is, omega (arith, ltb-true now job.est later), before)
    ]

-- the first of jobs in order of start starts no later than the others
first_least : (x : Job) (js : List Job) (j : Job) → IsNonDecreasingBy (λ (o : Job). o.est) (x ∷ js) → Has js j → x.est ≤ j.est
first_least x js j ordered at =
    let (k, below, is) = Contains-from_Has js j at in
    omega (arith, ordered zero (suc k) j (omega arith) (omega (arith, below)), ap (λ (o : Job). o.est) is)

-- the first start of jobs in three parts
pub sooner-parts : (p : Job → Bool) (xs ys zs : List Job) → fold sooner (fold sooner (fold sooner None (filter p xs)) (filter p ys)) (filter p zs) ≡ fold sooner None (filter p (xs ++ ys ++ zs))
sooner-parts p xs ys zs =
    let both = sym (fold-append sooner None (filter p xs) (filter p ys)) ∙ ap (fold sooner None) (sym (filter-append p xs ys)) in
    ap (λ b. fold sooner b (filter p zs)) both
    ∙ sym (fold-append sooner None (filter p (xs ++ ys)) (filter p zs))
    ∙ ap (fold sooner None) (sym (filter-append p (xs ++ ys) zs))

-- one more job that is looked at, or not counted
pub sooner-more : (p : Job → Bool) (best : Option ℕ) (jobs : List Job) (i : ℕ) (x : Job) → i < length jobs → x ≡ get_or jobs i x → p x ≡ true → fold sooner (sooner best x) (filter p (drop (i + 1) jobs)) ≡ fold sooner best (filter p (drop i jobs))
sooner-more p best jobs i x inside is passes =
    let rest = drop_more jobs i x inside ∙ ap (λ j. j ∷ drop (i + 1) jobs) (sym is) in
    sym (ap (λ js. fold sooner best (filter p js)) rest ∙ ap (fold sooner best) (cond-true (p x) (x ∷ filter p (drop (i + 1) jobs)) (filter p (drop (i + 1) jobs)) passes))

pub sooner-skip : (p : Job → Bool) (best : Option ℕ) (jobs : List Job) (i : ℕ) (x : Job) → i < length jobs → x ≡ get_or jobs i x → p x ≡ false → fold sooner best (filter p (drop (i + 1) jobs)) ≡ fold sooner best (filter p (drop i jobs))
sooner-skip p best jobs i x inside is fails =
    let rest = drop_more jobs i x inside ∙ ap (λ j. j ∷ drop (i + 1) jobs) (sym is) in
    sym (ap (λ js. fold sooner best (filter p js)) rest ∙ ap (fold sooner best) (cond-false (p x) (x ∷ filter p (drop (i + 1) jobs)) (filter p (drop (i + 1) jobs)) fails))

-- of jobs none of which goes before the other one, none counts
none-before : (now until : ℕ) (other : Job) (jobs : List Job) → ((k : ℕ) (d : Job) → k < length jobs → is_earlier (get_or jobs k d) other ≡ false) → filter (starts_within now until (Some other)) jobs ≡ []
none-before now until other [] none = refl
none-before now until other (j ∷ jobs) none =
    cond-false (starts_within now until (Some other) j) (j ∷ filter (starts_within now until (Some other)) jobs) (filter (starts_within now until (Some other)) jobs) (by_tests (nat_lt j.est until) (nat_lt now j.est) (none zero j (omega arith)))
    ∙ none-before now until other jobs (λ k d low. none (suc k) d (omega arith))
  where
    by_tests : (soon later : Bool) → is_earlier j other ≡ false → (soon && (later && is_earlier j other)) ≡ false
    by_tests false later fails = refl
    by_tests true false fails = refl
    by_tests true true fails = fails

-- of jobs that have come, looked at from the last, none counts from one on that does not go before it
pub within-come : (now until : ℕ) (other : Option Job) (come : List Job) (i : ℕ) (x : Job) → IsEarliestLast come → i < length come → x ≡ get_or (reverse come) i x → goes_before other x ≡ false → filter (starts_within now until other) (drop i (reverse come)) ≡ []
within-come now until None come i x ordered inside is fails = absurd (cc fails)
within-come now until (Some other) come i x ordered inside is fails =
    let back = reverse come in
    let long = length-reverse come in
    let rest = drop_more back i x (omega arith) ∙ ap (λ j. j ∷ drop (i + 1) back) (sym is) in
    ap (filter (starts_within now until (Some other))) rest ∙ none-before now until other (x ∷ drop (i + 1) back) none
  where
    none : (k : ℕ) (d : Job) → k < length (x ∷ drop (i + 1) (reverse come)) → is_earlier (get_or (x ∷ drop (i + 1) (reverse come)) k d) other ≡ false
    none zero d low = fails
    none (suc k) d low = not_earlier-trans (get_or (drop (i + 1) (reverse come)) k d) x other (none-behind come i x ordered inside is k d (omega arith)) fails

-- where none starts sooner, a start stays
sooner-least : (s : ℕ) (js : List Job) → ((j : Job) → Has js j → s ≤ j.est) → fold sooner (Some s) js ≡ Some s
sooner-least s [] later = refl
sooner-least s (x ∷ js) later =
    let same : min s x.est ≡ s = omega (arith, later x (inl refl)) in
    ap (λ a. fold sooner (Some a) js) same ∙ sooner-least s js (λ j at. later j (inr at))

-- of jobs in order of start the first decides
pub sooner-ordered : (p : Job → Bool) (best : Option ℕ) (x : Job) (js : List Job) → IsNonDecreasingBy (λ (j : Job). j.est) (x ∷ js) → p x ≡ true → fold sooner best (filter p (x ∷ js)) ≡ sooner best x
sooner-ordered p best x js ordered passes =
    ap (fold sooner best) (cond-true (p x) (x ∷ filter p js) (filter p js) passes) ∙ by_best best
  where
    later : (j : Job) → Has (filter p js) j → x.est ≤ j.est
    later j at = first_least x js j ordered (Has-filter_passes p js j at).0

    by_best : (b : Option ℕ) → fold sooner (sooner b x) (filter p js) ≡ sooner b x
    by_best None = sooner-least x.est (filter p js) later
    by_best (Some a) = sooner-least (min a x.est) (filter p js) (λ j at. omega (arith, later j at))

-- where all jobs start at a time or later, none starts before it
within-later : (now until : ℕ) (other : Option Job) (jobs : List Job) → ((k : ℕ) (d : Job) → k < length jobs → until ≤ (get_or jobs k d).est) → filter (starts_within now until other) jobs ≡ []
within-later now until other [] later = refl
within-later now until other (j ∷ jobs) later =
    rw
    (le-ltb j.est until (later zero j (omega arith)))
    (within-later now until other jobs (λ k d low. later (suc k) d (omega arith)))

-- so where the first of jobs in order of start does
pub within-ordered : (now until : ℕ) (other : Option Job) (job : Job) (jobs : List Job) → IsNonDecreasingBy (λ (j : Job). j.est) (job ∷ jobs) → until ≤ job.est → filter (starts_within now until other) (job ∷ jobs) ≡ []
within-ordered now until other job jobs ordered late =
    within-later now until other (job ∷ jobs) (λ k d low. omega (arith, ordered zero k d (omega arith) low))

-- one more job that starts before a time
pub soon-more : (until : ℕ) (job : Job) (jobs : List Job) → job.est < until → count_by (λ (j : Job). nat_lt j.est until) (job ∷ jobs) ≡ 1 + count_by (λ (j : Job). nat_lt j.est until) jobs
soon-more until job jobs soon =
    let soons = λ (j : Job). nat_lt j.est until in
    sum_by-cons (λ (j : Job). cond (soons j) 1 0) job jobs ∙ ap (λ b. cond b 1 0 + count_by soons jobs) (lt-ltb job.est until soon)

-- a start that lies before a time
abbrev before : ℕ → Option ℕ → Option ℕ
before until None = None
before until (Some start) = cond (nat_lt start until) (Some start) None

-- of two starts the sooner lies before a time where one of them does
before-sooner : (until : ℕ) (best : Option ℕ) (x : Job) → cond (nat_lt x.est until) (sooner (before until best) x) (before until best) ≡ before until (sooner best x)
before-sooner until None x = refl
before-sooner until (Some a) x = by_order (cases_lt a until) (cases_lt x.est until)
  where
    by_order : (a < until) ⊎ (until ≤ a) → (x.est < until) ⊎ (until ≤ x.est) → cond (nat_lt x.est until) (sooner (cond (nat_lt a until) (Some a) None) x) (cond (nat_lt a until) (Some a) None) ≡ cond (nat_lt (min a x.est) until) (Some (min a x.est)) None
    by_order (inl early) (inl soon) = rw (lt-ltb a until early) (rw (lt-ltb x.est until soon) (rw (lt-ltb (min a x.est) until (omega arith)) refl))
    by_order (inl early) (inr late) =
        let same : min a x.est ≡ a = omega arith in
        rw same (rw (lt-ltb a until early) (rw (le-ltb x.est until late) refl))
    by_order (inr late) (inl soon) =
        let same : min a x.est ≡ x.est = omega arith in
        rw same (rw (le-ltb a until late) (rw (lt-ltb x.est until soon) refl))
    by_order (inr late) (inr later) = rw (le-ltb a until late) (rw (le-ltb x.est until later) (rw (le-ltb (min a x.est) until (omega arith)) refl))

-- the first start before a time is the first start, where that lies before it
within-fold : (now until : ℕ) (other : Option Job) (best : Option ℕ) (jobs : List Job) → fold sooner (before until best) (filter (starts_within now until other) jobs) ≡ before until (fold sooner best (filter (starts_before now other) jobs))
within-fold now until other best [] = refl
within-fold now until other best (x ∷ jobs) =
    by_tests (starts_before now other x) (nat_lt x.est until) refl (λ b. within-fold now until other b jobs)
  where
    by_tests : (goes soon : Bool) → nat_lt x.est until ≡ soon → ((b : Option ℕ) → fold sooner (before until b) (filter (starts_within now until other) jobs) ≡ before until (fold sooner b (filter (starts_before now other) jobs))) → fold sooner (before until best) (cond (soon && goes) (x ∷ filter (starts_within now until other) jobs) (filter (starts_within now until other) jobs)) ≡ before until (fold sooner best (cond goes (x ∷ filter (starts_before now other) jobs) (filter (starts_before now other) jobs)))
    by_tests false true is rest = rest best
    by_tests false false is rest = rest best
    by_tests true soon is rest =
        by_soon soon (ap (λ b. cond b (sooner (before until best) x) (before until best)) (sym is) ∙ before-sooner until best x)
      where
        by_soon : (soon : Bool) → cond soon (sooner (before until best) x) (before until best) ≡ before until (sooner best x) → fold sooner (before until best) (cond (soon && true) (x ∷ filter (starts_within now until other) jobs) (filter (starts_within now until other) jobs)) ≡ before until (fold sooner (sooner best x) (filter (starts_before now other) jobs))
        by_soon true first = ap (λ o. fold sooner o (filter (starts_within now until other) jobs)) first ∙ rest (sooner best x)
        by_soon false first = ap (λ o. fold sooner o (filter (starts_within now until other) jobs)) first ∙ rest (sooner best x)

-- none before a time: none at all, or one that lies at it or later
pub within-none : (now until : ℕ) (other : Option Job) (jobs : List Job) → first_start_within now until other jobs ≡ None → (s : ℕ) → first_start now other jobs ≡ Some s → until ≤ s
within-none now until other jobs none s some = by_order (cases_lt s until)
  where
    is : None ≡ cond (nat_lt s until) (Some s) None
    is = sym none ∙ within-fold now until other None jobs ∙ ap (before until) some

    by_order : (s < until) ⊎ (until ≤ s) → until ≤ s
    by_order (inl early) = absurd (cc (is ∙ ap (λ b. cond b (Some s) None) (lt-ltb s until early)))
    by_order (inr late) = late

-- one before a time is the first of all
pub within-some : (now until s : ℕ) (other : Option Job) (jobs : List Job) → first_start_within now until other jobs ≡ Some s → (first_start now other jobs ≡ Some s) × (s < until)
within-some now until s other jobs some = by_first (first_start now other jobs) refl
  where
    is : before until (first_start now other jobs) ≡ Some s
    is = sym (within-fold now until other None jobs) ∙ some

    by_first : (o : Option ℕ) → first_start now other jobs ≡ o → (first_start now other jobs ≡ Some s) × (s < until)
    by_first None none = absurd (cc (sym (ap (before until) none) ∙ is))
    by_first (Some first) found = by_order (cases_lt first until)
      where
        here : cond (nat_lt first until) (Some first) None ≡ Some s
        here = sym (ap (before until) found) ∙ is

        by_order : (first < until) ⊎ (until ≤ first) → (first_start now other jobs ≡ Some s) × (s < until)
        by_order (inl early) =
            let same = some_same first s (sym (ap (λ b. cond b (Some first) None) (lt-ltb first until early)) ∙ here) in (
              found ∙ ap (λ n. Some n) same,
              omega arith,
            )
        by_order (inr late) = absurd (cc (sym (ap (λ b. cond b (Some first) None) (le-ltb first until late)) ∙ here))
