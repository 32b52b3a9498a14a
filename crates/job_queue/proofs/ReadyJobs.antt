-- The ready jobs of a queue, by how far it was looked at.
use Rattle.std.proofs.Common.{◌≡◌, ℕ, zero, suc, ◌+◌, ◌-◌, ◌<◌, ◌≤◌, true, false, cond, List, [], ◌∷◌, ◌++◌, length, take, drop, get_or, Some, None, refl, sym, ap, ◌∙◌, subst, arith}
use Rattle.std.specs.Prelude.{find, nat_le}
use Rattle.std.specs.List.Sorted.{IsNonDecreasingBy}
use Rattle.std.proofs.lemmas.Bool.{cond-true, cond-false, le-leb, lt-leb}
use Rattle.std.proofs.lemmas.List.{append-nil, take-append-drop, length-append, length-drop, get_or-drop, get_or-append_right, get_or_read, drop_more}
use Rattle.std.proofs.lemmas.List.Elements.{filter-append, filter_more}
use Rattle.std.proofs.lemmas.List.Folds.{find-append}
use Rattle.slot_core.specs.declared.jobs.Key.{Key}
use Rattle.slot_core.specs.declared.jobs.Job.{Job}
use Rattle.slot_core.specs.Runs.Choice.{ready}
use Rattle.job_queue.proofs.Searches.{has_key}

-- the ready jobs among one more job
ready-take : (now : ℕ) (jobs : List Job) (i : ℕ) (x : Job) → i < length jobs → x ≡ get_or jobs i x → ready now (take (i + 1) jobs) ≡ ready now (take i jobs) ++ cond (nat_le x.est now) (x ∷ []) []
ready-take now jobs i x inside is =
    filter_more (λ (j : Job). nat_le j.est now) jobs i x inside ∙ ap (λ (j : Job). ready now (take i jobs) ++ cond (nat_le j.est now) (j ∷ []) []) (sym is)

-- where that one may run
pub ready-take_now : (now : ℕ) (jobs : List Job) (i : ℕ) (x : Job) → i < length jobs → x ≡ get_or jobs i x → x.est ≤ now → ready now (take (i + 1) jobs) ≡ ready now (take i jobs) ++ x ∷ []
ready-take_now now jobs i x inside is starts =
    ready-take now jobs i x inside is ∙ ap (λ b. ready now (take i jobs) ++ cond b (x ∷ []) []) (le-leb x.est now starts)

-- where that one starts later
pub ready-take_later : (now : ℕ) (jobs : List Job) (i : ℕ) (x : Job) → i < length jobs → x ≡ get_or jobs i x → now < x.est → ready now (take (i + 1) jobs) ≡ ready now (take i jobs)
ready-take_later now jobs i x inside is later =
    ready-take now jobs i x inside is ∙ (ap (λ b. ready now (take i jobs) ++ cond b (x ∷ []) []) (lt-leb x.est now later) ∙ append-nil (ready now (take i jobs)))

-- the first of some jobs is ready where it may run
pub ready-first_now : (now : ℕ) (job : Job) (jobs : List Job) → job.est ≤ now → ready now (job ∷ jobs) ≡ job ∷ ready now jobs
ready-first_now now job jobs starts =
    cond-true (nat_le job.est now) (job ∷ ready now jobs) (ready now jobs) (le-leb job.est now starts)

-- where all jobs start later, none is ready
ready-none : (now : ℕ) (jobs : List Job) → ((k : ℕ) (d : Job) → k < length jobs → now < (get_or jobs k d).est) → ready now jobs ≡ []
ready-none now [] later = refl
ready-none now (j ∷ jobs) later =
    rw
    (lt-leb j.est now (later zero j (omega arith)))
    (ready-none now jobs (λ k d low. later (suc k) d (omega arith)))

-- so where the first of jobs in order of start starts later
pub ready-ordered_later : (now : ℕ) (job : Job) (jobs : List Job) → IsNonDecreasingBy (λ (j : Job). j.est) (job ∷ jobs) → now < job.est → ready now (job ∷ jobs) ≡ []
ready-ordered_later now job jobs ordered later =
    ready-none now (job ∷ jobs) (λ k d low. omega (arith, ordered zero k d (omega arith) low))

-- the same, by the first of them
pub ready-all_later : (now : ℕ) (jobs : List Job) (first : Job) → IsNonDecreasingBy (λ (j : Job). j.est) jobs → first ≡ get_or jobs 0 first → now < first.est → ready now jobs ≡ []
ready-all_later now [] first ordered is later = refl
ready-all_later now (j ∷ jobs) first ordered is later =
    ready-ordered_later now j jobs ordered (omega (arith, ap (λ (job : Job). job.est) is))

-- where a job of a second part in order of start starts later, so do those after it
later_after : (now : ℕ) (beside listed : List Job) (m i : ℕ) (x : Job) → IsNonDecreasingBy (λ (j : Job). j.est) listed → length beside ≡ m → m ≤ i → i < length (beside ++ listed) → x ≡ get_or (beside ++ listed) i x → now < x.est → (k : ℕ) (d : Job) → k < length (drop i (beside ++ listed)) → now < (get_or (drop i (beside ++ listed)) k d).est
later_after now beside listed m i x ordered long past inside is later k d low =
    let start = λ (j : Job). j.est in
    let jobs = beside ++ listed in
    let here = get_or_read jobs i x inside is d ∙ get_or-append_right beside listed m i d long past in
    let there = get_or-drop i jobs k d ∙ get_or-append_right beside listed m (i + k) d long (omega arith) in
    let fits : i + k - m < length listed =
    omega (arith, length-append beside listed, length-drop i jobs) in
    let order = ordered (i - m) (i + k - m) d (omega arith) fits in
    omega (arith, order, ap start here, ap start there)

-- then the ready jobs are those before it
pub ready-rest : (now : ℕ) (beside listed jobs : List Job) (m i : ℕ) (x : Job) → beside ++ listed ≡ jobs → IsNonDecreasingBy (λ (j : Job). j.est) listed → length beside ≡ m → m ≤ i → i < length jobs → x ≡ get_or jobs i x → now < x.est → ready now jobs ≡ ready now (take i jobs)
ready-rest now beside listed jobs m i x parts ordered long past inside is later =
    let all = beside ++ listed in
    let all_inside : i < length all = omega (arith, ap length parts) in
    let read = is ∙ ap (λ js. get_or js i x) (sym parts) in
    let none = ready-none now (drop i all) (later_after now beside listed m i x ordered long past all_inside read later) in
    let split = filter-append (λ (j : Job). nat_le j.est now) (take i all) (drop i all) in
    let whole : ready now all ≡ ready now (take i all) =
    ap (ready now) (sym (take-append-drop i all)) ∙ (split ∙ (ap (λ js. ready now (take i all) ++ js) none ∙ append-nil (ready now (take i all)))) in
    subst (λ js. ready now js ≡ ready now (take i js)) parts whole

-- a ready job of the key that stands after ready jobs of other keys is what is found
pub find-place : (now : ℕ) (key : Key) (jobs : List Job) (i : ℕ) (x : Job) → i < length jobs → x ≡ get_or jobs i x → x.est ≤ now → has_key key x ≡ true → find (has_key key) (ready now (take i jobs)) ≡ None → find (has_key key) (ready now jobs) ≡ Some x
find-place now key jobs i x inside is starts here none =
    let may = λ (j : Job). nat_le j.est now in
    let before = ready now (take i jobs) in
    let after = ready now (drop (i + 1) jobs) in
    let rest = drop_more jobs i x inside ∙ ap (λ j. j ∷ drop (i + 1) jobs) (sym is) in
    let kept = ready-first_now now x (drop (i + 1) jobs) starts in
    let parts : ready now jobs ≡ before ++ x ∷ after =
    ap (ready now) (sym (take-append-drop i jobs)) ∙ (filter-append may (take i jobs) (drop i jobs) ∙ ap (λ js. before ++ js) (ap (ready now) rest ∙ kept)) in
    let found : find (has_key key) (x ∷ after) ≡ Some x =
    cond-true (has_key key x) (Some x) (find (has_key key) after) here in
    rw parts (find-append (has_key key) before (x ∷ after) ∙ rw none found)

-- nothing is found where neither those before a place nor the one at it have the key
pub find-take_now : (now : ℕ) (key : Key) (jobs : List Job) (i : ℕ) (x : Job) → i < length jobs → x ≡ get_or jobs i x → x.est ≤ now → has_key key x ≡ false → find (has_key key) (ready now (take i jobs)) ≡ None → find (has_key key) (ready now (take (i + 1) jobs)) ≡ None
find-take_now now key jobs i x inside is starts other none =
    let found : find (has_key key) (x ∷ []) ≡ None = cond-false (has_key key x) (Some x) None other in
    ap (find (has_key key)) (ready-take_now now jobs i x inside is starts) ∙ (find-append (has_key key) (ready now (take i jobs)) (x ∷ []) ∙ rw none found)
