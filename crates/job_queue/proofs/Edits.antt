-- What edits leave of an order, and a run of the job at a place.
use Rattle.std.proofs.Common.{◌≡◌, ℕ, zero, suc, ◌+◌, ◌-◌, ◌<◌, ◌≤◌, List, [], ◌∷◌, ◌++◌, length, get_or, set, refl, sym, ap, ◌∙◌, inl, inr, arith}
use Rattle.std.specs.List.{remove}
use Rattle.std.specs.Prelude.{reverse}
use Rattle.std.specs.List.Sorted.{IsNonDecreasingBy}
use Rattle.std.proofs.lemmas.Bool.{cases_lt}
use Rattle.std.proofs.lemmas.List.{length-reverse, reverse-append}
use Rattle.std.proofs.lemmas.List.Edits.{length-remove, get_or-remove_below, get_or-remove_above}
use Rattle.slot_core.specs.declared.jobs.Job.{Job}
use Rattle.job_queue.specs.Queues.{after_run_at}

-- a list whose numbers do not fall, without the item at a place
pub IsNonDecreasingBy-remove : {X : Type 0} (n : X → ℕ) (xs : List X) (i : ℕ) → i < length xs → IsNonDecreasingBy n xs → IsNonDecreasingBy n (remove xs i)
IsNonDecreasingBy-remove n xs i inside ordered j k d le below =
    let long = length-remove xs i inside in
    elim (cases_lt j i) [
      | inl j_below ↦ elim (cases_lt k i) [
        | inl k_below ↦
            rw (get_or-remove_below xs i d j j_below inside, get_or-remove_below xs i d k k_below inside) (ordered j k d le (omega arith))
        | inr k_above ↦
            rw (get_or-remove_below xs i d j j_below inside, get_or-remove_above xs i d k k_above inside) (ordered j (k + 1) d (omega arith) (omega arith))
      ]
      | inr j_above ↦ let k_above : i ≤ k = omega arith in
          rw (get_or-remove_above xs i d j j_above inside, get_or-remove_above xs i d k k_above inside) (ordered (j + 1) (k + 1) d (omega arith) (omega arith))
    ]

-- a run at a place leaves the number of jobs
pub length-after_run_at : (i : ℕ) (jobs : List Job) → length (after_run_at i jobs) ≡ length jobs
length-after_run_at i [] = refl
length-after_run_at zero (j ∷ jobs) = refl
length-after_run_at (suc i) (j ∷ jobs) = ap (λ n. suc n) (length-after_run_at i jobs)

-- it leaves what does not depend on the slots left
pub kept-after_run_at : {X : Type 0} (f : Job → X) → ((job : Job) → f (record job { left = job.left - 1 }) ≡ f job) → (i : ℕ) (jobs : List Job) (k : ℕ) (d : Job) → f (get_or (after_run_at i jobs) k d) ≡ f (get_or jobs k d)
kept-after_run_at f kept i [] k d = refl
kept-after_run_at f kept zero (j ∷ jobs) zero d = kept j
kept-after_run_at f kept zero (j ∷ jobs) (suc k) d = refl
kept-after_run_at f kept (suc i) (j ∷ jobs) zero d = refl
kept-after_run_at f kept (suc i) (j ∷ jobs) (suc k) d = kept-after_run_at f kept i jobs k d

-- so it leaves their order of start
pub IsNonDecreasingBy-after_run_at : (i : ℕ) (jobs : List Job) → IsNonDecreasingBy (λ (j : Job). j.est) jobs → IsNonDecreasingBy (λ (j : Job). j.est) (after_run_at i jobs)
IsNonDecreasingBy-after_run_at i jobs ordered j k d le below =
    let start = kept-after_run_at (λ (job : Job). job.est) (λ job. refl) i jobs in
    let first = start j d in
    let second = start k d in
    let low = ordered j k d le (omega (arith, length-after_run_at i jobs)) in
    omega arith

-- a run in the first of two parts of a list
pub after_run_at-append_left : (i : ℕ) (xs ys : List Job) → i < length xs → after_run_at i (xs ++ ys) ≡ after_run_at i xs ++ ys
after_run_at-append_left i [] ys inside = absurd (omega arith)
after_run_at-append_left zero (j ∷ xs) ys inside = refl
after_run_at-append_left (suc i) (j ∷ xs) ys inside =
    ap (λ js. j ∷ js) (after_run_at-append_left i xs ys (omega arith))

-- a run in the second
pub after_run_at-append_right : (n i : ℕ) (xs ys : List Job) → length xs ≡ n → n ≤ i → after_run_at i (xs ++ ys) ≡ xs ++ after_run_at (i - n) ys
after_run_at-append_right n i [] ys long past =
    let same : i ≡ i - n = omega arith in
    ap (λ k. after_run_at k ys) same
after_run_at-append_right n zero (j ∷ xs) ys long past = absurd (omega arith)
after_run_at-append_right n (suc i) (j ∷ xs) ys long past =
    let less : i - length xs ≡ suc i - n = omega arith in
    ap (λ js. j ∷ js) (after_run_at-append_right (length xs) i xs ys refl (omega arith) ∙ ap (λ k. xs ++ after_run_at k ys) less)

-- a list with one more job in front, looked at from its last
reverse-cons : (j : Job) (jobs : List Job) → reverse (j ∷ jobs) ≡ reverse jobs ++ j ∷ []
reverse-cons j jobs = reverse-append (j ∷ []) jobs

-- a run in a list, and in the list looked at from its last
pub reverse-after_run_at : (i : ℕ) (jobs : List Job) → i < length jobs → reverse (after_run_at (length jobs - 1 - i) jobs) ≡ after_run_at i (reverse jobs)
reverse-after_run_at i [] inside = absurd (omega arith)
reverse-after_run_at i (j ∷ jobs) inside =
    let back = reverse jobs in
    let long = length-reverse jobs in
    elim (cases_lt i (length jobs)) [
      | inl low ↦
          let later : length (j ∷ jobs) - 1 - i ≡ suc (length jobs - 1 - i) = omega arith in
          ap (λ k. reverse (after_run_at k (j ∷ jobs))) later ∙ reverse-cons j (after_run_at (length jobs - 1 - i) jobs) ∙ ap (λ js. js ++ j ∷ []) (reverse-after_run_at i jobs low) ∙ sym (after_run_at-append_left i back (j ∷ []) (omega arith)) ∙ ap (after_run_at i) (sym (reverse-cons j jobs))
      | inr last ↦
          let here : length (j ∷ jobs) - 1 - i ≡ zero = omega arith in
          let none : i - length jobs ≡ zero = omega arith in
          ap (λ k. reverse (after_run_at k (j ∷ jobs))) here ∙ reverse-cons (record j { left = j.left - 1 }) jobs ∙ sym (after_run_at-append_right (length jobs) i back (j ∷ []) long last ∙ ap (λ k. back ++ after_run_at k (j ∷ [])) none) ∙ ap (after_run_at i) (sym (reverse-cons j jobs))
    ]

-- the job written at its place with a slot less
pub set-after_run_at : (i : ℕ) (jobs : List Job) (x : Job) → i < length jobs → x ≡ get_or jobs i x → set jobs i (record x { left = x.left - 1 }) ≡ after_run_at i jobs
set-after_run_at i [] x inside is = absurd (omega arith)
set-after_run_at zero (j ∷ jobs) x inside is =
    ap (λ (o : Job). record o { left = o.left - 1 } ∷ jobs) is
set-after_run_at (suc i) (j ∷ jobs) x inside is =
    ap (λ js. j ∷ js) (set-after_run_at i jobs x (omega arith) is)
