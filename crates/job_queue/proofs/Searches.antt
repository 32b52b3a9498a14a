-- Where a search for a key stops, and what it finds there.
use Rattle.std.proofs.Common.{◌≡◌, ℕ, ◌+◌, ◌<◌, ◌≤◌, Bool, true, false, List, length, get_or, Some, None, below_more, refl, sym, ap, ◌∙◌, arith}
use Rattle.std.specs.Prelude.{find, nat_lt, position}
use Rattle.std.specs.List.{position_or_len}
use Rattle.std.proofs.lemmas.Bool.{lt-ltb, le-ltb, ltb-false}
use Rattle.std.proofs.lemmas.List.{get_or_read}
use Rattle.std.proofs.lemmas.List.Folds.{find_at}
use Rattle.std.proofs.lemmas.List.Quantifiers.{position-Some}
use Rattle.std.proofs.lemmas.List.Sums.{position_or_len_is}
use Rattle.std.proofs.lemmas.Option.{slice_get-get_or, slice_get_past}
use Rattle.slot_core.specs.declared.jobs.Key.{Key}
use Rattle.slot_core.specs.declared.jobs.Key.TheVariants.{Soft}
use Rattle.slot_core.specs.declared.jobs.Job.{Job}
use Rattle.slot_core.specs.Offline.Keys.{same_key}
use Rattle.slot_facts.proofs.Sets.Faults.{cond-None}
use Rattle.job_queue.specs.Queues.{search_steps}

-- the job has this key
abbrev pub has_key : Key → Job → Bool
has_key key job = same_key job.key key

-- no job of the first so many has this key
abbrev pub HasNone : Key → List Job → ℕ → Type 0
HasNone key jobs n = (k : ℕ) (d : Job) → k < n → has_key key (get_or jobs k d) ≡ false

-- nor has the next one, where it has another
pub HasNone-more : (key : Key) (jobs : List Job) (i : ℕ) (x : Job) → i < length jobs → x ≡ get_or jobs i x → has_key key x ≡ false → HasNone key jobs i → HasNone key jobs (i + 1)
HasNone-more key jobs i x inside is other none k d low =
    below_more
    (λ k. (d : Job) → has_key key (get_or jobs k d) ≡ false)
    i
    (λ k low d. none k d low)
    (λ d. ap (has_key key) (sym (get_or_read jobs i x inside is d)) ∙ other)
    k
    low
    d

-- some job, to read places past the end of a list
pub nobody : Job
nobody = record { key = Soft 0; est = 0; dl = 0; left = 0; declared = 0 }

-- where the first jobs have other keys and the next one has this key, that is its place
pub position-found : (key : Key) (jobs : List Job) (i : ℕ) (x : Job) → i < length jobs → x ≡ get_or jobs i x → HasNone key jobs i → has_key key x ≡ true → position (has_key key) jobs ≡ Some i
position-found key jobs i x inside is none here =
    let at = position_or_len_is (has_key key) jobs i x (omega arith) (λ k low. none k x low) (λ _. ap (has_key key) (sym is) ∙ here) in
    rw (at, lt-ltb i (length jobs) inside) refl

-- so many jobs are looked at then
pub search_steps-found : (key : Key) (jobs : List Job) (i : ℕ) → position (has_key key) jobs ≡ Some i → search_steps key jobs ≡ i + 1
search_steps-found key jobs i e =
    let at = position-Some (has_key key) jobs i nobody e in
    let here = position_or_len_is (has_key key) jobs i nobody (omega (arith, at.0)) at.2 (λ _. at.1) in
    omega (arith, at.0, here)

-- where no job has this key, there is no place of it
pub position-none : (key : Key) (jobs : List Job) → HasNone key jobs (length jobs) → position (has_key key) jobs ≡ None
position-none key jobs none =
    let at = position_or_len_is (has_key key) jobs (length jobs) nobody (omega arith) (λ k low. none k nobody low) (λ h. absurd (omega arith)) in
    rw (at, le-ltb (length jobs) (length jobs) (omega arith)) refl

-- the place counts all jobs then
position-past : (key : Key) (jobs : List Job) → position (has_key key) jobs ≡ None → length jobs ≤ position_or_len (has_key key) jobs
position-past key jobs e =
    let at = position_or_len (has_key key) jobs in
    ltb-false at (length jobs) (cond-None (nat_lt at (length jobs)) at None e).0

-- and all jobs are looked at
pub search_steps-none : (key : Key) (jobs : List Job) → position (has_key key) jobs ≡ None → search_steps key jobs ≡ length jobs
search_steps-none key jobs e =
    omega (arith, position-past key jobs e)

-- what stands at the place is what is found
pub find-position : (key : Key) (jobs : List Job) (i : ℕ) (x : Job) → position (has_key key) jobs ≡ Some i → find (has_key key) jobs ≡ Some (get_or jobs i x)
find-position key jobs i x e =
    let at = position-Some (has_key key) jobs i x e in
    let here = position_or_len_is (has_key key) jobs i x (omega (arith, at.0)) at.2 (λ _. at.1) in
    find_at (has_key key) jobs ∙ rw here (slice_get-get_or jobs i x at.0)

-- nothing is found where there is no place
pub find-no_position : (key : Key) (jobs : List Job) → position (has_key key) jobs ≡ None → find (has_key key) jobs ≡ None
find-no_position key jobs e =
    find_at (has_key key) jobs ∙ slice_get_past jobs (position_or_len (has_key key) jobs) (position-past key jobs e)
