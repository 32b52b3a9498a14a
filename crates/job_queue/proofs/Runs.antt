-- A run of the job of a key, and the jobs of other keys, by the place of that job.
use Rattle.std.proofs.Common.{◌≡◌, ℕ, zero, suc, ◌-◌, ◌<◌, ◌≤◌, true, false, not, cond, List, [], ◌∷◌, length, get_or, Option, Some, None, refl, sym, ap, ◌∙◌, subst, inl, inr, lt-ltb, le-ltb, arith}
use Rattle.std.specs.Prelude.{count_by, filter, find, is_some, nat_lt, position}
use Rattle.std.specs.List.{remove, AllByRecursion}
use Rattle.std.proofs.lemmas.Bool.{cond-true, cond-false, false_from_ne_true, false≢true}
use Rattle.std.proofs.lemmas.List.{get_or_read}
use Rattle.std.proofs.lemmas.List.Elements.{Contains-get_or, recursion_from_All}
use Rattle.std.proofs.lemmas.List.Quantifiers.{position-Some}
use Rattle.slot_core.specs.declared.jobs.Key.{Key}
use Rattle.slot_core.specs.declared.jobs.Job.{Job}
use Rattle.slot_core.specs.Runs.Choice.{ready}
use Rattle.slot_core.specs.Claims.Safety.{after_run}
use Rattle.slot_facts.proofs.Choice.Earliest.{same_from_key}
use Rattle.slot_facts.proofs.Choice.Runs.{run_of_first, run_of_another, run_of_later}
use Rattle.slot_facts.proofs.Lists.Apart.{count-none}
use Rattle.slot_facts.proofs.Lists.ApartKeys.{IsApart-from_count}
use Rattle.slot_facts.proofs.Lists.Members.{Has, Has-from_Contains}
use Rattle.slot_facts.proofs.Lists.SameItems.{counted}
use Rattle.slot_facts.proofs.Lists.Tests.{find-Some}
use Rattle.slot_facts.proofs.Offline.DistinctKeys.{IsApart}
use Rattle.slot_facts.proofs.Sets.Faults.{find-None}
use Rattle.job_queue.specs.Queues.{QueueParts, IsQueue, after_run_at}
use Rattle.job_queue.proofs.Searches.{has_key, HasNone, find-no_position, nobody}

-- no two jobs have one key, and each has a slot left
record AreRemaining (jobs : List Job) : Type 0 where
  pub apart : IsApart (λ (j : Job). j.key) jobs
  pub left : AllByRecursion (λ (j : Job). 1 ≤ j.left) jobs

-- so the jobs of a queue are
AreRemaining-queue : (queue : QueueParts) → IsQueue queue → AreRemaining queue.jobs
AreRemaining-queue queue is_queue =
    record {
      apart = IsApart-from_count queue.jobs is_queue.apart;
      left = recursion_from_All (λ (j : Job). 1 ≤ j.left) queue.jobs is_queue.left;
    }

-- so are those after the first
AreRemaining-rest : (j : Job) (jobs : List Job) → AreRemaining (j ∷ jobs) → AreRemaining jobs
AreRemaining-rest j jobs remaining =
    record { apart = remaining.apart.1; left = remaining.left.1 }

-- the job of this key stands at this place, and none before it has the key
record IsPlaceOf (key : Key) (jobs : List Job) (i : ℕ) : Type 0 where
  pub inside : i < length jobs
  pub here : (d : Job) → has_key key (get_or jobs i d) ≡ true
  pub before : HasNone key jobs i

-- that is the place that a search finds
IsPlaceOf-position : (key : Key) (jobs : List Job) (i : ℕ) → position (has_key key) jobs ≡ Some i → IsPlaceOf key jobs i
IsPlaceOf-position key jobs i e =
    let at = λ (d : Job). position-Some (has_key key) jobs i d e in
    record {
      inside = (at nobody).0;
      here = λ d. (at d).1;
      before = λ k d low. (at d).2 k low;
    }

-- among the jobs after the first it is one less
IsPlaceOf-rest : (key : Key) (j : Job) (jobs : List Job) (i : ℕ) → IsPlaceOf key (j ∷ jobs) (suc i) → IsPlaceOf key jobs i
IsPlaceOf-rest key j jobs i at =
    record {
      inside = omega (arith, at.inside);
      here = at.here;
      before = λ k d low. at.before (suc k) d (omega arith);
    }

-- a run of the first job
after_run-first : (key : Key) (j : Job) (jobs : List Job) → IsPlaceOf key (j ∷ jobs) zero → AreRemaining (j ∷ jobs) → after_run key (j ∷ jobs) ≡ cond (nat_lt 1 j.left) (record j { left = j.left - 1 } ∷ jobs) jobs
after_run-first key j jobs at remaining =
    let first = run_of_first j jobs (run_of_another j.key jobs remaining.apart.0 remaining.left.1) in
    subst
    (λ k. after_run k (j ∷ jobs) ≡ cond (nat_lt 1 j.left) (record j { left = j.left - 1 } ∷ jobs) jobs)
    (same_from_key j.key key (at.here j))
    first

-- a run of a later one
after_run-later : (key : Key) (j : Job) (jobs left : List Job) (i : ℕ) → IsPlaceOf key (j ∷ jobs) (suc i) → AreRemaining (j ∷ jobs) → after_run key jobs ≡ left → after_run key (j ∷ jobs) ≡ j ∷ left
after_run-later key j jobs left i at remaining rest =
    run_of_later key j jobs (at.before zero j (omega arith)) remaining.left.0 ∙ ap (λ js. j ∷ js) rest

-- a run at a place, of a job with another slot left
after_run-at_more : (key : Key) (jobs : List Job) (i : ℕ) → IsPlaceOf key jobs i → AreRemaining jobs → ((d : Job) → 1 < (get_or jobs i d).left) → after_run key jobs ≡ after_run_at i jobs
after_run-at_more key [] i at remaining more = absurd (omega (arith, at.inside))
after_run-at_more key (j ∷ jobs) zero at remaining more =
    after_run-first key j jobs at remaining ∙ cond-true (nat_lt 1 j.left) _ jobs (lt-ltb 1 j.left (more j))
after_run-at_more key (j ∷ jobs) (suc i) at remaining more =
    after_run-later key j jobs (after_run_at i jobs) i at remaining (after_run-at_more key jobs i (IsPlaceOf-rest key j jobs i at) (AreRemaining-rest j jobs remaining) more)

-- a run at a place, of a job with no other slot left
after_run-at_last : (key : Key) (jobs : List Job) (i : ℕ) → IsPlaceOf key jobs i → AreRemaining jobs → ((d : Job) → (get_or jobs i d).left ≤ 1) → after_run key jobs ≡ remove jobs i
after_run-at_last key [] i at remaining last = absurd (omega (arith, at.inside))
after_run-at_last key (j ∷ jobs) zero at remaining last =
    after_run-first key j jobs at remaining ∙ cond-false (nat_lt 1 j.left) _ jobs (le-ltb 1 j.left (last j))
after_run-at_last key (j ∷ jobs) (suc i) at remaining last =
    after_run-later key j jobs (remove jobs i) i at remaining (after_run-at_last key jobs i (IsPlaceOf-rest key j jobs i at) (AreRemaining-rest j jobs remaining) last)

-- in a queue, a run of a job with another slot left, at the place that a search finds
pub after_run-more : (queue : QueueParts) (key : Key) (i : ℕ) (x : Job) → IsQueue queue → position (has_key key) queue.jobs ≡ Some i → x ≡ get_or queue.jobs i x → 1 < x.left → after_run key queue.jobs ≡ after_run_at i queue.jobs
after_run-more queue key i x is_queue e is more =
    let at = IsPlaceOf-position key queue.jobs i e in
    after_run-at_more key queue.jobs i at (AreRemaining-queue queue is_queue) (λ d. omega (arith, ap (λ (j : Job). j.left) (get_or_read queue.jobs i x at.inside is d)))

-- the same of a job with no other slot left
pub after_run-last : (queue : QueueParts) (key : Key) (i : ℕ) (x : Job) → IsQueue queue → position (has_key key) queue.jobs ≡ Some i → x ≡ get_or queue.jobs i x → x.left ≤ 1 → after_run key queue.jobs ≡ remove queue.jobs i
after_run-last queue key i x is_queue e is last =
    let at = IsPlaceOf-position key queue.jobs i e in
    after_run-at_last key queue.jobs i at (AreRemaining-queue queue is_queue) (λ d. omega (arith, ap (λ (j : Job). j.left) (get_or_read queue.jobs i x at.inside is d)))

-- the jobs of other keys are all where none has the key
filter-none : (key : Key) (jobs : List Job) → ((o : Job) → Has jobs o → has_key key o ≡ false) → filter (λ j. not (has_key key j)) jobs ≡ jobs
filter-none key [] none = refl
filter-none key (j ∷ jobs) none =
    rw
    (none j (inl refl))
    (ap (λ js. j ∷ js) (filter-none key jobs (λ o at. none o (inr at))))

-- else they are the jobs left without the one at the place of the key
filter-at : (key : Key) (jobs : List Job) (i : ℕ) → IsPlaceOf key jobs i → AreRemaining jobs → filter (λ j. not (has_key key j)) jobs ≡ remove jobs i
filter-at key [] i at remaining = absurd (omega (arith, at.inside))
filter-at key (j ∷ jobs) zero at remaining =
    let own = same_from_key j.key key (at.here j) in
    rw
    (at.here j)
    (filter-none key jobs (λ o listed. false_from_ne_true (has_key key o) (λ same. remaining.apart.0 o listed (own ∙ sym (same_from_key o.key key same)))))
filter-at key (j ∷ jobs) (suc i) at remaining =
    rw
    (at.before zero j (omega arith))
    (ap (λ js. j ∷ js) (filter-at key jobs i (IsPlaceOf-rest key j jobs i at) (AreRemaining-rest j jobs remaining)))

-- in a queue, at the place that a search finds
pub filter-position : (queue : QueueParts) (key : Key) (i : ℕ) → IsQueue queue → position (has_key key) queue.jobs ≡ Some i → filter (λ j. not (has_key key j)) queue.jobs ≡ remove queue.jobs i
filter-position queue key i is_queue e =
    filter-at key queue.jobs i (IsPlaceOf-position key queue.jobs i e) (AreRemaining-queue queue is_queue)

-- where no two jobs have one key, none before the job of a key has it
HasNone-apart : (key : Key) (jobs : List Job) (i : ℕ) → i < length jobs → ((d : Job) → has_key key (get_or jobs i d) ≡ true) → IsApart (λ (j : Job). j.key) jobs → HasNone key jobs i
HasNone-apart key [] i inside here apart k d low = absurd (omega arith)
HasNone-apart key (j ∷ jobs) zero inside here apart k d low = absurd (omega arith)
HasNone-apart key (j ∷ jobs) (suc i) inside here apart zero d low =
    let own = same_from_key (get_or jobs i d).key key (here d) in
    let at = Has-from_Contains jobs (get_or jobs i d) (Contains-get_or jobs i d (omega arith)) in
    false_from_ne_true (has_key key j) (λ same. apart.0 (get_or jobs i d) at (same_from_key j.key key same ∙ sym own))
HasNone-apart key (j ∷ jobs) (suc i) inside here apart (suc k) d low =
    HasNone-apart key jobs i (omega arith) here apart.1 k d (omega arith)

-- in a queue, at the place of the job that is found among the ready ones
pub filter-ready : (queue : QueueParts) (now : ℕ) (key : Key) (i : ℕ) → IsQueue queue → i < length queue.jobs → ((d : Job) → find (has_key key) (ready now queue.jobs) ≡ Some (get_or queue.jobs i d)) → filter (λ j. not (has_key key j)) queue.jobs ≡ remove queue.jobs i
filter-ready queue now key i is_queue inside found =
    let remaining = AreRemaining-queue queue is_queue in
    let here : (d : Job) → has_key key (get_or queue.jobs i d) ≡ true =
    λ d. (find-Some (has_key key) (ready now queue.jobs) (get_or queue.jobs i d) (found d)).1 in
    let at : IsPlaceOf key queue.jobs i =
    record {
      inside = inside;
      here = here;
      before = HasNone-apart key queue.jobs i inside here remaining.apart;
    } in
    filter-at key queue.jobs i at remaining

-- where it finds none
pub filter-no_position : (key : Key) (jobs : List Job) → position (has_key key) jobs ≡ None → filter (λ j. not (has_key key j)) jobs ≡ jobs
filter-no_position key jobs e =
    filter-none key jobs (λ o at. find-None (has_key key) jobs o (find-no_position key jobs e) at)

-- none is counted where none is found
pub count_by-not_found : (key : Key) (jobs : List Job) → find (has_key key) jobs ≡ None → count_by (has_key key) jobs ≡ 0
count_by-not_found key jobs none =
    count-none (has_key key) jobs (λ o at. find-None (has_key key) jobs o none at)

-- one is counted where one is found
pub count_by-found : (key : Key) (jobs : List Job) → is_some (find (has_key key) jobs) ≡ true → 1 ≤ count_by (has_key key) jobs
count_by-found key jobs some = by_case (find (has_key key) jobs) refl some
  where
    by_case : (o : Option Job) → find (has_key key) jobs ≡ o → is_some o ≡ true → 1 ≤ count_by (has_key key) jobs
    by_case None e some = absurd (false≢true some)
    by_case (Some x) e some =
        let at = find-Some (has_key key) jobs x e in
        counted (has_key key) jobs x at.0 at.1
