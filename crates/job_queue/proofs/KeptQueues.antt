-- What stays a queue: the same jobs in another order or in other parts, one more, one less, one that has run a slot.
use Rattle.std.proofs.Common.{◌≡◌, ℕ, zero, suc, ◌+◌, ◌-◌, ◌<◌, ◌≤◌, false, cond, List, [], ◌∷◌, ◌++◌, length, take, drop, get_or, refl, sym, ap, ◌∙◌, subst, inl, inr, arith}
use Rattle.std.specs.Prelude.{All, Some, count_by, reverse, slice_get, sum_by}
use Rattle.std.specs.List.{remove, swap_remove, AllByRecursion}
use Rattle.std.specs.List.Sorted.{IsNonDecreasingBy}
use Rattle.std.proofs.lemmas.Bool.{cases_Bool, cond-true, cond-false}
use Rattle.std.proofs.lemmas.List.{length_push, length-append, length-reverse, get_or_append_left, get_or-append_right, get_or-reverse, get_or_default, take_all}
use Rattle.std.proofs.lemmas.List.Edits.{length-remove}
use Rattle.std.proofs.lemmas.List.Elements.{All-push, All-take, All-drop, All-append, All-from_recursion, recursion_from_All}
use Rattle.std.proofs.lemmas.List.Sorted.{All-permutation, IsNonDecreasingBy-drop, IsPermutation-reverse, length_permutation, sum_by-IsPermutation}
use Rattle.std.proofs.lemmas.List.Sums.{sum_by-cons, sum_by-append, sum_by_more, sum_by_push, sum_by-drop_more, sum_by-remove, sum_by-swap_remove}
use Rattle.std.proofs.lemmas.Option.{slice_get_cases}
use Rattle.slot_core.specs.declared.jobs.Key.{Key}
use Rattle.slot_core.specs.declared.jobs.Job.{Job}
use Rattle.slot_core.specs.Offline.Keys.{same_key, is_soft}
use Rattle.slot_core.specs.Runs.Matches.{HaveSameItems}
use Rattle.slot_facts.proofs.Choice.Earliest.{same_from_key}
use Rattle.slot_facts.proofs.Lists.SameItems.{jobs-same_items}
use Rattle.job_queue.specs.Queues.{QueueParts, IsEarliestLast, IsQueue, KeepsQueue, after_run_at}
use Rattle.job_queue.proofs.Comes.{IsEarliestLast-remove, IsEarliestLast-after_run_at}
use Rattle.job_queue.proofs.Edits.{IsNonDecreasingBy-remove, IsNonDecreasingBy-after_run_at, length-after_run_at, kept-after_run_at, after_run_at-append_left, after_run_at-append_right, reverse-after_run_at}
use Rattle.job_queue.proofs.Searches.{nobody}

-- these jobs in a queue of so many places
abbrev pub queue_of : List Job → ℕ → QueueParts
queue_of jobs n = record { jobs = jobs; capacity = n }

-- a queue of the same jobs in another order
IsQueue-same : (n : ℕ) (xs ys : List Job) → HaveSameItems xs ys → IsQueue (queue_of ys n) → IsQueue (queue_of xs n)
IsQueue-same n xs ys same queue =
    let moved = (jobs-same_items ys xs).0 (λ f. sym (same f)) in
    record {
      apart = λ key. omega (arith, same (λ (j : Job). cond (same_key j.key key) 1 0), queue.apart key);
      guaranteed = All-permutation (λ (j : Job). is_soft j.key ≡ false) ys xs moved queue.guaranteed;
      left = All-permutation (λ (j : Job). 1 ≤ j.left) ys xs moved queue.left;
      few = omega (arith, length_permutation ys xs moved, queue.few);
    }

-- a sum over the jobs that have come, looked at from the last
pub sum_by-reverse : (f : Job → ℕ) (jobs : List Job) → sum_by f (reverse jobs) ≡ sum_by f jobs
sum_by-reverse f jobs = sum_by-IsPermutation f jobs (reverse jobs) (IsPermutation-reverse jobs)

-- a sum over three parts
sum_by-parts : (f : Job → ℕ) (beside come listed : List Job) → sum_by f (beside ++ reverse come ++ listed) ≡ sum_by f beside + sum_by f come + sum_by f listed
sum_by-parts f beside come listed =
    omega (arith, sum_by-append f (beside ++ reverse come) listed, sum_by-append f beside (reverse come), sum_by-reverse f come)

-- how many jobs three parts have
pub length-parts : (beside come listed : List Job) → length (beside ++ reverse come ++ listed) ≡ length beside + length come + length listed
length-parts beside come listed =
    omega (arith, length-append (beside ++ reverse come) listed, length-append beside (reverse come), length-reverse come)

-- three parts of a queue, and the places that are reserved in each
pub record Parts : Type 0 where
  pub beside : List Job
  pub come : List Job
  pub listed : List Job
  pub places_beside : ℕ
  pub places_come : ℕ

-- parts of these jobs and places
abbrev pub parts_of : List Job → List Job → List Job → ℕ → ℕ → Parts
parts_of beside come listed places_beside places_come =
    record {
      beside = beside;
      come = come;
      listed = listed;
      places_beside = places_beside;
      places_come = places_come;
    }

-- the jobs of three parts
abbrev pub jobs_of : Parts → List Job
jobs_of parts = parts.beside ++ reverse parts.come ++ parts.listed

-- three parts are kept
abbrev pub AreKept : ℕ → Parts → Type 0
AreKept n parts =
    KeepsQueue parts.beside parts.come parts.listed n parts.places_beside parts.places_come

-- so parts with the same jobs, in the orders that are due, are kept
AreKept-same : (n : ℕ) (old new : Parts) (jobs : List Job) → AreKept n old → HaveSameItems (jobs_of new) jobs → IsQueue (queue_of jobs n) → IsEarliestLast new.come → IsNonDecreasingBy (λ (j : Job). j.est) new.listed → old.places_beside ≤ new.places_beside → old.places_come ≤ new.places_come → AreKept n new
AreKept-same n old new jobs kept same queue latest_first ordered beside_fits come_fits =
    record {
      queue = IsQueue-same n (jobs_of new) jobs same queue;
      latest_first = latest_first;
      ordered = ordered;
      small = kept.small;
      beside_fits = omega (arith, kept.beside_fits);
      come_fits = omega (arith, kept.come_fits);
    }

-- the queue may take the job in
pub record MayInsert (queue : QueueParts) (job : Job) : Type 0 where
  pub free : length queue.jobs < queue.capacity
  pub fresh : count_by (λ (j : Job). same_key j.key job.key) queue.jobs ≡ 0
  pub guaranteed : is_soft job.key ≡ false
  pub left : 1 ≤ job.left

-- so it is where it may take it in as contracts see it
pub MayInsert-view : (job : Job) (queue seen : QueueParts) → queue ≡ seen → length seen.jobs < seen.capacity → count_by (λ (j : Job). same_key j.key job.key) seen.jobs ≡ 0 → is_soft job.key ≡ false → 1 ≤ job.left → MayInsert queue job
MayInsert-view job queue seen e free fresh guaranteed left =
    let may : MayInsert seen job = record { free = free; fresh = fresh; guaranteed = guaranteed; left = left } in
    subst (λ (q : QueueParts). MayInsert q job) (sym e) may

-- a queue with one more job, of a key that none has
IsQueue-push : (n : ℕ) (jobs : List Job) (job : Job) → IsQueue (queue_of jobs n) → MayInsert (queue_of jobs n) job → IsQueue (queue_of (jobs ++ job ∷ []) n)
IsQueue-push n jobs job queue may =
    record {
      apart = λ key.
          let more = sum_by_push (λ (j : Job). cond (same_key j.key key) 1 0) jobs job in
          elim (cases_Bool (same_key job.key key)) [
            | inl own ↦
                let none = subst (λ k. count_by (λ (j : Job). same_key j.key k) jobs ≡ 0) (same_from_key job.key key own) may.fresh in
                omega (arith, more, none, cond-true {A = ℕ} (same_key job.key key) 1 0 own)
            | inr other ↦
                omega (arith, more, queue.apart key, cond-false {A = ℕ} (same_key job.key key) 1 0 other)
          ];
      guaranteed = All-push (λ (j : Job). is_soft j.key ≡ false) jobs job queue.guaranteed may.guaranteed;
      left = All-push (λ (j : Job). 1 ≤ j.left) jobs job queue.left may.left;
      few = omega (arith, length_push jobs job, may.free);
    }

-- a queue with one more job beside
pub AreKept-push_beside : (n places : ℕ) (old : Parts) (job : Job) → AreKept n old → MayInsert (queue_of (jobs_of old) n) job → old.places_beside ≤ places → AreKept n (record old { beside = old.beside ++ job ∷ []; places_beside = places })
AreKept-push_beside n places old job kept may more =
    let new = record old { beside = old.beside ++ job ∷ []; places_beside = places } in
    let same : HaveSameItems (jobs_of new) (jobs_of old ++ job ∷ []) =
    λ f. omega (arith, sum_by-parts f new.beside new.come new.listed, sum_by_push f old.beside job, sum_by_push f (jobs_of old) job, sum_by-parts f old.beside old.come old.listed) in
    AreKept-same n old new (jobs_of old ++ job ∷ []) kept same (IsQueue-push n (jobs_of old) job kept.queue may) kept.latest_first kept.ordered more (omega arith)

-- a queue with one more listed job
pub AreKept-push_listed : (n : ℕ) (old : Parts) (job : Job) → AreKept n old → MayInsert (queue_of (jobs_of old) n) job → IsNonDecreasingBy (λ (j : Job). j.est) (old.listed ++ job ∷ []) → AreKept n (record old { listed = old.listed ++ job ∷ [] })
AreKept-push_listed n old job kept may ordered =
    let new = record old { listed = old.listed ++ job ∷ [] } in
    let same : HaveSameItems (jobs_of new) (jobs_of old ++ job ∷ []) =
    λ f. omega (arith, sum_by-parts f new.beside new.come new.listed, sum_by_push f old.listed job, sum_by_push f (jobs_of old) job, sum_by-parts f old.beside old.come old.listed) in
    AreKept-same n old new (jobs_of old ++ job ∷ []) kept same (IsQueue-push n (jobs_of old) job kept.queue may) kept.latest_first ordered (omega arith) (omega arith)

-- the parts have the same jobs after one of them has come
pub record HasCome (job : Job) (old new : Parts) : Type 0 where
  pub left :
      (f : Job → ℕ) → sum_by f new.beside + sum_by f new.listed + f job ≡ sum_by f old.beside + sum_by f old.listed
  pub come : HaveSameItems new.come (old.come ++ job ∷ [])
  pub latest_first : IsEarliestLast new.come
  pub ordered : IsNonDecreasingBy (λ (j : Job). j.est) new.listed
  pub beside_fits : old.places_beside ≤ new.places_beside
  pub come_fits : old.places_come ≤ new.places_come

pub same-come : (job : Job) (old new : Parts) → HasCome job old new → HaveSameItems (jobs_of new) (jobs_of old)
same-come job old new has f =
    omega (arith, sum_by-parts f new.beside new.come new.listed, has.come f, sum_by_push f old.come job, has.left f, sum_by-parts f old.beside old.come old.listed)

-- a sum without the last
sum_by-last : (f : Job → ℕ) (jobs : List Job) (job : Job) → slice_get jobs (length jobs - 1) ≡ Some job → sum_by f (take (length jobs - 1) jobs) + f job ≡ sum_by f jobs
sum_by-last f jobs job last =
    let n = length jobs - 1 in
    elim (slice_get_cases jobs n).1 [
      | inl (x, inside, is, at) ↦
          let same : x ≡ job = cc in
          let whole = take_all (n + 1) jobs (omega arith) in
          omega (arith, sum_by_more f jobs n x inside, ap f at, ap f same, ap (sum_by f) whole)
      | inr (past, none) ↦ cc
    ]

-- the last job beside comes
pub HasCome-beside : (n places places_come : ℕ) (job : Job) (rest come : List Job) (old : Parts) → AreKept n old → rest ≡ take (length old.beside - 1) old.beside → slice_get old.beside (length old.beside - 1) ≡ Some job → HaveSameItems come (old.come ++ job ∷ []) → IsEarliestLast come → places ≡ old.places_beside → old.places_come ≤ places_come → HasCome job old (record old { beside = rest; come = come; places_beside = places; places_come = places_come })
HasCome-beside n places places_come job rest come old kept left last more latest_first stays more_places =
    record {
      left = λ f. omega (arith, ap (sum_by f) left, sum_by-last f old.beside job last);
      come = more;
      latest_first = latest_first;
      ordered = kept.ordered;
      beside_fits = omega (arith, stays);
      come_fits = more_places;
    }

-- the first listed job comes
pub HasCome-listed : (n places_come : ℕ) (job : Job) (rest come : List Job) (old : Parts) → AreKept n old → 0 < length old.listed → rest ≡ drop 1 old.listed → job ≡ get_or old.listed 0 job → HaveSameItems come (old.come ++ job ∷ []) → IsEarliestLast come → old.places_come ≤ places_come → HasCome job old (record old { come = come; listed = rest; places_come = places_come })
HasCome-listed n places_come job rest come old kept some left first more latest_first more_places =
    record {
      left = λ f. omega (arith, ap (sum_by f) left, sum_by-drop_more f old.listed 0 job some, ap f first);
      come = more;
      latest_first = latest_first;
      ordered = subst (IsNonDecreasingBy (λ (j : Job). j.est)) (sym left) (IsNonDecreasingBy-drop (λ (j : Job). j.est) 1 old.listed kept.ordered);
      beside_fits = omega arith;
      come_fits = more_places;
    }

-- so it stays a queue
pub AreKept-come : (n : ℕ) (job : Job) (old new : Parts) → AreKept n old → HasCome job old new → AreKept n new
AreKept-come n job old new kept has =
    AreKept-same n old new (jobs_of old) kept (same-come job old new has) kept.queue has.latest_first has.ordered has.beside_fits has.come_fits

-- what holds of each item holds of those left without the one at a place
All-remove : {X : Type 0} (P : X → Type 0) (xs : List X) (i : ℕ) → All P xs → All P (remove xs i)
All-remove P xs i each =
    All-append P (take i xs) (drop (suc i) xs) (All-take P i xs each) (All-drop P (suc i) xs each)

-- a queue without the job at a place
IsQueue-remove : (n : ℕ) (jobs : List Job) (i : ℕ) (x : Job) → i < length jobs → IsQueue (queue_of jobs n) → IsQueue (queue_of (remove jobs i) n)
IsQueue-remove n jobs i x inside queue =
    record {
      apart = λ key.
          omega (arith, sum_by-remove (λ (j : Job). cond (same_key j.key key) 1 0) jobs i x inside, queue.apart key);
      guaranteed = All-remove (λ (j : Job). is_soft j.key ≡ false) jobs i queue.guaranteed;
      left = All-remove (λ (j : Job). 1 ≤ j.left) jobs i queue.left;
      few = omega (arith, length-remove jobs i inside, queue.few);
    }

-- what stands in the first of three parts
get_or-beside : (parts : Parts) (i : ℕ) (d : Job) → i < length parts.beside → get_or (jobs_of parts) i d ≡ get_or parts.beside i d
get_or-beside parts i d inside =
    let front = parts.beside ++ reverse parts.come in
    get_or_append_left front parts.listed d i (omega (arith, length-append parts.beside (reverse parts.come))) ∙ get_or_append_left parts.beside (reverse parts.come) d i inside

-- in the second, which is looked at from its last
pub get_or-come : (parts : Parts) (i k : ℕ) (d : Job) → length parts.beside ≤ i → i - length parts.beside < length parts.come → k ≡ length parts.come - 1 - (i - length parts.beside) → get_or (jobs_of parts) i d ≡ get_or parts.come k d
get_or-come parts i k d past inside from_end =
    let back = reverse parts.come in
    let in_front : i < length (parts.beside ++ back) = omega (arith, length-append parts.beside back, length-reverse parts.come) in
    get_or_append_left (parts.beside ++ back) parts.listed d i in_front ∙ get_or-append_right parts.beside back (length parts.beside) i d refl past ∙ get_or-reverse parts.come (i - length parts.beside) d inside ∙ ap (λ m. get_or parts.come m d) (sym from_end)

-- and in the third
pub get_or-listed : (parts : Parts) (i k : ℕ) (d : Job) → length parts.beside ≤ i → length parts.come ≤ i - length parts.beside → k ≡ i - length parts.beside - length parts.come → get_or (jobs_of parts) i d ≡ get_or parts.listed k d
get_or-listed parts i k d past further rest =
    let front = parts.beside ++ reverse parts.come in
    let long : length front ≡ length parts.beside + length parts.come = omega (arith, length-append parts.beside (reverse parts.come), length-reverse parts.come) in
    let same : i - length front ≡ k = omega arith in
    get_or-append_right front parts.listed (length front) i d refl (omega arith) ∙ ap (λ m. get_or parts.listed m d) same

-- a job at a place of the parts is gone
pub record IsGone (i : ℕ) (old new : Parts) : Type 0 where
  pub inside : i < length (jobs_of old)
  pub jobs :
      (f : Job → ℕ) → sum_by f new.beside + sum_by f new.come + sum_by f new.listed + f (get_or (jobs_of old) i nobody) ≡ sum_by f (jobs_of old)
  pub latest_first : IsEarliestLast new.come
  pub ordered : IsNonDecreasingBy (λ (j : Job). j.est) new.listed
  pub beside_fits : new.places_beside ≡ old.places_beside
  pub come_fits : new.places_come ≡ old.places_come

-- the others have stayed
pub same-gone : (i : ℕ) (old new : Parts) → IsGone i old new → HaveSameItems (jobs_of new) (remove (jobs_of old) i)
same-gone i old new gone f =
    omega (arith, sum_by-parts f new.beside new.come new.listed, gone.jobs f, sum_by-remove f (jobs_of old) i nobody gone.inside)

-- so it stays a queue
pub AreKept-gone : (n i : ℕ) (old new : Parts) → AreKept n old → IsGone i old new → AreKept n new
AreKept-gone n i old new kept gone =
    AreKept-same n old new (remove (jobs_of old) i) kept (same-gone i old new gone) (IsQueue-remove n (jobs_of old) i nobody gone.inside kept.queue) gone.latest_first gone.ordered (omega (arith, gone.beside_fits)) (omega (arith, gone.come_fits))

-- a job beside is gone, and the last one beside has its place
pub IsGone-beside : (n i places : ℕ) (x : Job) (old : Parts) → AreKept n old → i < length old.beside → places ≡ old.places_beside → IsGone i old (record old { beside = swap_remove old.beside i x; places_beside = places })
IsGone-beside n i places x old kept inside stays =
    record {
      inside = omega (arith, length-parts old.beside old.come old.listed);
      jobs = λ f.
          let at = get_or-beside old i nobody inside ∙ get_or_default old.beside i nobody x inside in
          omega (arith, sum_by-parts f old.beside old.come old.listed, sum_by-swap_remove f old.beside i x inside, ap f at);
      latest_first = kept.latest_first;
      ordered = kept.ordered;
      beside_fits = stays;
      come_fits = refl;
    }

-- a job that has come is gone
pub IsGone-come : (n i k places : ℕ) (old : Parts) → AreKept n old → length old.beside ≤ i → i - length old.beside < length old.come → k ≡ length old.come - 1 - (i - length old.beside) → places ≡ old.places_come → IsGone i old (record old { come = remove old.come k; places_come = places })
IsGone-come n i k places old kept past inside from_end stays =
    let within : k < length old.come = omega arith in
    record {
      inside = omega (arith, length-parts old.beside old.come old.listed);
      jobs = λ f.
          let at = get_or-come old i k nobody past inside from_end in
          omega (arith, sum_by-parts f old.beside old.come old.listed, sum_by-remove f old.come k nobody within, ap f at);
      latest_first = IsEarliestLast-remove old.come k within kept.latest_first;
      ordered = kept.ordered;
      beside_fits = refl;
      come_fits = stays;
    }

-- a listed job is gone
pub IsGone-listed : (n i k : ℕ) (old : Parts) → AreKept n old → i < length (jobs_of old) → length old.beside ≤ i → length old.come ≤ i - length old.beside → k ≡ i - length old.beside - length old.come → IsGone i old (record old { listed = remove old.listed k })
IsGone-listed n i k old kept inside past further rest =
    let within : k < length old.listed = omega (arith, length-parts old.beside old.come old.listed) in
    record {
      inside = inside;
      jobs = λ f.
          let at = get_or-listed old i k nobody past further rest in
          omega (arith, sum_by-parts f old.beside old.come old.listed, sum_by-remove f old.listed k nobody within, ap f at);
      latest_first = kept.latest_first;
      ordered = IsNonDecreasingBy-remove (λ (j : Job). j.est) old.listed k within kept.ordered;
      beside_fits = refl;
      come_fits = refl;
    }

-- a run at a place leaves sums over the keys
pub sum_by-after_run_at : (f : Key → ℕ) (i : ℕ) (jobs : List Job) → sum_by (λ (j : Job). f j.key) (after_run_at i jobs) ≡ sum_by (λ (j : Job). f j.key) jobs
sum_by-after_run_at f i [] = refl
sum_by-after_run_at f zero (j ∷ jobs) =
    let g = λ (o : Job). f o.key in
    omega (arith, sum_by-cons g (record j { left = j.left - 1 }) jobs, sum_by-cons g j jobs)
sum_by-after_run_at f (suc i) (j ∷ jobs) =
    let g = λ (o : Job). f o.key in
    omega (arith, sum_by-cons g j (after_run_at i jobs), sum_by-cons g j jobs, sum_by-after_run_at f i jobs)

-- a run of a job with another slot left leaves each a slot
left-after_run_at : (i : ℕ) (jobs : List Job) → i < length jobs → ((d : Job) → 1 < (get_or jobs i d).left) → AllByRecursion (λ (j : Job). 1 ≤ j.left) jobs → AllByRecursion (λ (j : Job). 1 ≤ j.left) (after_run_at i jobs)
left-after_run_at i [] inside more left = left
left-after_run_at zero (j ∷ jobs) inside more left = (omega (arith, more j), left.1)
left-after_run_at (suc i) (j ∷ jobs) inside more left =
    (left.0, left-after_run_at i jobs (omega arith) more left.1)

-- a queue after a run of such a job
IsQueue-after_run_at : (n : ℕ) (jobs : List Job) (i : ℕ) → i < length jobs → ((d : Job) → 1 < (get_or jobs i d).left) → IsQueue (queue_of jobs n) → IsQueue (queue_of (after_run_at i jobs) n)
IsQueue-after_run_at n jobs i inside more queue =
    let some = λ (j : Job). 1 ≤ j.left in
    record {
      apart = λ key.
          omega (arith, sum_by-after_run_at (λ k. cond (same_key k key) 1 0) i jobs, queue.apart key);
      guaranteed = λ k d below.
          kept-after_run_at (λ (j : Job). is_soft j.key) (λ j. refl) i jobs k d ∙ queue.guaranteed k d (omega (arith, length-after_run_at i jobs));
      left = All-from_recursion some (after_run_at i jobs) (left-after_run_at i jobs inside more (recursion_from_All some jobs queue.left));
      few = omega (arith, length-after_run_at i jobs, queue.few);
    }

-- a job at a place of the parts has run a slot
pub record HasRun (i : ℕ) (old new : Parts) : Type 0 where
  pub jobs : jobs_of new ≡ after_run_at i (jobs_of old)
  pub latest_first : IsEarliestLast new.come
  pub ordered : IsNonDecreasingBy (λ (j : Job). j.est) new.listed
  pub beside_fits : new.places_beside ≡ old.places_beside
  pub come_fits : new.places_come ≡ old.places_come

-- so it stays a queue, where that job had another slot left
pub AreKept-run : (n i : ℕ) (old new : Parts) → AreKept n old → i < length (jobs_of old) → ((d : Job) → 1 < (get_or (jobs_of old) i d).left) → HasRun i old new → AreKept n new
AreKept-run n i old new kept inside more has =
    AreKept-same n old new (after_run_at i (jobs_of old)) kept (λ f. ap (sum_by f) has.jobs) (IsQueue-after_run_at n (jobs_of old) i inside more kept.queue) has.latest_first has.ordered (omega (arith, has.beside_fits)) (omega (arith, has.come_fits))

-- a job beside has run
pub HasRun-beside : (n i places : ℕ) (old : Parts) → AreKept n old → i < length old.beside → places ≡ old.places_beside → HasRun i old (record old { beside = after_run_at i old.beside; places_beside = places })
HasRun-beside n i places old kept inside stays =
    let front = old.beside ++ reverse old.come in
    let in_front : i < length front = omega (arith, length-append old.beside (reverse old.come)) in
    record {
      jobs = sym (after_run_at-append_left i front old.listed in_front ∙ ap (λ js. js ++ old.listed) (after_run_at-append_left i old.beside (reverse old.come) inside));
      latest_first = kept.latest_first;
      ordered = kept.ordered;
      beside_fits = stays;
      come_fits = refl;
    }

-- a job that has come has run
pub HasRun-come : (n i k places : ℕ) (old : Parts) → AreKept n old → length old.beside ≤ i → i - length old.beside < length old.come → k ≡ length old.come - 1 - (i - length old.beside) → places ≡ old.places_come → HasRun i old (record old { come = after_run_at k old.come; places_come = places })
HasRun-come n i k places old kept past inside from_end stays =
    let back = reverse old.come in
    let front = old.beside ++ back in
    let in_front : i < length front = omega (arith, length-append old.beside back, length-reverse old.come) in
    let turned : reverse (after_run_at k old.come) ≡ after_run_at (i - length old.beside) back =
    ap (λ m. reverse (after_run_at m old.come)) from_end ∙ reverse-after_run_at (i - length old.beside) old.come inside in
    record {
      jobs = ap (λ js. old.beside ++ js ++ old.listed) turned ∙ sym (after_run_at-append_left i front old.listed in_front ∙ ap (λ js. js ++ old.listed) (after_run_at-append_right (length old.beside) i old.beside back refl past));
      latest_first = IsEarliestLast-after_run_at k old.come kept.latest_first;
      ordered = kept.ordered;
      beside_fits = refl;
      come_fits = stays;
    }

-- a listed job has run
pub HasRun-listed : (n i k : ℕ) (old : Parts) → AreKept n old → length old.beside ≤ i → length old.come ≤ i - length old.beside → k ≡ i - length old.beside - length old.come → HasRun i old (record old { listed = after_run_at k old.listed })
HasRun-listed n i k old kept past further rest =
    let front = old.beside ++ reverse old.come in
    let long : length front ≡ length old.beside + length old.come = omega (arith, length-append old.beside (reverse old.come), length-reverse old.come) in
    let same : i - length front ≡ k = omega arith in
    record {
      jobs = sym (after_run_at-append_right (length front) i front old.listed refl (omega arith) ∙ ap (λ m. front ++ after_run_at m old.listed) same);
      latest_first = kept.latest_first;
      ordered = IsNonDecreasingBy-after_run_at k old.listed kept.ordered;
      beside_fits = refl;
      come_fits = refl;
    }
