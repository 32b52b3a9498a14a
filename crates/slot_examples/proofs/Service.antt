-- Histories that serve their jobs in order, and others.
use Rattle.std.specs.Prelude.{◌≡◌, ℕ, suc, ◌+◌, ◌≤◌, Bool, true, false, not, ◌&&◌, ◌==◌, List, [], ◌∷◌, nat_le, nat_lt, Contains, Option, Some, None, refl}
use Rattle.std.specs.List.{list_all, list_any}
use Rattle.std.proofs.Common.{arith, subst, inl, inr}
use Rattle.std.proofs.lemmas.Bool.{leb-true, le-leb, eqb-true, not-true, and_parts, false≢true}
use Rattle.slot_core.specs.declared.jobs.Key.{Key}
use Rattle.slot_core.specs.declared.jobs.Key.TheVariants.{Offline, Firm as FirmKey, Soft as SoftKey}
use Rattle.slot_core.specs.declared.jobs.Job.{Job}
use Rattle.slot_core.specs.declared.events.Event.TheVariants.{Soft, Firm, Done, Withdraw}
use Rattle.slot_core.specs.declared.events.What.{What}
use Rattle.slot_core.specs.declared.events.What.TheVariants.{Soft as SoftEntry, Firm as FirmEntry, Done as DoneEntry, Withdraw as WithdrawEntry, Run, Idle}
use Rattle.slot_core.specs.declared.events.Soft.TheVariants.{Taken as SoftTaken}
use Rattle.slot_core.specs.declared.events.Firm.TheVariants.{Accepted}
use Rattle.slot_core.specs.declared.events.Done.TheVariants.{Freed as DoneFreed}
use Rattle.slot_core.specs.declared.events.Gone.TheVariants.{Freed as GoneFreed}
use Rattle.slot_core.specs.declared.tasks.TaskSet.{TaskSet}
use Rattle.slot_core.specs.Offline.Keys.{key_order, same_key, is_offline}
use Rattle.slot_core.specs.Runs.Histories.{History, Follows, time_of, executed, freed_by, is_over}
use Rattle.slot_core.specs.Runs.Scenes.{guaranteed, has_ended}
use Rattle.slot_core.specs.Claims.Service.{all_jobs, IsInside, Concerns, IsServed, IsOrdered}
use Rattle.slot_core.specs.Runs.Traces.{started, occurrences_of, history_after}
use Rattle.slot_core.specs.Offline.Windows.{raw_release, raw_deadline, precedes}
use Rattle.slot_facts.proofs.Choice.Earliest.{same_from_key, equal_itself}
use Rattle.slot_facts.proofs.Lists.Members.{Has-from_Contains, Contains-from_Has, Has-from_list_any, passes_from_list_all}
use Rattle.sample_sets.specs.Sets.{half_set, row_set, pair_set}
use Rattle.slot_examples.specs.Lines.{arrival}
use Rattle.slot_examples.proofs.Tests.{implies, from_implies, each_entry, at_entry, each_history, at_history}

-- the entry tells that the job of this key runs
abbrev runs : Key → What → Bool
runs key (Run k) = same_key key k
runs key _ = false

-- each run of the job passes, where it is handed the entries before it
abbrev each_run : Key → (History → Bool) → History → Bool
each_run key p h = each_entry (λ what earlier. implies (runs key what) (p earlier)) h

at_run :
    (key : Key) (p : History → Bool) (h earlier : History) → each_run key p h ≡ true
    → Follows h (Run key) earlier → p earlier ≡ true
at_run key p h earlier all follows =
    from_implies
    (same_key key key)
    (p earlier)
    (at_entry (λ what earlier. implies (runs key what) (p earlier)) h (Run key) earlier all follows)
    (equal_itself (key_order key))

-- what all jobs of the list pass, one of them does
of_all :
    {X : Type 0} (p : X → Bool) (xs : List X) (x : X) → list_all p xs ≡ true → Contains xs x
    → p x ≡ true
of_all p xs x all listed = passes_from_list_all p xs x all (Has-from_Contains xs x listed)

-- at this time the job is inside its derived window, which lies in its raw one
abbrev is_inside : TaskSet → ℕ → Job → Bool
is_inside set u job =
    nat_le (raw_release set job) job.est
    && nat_le job.est u
    && nat_lt u job.dl
    && nat_le job.dl (raw_deadline set job)

IsInside-from_test :
    (set : TaskSet) (u : ℕ) (job : Job) → is_inside set u job ≡ true → IsInside set u job
IsInside-from_test set u job test =
    let last = and_parts (nat_le (raw_release set job) job.est && nat_le job.est u && nat_lt u job.dl) (nat_le job.dl (raw_deadline set job)) test in
    let before = and_parts (nat_le (raw_release set job) job.est && nat_le job.est u) (nat_lt u job.dl) last.0 in
    let start = and_parts (nat_le (raw_release set job) job.est) (nat_le job.est u) before.0 in
    (leb-true (raw_release set job) job.est start.0, leb-true job.est u start.1, leb-true (suc u) job.dl before.1, leb-true job.dl (raw_deadline set job) last.1)

-- the tests of a served history, each of a job: its runs are inside its window
abbrev runs_inside : TaskSet → History → Job → Bool
runs_inside set h job = each_run job.key (λ earlier. is_inside set (time_of earlier) job) h

-- it has ended by its deadline, in each history that has reached it
abbrev has_ended_when_due : Job → History → Bool
has_ended_when_due job h = implies (nat_le job.dl (time_of h)) (has_ended h job)

abbrev ends_in_time : History → Job → Bool
ends_in_time h job = each_history (has_ended_when_due job) h

-- it does not run after it has ended
abbrev rests_after_its_end : History → Key × ℕ → Bool
rests_after_its_end h job = each_run job.0 (λ earlier. not (is_over earlier job.0 job.1)) h

-- it does not run more than its declared slots
abbrev runs_no_more : History → Key × ℕ → Bool
runs_no_more h job = nat_le (executed job.0 h) job.1

-- what an early end frees of it is all that it does not run
abbrev frees_the_rest : History → Key × ℕ → Option (Key × ℕ) → Bool
frees_the_rest h job None = true
frees_the_rest h job (Some freed) =
    implies
    (same_key job.0 freed.0)
    (nat_le 1 freed.1 && executed job.0 h + freed.1 == job.1)

abbrev ends_free_the_rest : History → Key × ℕ → Bool
ends_free_the_rest h job = each_entry (λ what earlier. frees_the_rest h job (freed_by what)) h

-- there is a job of this key among these
abbrev has_job_of : List (Key × ℕ) → Key → Bool
has_job_of jobs key = list_any (λ (job : Key × ℕ). same_key job.0 key) jobs

job-from_test :
    (jobs : List (Key × ℕ)) (key : Key) → has_job_of jobs key ≡ true
    → (declared : ℕ) × Contains jobs (key, declared)
job-from_test jobs key test =
    let found = Has-from_list_any (λ (job : Key × ℕ). same_key job.0 key) jobs test in
    let same = same_from_key found.0.0 key found.2 in
    (found.0.1, subst (λ k. Contains jobs (k, found.0.1)) same (Contains-from_Has jobs found.0 found.1))

-- what runs is one of these jobs, and so is what ends early
abbrev runs_known : List (Key × ℕ) → What → Bool
runs_known jobs (Run key) = has_job_of jobs key
runs_known jobs _ = true

abbrev ends_known : List (Key × ℕ) → Option (Key × ℕ) → Bool
ends_known jobs None = true
ends_known jobs (Some freed) = has_job_of jobs freed.0

abbrev is_known : List (Key × ℕ) → What → Bool
is_known jobs what = runs_known jobs what && ends_known jobs (freed_by what)

known-from_test :
    (jobs : List (Key × ℕ)) (what : What) (key : Key) → is_known jobs what ≡ true
    → Concerns what key → (declared : ℕ) × Contains jobs (key, declared)
known-from_test jobs what key test (inl run) =
    let parts = and_parts (runs_known jobs what) (ends_known jobs (freed_by what)) test in
    job-from_test jobs key (subst (λ w. runs_known jobs w ≡ true) run parts.0)
known-from_test jobs what key test (inr (n, ends)) =
    let parts = and_parts (runs_known jobs what) (ends_known jobs (freed_by what)) test in
    job-from_test jobs key (subst (λ o. ends_known jobs o ≡ true) ends parts.1)

freed-from_test :
    (h : History) (job : Key × ℕ) (n : ℕ) (freed : Option (Key × ℕ))
    → frees_the_rest h job freed ≡ true → freed ≡ Some (job.0, n)
    → (1 ≤ n) × (executed job.0 h + n ≡ job.1)
freed-from_test h job n None test is = cc
freed-from_test h job n (Some freed) test is =
    let same : freed ≡ (job.0, n) = cc is in
    let here : implies (same_key job.0 job.0) (nat_le 1 n && executed job.0 h + n == job.1) ≡ true = subst (λ (f : Key × ℕ). implies (same_key job.0 f.0) (nat_le 1 f.1 && executed job.0 h + f.1 == job.1) ≡ true) same test in
    let passes = from_implies (same_key job.0 job.0) (nat_le 1 n && executed job.0 h + n == job.1) here (equal_itself (key_order job.0)) in
    let parts = and_parts (nat_le 1 n) (executed job.0 h + n == job.1) passes in
    (leb-true 1 n parts.0, eqb-true (executed job.0 h + n) job.1 parts.1)

-- a history that passes the tests is served
pub record PassesServed (set : TaskSet) (cycle : ℕ) (h : History) : Type 0 where
  pub inside : list_all (runs_inside set h) (guaranteed set cycle h) ≡ true
  pub in_time : list_all (ends_in_time h) (guaranteed set cycle h) ≡ true
  pub known : each_entry (λ what earlier. is_known (all_jobs set cycle earlier) what) h ≡ true
  pub not_after_end : list_all (rests_after_its_end h) (all_jobs set cycle h) ≡ true
  pub at_most_declared : list_all (runs_no_more h) (all_jobs set cycle h) ≡ true
  pub freed : list_all (ends_free_the_rest h) (all_jobs set cycle h) ≡ true

IsServed-from_tests :
    (set : TaskSet) (cycle : ℕ) (h : History) → PassesServed set cycle h → IsServed set cycle h
IsServed-from_tests set cycle h tests =
    record {
      inside = λ job earlier listed follows.
          let all = of_all (runs_inside set h) (guaranteed set cycle h) job tests.inside listed in
          IsInside-from_test set (time_of earlier) job (at_run job.key (λ earlier. is_inside set (time_of earlier) job) h earlier all follows);
      in_time = λ job later earlier listed split due.
          let all = of_all (ends_in_time h) (guaranteed set cycle h) job tests.in_time listed in
          let here = at_history (has_ended_when_due job) later earlier (subst (λ k. each_history (has_ended_when_due job) k ≡ true) split all) in
          from_implies (nat_le job.dl (time_of earlier)) (has_ended earlier job) here (le-leb job.dl (time_of earlier) due);
      known = λ what key earlier follows concerns.
          known-from_test (all_jobs set cycle earlier) what key (at_entry (λ what earlier. is_known (all_jobs set cycle earlier) what) h what earlier tests.known follows) concerns;
      not_after_end = λ key declared earlier listed follows.
          let all = of_all (rests_after_its_end h) (all_jobs set cycle h) (key, declared) tests.not_after_end listed in
          not-true (is_over earlier key declared) (at_run key (λ earlier. not (is_over earlier key declared)) h earlier all follows);
      at_most_declared = λ key declared listed.
          leb-true (executed key h) declared (of_all (runs_no_more h) (all_jobs set cycle h) (key, declared) tests.at_most_declared listed);
      freed = λ what key declared n earlier listed follows is.
          let all = of_all (ends_free_the_rest h) (all_jobs set cycle h) (key, declared) tests.freed listed in
          freed-from_test h (key, declared) n (freed_by what) (at_entry (λ what earlier. frees_the_rest h (key, declared) (freed_by what)) h what earlier all follows) is;
    }

-- the test of an ordered history: where two jobs are to run in a row, the first has ended before each
-- run of the second
abbrev runs_after : TaskSet → History → Job → Job → Bool
runs_after set h before after =
    implies
    (precedes set before.key after.key)
    (each_run after.key (λ earlier. has_ended earlier before) h)

abbrev runs_before_others : TaskSet → ℕ → History → Job → Bool
runs_before_others set cycle h before =
    list_all (runs_after set h before) (guaranteed set cycle h)

IsOrdered-from_test :
    (set : TaskSet) (cycle : ℕ) (h : History)
    → list_all (runs_before_others set cycle h) (guaranteed set cycle h) ≡ true
    → IsOrdered set cycle h
IsOrdered-from_test set cycle h test before after earlier first second precede follows =
    let jobs = guaranteed set cycle h in
    let others = of_all (runs_before_others set cycle h) jobs before test first in
    let both = of_all (runs_after set h before) jobs after others second in
    let all = from_implies (precedes set before.key after.key) (each_run after.key (λ earlier. has_ended earlier before) h) both precede in
    at_run after.key (λ earlier. has_ended earlier before) h earlier all follows

-- the pair of tasks beside an early end, soft work, and a job that is taken back after a slot
abbrev busy_history : History
busy_history =
    Run (Offline 0 0 1)
    ∷ Idle
    ∷ Idle
    ∷ Idle
    ∷ Idle
    ∷ WithdrawEntry 4 3 (GoneFreed 2)
    ∷ Run (FirmKey 3)
    ∷ Run (Offline 0 1 0)
    ∷ FirmEntry 3 3 8 Accepted
    ∷ Run (SoftKey 2)
    ∷ SoftEntry 2 1 SoftTaken
    ∷ DoneEntry 1 (Offline 0 0 0) (DoneFreed 1)
    ∷ Run (Offline 0 0 0)
    ∷ started

-- that is what these arrivals make
pub busy_history_of_arrivals :
    busy_history
    ≡ history_after
    pair_set
    8
    started
    (occurrences_of
    (arrival 1 1 (Done (Offline 0 0 0))
    ∷ arrival 2 1 (Soft 1)
    ∷ arrival 3 2 (Firm 3 8)
    ∷ arrival 4 4 (Withdraw 3)
    ∷ [])
    9)
busy_history_of_arrivals = refl

-- it is served and ordered
pub busy_history_is_served : IsServed pair_set 8 busy_history
busy_history_is_served =
    IsServed-from_tests
    pair_set
    8
    busy_history
    (record {
      inside = refl;
      in_time = refl;
      known = refl;
      not_after_end = refl;
      at_most_declared = refl;
      freed = refl;
    })

pub busy_history_is_ordered : IsOrdered pair_set 8 busy_history
busy_history_is_ordered = IsOrdered-from_test pair_set 8 busy_history refl

-- the first job of a set with one slot of work in every two
abbrev first_job : Job
first_job = record { key = Offline 0 0 0; est = 0; dl = 2; left = 1; declared = 1 }

-- before the first slot no job is firm
not_firm :
    (declared : ℕ) × Contains (all_jobs half_set 2 started) (FirmKey 1, declared) → ⊥
not_firm (n, at) =
    false≢true (of_all (λ (job : Key × ℕ). is_offline job.0) (all_jobs half_set 2 started) (FirmKey 1, n) refl at)

-- two idle slots do not serve it
pub idle_slots_serve_no_job : IsServed half_set 2 (Idle ∷ Idle ∷ started) → ⊥
idle_slots_serve_no_job served =
    let jobs = guaranteed half_set 2 (Idle ∷ Idle ∷ started) in
    let ended : false ≡ true = served.in_time first_job [] (Idle ∷ Idle ∷ started) (Contains-from_Has jobs first_job (inl refl)) refl (omega arith) in
    false≢true ended

-- nor do two slots of it
pub two_slots_are_too_many :
    IsServed half_set 2 (Run (Offline 0 0 0) ∷ Run (Offline 0 0 0) ∷ started) → ⊥
two_slots_are_too_many served =
    let jobs = all_jobs half_set 2 (Run (Offline 0 0 0) ∷ Run (Offline 0 0 0) ∷ started) in
    let few : 2 ≤ 1 = served.at_most_declared (Offline 0 0 0) 1 (Contains-from_Has jobs (Offline 0 0 0, 1) (inl refl)) in
    omega arith

-- nor a slot past its deadline, though it has ended after it
abbrev late_history : History
late_history = Run (Offline 0 0 0) ∷ Idle ∷ Idle ∷ started

pub late_slot_is_not_in_time : IsServed half_set 2 late_history → ⊥
late_slot_is_not_in_time served =
    let jobs = guaranteed half_set 2 late_history in
    let ended : false ≡ true = served.in_time first_job (Run (Offline 0 0 0) ∷ []) (Idle ∷ Idle ∷ started) (Contains-from_Has jobs first_job (inl refl)) refl (omega arith) in
    false≢true ended

pub late_slot_is_outside : IsServed half_set 2 late_history → ⊥
late_slot_is_outside served =
    let jobs = guaranteed half_set 2 late_history in
    let inside = served.inside first_job (Idle ∷ Idle ∷ started) (Contains-from_Has jobs first_job (inl refl)) ([], refl) in
    omega (arith, inside.2)

-- nor a slot of a job before it has come, nor its withdrawal
pub run_before_its_offer :
    IsServed half_set 2 (FirmEntry 1 1 2 Accepted ∷ Run (FirmKey 1) ∷ started) → ⊥
run_before_its_offer served =
    not_firm (served.known (Run (FirmKey 1)) (FirmKey 1) started (FirmEntry 1 1 2 Accepted ∷ [], refl) (inl refl))

pub withdrawal_before_its_offer :
    IsServed half_set 2 (FirmEntry 1 1 2 Accepted ∷ WithdrawEntry 2 1 (GoneFreed 1) ∷ started) → ⊥
withdrawal_before_its_offer served =
    not_firm (served.known (WithdrawEntry 2 1 (GoneFreed 1)) (FirmKey 1) started (FirmEntry 1 1 2 Accepted ∷ [], refl) (inr (1, refl)))

-- a slot of the second task before the first has ended is out of order
pub second_task_first : IsOrdered row_set 2 (Run (Offline 0 1 0) ∷ started) → ⊥
second_task_first ordered =
    let jobs = guaranteed row_set 2 (Run (Offline 0 1 0) ∷ started) in
    let a : Job = record { key = Offline 0 0 0; est = 0; dl = 1; left = 1; declared = 1 } in
    let b : Job = record { key = Offline 0 1 0; est = 1; dl = 2; left = 1; declared = 1 } in
    let ended : false ≡ true = ordered a b started (Contains-from_Has jobs a (inl refl)) (Contains-from_Has jobs b (inr (inl refl))) refl ([], refl) in
    false≢true ended
