-- Histories in which soft jobs came among offers: their guaranteed jobs are those of the offers alone, and their soft jobs
-- wait as they came.
use Rattle.std.proofs.Common.{◌≡◌, ℕ, ◌+◌, ◌-◌, ◌/◌, ◌≤◌, true, false, cond, not, List, [], ◌∷◌, ◌++◌, Bool, filter, length, map, refl, sym, ap, ap₂, ◌∙◌, inl, inr, arith}
use Rattle.std.specs.Prelude.{◌||◌, nat_le}
use Rattle.std.specs.List.{enumerate_from}
use Rattle.std.proofs.lemmas.Bool.Decides.{nat_tests}
use Rattle.std.proofs.lemmas.List.{append-nil, append_assoc, length-append, length-map}
use Rattle.std.proofs.lemmas.List.Elements.{filter-append}
use Rattle.slot_core.specs.declared.jobs.Job.{Job}
use Rattle.slot_core.specs.declared.jobs.Key.{Key}
use Rattle.slot_core.specs.declared.jobs.Key.TheVariants.{Soft as SoftKey}
use Rattle.slot_core.specs.declared.jobs.SoftJob.{SoftJob}
use Rattle.slot_core.specs.declared.tasks.Sporadic.{Sporadic}
use Rattle.slot_core.specs.declared.tasks.TaskSet.{TaskSet}
use Rattle.slot_core.specs.declared.events.Firm.TheVariants.{Accepted}
use Rattle.slot_core.specs.declared.events.Soft.TheVariants.{Taken}
use Rattle.slot_core.specs.declared.events.What.TheVariants.{Firm, Soft}
use Rattle.slot_core.specs.Offline.OfflineJobs.{offline_jobs}
use Rattle.slot_core.specs.Runs.Answers.{firm_answer}
use Rattle.slot_core.specs.Runs.Histories.{executed, firm_jobs, History, is_freed, next_arrival, offered_job, soft_jobs, sporadic_jobs, time_of}
use Rattle.slot_core.specs.Runs.Scenes.{guaranteed, has_ended, next_arrivals, remaining, Scene, scene_of, soft_has_ended, soft_with_left, unended, waiting_soft, with_left}
use Rattle.slot_core.specs.Runs.Traces.{started}
use Rattle.slot_facts.proofs.Lists.Members.{Contains-from_Has, Has}
use Rattle.scene_steps.proofs.Model.Points.{filter-same}
use Rattle.plan_change.specs.declared.offers.Offer.{Offer}
use Rattle.plan_change.specs.Laws.{SoftWorkPlaysNoPart, SoftWorkWaitsAsItCame}
use Rattle.plan_change.specs.Offers.{accepted_after}
use Rattle.plan_change.specs.SoftWork.{begun_anew, goes_firm, goes_soft, Going, moved_after, offers_in, softs_in}

-- what goes on and more of it
pub moved_after-append : (h : History) (xs ys : List Going) → moved_after h (xs ++ ys) ≡ moved_after (moved_after h xs) ys
moved_after-append h [] ys = refl
moved_after-append h (goes_firm x ∷ xs) ys = moved_after-append (Firm x.row x.slots x.within Accepted ∷ h) xs ys
moved_after-append h (goes_soft x ∷ xs) ys = moved_after-append (Soft x.row x.left Taken ∷ h) xs ys

pub offers_in-append : (xs ys : List Going) → offers_in (xs ++ ys) ≡ offers_in xs ++ offers_in ys
offers_in-append [] ys = refl
offers_in-append (goes_firm x ∷ xs) ys = ap (λ (os : List Offer). x ∷ os) (offers_in-append xs ys)
offers_in-append (goes_soft x ∷ xs) ys = offers_in-append xs ys

pub softs_in-append : (xs ys : List Going) → softs_in (xs ++ ys) ≡ softs_in xs ++ softs_in ys
softs_in-append [] ys = refl
softs_in-append (goes_firm x ∷ xs) ys = softs_in-append xs ys
softs_in-append (goes_soft x ∷ xs) ys = ap (λ (ss : List SoftJob). x ∷ ss) (softs_in-append xs ys)

-- soft jobs alone
pub offers_in-soft : (jobs : List SoftJob) → offers_in (map goes_soft jobs) ≡ []
offers_in-soft [] = refl
offers_in-soft (job ∷ jobs) = offers_in-soft jobs

pub softs_in-soft : (jobs : List SoftJob) → softs_in (map goes_soft jobs) ≡ jobs
softs_in-soft [] = refl
softs_in-soft (job ∷ jobs) = ap (λ (ss : List SoftJob). job ∷ ss) (softs_in-soft jobs)

-- no slot passes, none runs and none is freed
pub time-moved : (h : History) (going : List Going) → time_of (moved_after h going) ≡ time_of h
time-moved h [] = refl
time-moved h (goes_firm x ∷ going) = time-moved (Firm x.row x.slots x.within Accepted ∷ h) going
time-moved h (goes_soft x ∷ going) = time-moved (Soft x.row x.left Taken ∷ h) going

executed-moved : (key : Key) (h : History) (going : List Going) → executed key (moved_after h going) ≡ executed key h
executed-moved key h [] = refl
executed-moved key h (goes_firm x ∷ going) = executed-moved key (Firm x.row x.slots x.within Accepted ∷ h) going
executed-moved key h (goes_soft x ∷ going) = executed-moved key (Soft x.row x.left Taken ∷ h) going

freed-moved : (key : Key) (h : History) (going : List Going) → is_freed key (moved_after h going) ≡ is_freed key h
freed-moved key h [] = refl
freed-moved key h (goes_firm x ∷ going) = freed-moved key (Firm x.row x.slots x.within Accepted ∷ h) going
freed-moved key h (goes_soft x ∷ going) = freed-moved key (Soft x.row x.left Taken ∷ h) going

-- two histories that differ in soft jobs that came alone
pub record IsSameHard (h g : History) : Type 0 where
  pub time : time_of h ≡ time_of g
  pub firm : firm_jobs h ≡ firm_jobs g
  pub sporadic : (sporadics : List Sporadic) → sporadic_jobs sporadics h ≡ sporadic_jobs sporadics g
  pub ran : (key : Key) → executed key h ≡ executed key g
  pub freed : (key : Key) → is_freed key h ≡ is_freed key g
  pub next : (index separation : ℕ) → next_arrival index separation h ≡ next_arrival index separation g

IsSameHard-firm : (h g : History) (row slots within : ℕ) → IsSameHard h g → IsSameHard (Firm row slots within Accepted ∷ h) (Firm row slots within Accepted ∷ g)
IsSameHard-firm h g row slots within same =
    record {
      time = same.time;
      firm = ap₂ (λ (t : ℕ) (jobs : List Job). offered_job row t slots within ∷ jobs) same.time same.firm;
      sporadic = same.sporadic;
      ran = same.ran;
      freed = same.freed;
      next = same.next;
    }

IsSameHard-soft : (h g : History) (row slots : ℕ) → IsSameHard h g → IsSameHard (Soft row slots Taken ∷ h) g
IsSameHard-soft h g row slots same =
    record {
      time = same.time;
      firm = same.firm;
      sporadic = same.sporadic;
      ran = same.ran;
      freed = same.freed;
      next = same.next;
    }

IsSameHard-refl : (h : History) → IsSameHard h h
IsSameHard-refl h =
    record {
      time = refl;
      firm = refl;
      sporadic = λ sporadics. refl;
      ran = λ key. refl;
      freed = λ key. refl;
      next = λ index separation. refl;
    }

IsSameHard-from : (h g : History) (going : List Going) → IsSameHard h g → IsSameHard (moved_after h going) (accepted_after g (offers_in going))
IsSameHard-from h g [] same = same
IsSameHard-from h g (goes_firm x ∷ going) same =
    IsSameHard-from (Firm x.row x.slots x.within Accepted ∷ h) (Firm x.row x.slots x.within Accepted ∷ g) going (IsSameHard-firm h g x.row x.slots x.within same)
IsSameHard-from h g (goes_soft x ∷ going) same =
    IsSameHard-from (Soft x.row x.left Taken ∷ h) g going (IsSameHard-soft h g x.row x.left same)

-- what has gone on differs from the offers alone in soft jobs
pub IsSameHard-moved : (going : List Going) → IsSameHard (moved_after started going) (accepted_after started (offers_in going))
IsSameHard-moved going = IsSameHard-from started started going (IsSameHard-refl started)

map-same : {X Y : Type 0} (f g : X → Y) (xs : List X) → ((x : X) → f x ≡ g x) → map f xs ≡ map g xs
map-same f g [] same = refl
map-same f g (x ∷ xs) same = ap₂ (λ y ys. y ∷ ys) (same x) (map-same f g xs same)

module _ (h g : History) (same : IsSameHard h g) where
  ended-same : (job : Job) → has_ended h job ≡ has_ended g job
  ended-same job = ap₂ (λ (n : ℕ) (b : Bool). nat_le job.declared n || b) (same.ran job.key) (same.freed job.key)

  left-same : (job : Job) → with_left h job ≡ with_left g job
  left-same job = ap {B = Job} (λ (n : ℕ). record job { left = job.declared - n }) (same.ran job.key)

  unended-same : (jobs : List Job) → unended h jobs ≡ unended g jobs
  unended-same jobs =
      ap (map (with_left h)) (filter-same (λ (j : Job). not (has_ended h j)) (λ (j : Job). not (has_ended g j)) jobs (λ j at. ap not (ended-same j)))
      ∙ map-same (with_left h) (with_left g) (filter (λ (j : Job). not (has_ended g j)) jobs) left-same

  module _ (set : TaskSet) (cycle : ℕ) where
    guaranteed-same : guaranteed set cycle h ≡ guaranteed set cycle g
    guaranteed-same =
        ap (λ (t : ℕ). offline_jobs set cycle (t / cycle + 3) ++ firm_jobs h ++ sporadic_jobs set.sporadics h) same.time
        ∙ ap₂ (λ (fs ss : List Job). offline_jobs set cycle (time_of g / cycle + 3) ++ fs ++ ss) same.firm (same.sporadic set.sporadics)

    remaining-same : remaining set cycle h ≡ remaining set cycle g
    remaining-same = unended-same (guaranteed set cycle h) ∙ ap (unended g) guaranteed-same

    nexts-same : next_arrivals set.sporadics h ≡ next_arrivals set.sporadics g
    nexts-same =
        map-same
        (λ (s : ℕ × Sporadic). next_arrival s.0 s.1.separation h)
        (λ (s : ℕ × Sporadic). next_arrival s.0 s.1.separation g)
        (enumerate_from 0 set.sporadics)
        (λ s. same.next s.0 s.1.separation)

    -- what an answer to an offer depends on
    abbrev hard_scene : ℕ → List Job → List ℕ → Scene
    hard_scene t jobs nexts = record { time = t; jobs = jobs; nexts = nexts; soft = []; points = [] }

    -- so an offer is answered alike
    pub answer-same : (slots within : ℕ) → firm_answer set.sporadics cycle (scene_of set cycle h) slots within ≡ firm_answer set.sporadics cycle (scene_of set cycle g) slots within
    answer-same slots within =
        let told = λ (t : ℕ) (jobs : List Job) (nexts : List ℕ). firm_answer set.sporadics cycle (hard_scene t jobs nexts) slots within in
        ap (λ (t : ℕ). told t (remaining set cycle h) (next_arrivals set.sporadics h)) same.time
        ∙ ap (λ (jobs : List Job). told (time_of g) jobs (next_arrivals set.sporadics h)) remaining-same
        ∙ ap (λ (nexts : List ℕ). told (time_of g) (remaining set cycle g) nexts) nexts-same

-- the soft jobs that came
soft_jobs-moved : (h : History) (going : List Going) → soft_jobs (moved_after h going) ≡ soft_jobs h ++ map begun_anew (softs_in going)
soft_jobs-moved h [] = sym (append-nil (soft_jobs h))
soft_jobs-moved h (goes_firm x ∷ going) = soft_jobs-moved (Firm x.row x.slots x.within Accepted ∷ h) going
soft_jobs-moved h (goes_soft x ∷ going) =
    soft_jobs-moved (Soft x.row x.left Taken ∷ h) going
    ∙ append_assoc (soft_jobs h) (begun_anew x ∷ []) (map begun_anew (softs_in going))

-- one that has a slot and has not run has not ended
waits-test : (declared : ℕ) → 1 ≤ declared → (nat_le declared 0 || false) ≡ false
waits-test declared some = grind (arith, nat_tests)

module _ (h : History) (ran : (key : Key) → executed key h ≡ 0) (freed : (key : Key) → is_freed key h ≡ false) where
  unrun : (job : SoftJob) → soft_with_left h (begun_anew job) ≡ begun_anew job
  unrun job =
      let left : job.left - executed (SoftKey job.row) h ≡ job.left = omega (arith, ran (SoftKey job.row)) in
      ap {B = SoftJob} (λ (n : ℕ). record { row = job.row; left = n; declared = job.left }) left

  runs : (job : SoftJob) → 1 ≤ job.left → soft_has_ended h (begun_anew job) ≡ false
  runs job some =
      ap₂ (λ (n : ℕ) (b : Bool). nat_le job.left n || b) (ran (SoftKey job.row)) (freed (SoftKey job.row)) ∙ waits-test job.left some

  wait-all : (jobs : List SoftJob) → ((job : SoftJob) → Has jobs job → 1 ≤ job.left) → map (soft_with_left h) (filter (λ (s : SoftJob). not (soft_has_ended h s)) (map begun_anew jobs)) ≡ map begun_anew jobs
  wait-all [] some = refl
  wait-all (job ∷ jobs) some =
      let rest = wait-all jobs (λ j at. some j (inr at)) in
      let own = runs job (some job (inl refl)) in
      let kept = λ (b : Bool). map (soft_with_left h) (cond (not b) (begun_anew job ∷ filter (λ (s : SoftJob). not (soft_has_ended h s)) (map begun_anew jobs)) (filter (λ (s : SoftJob). not (soft_has_ended h s)) (map begun_anew jobs))) in
      ap kept own ∙ ap₂ (λ (j : SoftJob) (js : List SoftJob). j ∷ js) (unrun job) rest

-- they wait as they came
pub waiting-moved : (going : List Going) → ((job : SoftJob) → Has (softs_in going) job → 1 ≤ job.left) → waiting_soft (moved_after started going) ≡ map begun_anew (softs_in going)
waiting-moved going some =
    let h = moved_after started going in
    ap (λ (js : List SoftJob). map (soft_with_left h) (filter (λ (s : SoftJob). not (soft_has_ended h s)) js)) (soft_jobs-moved started going)
    ∙ wait-all h (λ key. executed-moved key started going) (λ key. freed-moved key started going) (softs_in going) some

-- after any history one more waits at most
one_at_most : (b : Bool) (s : SoftJob) → length (cond b (s ∷ []) []) ≤ 1
one_at_most true s = omega arith
one_at_most false s = omega arith

pub waiting-more : (h : History) (row slots : ℕ) → length (waiting_soft (Soft row slots Taken ∷ h)) ≤ length (waiting_soft h) + 1
waiting-more h row slots =
    let own : SoftJob = record { row = row; left = slots; declared = slots } in
    let test = λ (s : SoftJob). not (soft_has_ended h s) in
    let one : length (filter test (own ∷ [])) ≤ 1 = one_at_most (test own) own in
    omega (
      arith,
      length-map (filter test (soft_jobs h ++ own ∷ [])) (soft_with_left h),
      length-map (filter test (soft_jobs h)) (soft_with_left h),
      ap (λ (js : List SoftJob). length js) (filter-append test (soft_jobs h) (own ∷ [])),
      length-append (filter test (soft_jobs h)) (filter test (own ∷ [])),
    )

pub soft_work_plays_no_part : SoftWorkPlaysNoPart
soft_work_plays_no_part set cycle going offer =
    answer-same (moved_after started going) (accepted_after started (offers_in going)) (IsSameHard-moved going) set cycle offer.slots offer.within

pub soft_work_waits_as_it_came : SoftWorkWaitsAsItCame
soft_work_waits_as_it_came going some =
    waiting-moved going (λ job at. some job (Contains-from_Has (softs_in going) job at))
