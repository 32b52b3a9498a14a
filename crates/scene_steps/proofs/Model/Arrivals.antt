-- Soft work, a firm offer and a sporadic arrival that are taken: the new job has not run, and its deadline is a point.
use Rattle.std.proofs.Common.{◌≡◌, ℕ, ◌+◌, ◌/◌, ◌<◌, ◌≤◌, true, List, [], ◌∷◌, ◌++◌, map, append_assoc, refl, sym, ap, ◌∙◌, subst, inl, inr, arith}
use Rattle.std.specs.Prelude.{sum_by, slice_set}
use Rattle.std.specs.Option.{option_map_or}
use Rattle.std.proofs.lemmas.List.{map-append}
use Rattle.std.proofs.lemmas.List.Sums.{sum_by-cons, sum_by-append}
use Rattle.slot_core.specs.declared.jobs.Key.TheVariants.{Soft as SoftKey, Firm as FirmKey, Sporadic as SporadicKey}
use Rattle.slot_core.specs.declared.jobs.Job.{Job}
use Rattle.slot_core.specs.declared.jobs.SoftJob.{SoftJob}
use Rattle.slot_core.specs.declared.tasks.Sporadic.{Sporadic}
use Rattle.slot_core.specs.declared.tasks.TaskSet.{TaskSet}
use Rattle.slot_core.specs.declared.events.What.TheVariants.{Soft, Firm, Sporadic as SporadicEntry}
use Rattle.slot_core.specs.declared.events.Soft.TheVariants.{Taken as SoftTaken}
use Rattle.slot_core.specs.declared.events.Firm.TheVariants.{Accepted}
use Rattle.slot_core.specs.declared.events.Spo.TheVariants.{Taken as SporadicTaken}
use Rattle.slot_core.specs.Sets.Cycles.{cycle_of}
use Rattle.slot_core.specs.Sets.Ranges.{is_sound}
use Rattle.slot_core.specs.Offline.OfflineJobs.{offline_jobs}
use Rattle.slot_core.specs.Runs.Points.{is_point}
use Rattle.slot_core.specs.Runs.Histories.{History, time_of, offered_job, firm_jobs, sporadic_job, sporadic_jobs, soft_jobs}
use Rattle.slot_core.specs.Runs.Scenes.{unended, next_arrivals, scene_of}
use Rattle.slot_core.specs.Runs.Matches.{HaveSameItems, IsSameScene}
use Rattle.slot_facts.proofs.Histories.Unended.{IsFresh, unended-fresh, unended-append}
use Rattle.slot_facts.proofs.Bounds.CycleDemand.{FitsCycle-from_Has}
use Rattle.slot_facts.proofs.Legal.Bounds.{below_end}
use Rattle.slot_facts.proofs.Legal.Data.{Slots, Entries}
use Rattle.slot_facts.proofs.Legal.NextArrivals.{next_arrivals-set}
use Rattle.slot_facts.proofs.Legal.Rows.{entries-before, accepted-says, sporadic_taken-says, soft_taken-says, sporadic_job-at, sporadic-come}
use Rattle.slot_facts.proofs.Lists.Members.{Has-from_slice_get}
use Rattle.slot_facts.proofs.Offline.Jobs.{cycle-positive}
use Rattle.slot_facts.proofs.Plans.SetPoints.{planned}
use Rattle.slot_facts.proofs.Sets.Tasks.{slice_get-within}
use Rattle.scene_steps.specs.Steps.{with_soft, with_job, with_point, with_arrival, separation_of}
use Rattle.scene_steps.proofs.Model.NewKeys.{not_run-new, not_freed-new}
use Rattle.scene_steps.proofs.Model.Points.{points_to_horizon, points_to_horizon-more}
use Rattle.scene_steps.proofs.Model.SoftJobs.{waiting-push}

-- soft work that is taken
pub soft-follows : {S : Slots} (set : TaskSet) (row slots : ℕ) (h : History) → is_sound set ≡ true → Entries S set (cycle_of set) (Soft row slots SoftTaken ∷ h) → with_soft row slots (scene_of set (cycle_of set) h) ≡ scene_of set (cycle_of set) (Soft row slots SoftTaken ∷ h)
soft-follows set row slots h sound told =
    let taken = soft_taken-says told in
    let key = SoftKey row in
    let soft : SoftJob = record { row = row; left = slots; declared = slots } in
    let none = not_run-new set sound h key (entries-before told) refl taken.above in
    let kept = not_freed-new set sound h key (entries-before told) refl taken.above in
    ap
    (λ (ss : List SoftJob). record (scene_of set (cycle_of set) h) { soft = ss })
    (sym (waiting-push h soft (soft_jobs h) none kept taken.some refl))

-- a new job among those of a history adds itself to what has not ended
unended-more : (h : History) (xs ys : List Job) (job : Job) → IsFresh h job → (f : Job → ℕ) → sum_by f (unended h (xs ++ job ∷ ys)) ≡ sum_by f (unended h (xs ++ ys)) + f job
unended-more h xs ys job fresh f =
    let one = unended-fresh h (job ∷ []) (λ other at. elim at [ inl e ↦ subst (IsFresh h) e fresh | inr none ↦ absurd none ]) in
    let alone : sum_by f (unended h (job ∷ [])) ≡ f job = ap (sum_by f) one ∙ sum_by-cons f job [] ∙ omega arith in
    let long = ap (sum_by f) (unended-append h xs (job ∷ ys)) ∙ sum_by-append f (unended h xs) (unended h (job ∷ ys)) in
    let rest = ap (sum_by f) (unended-append h (job ∷ []) ys) ∙ sum_by-append f (unended h (job ∷ [])) (unended h ys) in
    let short = ap (sum_by f) (unended-append h xs ys) ∙ sum_by-append f (unended h xs) (unended h ys) in
    omega arith

-- so the jobs that have not ended are those before and it, in some order
remaining-more : (h : History) (before after xs ys : List Job) (job : Job) → before ≡ xs ++ ys → after ≡ xs ++ job ∷ ys → IsFresh h job → HaveSameItems (unended h before ++ job ∷ []) (unended h after)
remaining-more h before after xs ys job is_before is_after fresh f =
    let one : sum_by f (unended h before) ≡ sum_by f (unended h (xs ++ ys)) = ap (λ js. sum_by f (unended h js)) is_before in
    let more : sum_by f (unended h after) ≡ sum_by f (unended h (xs ++ job ∷ ys)) = ap (λ js. sum_by f (unended h js)) is_after in
    omega (arith, unended-more h xs ys job fresh f, sum_by-append f (unended h before) (job ∷ []), sum_by-cons f job [])

-- a deadline after the time, at most a cycle ahead, is one point more
points-more : (set : TaskSet) (t x : ℕ) (before after xs ys : List ℕ) → is_sound set ≡ true → before ≡ xs ++ ys → after ≡ xs ++ x ∷ ys → t < x → x ≤ t + cycle_of set → with_point x (points_to_horizon (is_point (cycle_of set) (planned set) before) (cycle_of set) t) ≡ points_to_horizon (is_point (cycle_of set) (planned set) after) (cycle_of set) t
points-more set t x before after xs ys sound is_before is_after later near =
    let cycle = cycle_of set in
    let past = below_end t cycle (t / cycle + 3) (cycle-positive set sound) (omega arith) in
    let points = λ (own : List ℕ). points_to_horizon (is_point cycle (planned set) own) cycle t in
    ap (λ own. with_point x (points own)) is_before ∙ points_to_horizon-more cycle (planned set) xs ys t x later (omega arith) ∙ ap points (sym is_after)

-- a firm offer that is accepted
pub firm-follows : {S : Slots} (set : TaskSet) (row slots within : ℕ) (h : History) → is_sound set ≡ true → Entries S set (cycle_of set) (Firm row slots within Accepted ∷ h) → IsSameScene (with_job (offered_job row (time_of h) slots within) (scene_of set (cycle_of set) h)) (scene_of set (cycle_of set) (Firm row slots within Accepted ∷ h))
firm-follows set row slots within h sound told =
    let cycle = cycle_of set in
    let t = time_of h in
    let a = accepted-says told in
    let job = offered_job row t slots within in
    let offline = offline_jobs set cycle (t / cycle + 3) in
    let firm = firm_jobs h in
    let sporadic = sporadic_jobs set.sporadics h in
    let own = map (λ (j : Job). j.dl) (firm ++ sporadic) in
    let fresh : IsFresh h job =
    record {
      none = not_run-new set sound h (FirmKey row) (entries-before told) refl a.above;
      kept = not_freed-new set sound h (FirmKey row) (entries-before told) refl a.above;
      some = a.some;
      whole = refl;
    } in
    record {
      time = refl;
      jobs = remaining-more h (offline ++ firm ++ sporadic) (offline ++ job ∷ firm ++ sporadic) offline (firm ++ sporadic) job (append_assoc offline firm sporadic) (append_assoc offline (job ∷ firm) sporadic) fresh;
      nexts = refl;
      soft = refl;
      points = points-more set t (t + within) own ((t + within) ∷ own) [] own sound refl refl (omega (arith, a.later)) (omega (arith, a.near));
    }

-- a sporadic arrival that is taken
pub sporadic-follows : {S : Slots} (set : TaskSet) (row index due : ℕ) (h : History) → is_sound set ≡ true → Entries S set (cycle_of set) (SporadicEntry row index (SporadicTaken due) ∷ h) → IsSameScene (with_arrival set.sporadics row index (scene_of set (cycle_of set) h)) (scene_of set (cycle_of set) (SporadicEntry row index (SporadicTaken due) ∷ h))
sporadic-follows set row index due h sound told =
    let cycle = cycle_of set in
    let t = time_of h in
    let taken = sporadic_taken-says told in
    let (s, at) = slice_get-within set.sporadics index taken.named in
    let fits = FitsCycle-from_Has set s sound (Has-from_slice_get set.sporadics index s at) in
    let job = sporadic_job set.sporadics index row t in
    let come = sporadic-come set (SporadicEntry row index (SporadicTaken due) ∷ h) job sound told (inl refl) in
    let dl : job.dl ≡ t + s.deadline = ap (λ (j : Job). j.dl) (sporadic_job-at set.sporadics index row t s at) in
    let separation : separation_of set.sporadics index ≡ s.separation = ap (λ o. option_map_or (λ (s : Sporadic). s.separation) o 0) at in
    let offline = offline_jobs set cycle (t / cycle + 3) in
    let firm = firm_jobs h in
    let sporadic = sporadic_jobs set.sporadics h in
    let deadlines = map (λ (j : Job). j.dl) in
    let fresh : IsFresh h job =
    record {
      none = not_run-new set sound h (SporadicKey index row) (entries-before told) refl taken.above;
      kept = not_freed-new set sound h (SporadicKey index row) (entries-before told) refl taken.above;
      some = come.some;
      whole = refl;
    } in
    record {
      time = refl;
      jobs = remaining-more h (offline ++ firm ++ sporadic) (offline ++ firm ++ job ∷ sporadic) (offline ++ firm) sporadic job refl refl fresh;
      nexts = ap (λ n. slice_set (next_arrivals set.sporadics h) index (t + n)) separation ∙ sym (next_arrivals-set set.sporadics h row index due 0 index index s at (omega arith) refl);
      soft = refl;
      points =
          points-more
          set
          t
          job.dl
          (deadlines (firm ++ sporadic))
          (deadlines (firm ++ job ∷ sporadic))
          (deadlines firm)
          (deadlines sporadic)
          sound
          (map-append (λ (j : Job). j.dl) firm sporadic)
          (map-append (λ (j : Job). j.dl) firm (job ∷ sporadic))
          (omega (arith, fits.later))
          come.due;
    }
