-- After a change the carried jobs are served, and run in their order.
use Rattle.std.proofs.Common.{◌≡◌, ℕ, ◌+◌, ◌/◌, ◌≤◌, true, List, [], ◌∷◌, ◌++◌, Option, Some, None, Ordering, Less, Equal, Greater, is_gt, is_lt, refl, sym, ap, ◌∙◌, subst, inl, inr, arith}
use Rattle.std.specs.Prelude.{Contains, nat_le}
use Rattle.std.specs.Option.{option_map_or}
use Rattle.std.specs.Ordering.{ordering_reverse}
use Rattle.std.proofs.lemmas.Bool.{false≢true, le-leb, true_from_ne_false}
use Rattle.slot_core.specs.declared.jobs.Job.{Job}
use Rattle.slot_core.specs.declared.jobs.Key.{Key}
use Rattle.slot_core.specs.declared.jobs.Key.TheVariants.{Firm as FirmKey, Soft as SoftKey}
use Rattle.slot_core.specs.declared.tasks.TaskSet.{TaskSet}
use Rattle.slot_core.specs.declared.events.Firm.TheVariants.{Accepted}
use Rattle.slot_core.specs.declared.events.Ran.{Ran}
use Rattle.slot_core.specs.declared.events.Ran.TheVariants.{Idle as RanIdle, Key as RanKey}
use Rattle.slot_core.specs.declared.events.What.TheVariants.{Firm, Run}
use Rattle.slot_core.specs.Offline.Keys.{is_earlier}
use Rattle.slot_core.specs.Offline.OfflineJobs.{offline_jobs}
use Rattle.slot_core.specs.Sets.Cycles.{cycle_of}
use Rattle.slot_core.specs.Sets.Ranges.{is_sound}
use Rattle.slot_core.specs.Feasibility.Feasible.{IsFeasible}
use Rattle.slot_core.specs.Runs.Choice.{choice, earliest, ready}
use Rattle.slot_core.specs.Runs.Histories.{executed, firm_jobs, History, sporadic_jobs, time_of}
use Rattle.slot_core.specs.Runs.Scenes.{guaranteed, has_ended, remaining, scene_of, with_left}
use Rattle.slot_core.specs.Runs.Traces.{IsLegal, slot, started, told_of, told_of_slot}
use Rattle.slot_facts.proofs.Choice.Earliest.{IsEarliest, IsEarliest-from_earliest, IsNotAfter, job_cmp, job_cmp_total}
use Rattle.slot_facts.proofs.Histories.Unended.{Has-unended, unended_own}
use Rattle.slot_facts.proofs.Legal.Data.{legal-as_data}
use Rattle.slot_facts.proofs.Legal.Jobs.{all_jobs_in, all_jobs-of_job, guaranteed-earlier, job-from_key}
use Rattle.slot_facts.proofs.Legal.Served.{every_legal_history_is_served}
use Rattle.slot_facts.proofs.Lists.Members.{Contains-from_Has, Has, Has-append_left, Has-append_right, Has-filter, Has-filter_passes, Has-from_Contains}
use Rattle.scene_steps.proofs.Facts.Choices.{choice-cases}
use Rattle.plan_change.specs.declared.offers.Offer.{Offer}
use Rattle.plan_change.specs.Laws.{CarriedJobsAreServed, CarriedJobsAreServedWithSoft, CarriedJobsKeepTheirOrder, CarriedJobsKeepTheirOrderWithSoft}
use Rattle.plan_change.specs.Offers.{accepted_after, job_of}
use Rattle.plan_change.specs.SoftWork.{Going, moved_after, offers_in}
use Rattle.plan_change.proofs.SoftBeside.{IsSameHard-moved}

-- the job of an accepted offer stays
firm-kept : (offers : List Offer) (h : History) (job : Job) → Has (firm_jobs h) job → Has (firm_jobs (accepted_after h offers)) job
firm-kept [] h job at = at
firm-kept (offer ∷ offers) h job at =
    firm-kept offers (Firm offer.row offer.slots offer.within Accepted ∷ h) job (inr at)

-- each accepted offer has its job
firm-listed : (offers : List Offer) (h : History) (offer : Offer) → Has offers offer → Has (firm_jobs (accepted_after h offers)) (job_of (time_of h) offer)
firm-listed [] h offer at = absurd at
firm-listed (first ∷ offers) h offer (inl e) =
    firm-kept offers (Firm first.row first.slots first.within Accepted ∷ h) (job_of (time_of h) offer) (inl (ap (job_of (time_of h)) e))
firm-listed (first ∷ offers) h offer (inr at) =
    firm-listed offers (Firm first.row first.slots first.within Accepted ∷ h) offer at

-- a firm job of the change is listed at every time after it
listed-later : (set : TaskSet) (first later : History) (job : Job) → Has (firm_jobs first) job → let h = later ++ first in Has (guaranteed set (cycle_of set) h) job
listed-later set first later job at =
    let cycles = time_of (later ++ first) / cycle_of set + 3 in
    let planned = offline_jobs set (cycle_of set) cycles in
    guaranteed-earlier set cycles later first job (Has-append_left (planned ++ firm_jobs first) (sporadic_jobs set.sporadics first) job (Has-append_right planned (firm_jobs first) job at))

-- the jobs of accepted offers are such jobs, also where soft jobs go on among them
firm-alone : (offers : List Offer) (offer : Offer) → Contains offers offer → Has (firm_jobs (accepted_after started offers)) (job_of 0 offer)
firm-alone offers offer at = firm-listed offers started offer (Has-from_Contains offers offer at)

firm-among : (going : List Going) (offer : Offer) → Contains (offers_in going) offer → Has (firm_jobs (moved_after started going)) (job_of 0 offer)
firm-among going offer at =
    subst (λ (jobs : List Job). Has jobs (job_of 0 offer)) (sym (IsSameHard-moved going).firm) (firm-alone (offers_in going) offer at)

served-later : (set : TaskSet) (first later : History) (offer : Offer) → is_sound set ≡ true → IsFeasible set (cycle_of set) → Has (firm_jobs first) (job_of 0 offer) → let h = later ++ first in IsLegal set (cycle_of set) h → (executed (FirmKey offer.row) h ≤ offer.slots) × (offer.within ≤ time_of h → has_ended h (job_of 0 offer) ≡ true)
served-later set first later offer sound feasible at legal =
    let h = later ++ first in
    let cycles = time_of h / cycle_of set + 3 in
    let job = job_of 0 offer in
    let listed = listed-later set first later job at in
    let served = (every_legal_history_is_served set h sound feasible legal).0 in
    let all = all_jobs-of_job set cycles h job listed in (
      served.at_most_declared (FirmKey offer.row) offer.slots (Contains-from_Has (all_jobs_in set (cycle_of set) cycles h) (FirmKey offer.row, offer.slots) all),
      λ due. served.in_time job [] h (Contains-from_Has (guaranteed set (cycle_of set) h) job listed) refl (omega (arith, due)),
    )

pub carried_jobs_are_served : CarriedJobsAreServed
carried_jobs_are_served set offers offer later sound feasible at legal =
    served-later set (accepted_after started offers) later offer sound feasible (firm-alone offers offer at) legal

pub carried_jobs_are_served_with_soft : CarriedJobsAreServedWithSoft
carried_jobs_are_served_with_soft set going offer later sound feasible at legal =
    served-later set (moved_after started going) later offer sound feasible (firm-among going offer at) legal

-- a slot that is told as a run is one
run-from_told : (ran : Ran) (key : Key) → told_of_slot ran ≡ Run key → ran ≡ RanKey key
run-from_told RanIdle key told = absurd (cc told)
run-from_told (RanKey k) key told = ap RanKey (cc told)

-- the earliest ready job
record IsFirstReady (time : ℕ) (jobs : List Job) (key : Key) : Type 0 where
  pub job : Job
  pub first : IsEarliest (ready time jobs) job
  pub keyed : job.key ≡ key

IsFirstReady-from_some : (time : ℕ) (jobs : List Job) (key : Key) (o : Option Job) → earliest (ready time jobs) ≡ o → option_map_or (λ (j : Job). RanKey j.key) o RanIdle ≡ RanKey key → IsFirstReady time jobs key
IsFirstReady-from_some time jobs key None at is = absurd (cc is)
IsFirstReady-from_some time jobs key (Some job) at is =
    record { job = job; first = IsEarliest-from_earliest (ready time jobs) job at; keyed = cc is }

-- what goes before another does not go after it
gt-from_less : (o back : Ordering) → back ≡ ordering_reverse o → is_lt o ≡ true → is_gt back ≡ true
gt-from_less Less back e less = ap is_gt e
gt-from_less Equal back e less = cc
gt-from_less Greater back e less = cc

not_after : (a b : Job) → is_earlier a b ≡ true → IsNotAfter b a → ⊥
not_after a b earlier last =
    false≢true (sym last ∙ gt-from_less (job_cmp a b) (job_cmp b a) (job_cmp_total.antisymm b a) earlier)

module _ (set : TaskSet) (h : History) (sound : is_sound set ≡ true) (legal : IsLegal set (cycle_of set) h) (a b : Job) (at_a : Has (guaranteed set (cycle_of set) h) a) (at_b : Has (guaranteed set (cycle_of set) h) b) (earlier : is_earlier a b ≡ true) (begun : a.est ≤ time_of h) where
  -- where the earliest job has the key of b, a has ended
  ended-from_first : IsFirstReady (time_of h) (remaining set (cycle_of set) h) b.key → has_ended h a ≡ true
  ended-from_first ran =
      let cycles = time_of h / cycle_of set + 3 in
      let jobs = remaining set (cycle_of set) h in
      let may = λ (j : Job). nat_le j.est (time_of h) in
      let among = Has-filter_passes may jobs ran.job ran.first.among in
      let (own, is) = unended_own h (guaranteed set (cycle_of set) h) ran.job among.0 in
      let key : own.key ≡ b.key = sym (ap (λ (j : Job). j.key) is.same) ∙ ran.keyed in
      let same = job-from_key set cycles h own b sound (legal-as_data set (cycle_of set) h legal) is.listed at_b key in
      let left : ran.job ≡ with_left h b = is.same ∙ ap (with_left h) same in
      true_from_ne_false (has_ended h a) λ runs.
      let waits = Has-filter may jobs (with_left h a) (Has-unended h (guaranteed set (cycle_of set) h) a runs at_a) (le-leb a.est (time_of h) begun) in
      not_after (with_left h a) (with_left h b) earlier (subst (λ (j : Job). IsNotAfter j (with_left h a)) left (ran.first.first (with_left h a) waits))

  ended-from_choice : (row : ℕ) → b.key ≡ FirmKey row → told_of set (cycle_of set) h slot ≡ Run (FirmKey row) → has_ended h a ≡ true
  ended-from_choice row keyed told =
      let scene = scene_of set (cycle_of set) h in
      let ran = run-from_told (choice set.sporadics (cycle_of set) scene) (FirmKey row) told in
      elim (choice-cases set.sporadics (cycle_of set) scene) [
        | inl soft ↦ let other : RanKey (SoftKey soft.soft.row) ≡ RanKey (FirmKey row) = sym soft.chosen ∙ ran in absurd (cc other)
        | inr chosen ↦ ended-from_first (subst (IsFirstReady (time_of h) (remaining set (cycle_of set) h)) (sym keyed) (IsFirstReady-from_some (time_of h) (remaining set (cycle_of set) h) (FirmKey row) (earliest (ready (time_of h) (remaining set (cycle_of set) h))) refl (sym chosen ∙ ran)))
      ]

pub carried_jobs_keep_their_order : CarriedJobsKeepTheirOrder
carried_jobs_keep_their_order set offers a b later sound feasible at_a at_b earlier legal told =
    let first = accepted_after started offers in
    ended-from_choice set (later ++ first) sound legal (job_of 0 a) (job_of 0 b) (listed-later set first later (job_of 0 a) (firm-alone offers a at_a)) (listed-later set first later (job_of 0 b) (firm-alone offers b at_b)) earlier (omega arith) b.row refl told

pub carried_jobs_keep_their_order_with_soft : CarriedJobsKeepTheirOrderWithSoft
carried_jobs_keep_their_order_with_soft set going a b later sound feasible at_a at_b earlier legal told =
    let first = moved_after started going in
    ended-from_choice set (later ++ first) sound legal (job_of 0 a) (job_of 0 b) (listed-later set first later (job_of 0 a) (firm-among going a at_a)) (listed-later set first later (job_of 0 b) (firm-among going b at_b)) earlier (omega arith) b.row refl told
