-- Offers, one after the other, are accepted all the way exactly where all of them together fit, and so exactly where
-- all of them can be served.
use Rattle.std.proofs.Common.{◌≡◌, ◌↔◌, ℕ, ◌+◌, ◌-◌, ◌/◌, ◌<◌, ◌≤◌, true, cond, ◌&&◌, List, [], ◌∷◌, ◌++◌, map, refl, sym, ap, subst, arith}
use Rattle.std.specs.Prelude.{nat_le}
use Rattle.std.proofs.lemmas.Bool.Decides.{nat_tests}
use Rattle.std.proofs.lemmas.List.{append_assoc}
use Rattle.std.proofs.lemmas.List.Sums.{sum_by-append, sum_by-cons}
use Rattle.slot_core.specs.declared.TheConstants.{OFFER_LIMIT}
use Rattle.slot_core.specs.declared.jobs.Job.{Job}
use Rattle.slot_core.specs.declared.tasks.TaskSet.{TaskSet}
use Rattle.slot_core.specs.declared.events.Event.TheVariants.{Firm as FirmEvent}
use Rattle.slot_core.specs.declared.events.What.TheVariants.{Firm}
use Rattle.slot_core.specs.declared.events.Firm.{Firm as FirmAnswer}
use Rattle.slot_core.specs.declared.events.Firm.TheVariants.{Accepted}
use Rattle.slot_core.specs.Sets.Cycles.{cycle_of}
use Rattle.slot_core.specs.Sets.Ranges.{is_between, is_sound}
use Rattle.slot_core.specs.Feasibility.Feasible.{IsFeasible}
use Rattle.slot_core.specs.Feasibility.Sporadics.{densest_pattern, IsLegalPattern, sporadic_demand}
use Rattle.slot_core.specs.Claims.Futures.{CanBeServed, pattern_jobs}
use Rattle.slot_core.specs.Claims.Schedules.{HasSchedule}
use Rattle.slot_core.specs.Runs.Answers.{firm_answer}
use Rattle.slot_core.specs.Runs.Demand.{HasRoom, need_by, work_by, work_from}
use Rattle.slot_core.specs.Runs.Histories.{History, last_row, time_of}
use Rattle.slot_core.specs.Runs.Scenes.{horizon, Scene, scene_of}
use Rattle.slot_core.specs.Runs.Traces.{arrive, IsLegal}
use Rattle.slot_facts.specs.Bounds.{HistoryIsKept}
use Rattle.slot_facts.proofs.Legal.Kept.{every_legal_history_is_kept}
use Rattle.slot_facts.proofs.Offline.Jobs.{cycle-at_most}
use Rattle.slot_facts.proofs.Offers.Answers.{accepted_exactly}
use Rattle.slot_facts.proofs.Offers.Served.{rows-below, served_with}
use Rattle.slot_facts.proofs.Patterns.Densest.{the_densest_pattern_needs_all}
use Rattle.slot_facts.proofs.Scheduling.Beside.{closed_beside, work_by-both}
use Rattle.slot_facts.proofs.Scheduling.Extras.{AreExtra, AreExtra-cons, AreExtra-pattern, separated-from_sound}
use Rattle.scene_steps.proofs.Model.Histories.{scene-follows}
use Rattle.plan_change.specs.declared.offers.Offer.{Offer}
use Rattle.plan_change.specs.Laws.{OffersTogetherAreExact}
use Rattle.plan_change.specs.Offers.{accepted_after, AllAccepted, job_of, MayBeOffered, MayFollow, row_after}

-- the work of one more offer
pub work_by-offers : (t : ℕ) (offer : Offer) (offers : List Offer) (x : ℕ) → work_by (map (job_of t) (offer ∷ offers)) x ≡ cond (nat_le (t + offer.within) x) offer.slots 0 + work_by (map (job_of t) offers) x
work_by-offers t offer offers x =
    sum_by-cons (λ (j : Job). cond (nat_le j.dl x) j.left 0) (job_of t offer) (map (job_of t) offers)

counts-due : (dl slots x : ℕ) → dl ≤ x → cond (nat_le dl x) slots 0 ≡ slots
counts-due dl slots x due = grind (arith, nat_tests)

counts-later : (dl slots x : ℕ) → x < dl → cond (nat_le dl x) slots 0 ≡ 0
counts-later dl slots x late = grind (arith, nat_tests)

-- it has come, and so is not among those to come
has_come : (t dl slots a x : ℕ) → t < a → cond (nat_le a t && nat_le dl x) slots 0 ≤ 0
has_come t dl slots a x late = grind (arith, nat_tests)

work_from-offers : (t : ℕ) (offers : List Offer) (a x : ℕ) → t < a → work_from (map (job_of t) offers) a x ≤ 0
work_from-offers t [] a x late = omega arith
work_from-offers t (offer ∷ offers) a x late =
    omega (
      arith,
      sum_by-cons (λ (j : Job). cond (nat_le a j.est && nat_le j.dl x) j.left 0) (job_of t offer) (map (job_of t) offers),
      has_come t (t + offer.within) offer.slots a x late,
      work_from-offers t offers a x late,
    )

-- an offer that may follow is an event that may come
may_come : (slots within : ℕ) → 1 ≤ slots → slots ≤ OFFER_LIMIT → within ≤ OFFER_LIMIT → (is_between 1 OFFER_LIMIT slots && nat_le within OFFER_LIMIT) ≡ true
may_come slots within some few near = grind (arith, nat_tests)

-- with an offer that is accepted a legal history stays legal
pub accepted-legal : (set : TaskSet) (cycle : ℕ) (h : History) (offer : Offer) → cycle ≤ OFFER_LIMIT → IsLegal set cycle h → MayFollow cycle (last_row h) offer → firm_answer set.sporadics cycle (scene_of set cycle h) offer.slots offer.within ≡ Accepted → IsLegal set cycle (Firm offer.row offer.slots offer.within Accepted ∷ h)
accepted-legal set cycle h offer short legal may answer = (
  (
    arrive offer.row (FirmEvent offer.slots offer.within),
    (may.above, may_come offer.slots offer.within may.some may.few (omega (arith, may.near, short))),
    ap (λ (a : FirmAnswer). Firm offer.row offer.slots offer.within a) (sym answer),
  ),
  legal,
)

-- the jobs of offers stand in rows of their own
pub AreExtra-offers : (cycle t row : ℕ) (offers : List Offer) (rest : List Job) → MayBeOffered cycle row offers → AreExtra (row_after row offers + 1) rest → AreExtra (row + 1) (map (job_of t) offers ++ rest)
AreExtra-offers cycle t row [] rest may extra = extra
AreExtra-offers cycle t row (offer ∷ offers) rest may extra =
    AreExtra-cons (row + 1) (job_of t offer) (map (job_of t) offers ++ rest) refl (omega (arith, may.0.above)) may.0.some (AreExtra-offers cycle t offer.row offers rest may.1 extra)

module _ (set : TaskSet) (sound : is_sound set ≡ true) (feasible : IsFeasible set (cycle_of set)) where
  abbrev cycle : ℕ
  cycle = cycle_of set

  short : cycle_of set ≤ OFFER_LIMIT
  short = omega (arith, cycle-at_most set sound)

  -- what is needed by each time up to the horizon fits, with these offers
  abbrev pub FitTogether : History → List Offer → Type 0
  FitTogether h offers =
      (x : ℕ) → time_of h ≤ x → x ≤ horizon (cycle_of set) (time_of h)
      → work_by (map (job_of (time_of h)) offers) x + need_by set.sporadics (scene_of set (cycle_of set) h) (time_of h) x ≤ x - time_of h

  -- what a legal history keeps up to its horizon
  kept_at : (h : History) → IsLegal set cycle h → HistoryIsKept set (time_of h / cycle_of set + 3) h
  kept_at h legal = every_legal_history_is_kept set h (time_of h / cycle_of set + 3) sound feasible legal (omega arith)

  -- after an offer that was accepted its slots are needed too
  need-accepted : (h : History) (offer : Offer) (x : ℕ) → IsLegal set cycle (Firm offer.row offer.slots offer.within Accepted ∷ h) → need_by set.sporadics (scene_of set cycle (Firm offer.row offer.slots offer.within Accepted ∷ h)) (time_of h) x ≡ need_by set.sporadics (scene_of set cycle h) (time_of h) x + cond (nat_le (time_of h + offer.within) x) offer.slots 0
  need-accepted h offer x legal =
      let scene = scene_of set cycle h in
      let job = job_of (time_of h) offer in
      let due = λ (j : Job). cond (nat_le j.dl x) j.left 0 in
      let follows = scene-follows set h (Firm offer.row offer.slots offer.within Accepted) sound feasible legal in
      omega (
        arith,
        follows.jobs due,
        sum_by-append due scene.jobs (job ∷ []),
        sum_by-cons due job [],
        ap (λ (ns : List ℕ). sporadic_demand set.sporadics ns (time_of h) x) follows.nexts,
      )

  -- where all are accepted they fit together
  pub fit-from_accepted : (h : History) (offers : List Offer) → IsLegal set cycle h → MayBeOffered cycle (last_row h) offers → AllAccepted set cycle h offers → FitTogether h offers
  fit-from_accepted h [] legal may accepted = λ x low high. omega (arith, (kept_at h legal).bounds.fits x low high)
  fit-from_accepted h (offer ∷ offers) legal may accepted = λ x low high.
      let after = accepted-legal set cycle h offer short legal may.0 accepted.0 in
      let rest = fit-from_accepted (Firm offer.row offer.slots offer.within Accepted ∷ h) offers after may.1 accepted.1 x low high in
      omega (arith, rest, need-accepted h offer x after, work_by-offers (time_of h) offer offers x)

  -- where they fit together all are accepted
  pub accepted-from_fit : (h : History) (offers : List Offer) → IsLegal set cycle h → MayBeOffered cycle (last_row h) offers → FitTogether h offers → AllAccepted set cycle h offers
  accepted-from_fit h [] legal may fit = tt
  accepted-from_fit h (offer ∷ offers) legal may fit =
      let scene = scene_of set cycle h in
      let room : HasRoom set.sporadics cycle scene offer.slots offer.within = λ x low high.
      omega (arith, fit x (omega (arith, low)) high, work_by-offers (time_of h) offer offers x, counts-due (time_of h + offer.within) offer.slots x low) in
      let answer = (accepted_exactly set.sporadics cycle scene offer.slots offer.within may.0.later may.0.near).1 room in
      let after = accepted-legal set cycle h offer short legal may.0 answer in (
        answer,
        accepted-from_fit (Firm offer.row offer.slots offer.within Accepted ∷ h) offers after may.1 (λ x low high.
            omega (arith, fit x low high, need-accepted h offer x after, work_by-offers (time_of h) offer offers x)),
      )

  -- and after several those of all of them
  pub need-after : (h : History) (offers : List Offer) (x : ℕ) → IsLegal set cycle h → MayBeOffered cycle (last_row h) offers → AllAccepted set cycle h offers → need_by set.sporadics (scene_of set cycle (accepted_after h offers)) (time_of h) x ≡ need_by set.sporadics (scene_of set cycle h) (time_of h) x + work_by (map (job_of (time_of h)) offers) x
  need-after h [] x legal may accepted = omega arith
  need-after h (offer ∷ offers) x legal may accepted =
      let after = accepted-legal set cycle h offer short legal may.0 accepted.0 in
      let rest = need-after (Firm offer.row offer.slots offer.within Accepted ∷ h) offers x after may.1 accepted.1 in
      omega (arith, rest, need-accepted h offer x after, work_by-offers (time_of h) offer offers x)

  module _ (h : History) (offers : List Offer) (legal : IsLegal set (cycle_of set) h) (may : MayBeOffered (cycle_of set) (last_row h) offers) where
    abbrev first : ℕ
    first = row_after (last_row h) offers + 1

    abbrev jobs : List Job
    jobs = map (job_of (time_of h)) offers

    abbrev scene : Scene
    scene = scene_of set (cycle_of set) h

    extras : (pattern : List (ℕ × ℕ)) → IsLegalPattern set.sporadics scene.nexts (time_of h) pattern → AreExtra (last_row h + 1) (jobs ++ pattern_jobs set.sporadics first pattern)
    extras pattern arrivals =
        AreExtra-offers (cycle_of set) (time_of h) (last_row h) offers (pattern_jobs set.sporadics first pattern) may (AreExtra-pattern set scene.nexts (time_of h) first first pattern sound (omega arith) arrivals)

    -- what fits together can be served
    served-from_fit : FitTogether h offers → CanBeServed set (cycle_of set) scene first jobs
    served-from_fit fit = λ pattern arrivals.
        let cycles = time_of h / cycle_of set + 3 in
        let kept = kept_at h legal in
        served_with set cycles (last_row h + 1) scene sound feasible kept.bounds (rows-below set cycles h kept) first jobs pattern (omega arith) arrivals (extras pattern arrivals)
        (λ x low high. omega (arith, fit x low high))
        (λ a x late. work_from-offers (time_of h) offers a x late)

    -- and what can be served fits together: the densest arrivals need all of the demand
    fit-from_served : CanBeServed set (cycle_of set) scene first jobs → FitTogether h offers
    fit-from_served can = λ x low high.
        let cycles = time_of h / cycle_of set + 3 in
        let kept = kept_at h legal in
        let end = horizon (cycle_of set) (time_of h) in
        let pattern = densest_pattern 0 set.sporadics scene.nexts (time_of h) end in
        let arrivals = pattern_jobs set.sporadics first pattern in
        let densest = the_densest_pattern_needs_all set.sporadics scene.nexts (time_of h) first x end (separated-from_sound set sound) high in
        let both = subst (λ js. HasSchedule set js (time_of h) end) (append_assoc scene.jobs jobs arrivals) (can pattern densest.0) in
        let fits = closed_beside set cycles (last_row h + 1) (time_of h) x scene.jobs (jobs ++ arrivals) sound kept.bounds.planned kept.bounds.waiting (extras pattern densest.0) high both in
        omega (arith, fits, work_by-both jobs arrivals x, densest.1)

    pub accepted_together : AllAccepted set (cycle_of set) h offers ↔ CanBeServed set (cycle_of set) scene first jobs
    accepted_together = (
      λ accepted. served-from_fit (fit-from_accepted h offers legal may accepted),
      λ can. accepted-from_fit h offers legal may (fit-from_served can),
    )

pub offers_together_are_exact : OffersTogetherAreExact
offers_together_are_exact set h offers sound feasible legal may =
    accepted_together set sound feasible h offers legal may
