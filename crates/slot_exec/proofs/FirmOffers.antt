-- A firm offer, in the parts of an executive.
use Rattle.std.proofs.Common.{◌≡◌, ◌≢◌, ℕ, ◌+◌, ◌<◌, ◌≤◌, ◌^◌, pos, ◌≤ℤ◌, cond, nat_lt, ◌==◌, List, [], ◌∷◌, ◌++◌, Option, Some, None, refl, sym, ap, ◌∙◌, subst, arith}
use Rattle.std.specs.Option.{option_map_or}
use Rattle.slot_core.specs.declared.TheConstants.{HORIZON_LIMIT, OFFER_LIMIT, TIME_LIMIT}
use Rattle.slot_core.specs.declared.events.Event.TheVariants.{Firm as FirmEvent}
use Rattle.slot_core.specs.declared.events.Firm.{Firm as FirmAnswer}
use Rattle.slot_core.specs.declared.events.Firm.TheVariants.{Accepted, Late, Far, NoRoom}
use Rattle.slot_core.specs.declared.events.What.TheVariants.{Firm}
use Rattle.slot_core.specs.declared.jobs.Evidence.{Evidence}
use Rattle.slot_core.specs.declared.jobs.Job.{Job}
use Rattle.slot_core.specs.declared.jobs.SoftJob.{SoftJob}
use Rattle.slot_core.specs.declared.jobs.Span.{Span}
use Rattle.slot_core.specs.Runs.Answers.{evidence_at, firm_answer, first_overload}
use Rattle.slot_core.specs.Keeping.Executives.{Executive, Does, StandsFor}
use Rattle.slot_core.specs.Claims.Futures.{OfferIsExact}
use Rattle.slot_core.specs.Runs.Histories.{History, offered_job}
use Rattle.slot_core.specs.Runs.Matches.{HaveSameItems, IsSameScene}
use Rattle.slot_core.specs.Keeping.Plans.{PlanParts, IsPlan}
use Rattle.slot_core.specs.Runs.Scenes.{horizon}
use Rattle.slot_core.specs.Runs.Spans.{spans_of}
use Rattle.slot_core.specs.Runs.Traces.{arrive}
use Rattle.spare_capacity.specs.Recurrence.{first_spare, last_end}
use Rattle.sporadic_reserve.specs.Reserves.{Reserved}
use Rattle.guarantee.specs.declared.Answer.TheVariants.{Accept, Refuse}
use Rattle.guarantee.specs.Offers.{answer_to}
use Rattle.slot_facts.proofs.Legal.Executives.{every_executive_is_kept}
use Rattle.scene_steps.specs.Joins.{spans_with_job, HavePlace, MayJoin}
use Rattle.scene_steps.specs.Steps.{with_job}
use Rattle.scene_steps.proofs.Facts.ProperScenes.{proper_scene}
use Rattle.scene_steps.proofs.Joins.JoinedScenes.{HavePlace-from_join}
use Rattle.scene_steps.proofs.Joins.JoinedSpans.{spans-with_job}
use Rattle.scene_steps.proofs.Joins.OfferEvents.{Does-accepted, Does-refused, MayJoin-accepted, exact-from_answer}
use Rattle.scene_steps.proofs.Same.Events.{StandsForSome-from_does}
use Rattle.scene_steps.proofs.Slots.NewParts.{parts-same}
use Rattle.scene_steps.proofs.Spans.Executives.{deadline-by_last_end, first_spare-positive, last_end-early}
use Rattle.slot_exec.specs.Offers.{answer_in_reach, offer_answer}
use Rattle.slot_exec.specs.declared.rooms.Remembered.{Remembered}
use Rattle.slot_exec.specs.Rooms.{due_with, free_beside}
use Rattle.slot_exec.specs.Parts.{executive, job_room, span_room, IsExecutive}
use Rattle.slot_exec.proofs.EventParts.{IsExecutive-after}
use Rattle.slot_exec.proofs.ChangedRooms.{due-fits, RemembersScene-offered}
use Rattle.slot_exec.proofs.SceneOffers.{answer_to-scene}

-- what the test answers by the first time that is too short, the model answers
answer_in_reach-first : (evidence : ℕ → Evidence) (o : Option ℕ) → answer_in_reach (option_map_or (λ x. Refuse (evidence x)) o Accept) ≡ option_map_or (λ x. NoRoom (evidence x)) o Accepted
answer_in_reach-first evidence None = refl
answer_in_reach-first evidence (Some x) = refl

-- the answer by the spans of an executive's scene is that of the model
offer_answer-scene : (exec : Executive) (reserve : Reserved) (rows : List Span) (limit capacity most slots within : ℕ) {known : Remembered} → IsExecutive exec rows reserve.sporadics limit capacity most known → reserve.nexts ≡ exec.scene.nexts → offer_answer rows reserve exec.scene.time exec.plan.cycle slots within ≡ firm_answer exec.plan.tasks.sporadics exec.plan.cycle exec.scene slots within
offer_answer-scene exec reserve rows limit capacity most slots within is nexts =
    let set = exec.plan.tasks in
    let scene = exec.scene in
    let cycle = exec.plan.cycle in
    let by_spans = ap (λ rs. answer_to rs reserve scene.time slots (scene.time + within)) is.spans ∙ answer_to-scene exec reserve slots within is.plan is.stands is.sporadics nexts in
    let in_reach = ap answer_in_reach by_spans ∙ answer_in_reach-first (evidence_at set.sporadics scene slots) (first_overload set.sporadics cycle scene slots (scene.time + within)) in
    ap (λ a. cond (within == 0) Late (cond (nat_lt cycle within) Far a)) in_reach

module _ {plan : PlanParts} {time : ℕ} {rows : List Span} {jobs : List Job} (reserve : Reserved) {soft : List SoftJob} {row limit capacity most : ℕ} {known : Remembered} (is : IsExecutive (executive plan time rows jobs reserve.nexts soft row) rows reserve.sporadics limit capacity most known) where
  -- the executive of the parts
  abbrev exec : Executive
  exec = executive plan time rows jobs reserve.nexts soft row

  -- its first capacity is at least 0
  pub offer-first : pos 0 ≤ℤ first_spare rows
  offer-first =
      subst (λ rs. pos 0 ≤ℤ first_spare rs) (sym is.spans) (first_spare-positive exec is.plan is.stands)

  -- its spans reach a cycle ahead
  pub offer-reach : (cycle : ℕ) → cycle ≡ plan.cycle → time + cycle ≤ last_end time rows
  offer-reach cycle same =
      let ahead = deadline-by_last_end exec jobs (horizon plan.cycle time) plan.cycle is.plan is.stands (omega arith) in
      omega (arith, ahead, same, ap (last_end time) is.spans)

  -- and end near
  pub offer-near : last_end time rows < HORIZON_LIMIT
  offer-near =
      let near = last_end-early exec jobs (horizon plan.cycle time) is.plan is.stands is.early in
      omega (arith, near, ap (last_end time) is.spans)

  module _ {now : Executive} (same : exec ≡ now) {next_row slots within cycle : ℕ} (later : now.last_row < next_row) (some : 1 ≤ slots) (few : slots ≤ OFFER_LIMIT) (near : within ≤ OFFER_LIMIT) (cycle_is : cycle ≡ plan.cycle) {answer : FirmAnswer} (told : answer ≡ offer_answer rows reserve time cycle slots within) where
    -- the answer is that of the scene
    answer-own : answer ≡ firm_answer plan.tasks.sporadics plan.cycle exec.scene slots within
    answer-own =
        told ∙ ap (λ c. offer_answer rows reserve time c slots within) cycle_is ∙ offer_answer-scene exec reserve rows limit capacity most slots within is refl

    -- of what was seen before it
    pub answer-seen : answer ≡ firm_answer now.plan.tasks.sporadics now.plan.cycle now.scene slots within
    answer-seen =
        answer-own ∙ ap (λ (e : Executive). firm_answer e.plan.tasks.sporadics e.plan.cycle e.scene slots within) same

    -- the row is above the last one
    last-own : exec.last_row < next_row
    last-own = subst (λ (e : Executive). e.last_row < next_row) (sym same) later

    -- and is exact
    pub exact-seen : (h : History) → StandsFor now h → OfferIsExact now.plan.tasks now.plan.cycle h slots within answer
    exact-seen h stands =
        exact-from_answer now slots within answer h (subst (λ (e : Executive). IsPlan e.plan) same is.plan) some answer-seen stands

    module _ (not : answer ≢ Accepted) where
      -- the executive after a refusal
      abbrev kept : Executive
      kept = executive plan time rows jobs reserve.nexts soft next_row

      -- a refusal does what the model does
      Does-kept : Does exec kept (arrive next_row (FirmEvent slots within)) (Firm next_row slots within answer)
      Does-kept =
          Does-refused exec next_row slots within is.plan is.stands last-own some few near answer answer-own not

      -- for what was seen before it
      pub Does-refused_offer : Does now kept (arrive next_row (FirmEvent slots within)) (Firm next_row slots within answer)
      Does-refused_offer =
          subst (λ (e : Executive). Does e kept (arrive next_row (FirmEvent slots within)) (Firm next_row slots within answer)) same Does-kept

      -- and the parts agree
      pub IsExecutive-refused_offer : IsExecutive kept rows reserve.sporadics limit capacity most known
      IsExecutive-refused_offer =
          IsExecutive-after exec kept _ _ rows rows reserve.sporadics limit capacity most limit capacity most known known is Does-kept is.early is.spans refl refl refl is.remembers

    module _ (accepted : answer ≡ Accepted) {at : ℕ} (at_is : at ≡ time) {job : Job} (job_at : job ≡ offered_job next_row at slots within) where
      -- the job is the one that is offered now
      job_is : job ≡ offered_job next_row time slots within
      job_is = job_at ∙ ap (λ t. offered_job next_row t slots within) at_is

      -- the offer that is accepted may join the jobs
      MayJoin-offer : MayJoin plan.cycle exec.scene (offered_job next_row time slots within)
      MayJoin-offer =
          MayJoin-accepted exec next_row slots within is.plan is.stands last-own some few near (sym accepted ∙ answer-own)

      -- it is due after now
      pub later-offer : job.est ≤ job.dl
      later-offer =
          let arrives : job.est ≡ time = ap (λ (j : Job). j.est) job_is in
          let ends : job.dl ≡ time + within = ap (λ (j : Job). j.dl) job_is in
          omega arith

      -- what is due by `tight` with it is small
      pub due-offer : job.dl ≤ known.tight → known.due < 2 ^ 63
      due-offer before =
          let ends : job.dl ≡ time + within = ap (λ (j : Job). j.dl) job_is in
          due-fits exec is.plan is.stands known is.remembers job (omega (arith, MayJoin-offer.after, ends)) before

      -- and finds its place
      pub HavePlace-offer : HavePlace job time rows limit jobs capacity
      HavePlace-offer =
          let own = offered_job next_row time slots within in
          let place = HavePlace-from_join exec own is.plan is.stands MayJoin-offer in
          let own_place = subst (λ (rs : List Span). HavePlace own time rs (span_room plan.cycle) jobs (job_room plan.cycle)) (sym is.spans) place in
          rw (job_is, is.places, is.queue) own_place

      module _ {new_time : ℕ} {new_rows : List Span} (new_jobs : List Job) {places room : ℕ} (time_is : new_time ≡ time) (rows_are : new_rows ≡ spans_with_job job rows) (jobs_are : HaveSameItems new_jobs (jobs ++ job ∷ [])) (places_are : places ≡ limit) (room_is : room ≡ capacity) where
        -- the executive after the job has come in
        abbrev joined : Executive
        joined = executive plan new_time new_rows new_jobs reserve.nexts soft next_row

        -- its spans are those of the scene with the job
        rows-joined : new_rows ≡ spans_of plan.cycle (with_job (offered_job next_row time slots within) exec.scene)
        rows-joined =
            let own = offered_job next_row time slots within in
            rows_are
            ∙ ap (λ (j : Job). spans_with_job j rows) job_is
            ∙ ap (spans_with_job own) is.spans
            ∙ spans-with_job plan.cycle exec.scene own (proper_scene exec is.plan is.stands) MayJoin-offer.after MayJoin-offer.within

        -- so its scene is that one, and the spans are its own
        scene-joined : IsSameScene joined.scene (with_job (offered_job next_row time slots within) exec.scene) × (new_rows ≡ spans_of plan.cycle joined.scene)
        scene-joined =
            let own = offered_job next_row time slots within in
            let jobs_own = subst (λ (j : Job). HaveSameItems new_jobs (jobs ++ j ∷ [])) job_is jobs_are in
            parts-same plan.cycle joined.scene (with_job own exec.scene) new_rows time_is jobs_own refl refl refl rows-joined

        -- an accepted offer does what the model does
        Does-joined : Does exec joined (arrive next_row (FirmEvent slots within)) (Firm next_row slots within answer)
        Does-joined =
            subst
            (λ (a : FirmAnswer). Does exec joined (arrive next_row (FirmEvent slots within)) (Firm next_row slots within a))
            (sym accepted)
            (Does-accepted exec next_row slots within is.plan is.stands last-own some few near joined (sym accepted ∙ answer-own) refl scene-joined.0 refl)

        -- for what was seen before it
        pub Does-accepted_offer : Does now joined (arrive next_row (FirmEvent slots within)) (Firm next_row slots within answer)
        Does-accepted_offer =
            subst (λ (e : Executive). Does e joined (arrive next_row (FirmEvent slots within)) (Firm next_row slots within answer)) same Does-joined

        -- and the parts agree
        pub IsExecutive-accepted_offer : IsExecutive joined new_rows reserve.sporadics places room most (record { free = free_beside job known.free; tight = known.tight; due = due_with job known.tight known.due })
        IsExecutive-accepted_offer =
            let early = subst (λ t. t ≤ TIME_LIMIT) (sym time_is) is.early in
            let bounds = (every_executive_is_kept joined is.plan (StandsForSome-from_does exec joined _ _ Does-joined)).bounds in
            let arrives : job.est ≡ time = ap (λ (j : Job). j.est) job_is in
            let remembered = RemembersScene-offered exec is.plan is.stands known is.remembers joined.scene time_is job jobs_are refl bounds arrives in
            IsExecutive-after exec joined _ _ rows new_rows reserve.sporadics limit capacity most places room most known _ is Does-joined early scene-joined.1 places_are room_is refl remembered
