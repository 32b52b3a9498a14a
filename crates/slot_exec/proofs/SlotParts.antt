-- The parts of an executive before a slot and after it.
use Rattle.std.proofs.Common.{◌≡◌, ℕ, ◌+◌, ◌/◌, ◌%◌, ◌<◌, ◌==◌, Bool, false, List, length, take, drop, refl, ap, sym, ◌∙◌, subst, arith}
use Rattle.slot_core.specs.declared.TheConstants.{HORIZON_LIMIT, SHOWN_LIMIT, TIME_LIMIT}
use Rattle.slot_core.specs.declared.jobs.Job.{Job}
use Rattle.slot_core.specs.declared.jobs.SoftJob.{SoftJob}
use Rattle.slot_core.specs.declared.jobs.Span.{Span}
use Rattle.slot_core.specs.Runs.Choice.{earliest, ready}
use Rattle.slot_core.specs.Keeping.Executives.{Does, Executive}
use Rattle.slot_core.specs.Runs.Matches.{HaveSameItems, IsSameScene}
use Rattle.slot_core.specs.Keeping.Plans.{PlanParts}
use Rattle.slot_core.specs.Claims.Safety.{after_slot}
use Rattle.slot_core.specs.Runs.Scenes.{Scene, horizon}
use Rattle.slot_core.specs.Runs.ShownSpans.{others_of}
use Rattle.slot_core.specs.Runs.Spans.{shown_of, spans_of}
use Rattle.slot_core.specs.Runs.Traces.{slot, told_of_slot}
use Rattle.spare_capacity.specs.Recurrence.{filled, last_end}
use Rattle.sporadic_reserve.specs.Reserves.{Reserved}
use Rattle.guarantee.specs.Offers.{soft_fits}
use Rattle.slot_facts.proofs.Legal.Executives.{every_executive_is_kept}
use Rattle.scene_steps.specs.Steps.{after_ran, one_slot_later}
use Rattle.scene_steps.proofs.Same.Events.{StandsForSome-from_does}
use Rattle.scene_steps.proofs.Same.SameScenes.{same-trans}
use Rattle.scene_steps.proofs.Slots.NewParts.{jobs-next_cycle, next_cycle-stays, parts-same}
use Rattle.scene_steps.proofs.Slots.Places.{next_cycle-near, next_cycle-free, next_jobs-apart}
use Rattle.scene_steps.proofs.Slots.Turns.{Does-slot, spans-after_slot}
use Rattle.scene_steps.proofs.Spans.Executives.{last_end-early, last_end-spans, pass_slot-before_end}
use Rattle.slot_exec.proofs.SceneOffers.{soft_fits-scene}
use Rattle.slot_exec.specs.declared.runs.Chosen.{Chosen}
use Rattle.slot_exec.specs.Changes.{chosen_of, HasPlaces, jobs_after, jobs_at, MayRun, ran_of, soft_after, spans_after, spans_at}
use Rattle.slot_exec.specs.declared.rooms.Remembered.{Remembered}
use Rattle.slot_exec.specs.Parts.{executive, IsExecutive}
use Rattle.slot_exec.specs.Rooms.{room_after, RemembersSpans}
use Rattle.slot_exec.proofs.RememberedRoom.{RemembersScene-later}
use Rattle.slot_exec.proofs.SceneRooms.{RemembersScene-from_spans, RemembersScene-slot, RemembersSpans-from_scene}
use Rattle.slot_exec.proofs.ShownSlots.{others-shown, others-slot}
use Rattle.slot_exec.proofs.SlotChoice.{choice_of, IsChosen, IsChosen-from_parts, jobs_after-choice, MayRun-from_choice, ran_of-choice, soft_after-choice, spans_after-choice}

module _ {plan : PlanParts} {time : ℕ} {rows : List Span} {jobs : List Job} (reserve : Reserved) {soft : List SoftJob} {row limit capacity most : ℕ} {known : Remembered} (is : IsExecutive (executive plan time rows jobs reserve.nexts soft row) rows reserve.sporadics limit capacity most known) where
  -- the executive of the parts
  abbrev exec : Executive
  exec = executive plan time rows jobs reserve.nexts soft row

  -- the first slot lies before the last end
  pub slot-before_end : time < last_end time rows
  slot-before_end =
      let before = pass_slot-before_end exec jobs (horizon plan.cycle time) is.plan is.stands in
      omega (arith, before, ap (last_end time) is.spans)

  -- which is near
  pub end-near : last_end time rows < HORIZON_LIMIT
  end-near =
      let near = last_end-early exec jobs (horizon plan.cycle time) is.plan is.stands is.early in
      omega (arith, near, ap (last_end time) is.spans)

  -- what is remembered is so of the spans, after the slot
  pub RemembersSpans-parts : RemembersSpans rows reserve time known
  RemembersSpans-parts =
      let later = RemembersScene-later plan.tasks.sporadics plan.cycle exec.scene known is.remembers in
      subst (λ xs. RemembersSpans xs reserve time known) (sym is.spans) (RemembersSpans-from_scene exec reserve known is.plan is.stands is.sporadics refl later)

  module _ (chosen : Chosen) (chosen_is : chosen ≡ chosen_of soft (soft_fits rows reserve time) (earliest (ready time jobs))) where
    -- what is chosen is there
    pub IsChosen-parts : IsChosen exec chosen
    IsChosen-parts =
        let may = ap (λ xs. soft_fits xs reserve time) is.spans ∙ soft_fits-scene exec reserve is.plan is.stands is.sporadics refl in
        subst (IsChosen exec) (sym chosen_is) (IsChosen-from_parts exec (soft_fits rows reserve time) is.plan is.stands may)

    -- what runs is the choice
    pub ran_of-parts : ran_of chosen ≡ choice_of exec
    ran_of-parts = ran_of-choice exec chosen IsChosen-parts

    -- it may run
    pub MayRun-parts : MayRun chosen rows jobs soft
    MayRun-parts =
        subst (λ xs. MayRun chosen xs jobs soft) (sym is.spans) (MayRun-from_choice exec is.plan is.stands chosen IsChosen-parts)

    -- the spans after it has run are those of the scene with the jobs that it leaves
    spans-run : spans_after chosen rows ≡ spans_of plan.cycle (record exec.scene { jobs = after_slot (choice_of exec) jobs })
    spans-run =
        ap (spans_after chosen) is.spans ∙ spans_after-choice exec is.plan is.stands chosen IsChosen-parts

    module _ (run_time : ℕ) (run_rows : List Span) (run_jobs : List Job) (time_is : run_time ≡ time) (rows_are : run_rows ≡ spans_after chosen rows) (jobs_are : HaveSameItems run_jobs (jobs_after chosen jobs)) where
      -- the next slot lies before the last end
      pub next_slot-before_end : run_time + 1 < last_end run_time run_rows
      next_slot-before_end =
          let before = pass_slot-before_end exec (after_slot (choice_of exec) jobs) (horizon plan.cycle time) is.plan is.stands in
          subst (λ t. t + 1 < last_end t run_rows) (sym time_is) (omega (arith, before, ap (last_end time) (rows_are ∙ spans-run)))

      -- which is the horizon
      pub run_end-horizon : last_end run_time run_rows ≡ horizon plan.cycle run_time
      run_end-horizon =
          let own = last_end-spans exec (after_slot (choice_of exec) jobs) (horizon plan.cycle time) is.plan is.stands in
          subst (λ t. last_end t run_rows ≡ horizon plan.cycle t) (sym time_is) (ap (last_end time) (rows_are ∙ spans-run) ∙ own)

      -- the jobs are those that the choice leaves, up to order
      run_jobs-same : HaveSameItems run_jobs (after_slot (choice_of exec) jobs)
      run_jobs-same =
          subst (HaveSameItems run_jobs) (jobs_after-choice exec is.plan is.stands chosen IsChosen-parts) jobs_are

      -- where a cycle ends, one more finds room
      pub HasPlaces-parts : (run_time + 1) % plan.cycle ≡ 0 → HasPlaces plan ((run_time + 1) / plan.cycle + 2) run_rows run_jobs limit capacity
      HasPlaces-parts =
          subst
          (λ t. (t + 1) % plan.cycle ≡ 0 → HasPlaces plan ((t + 1) / plan.cycle + 2) run_rows run_jobs limit capacity)
          (sym time_is)
          (λ turns.
          let after = after_slot (choice_of exec) jobs in
          let fits = next_jobs-apart exec run_jobs is.plan is.stands turns run_jobs-same in
          let spans = rows_are ∙ spans-run in
          record {
            spans = omega (arith, next_cycle-free exec after is.plan is.stands turns, ap length spans, is.places);
            near = omega (arith, next_cycle-near exec after is.plan is.stands is.early, ap (last_end 0) spans);
            jobs = omega (arith, fits.1, is.queue);
            apart = fits.0;
          })

      module _ (next_time : ℕ) (next_rows : List Span) (next_jobs : List Job) (next_soft : List SoftJob) (time_next : next_time ≡ run_time + 1) (rows_next : next_rows ≡ spans_at plan (run_time + 1) run_rows) (jobs_next : HaveSameItems next_jobs (jobs_at plan (run_time + 1) run_jobs)) (soft_next : next_soft ≡ soft_after chosen soft) where
        -- the executive after the slot
        abbrev next : Executive
        next = executive plan next_time next_rows next_jobs reserve.nexts next_soft row

        -- the scene of the step
        abbrev step : Scene
        step = after_ran plan.tasks plan.cycle (choice_of exec) exec.scene

        -- the time is one slot later
        next_time-is : next_time ≡ time + 1
        next_time-is = time_next ∙ ap (λ t. t + 1) time_is

        -- the spans are those of the step
        rows-step : next_rows ≡ spans_of plan.cycle step
        rows-step =
            rows_next
            ∙ ap (λ t. spans_at plan (t + 1) run_rows) time_is
            ∙ ap (spans_at plan (time + 1)) (rows_are ∙ spans-run)
            ∙ spans-after_slot exec is.plan is.stands

        -- the jobs are those of the step
        jobs-step : HaveSameItems next_jobs step.jobs
        jobs-step =
            let later = one_slot_later (choice_of exec) exec.scene in
            let jobs_at_next = subst (λ t. HaveSameItems next_jobs (jobs_at plan (t + 1) run_jobs)) time_is jobs_next in
            same-trans next_jobs (jobs_at plan (time + 1) run_jobs) step.jobs jobs_at_next (jobs-next_cycle plan later run_jobs is.plan run_jobs-same)

        -- so the scene is that of the step, and the spans are its own
        scene-step : IsSameScene next.scene step × (next_rows ≡ spans_of plan.cycle next.scene)
        scene-step =
            let later = one_slot_later (choice_of exec) exec.scene in
            let time_step = next_time-is ∙ sym (next_cycle-stays (λ (s : Scene). s.time) plan.tasks plan.cycle later (λ n. refl)) in
            let nexts_step = sym (next_cycle-stays (λ (s : Scene). s.nexts) plan.tasks plan.cycle later (λ n. refl)) in
            let soft_left = soft_after-choice exec is.plan is.stands chosen IsChosen-parts in
            let soft_step = soft_next ∙ soft_left ∙ sym (next_cycle-stays (λ (s : Scene). s.soft) plan.tasks plan.cycle later (λ n. refl)) in
            parts-same plan.cycle next.scene step next_rows time_step jobs-step nexts_step soft_step refl rows-step

        -- the slot does what the model does
        Does-parts : Does exec next slot (told_of_slot (choice_of exec))
        Does-parts =
            Does-slot exec next (choice_of exec) is.plan is.stands refl refl scene-step.0 refl

        -- so it does from what is seen before it, with what is chosen
        pub Does-seen : (before : Executive) → exec ≡ before → Does before next slot (told_of_slot (ran_of chosen))
        Does-seen before seen =
            subst
            (λ (e : Executive). Does e next slot (told_of_slot (ran_of chosen)))
            seen
            (subst (λ r. Does exec next slot (told_of_slot r)) (sym ran_of-parts) Does-parts)

        -- and the parts agree after it
        pub IsExecutive-parts : (room : Remembered) (turned : Bool) → RemembersSpans rows reserve time room → turned ≡ ((run_time + 1) % plan.cycle == 0) → time < TIME_LIMIT → IsExecutive next next_rows reserve.sporadics limit capacity most (room_after chosen turned room)
        IsExecutive-parts room turned remembered turns early =
            let stands = StandsForSome-from_does exec next slot (told_of_slot (choice_of exec)) Does-parts in
            let of_scene = RemembersScene-from_spans exec reserve room is.plan is.stands is.sporadics refl (subst (λ xs. RemembersSpans xs reserve time room) is.spans remembered) in
            record {
              plan = is.plan;
              stands = stands;
              early = omega (arith, next_time-is);
              spans = scene-step.1;
              sporadics = is.sporadics;
              places = is.places;
              queue = is.queue;
              ring = is.ring;
              remembers =
                  RemembersScene-slot exec is.plan is.stands next.scene chosen turned room IsChosen-parts next_time-is refl scene-step.0.jobs (every_executive_is_kept next is.plan stands).bounds (turns ∙ ap (λ t. (t + 1) % plan.cycle == 0) time_is) of_scene;
            }

        -- and where no cycle ends, no span goes and the first others stay, so do those that are shown
        pub others-parts : (before : Executive) → exec ≡ before → rows ≡ filled rows → (turned : Bool) → turned ≡ ((run_time + 1) % plan.cycle == 0) → turned ≡ false → length next_rows ≡ length rows → drop 1 (take SHOWN_LIMIT run_rows) ≡ drop 1 (take SHOWN_LIMIT rows) → others_of (shown_of before.plan.cycle next.scene) ≡ others_of (shown_of before.plan.cycle before.scene)
        others-parts before seen own turned turns not many stay =
            let others = others-slot SHOWN_LIMIT plan (run_time + 1) chosen rows run_rows next_rows own rows_are rows_next (sym turns ∙ not) many stay in
            subst
            (λ (e : Executive). others_of (shown_of e.plan.cycle next.scene) ≡ others_of (shown_of e.plan.cycle e.scene))
            seen
            (others-shown exec next rows next_rows is.spans scene-step.1 many others)
