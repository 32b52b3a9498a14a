-- What is chosen for a slot is the choice of its scene.
use Rattle.std.proofs.Common.{◌≡◌, Bool, true, false, List, [], ◌∷◌, Option, Some, None, refl, ap, sym, ◌∙◌, arith}
use Rattle.std.specs.Prelude.{slice_get, if◌then◌else◌}
use Rattle.std.specs.Option.{option_map_or}
use Rattle.slot_core.specs.declared.jobs.Job.{Job}
use Rattle.slot_core.specs.declared.jobs.Key.TheVariants.{Soft as SoftKey}
use Rattle.slot_core.specs.declared.jobs.SoftJob.{SoftJob}
use Rattle.slot_core.specs.declared.jobs.Span.{Span}
use Rattle.slot_core.specs.declared.events.Ran.{Ran}
use Rattle.slot_core.specs.declared.events.Ran.TheVariants.{Idle as RanIdle, Key as RanKey}
use Rattle.slot_core.specs.Runs.Choice.{choice, earliest, ready, soft_may_run}
use Rattle.slot_core.specs.Keeping.Executives.{Executive, StandsForSome}
use Rattle.slot_core.specs.Keeping.Plans.{IsPlan}
use Rattle.slot_core.specs.Claims.Safety.{after_slot}
use Rattle.slot_core.specs.Runs.Spans.{spans_of}
use Rattle.slot_facts.proofs.Lists.Members.{Has}
use Rattle.scene_steps.specs.Steps.{soft_after_slot}
use Rattle.scene_steps.proofs.Facts.Choices.{earliest-listed}
use Rattle.scene_steps.proofs.Slots.Chosen.{choice-by_front, jobs-soft_run, soft-front_run, soft-job_run}
use Rattle.scene_steps.proofs.Slots.Places.{own_key-counted}
use Rattle.scene_steps.proofs.Slots.Runs.{spans-after_run}
use Rattle.scene_steps.proofs.Spans.Executives.{give_back-slot}
use Rattle.slot_exec.specs.declared.runs.Chosen.{Chosen}
use Rattle.slot_exec.specs.declared.runs.Chosen.TheVariants.{Nothing, Soft, Guaranteed}
use Rattle.slot_exec.specs.Changes.{chosen_of, jobs_after, MayRun, ran_of, soft_after, spans_after}

-- the choice of the executive's slot
abbrev pub choice_of : Executive → Ran
choice_of exec = choice exec.plan.tasks.sporadics exec.plan.cycle exec.scene

-- this is chosen for the executive's slot, and it is there: the first soft job, or a job of the scene
abbrev pub IsChosen : Executive → Chosen → Type 0
IsChosen exec Nothing = RanIdle ≡ choice_of exec
IsChosen exec (Soft row) =
    (first : SoftJob) × (rest : List SoftJob) × (exec.scene.soft ≡ first ∷ rest) × (row ≡ first.row) × (RanKey (SoftKey row) ≡ choice_of exec)
IsChosen exec (Guaranteed job) = Has exec.scene.jobs job × (RanKey job.key ≡ choice_of exec)

-- the first soft job where soft work may run, else the earliest job that is ready, is chosen
pub IsChosen-from_parts : (exec : Executive) (may : Bool) → IsPlan exec.plan → StandsForSome exec → may ≡ soft_may_run exec.plan.tasks.sporadics exec.plan.cycle exec.scene → IsChosen exec (chosen_of exec.scene.soft may (earliest (ready exec.scene.time exec.scene.jobs)))
IsChosen-from_parts exec may plan stands is =
    let first = earliest (ready exec.scene.time exec.scene.jobs) in
    by_parts exec.scene.soft may first refl (λ job at. (earliest-listed exec.scene.time exec.scene.jobs job at).0) (ap (λ b. runs exec.scene.soft b first) is ∙ choice-by_front exec plan stands)
  where
    -- what runs
    runs : List SoftJob → Bool → Option Job → Ran
    runs soft may job =
        let other = option_map_or (λ (j : Job). RanKey j.key) job RanIdle in
        option_map_or (λ (s : SoftJob). if may then RanKey (SoftKey s.row) else other) (slice_get soft 0) other

    by_parts : (soft : List SoftJob) (may : Bool) (job : Option Job) → exec.scene.soft ≡ soft → ((j : Job) → job ≡ Some j → Has exec.scene.jobs j) → runs soft may job ≡ choice_of exec → IsChosen exec (chosen_of soft may job)
    by_parts [] may None same listed e = e
    by_parts [] may (Some job) same listed e = (listed job refl, e)
    by_parts (s ∷ rest) true job same listed e = (s, rest, same, refl, e)
    by_parts (s ∷ rest) false None same listed e = e
    by_parts (s ∷ rest) false (Some job) same listed e = (listed job refl, e)

-- what is chosen runs by the choice
pub ran_of-choice : (exec : Executive) (chosen : Chosen) → IsChosen exec chosen → ran_of chosen ≡ choice_of exec
ran_of-choice exec Nothing is = is
ran_of-choice exec (Soft row) is = is.4
ran_of-choice exec (Guaranteed job) is = is.1

module _ (exec : Executive) (plan : IsPlan exec.plan) (stands : StandsForSome exec) where
  -- it may run
  pub MayRun-from_choice : (chosen : Chosen) → IsChosen exec chosen → MayRun chosen (spans_of exec.plan.cycle exec.scene) exec.scene.jobs exec.scene.soft
  MayRun-from_choice Nothing is = tt
  MayRun-from_choice (Soft row) (first, rest, soft, same, runs) = rw soft (omega arith)
  MayRun-from_choice (Guaranteed job) is =
      (own_key-counted exec.scene.jobs job is.0, give_back-slot exec job plan stands is.0)

  -- it leaves the jobs that the choice leaves
  pub jobs_after-choice : (chosen : Chosen) → IsChosen exec chosen → jobs_after chosen exec.scene.jobs ≡ after_slot (choice_of exec) exec.scene.jobs
  jobs_after-choice Nothing is = ap (λ ran. after_slot ran exec.scene.jobs) is
  jobs_after-choice (Soft row) is =
      sym (jobs-soft_run exec row plan stands) ∙ ap (λ ran. after_slot ran exec.scene.jobs) is.4
  jobs_after-choice (Guaranteed job) is = ap (λ ran. after_slot ran exec.scene.jobs) is.1

  -- and the soft jobs
  pub soft_after-choice : (chosen : Chosen) → IsChosen exec chosen → soft_after chosen exec.scene.soft ≡ soft_after_slot (choice_of exec) exec.scene.soft
  soft_after-choice Nothing is = ap (λ ran. soft_after_slot ran exec.scene.soft) is
  soft_after-choice (Soft row) (first, rest, soft, same, runs) =
      ap (λ xs. soft_after (Soft row) xs) soft
      ∙ sym (soft-front_run exec first rest plan stands soft)
      ∙ ap (λ r. soft_after_slot (RanKey (SoftKey r)) exec.scene.soft) (sym same)
      ∙ ap (λ ran. soft_after_slot ran exec.scene.soft) runs
  soft_after-choice (Guaranteed job) is =
      sym (soft-job_run exec job plan stands is.0) ∙ ap (λ ran. soft_after_slot ran exec.scene.soft) is.1

  -- the spans of the scene with these jobs
  abbrev pub spans_with : List Job → List Span
  spans_with jobs = spans_of exec.plan.cycle (record exec.scene { jobs = jobs })

  -- it leaves the spans of those jobs
  pub spans_after-choice : (chosen : Chosen) → IsChosen exec chosen → spans_after chosen (spans_of exec.plan.cycle exec.scene) ≡ spans_with (after_slot (choice_of exec) exec.scene.jobs)
  spans_after-choice Nothing is = ap spans_with (jobs_after-choice Nothing is)
  spans_after-choice (Soft row) is = ap spans_with (jobs_after-choice (Soft row) is)
  spans_after-choice (Guaranteed job) is =
      spans-after_run exec job plan stands is.0 ∙ ap spans_with (jobs_after-choice (Guaranteed job) is)
