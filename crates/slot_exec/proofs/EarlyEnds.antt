-- An early end, in the parts of an executive.
use Rattle.std.proofs.Common.{◌≡◌, ℕ, ◌≤◌, true, false, Bool, cond, None, List, refl, sym, ap, ◌∙◌, subst}
use Rattle.slot_core.specs.declared.TheConstants.{TIME_LIMIT}
use Rattle.slot_core.specs.declared.events.Done.{Done as DoneAnswer}
use Rattle.slot_core.specs.declared.events.Done.TheVariants.{Freed}
use Rattle.slot_core.specs.declared.events.Event.TheVariants.{Done as DoneEvent}
use Rattle.slot_core.specs.declared.events.What.TheVariants.{Done}
use Rattle.slot_core.specs.declared.jobs.Job.{Job}
use Rattle.slot_core.specs.declared.jobs.Key.{Key}
use Rattle.slot_core.specs.declared.jobs.SoftJob.{SoftJob}
use Rattle.slot_core.specs.declared.jobs.Span.{Span}
use Rattle.slot_core.specs.declared.tasks.Sporadic.{Sporadic}
use Rattle.slot_core.specs.Runs.Answers.{done_answer}
use Rattle.slot_core.specs.Keeping.Executives.{Executive, Does}
use Rattle.slot_core.specs.Offline.Keys.{is_soft}
use Rattle.slot_core.specs.Runs.Matches.{HaveSameItems}
use Rattle.slot_core.specs.Runs.Traces.{arrive}
use Rattle.scene_steps.specs.Ends.{ending_job, freed, jobs_left, soft_left, spans_left, AreDueInSpans}
use Rattle.scene_steps.proofs.Ends.EndAnswers.{done_answer-freed, freed-some}
use Rattle.scene_steps.proofs.Ends.EndedScenes.{ended}
use Rattle.scene_steps.proofs.Ends.EndedSpans.{spans-ended, AreDueInSpans-scene}
use Rattle.scene_steps.proofs.Ends.Started.{ending_job-listed}
use Rattle.scene_steps.proofs.Ends.EndEvents.{Does-done}
use Rattle.scene_steps.proofs.Slots.NewParts.{parts-same}
use Rattle.slot_exec.specs.declared.rooms.Remembered.{Remembered}
use Rattle.slot_exec.specs.Rooms.{due_left, RemembersScene}
use Rattle.slot_exec.specs.Parts.{executive, IsExecutive}
use Rattle.slot_exec.proofs.EventParts.{IsExecutive-after}
use Rattle.slot_exec.proofs.ChangedRooms.{RemembersScene-left}

module _ (exec now : Executive) (rows : List Span) (reserved : List Sporadic) (limit capacity most row : ℕ) (key : Key) {known : Remembered} (is : IsExecutive exec rows reserved limit capacity most known) (same : exec ≡ now) where
  -- all that the jobs have left is due in the spans
  pub due-before : AreDueInSpans exec.scene.jobs rows
  due-before =
      subst (AreDueInSpans exec.scene.jobs) (sym is.spans) (AreDueInSpans-scene exec is.plan is.stands)

  -- the slots that are freed are the answer
  pub answer-ended : (result : DoneAnswer) → result ≡ freed exec.scene.time key exec.scene.jobs exec.scene.soft → result ≡ done_answer now.scene key
  answer-ended result told =
      told ∙ sym (done_answer-freed exec key is.plan is.stands) ∙ ap (λ (e : Executive). done_answer e.scene key) same

  -- and at least one
  pub some-ended : (result : DoneAnswer) → result ≡ freed exec.scene.time key exec.scene.jobs exec.scene.soft → (n : ℕ) → result ≡ Freed n → 1 ≤ n
  some-ended result told n frees = freed-some exec key n is.plan is.stands (sym told ∙ frees)

  -- what is remembered after it
  remembered : (at : ℕ) (spans : List Span) (left : List Job) (waiting : List SoftJob) (due : ℕ) → at ≡ exec.scene.time → HaveSameItems left (cond (is_soft key) exec.scene.jobs (jobs_left exec.scene.time key exec.scene.jobs)) → due ≡ cond (is_soft key) known.due (due_left (ending_job exec.scene.time key exec.scene.jobs) known.tight known.due) → let after = executive exec.plan at spans left exec.scene.nexts waiting row in RemembersScene exec.plan.tasks.sporadics exec.plan.cycle after.scene at (record known { due = due })
  remembered at spans left waiting due new_time = by_kind (is_soft key)
    where
      after : Executive
      after = executive exec.plan at spans left exec.scene.nexts waiting row

      by_kind : (soft : Bool) → HaveSameItems left (cond soft exec.scene.jobs (jobs_left exec.scene.time key exec.scene.jobs)) → due ≡ cond soft known.due (due_left (ending_job exec.scene.time key exec.scene.jobs) known.tight known.due) → RemembersScene exec.plan.tasks.sporadics exec.plan.cycle after.scene at (record known { due = due })
      by_kind true jobs dues =
          RemembersScene-left exec is.plan is.stands known is.remembers after.scene new_time key None due (λ job e. absurd (cc e)) jobs refl dues
      by_kind false jobs dues =
          RemembersScene-left exec is.plan is.stands known is.remembers after.scene new_time key (ending_job exec.scene.time key exec.scene.jobs) due (λ job e. ending_job-listed exec.scene.time key exec.scene.jobs job e) jobs refl dues

  -- parts with what an early end leaves have done what the model does, and agree
  pub parts-ended : (result : DoneAnswer) (at : ℕ) (spans : List Span) (left : List Job) (waiting : List SoftJob) (places room ring due : ℕ) → now.last_row ≤ row → result ≡ freed exec.scene.time key exec.scene.jobs exec.scene.soft → spans ≡ cond (is_soft key) rows (spans_left exec.scene.time key exec.scene.jobs rows) → at ≡ exec.scene.time → places ≡ limit → HaveSameItems left (cond (is_soft key) exec.scene.jobs (jobs_left exec.scene.time key exec.scene.jobs)) → room ≡ capacity → waiting ≡ cond (is_soft key) (soft_left key exec.scene.soft) exec.scene.soft → ring ≡ most → due ≡ cond (is_soft key) known.due (due_left (ending_job exec.scene.time key exec.scene.jobs) known.tight known.due) → let after = executive exec.plan at spans left exec.scene.nexts waiting row in Does now after (arrive row (DoneEvent key)) (Done row key result) × IsExecutive after spans reserved places room ring (record known { due = due })
  parts-ended result at spans left waiting places room ring due later told new_spans new_time new_places new_jobs new_room new_soft new_ring new_due =
      let scene = exec.scene in
      let cycle = exec.plan.cycle in
      let after = executive exec.plan at spans left scene.nexts waiting row in
      let are_spans = new_spans ∙ ap (λ rs. cond (is_soft key) rs (spans_left scene.time key scene.jobs rs)) is.spans ∙ spans-ended exec key is.plan is.stands in
      let parts = parts-same cycle after.scene (ended key scene) spans new_time new_jobs refl new_soft refl are_spans in
      let last : exec.last_row ≤ row = subst (λ (e : Executive). e.last_row ≤ row) (sym same) later in
      let does = Does-done exec after row key is.plan is.stands last refl parts.0 refl in
      let early = subst (λ n. n ≤ TIME_LIMIT) (sym new_time) is.early in (
        subst
            (λ (e : Executive). Does e after (arrive row (DoneEvent key)) (Done row key result))
            same
            (subst (λ (r : DoneAnswer). Does exec after (arrive row (DoneEvent key)) (Done row key r)) (sym told) does),
        IsExecutive-after exec after _ _ rows spans reserved limit capacity most places room ring known _ is does early parts.1 new_places new_room new_ring (remembered at spans left waiting due new_time new_jobs new_due),
      )
