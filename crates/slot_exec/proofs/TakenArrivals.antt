-- A sporadic arrival, in the parts of an executive.
use Rattle.std.proofs.Common.{◌≡◌, ℕ, ◌+◌, ◌<◌, ◌≤◌, ◌^◌, Bool, true, false, cond, List, map, length, Option, Some, None, refl, sym, ap, ap₂, ◌∙◌, subst, arith}
use Rattle.std.specs.Prelude.{option_map, slice_get, slice_index, slice_set}
use Rattle.std.specs.Option.{option_map_or}
use Rattle.std.proofs.lemmas.Option.{slice_get-map}
use Rattle.slot_core.specs.declared.TheConstants.{TIME_LIMIT}
use Rattle.slot_core.specs.declared.events.Event.TheVariants.{Sporadic as SporadicEvent}
use Rattle.slot_core.specs.declared.events.Spo.{Spo}
use Rattle.slot_core.specs.declared.events.Spo.TheVariants.{Soon, Taken}
use Rattle.slot_core.specs.declared.events.What.TheVariants.{Sporadic as SporadicEntry}
use Rattle.slot_core.specs.declared.jobs.Job.{Job}
use Rattle.slot_core.specs.declared.jobs.Span.{Span}
use Rattle.slot_core.specs.declared.tasks.Sporadic.{Sporadic}
use Rattle.slot_core.specs.Runs.Answers.{relative_deadline, sporadic_answer}
use Rattle.slot_core.specs.Keeping.Executives.{Executive, Does}
use Rattle.slot_core.specs.Runs.Matches.{HaveSameItems}
use Rattle.slot_core.specs.Runs.Traces.{arrive}
use Rattle.slot_facts.proofs.Bounds.CycleDemand.{FitsCycle-from_Has}
use Rattle.slot_facts.proofs.Legal.Rows.{sporadic_job-at}
use Rattle.slot_facts.proofs.Lists.Members.{Has-from_slice_get}
use Rattle.slot_facts.proofs.Sets.Tasks.{slice_get-within}
use Rattle.sporadic_reserve.specs.Reserves.{without_name}
use Rattle.scene_steps.specs.Joins.{HavePlace}
use Rattle.scene_steps.specs.SporadicArrivals.{arrival_answer, is_too_soon, jobs_after_arrival, nexts_after, spans_after_arrival}
use Rattle.scene_steps.specs.Steps.{separation_of}
use Rattle.scene_steps.proofs.Arrivals.SporadicArrivals.{arrived, arriving_job, Does-sporadic, HavePlace-arrival, spans-arrived}
use Rattle.scene_steps.proofs.Slots.NewParts.{parts-same}
use Rattle.slot_exec.specs.declared.rooms.Remembered.{Remembered}
use Rattle.slot_exec.specs.Rooms.{due_told}
use Rattle.slot_exec.specs.Parts.{executive, job_room, span_room, IsExecutive}
use Rattle.slot_exec.proofs.EventParts.{IsExecutive-after}
use Rattle.slot_exec.proofs.ChangedRooms.{due-fits, RemembersScene-arrived}

-- the deadline of a task without its name is that of the task
deadline-without_name : (sporadics : List Sporadic) (index : ℕ) → relative_deadline (map without_name sporadics) index ≡ relative_deadline sporadics index
deadline-without_name sporadics index =
    ap (λ o. option_map_or (λ (s : Sporadic). s.deadline) o 0) (slice_get-map without_name sporadics index) ∙ by_task (slice_get sporadics index)
  where
    by_task : (o : Option Sporadic) → option_map_or (λ (s : Sporadic). s.deadline) (option_map without_name o) 0 ≡ option_map_or (λ (s : Sporadic). s.deadline) o 0
    by_task None = refl
    by_task (Some s) = refl

-- so is its separation
separation-without_name : (sporadics : List Sporadic) (index : ℕ) → separation_of (map without_name sporadics) index ≡ separation_of sporadics index
separation-without_name sporadics index =
    ap (λ o. option_map_or (λ (s : Sporadic). s.separation) o 0) (slice_get-map without_name sporadics index) ∙ by_task (slice_get sporadics index)
  where
    by_task : (o : Option Sporadic) → option_map_or (λ (s : Sporadic). s.separation) (option_map without_name o) 0 ≡ option_map_or (λ (s : Sporadic). s.separation) o 0
    by_task None = refl
    by_task (Some s) = refl

-- so the answer to an arrival and what it leaves of the next arrivals are those of the tasks
answer-reserved : (reserved sporadics : List Sporadic) (nexts : List ℕ) (time index : ℕ) → reserved ≡ map without_name sporadics → arrival_answer reserved nexts time index ≡ arrival_answer sporadics nexts time index
answer-reserved reserved sporadics nexts time index is =
    let same = ap (λ ss. relative_deadline ss index) is ∙ deadline-without_name sporadics index in
    ap (λ n. cond (is_too_soon nexts time index) (Soon (slice_index nexts index)) (Taken (time + n))) same

nexts-reserved : (reserved sporadics : List Sporadic) (nexts : List ℕ) (time index : ℕ) → reserved ≡ map without_name sporadics → nexts_after reserved nexts time index ≡ nexts_after sporadics nexts time index
nexts-reserved reserved sporadics nexts time index is =
    let same = ap (λ ss. separation_of ss index) is ∙ separation-without_name sporadics index in
    ap (λ n. cond (is_too_soon nexts time index) nexts (slice_set nexts index (time + n))) same

-- where it is taken, its next legal arrival is a separation from now
nexts-taken : (sporadics : List Sporadic) (nexts : List ℕ) (time index n : ℕ) → arrival_answer sporadics nexts time index ≡ Taken n → nexts_after sporadics nexts time index ≡ slice_set nexts index (time + separation_of sporadics index)
nexts-taken sporadics nexts time index n = by_soon (is_too_soon nexts time index)
  where
    by_soon : (soon : Bool) → cond soon (Soon (slice_index nexts index)) (Taken (time + relative_deadline sporadics index)) ≡ Taken n → cond soon nexts (slice_set nexts index (time + separation_of sporadics index)) ≡ slice_set nexts index (time + separation_of sporadics index)
    by_soon true e = absurd (cc e)
    by_soon false e = refl

module _ (exec now : Executive) (rows : List Span) (reserved : List Sporadic) (limit capacity most row index : ℕ) {kept : Remembered} (is : IsExecutive exec rows reserved limit capacity most kept) (same : exec ≡ now) (later : now.last_row < row) (known : index < length now.plan.tasks.sporadics) where
  -- the row is later than the last, and the set has the task
  later-own : exec.last_row < row
  later-own = subst (λ (e : Executive). e.last_row < row) (sym same) later

  known-own : index < length exec.plan.tasks.sporadics
  known-own = subst (λ (e : Executive). index < length e.plan.tasks.sporadics) (sym same) known

  -- the spans and the queue have a place for the job of an arrival that is not too soon
  pub place-arrival : (job : Job) → job ≡ arriving_job exec.plan.tasks.sporadics row index exec.scene → is_too_soon exec.scene.nexts exec.scene.time index ≡ false → HavePlace job exec.scene.time rows limit exec.scene.jobs capacity
  place-arrival job made in_time =
      let own = arriving_job exec.plan.tasks.sporadics row index exec.scene in
      let place = HavePlace-arrival exec row index is.plan is.stands later-own known-own in_time in
      let own_place = subst (λ (rs : List Span). HavePlace own exec.scene.time rs (span_room exec.plan.cycle) exec.scene.jobs (job_room exec.plan.cycle)) (sym is.spans) place in
      rw (made, is.places, is.queue) own_place

  -- what is due by `tight` with it is small
  pub due-arrival : (result : Spo) (job : Job) → job ≡ arriving_job exec.plan.tasks.sporadics row index exec.scene → result ≡ arrival_answer reserved exec.scene.nexts exec.scene.time index → (deadline : ℕ) → result ≡ Taken deadline → job.dl ≤ kept.tight → kept.due < 2 ^ 63
  due-arrival result job made told deadline taken within =
      let (s, at) = slice_get-within exec.plan.tasks.sporadics index known-own in
      let fits = FitsCycle-from_Has exec.plan.tasks s is.plan.sound (Has-from_slice_get exec.plan.tasks.sporadics index s at) in
      let due : job.dl ≡ exec.scene.time + s.deadline = ap (λ (j : Job). j.dl) (made ∙ sporadic_job-at exec.plan.tasks.sporadics index row exec.scene.time s at) in
      due-fits exec is.plan is.stands kept is.remembers job (omega (arith, due, fits.later)) within

  -- what is told is the answer
  told-own : (result : Spo) → result ≡ arrival_answer reserved exec.scene.nexts exec.scene.time index → result ≡ sporadic_answer exec.plan.tasks.sporadics exec.scene index
  told-own result told =
      told ∙ answer-reserved reserved exec.plan.tasks.sporadics exec.scene.nexts exec.scene.time index is.sporadics

  pub answer-arrived : (result : Spo) → result ≡ arrival_answer reserved exec.scene.nexts exec.scene.time index → result ≡ sporadic_answer now.plan.tasks.sporadics now.scene index
  answer-arrived result told =
      told-own result told ∙ ap (λ (e : Executive). sporadic_answer e.plan.tasks.sporadics e.scene index) same

  -- where it is taken, the task may come again a separation from now
  pub next-arrived : (result : Spo) (nexts : List ℕ) → result ≡ arrival_answer reserved exec.scene.nexts exec.scene.time index → nexts ≡ nexts_after reserved exec.scene.nexts exec.scene.time index → (n : ℕ) → result ≡ Taken n → nexts ≡ slice_set now.scene.nexts index (now.scene.time + separation_of now.plan.tasks.sporadics index)
  next-arrived result nexts told new_nexts n taken =
      let sporadics = exec.plan.tasks.sporadics in
      let own = new_nexts ∙ nexts-reserved reserved sporadics exec.scene.nexts exec.scene.time index is.sporadics ∙ nexts-taken sporadics exec.scene.nexts exec.scene.time index n (sym (told-own result told) ∙ taken) in
      own ∙ ap (λ (e : Executive). slice_set e.scene.nexts index (e.scene.time + separation_of e.plan.tasks.sporadics index)) same

  -- parts with what an arrival makes have done what the model does, and agree
  pub parts-arrived : (result : Spo) (job : Job) (at : ℕ) (spans : List Span) (left : List Job) (nexts : List ℕ) (tasks : List Sporadic) (places room due : ℕ) → job ≡ arriving_job exec.plan.tasks.sporadics row index exec.scene → result ≡ arrival_answer reserved exec.scene.nexts exec.scene.time index → spans ≡ spans_after_arrival (is_too_soon exec.scene.nexts exec.scene.time index) job rows → at ≡ exec.scene.time → places ≡ limit → nexts ≡ nexts_after reserved exec.scene.nexts exec.scene.time index → tasks ≡ reserved → HaveSameItems left (jobs_after_arrival (is_too_soon exec.scene.nexts exec.scene.time index) job exec.scene.jobs) → room ≡ capacity → due ≡ due_told result job kept.tight kept.due → let after = executive exec.plan at spans left nexts exec.scene.soft row in Does now after (arrive row (SporadicEvent index)) (SporadicEntry row index result) × IsExecutive after spans tasks places room most (record kept { due = due })
  parts-arrived result job at spans left nexts tasks places room due made told new_spans new_time new_places new_nexts new_tasks new_jobs new_room new_due =
      let scene = exec.scene in
      let cycle = exec.plan.cycle in
      let sporadics = exec.plan.tasks.sporadics in
      let soon = is_too_soon scene.nexts scene.time index in
      let after = executive exec.plan at spans left nexts scene.soft row in
      let own = arriving_job sporadics row index scene in
      let jobs = subst (λ (j : Job). HaveSameItems left (jobs_after_arrival soon j scene.jobs)) made new_jobs in
      let are_spans = new_spans ∙ ap₂ (λ (j : Job) rs. spans_after_arrival soon j rs) made is.spans ∙ spans-arrived exec row index is.plan is.stands later-own known-own in
      let are_nexts = new_nexts ∙ nexts-reserved reserved sporadics scene.nexts scene.time index is.sporadics in
      let parts = parts-same cycle after.scene (arrived sporadics row index scene) spans new_time jobs are_nexts refl refl are_spans in
      let does = Does-sporadic exec after row index is.plan is.stands later-own known-own refl parts.0 refl in
      let early = subst (λ n. n ≤ TIME_LIMIT) (sym new_time) is.early in
      let told_by = told ∙ answer-reserved reserved sporadics scene.nexts scene.time index is.sporadics in
      let remembered = RemembersScene-arrived exec is.plan is.stands kept is.remembers after.scene new_time index row due result known-own jobs are_nexts told_by (new_due ∙ ap (λ (j : Job). due_told result j kept.tight kept.due) made) in
      let agrees = IsExecutive-after exec after _ _ rows spans reserved limit capacity most places room most kept _ is does early parts.1 new_places new_room refl remembered in (
        subst
            (λ (e : Executive). Does e after (arrive row (SporadicEvent index)) (SporadicEntry row index result))
            same
            (subst (λ (r : Spo). Does exec after (arrive row (SporadicEvent index)) (SporadicEntry row index r)) (sym (told-own result told)) does),
        subst (λ ss. IsExecutive after spans ss places room most (record kept { due = due })) (sym new_tasks) agrees,
      )
