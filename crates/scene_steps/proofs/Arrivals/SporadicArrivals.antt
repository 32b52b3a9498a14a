-- A sporadic arrival that comes too soon changes nothing; any other finds a place for its job.
use Rattle.std.proofs.Common.{◌≡◌, ℕ, ◌+◌, ◌*◌, ◌<◌, Bool, true, false, cond, List, [], ◌∷◌, ◌++◌, refl, sym, ap, subst}
use Rattle.std.specs.Prelude.{length, slice_index, slice_set}
use Rattle.std.proofs.lemmas.Bool.{lt-ltb}
use Rattle.slot_core.specs.declared.jobs.Job.{Job}
use Rattle.slot_core.specs.declared.tasks.Sporadic.{Sporadic}
use Rattle.slot_core.specs.declared.tasks.TaskSet.{TaskSet}
use Rattle.slot_core.specs.declared.events.Event.TheVariants.{Sporadic as SporadicEvent}
use Rattle.slot_core.specs.declared.events.Spo.TheVariants.{Soon, Taken}
use Rattle.slot_core.specs.declared.events.What.TheVariants.{Sporadic as SporadicEntry}
use Rattle.slot_core.specs.Runs.Answers.{relative_deadline, sporadic_answer}
use Rattle.slot_core.specs.Keeping.Executives.{Executive, StandsForSome, Does}
use Rattle.slot_core.specs.Runs.Histories.{sporadic_job}
use Rattle.slot_core.specs.Runs.Matches.{IsSameScene}
use Rattle.slot_core.specs.Keeping.Plans.{IsPlan}
use Rattle.slot_core.specs.Runs.Scenes.{Scene}
use Rattle.slot_core.specs.Runs.Spans.{spans_of}
use Rattle.slot_core.specs.Runs.Traces.{arrive}
use Rattle.scene_steps.specs.Joins.{HavePlace, MayJoin}
use Rattle.scene_steps.specs.SporadicArrivals.{is_too_soon, nexts_after, jobs_after_arrival, spans_after_arrival}
use Rattle.scene_steps.specs.Steps.{scene_after, separation_of, with_arrival, with_point}
use Rattle.scene_steps.proofs.Facts.ProperScenes.{proper_scene}
use Rattle.scene_steps.proofs.Joins.JoinedScenes.{HavePlace-from_join, MayJoin-from_joined}
use Rattle.scene_steps.proofs.Joins.JoinedSpans.{spans-with_job}
use Rattle.scene_steps.proofs.Same.Events.{Does-from_step, StandsForSome-from_does}
use Rattle.scene_steps.proofs.Same.SameScenes.{same_scene-refl}

-- the job of an arrival now
abbrev pub arriving_job : List Sporadic → ℕ → ℕ → Scene → Job
arriving_job sporadics row index scene = sporadic_job sporadics index row scene.time

-- the scene after an arrival, part by part
abbrev pub arrived : List Sporadic → ℕ → ℕ → Scene → Scene
arrived sporadics row index scene =
    let soon = is_too_soon scene.nexts scene.time index in
    let job = arriving_job sporadics row index scene in
    record scene {
      jobs = jobs_after_arrival soon job scene.jobs;
      nexts = nexts_after sporadics scene.nexts scene.time index;
      points = cond soon scene.points (with_point job.dl scene.points);
    }

-- it is that after what the arrival is answered
scene_after-arrived : (set : TaskSet) (cycle row index : ℕ) (scene : Scene) → scene_after set cycle (SporadicEntry row index (sporadic_answer set.sporadics scene index)) scene ≡ arrived set.sporadics row index scene
scene_after-arrived set cycle row index scene = by_soon (is_too_soon scene.nexts scene.time index)
  where
    by_soon : (soon : Bool) → scene_after set cycle (SporadicEntry row index (cond soon (Soon (slice_index scene.nexts index)) (Taken (scene.time + relative_deadline set.sporadics index)))) scene ≡ record scene { jobs = cond soon scene.jobs (scene.jobs ++ sporadic_job set.sporadics index row scene.time ∷ []); nexts = cond soon scene.nexts (slice_set scene.nexts index (scene.time + separation_of set.sporadics index)); points = cond soon scene.points (with_point (sporadic_job set.sporadics index row scene.time).dl scene.points) }
    by_soon true = refl
    by_soon false = refl

-- after an arrival, an executive with what it makes of the scene has done what the model does
pub Does-sporadic : (before after : Executive) (row index : ℕ) → IsPlan before.plan → StandsForSome before → before.last_row < row → index < length before.plan.tasks.sporadics → after.plan ≡ before.plan → IsSameScene after.scene (arrived before.plan.tasks.sporadics row index before.scene) → after.last_row ≡ row → Does before after (arrive row (SporadicEvent index)) (SporadicEntry row index (sporadic_answer before.plan.tasks.sporadics before.scene index))
Does-sporadic before after row index plan stands later known stays same last =
    let set = before.plan.tasks in
    let step = scene_after-arrived set before.plan.cycle row index before.scene in
    let may = lt-ltb index (length set.sporadics) known in
    Does-from_step before after (arrive row (SporadicEvent index)) (SporadicEntry row index (sporadic_answer set.sporadics before.scene index)) plan stands (later, may) refl stays (subst (IsSameScene after.scene) (sym step) same) last

-- where it is not too soon, the scene after it is that with the arrival
arrived-taken : (sporadics : List Sporadic) (row index : ℕ) (scene : Scene) → is_too_soon scene.nexts scene.time index ≡ false → with_arrival sporadics row index scene ≡ arrived sporadics row index scene
arrived-taken sporadics row index scene in_time =
    ap
    (λ soon. record scene {
      jobs = cond soon scene.jobs (scene.jobs ++ sporadic_job sporadics index row scene.time ∷ []);
      nexts = cond soon scene.nexts (slice_set scene.nexts index (scene.time + separation_of sporadics index));
      points = cond soon scene.points (with_point (sporadic_job sporadics index row scene.time).dl scene.points);
    })
    (sym in_time)

-- then its job may join the scene
MayJoin-arrival : (exec : Executive) (row index : ℕ) → IsPlan exec.plan → StandsForSome exec → exec.last_row < row → index < length exec.plan.tasks.sporadics → is_too_soon exec.scene.nexts exec.scene.time index ≡ false → MayJoin exec.plan.cycle exec.scene (arriving_job exec.plan.tasks.sporadics row index exec.scene)
MayJoin-arrival exec row index plan stands later known in_time =
    let sporadics = exec.plan.tasks.sporadics in
    let scene = with_arrival sporadics row index exec.scene in
    let after : Executive = record exec { scene = scene; last_row = row } in
    let same = subst (IsSameScene scene) (arrived-taken sporadics row index exec.scene in_time) (same_scene-refl scene) in
    let does = Does-sporadic exec after row index plan stands later known refl same refl in
    MayJoin-from_joined exec after (arriving_job sporadics row index exec.scene) plan refl (StandsForSome-from_does exec after _ _ does) refl refl refl

-- so the spans and the jobs have a place for it
pub HavePlace-arrival : (exec : Executive) (row index : ℕ) → IsPlan exec.plan → StandsForSome exec → exec.last_row < row → index < length exec.plan.tasks.sporadics → is_too_soon exec.scene.nexts exec.scene.time index ≡ false → HavePlace (arriving_job exec.plan.tasks.sporadics row index exec.scene) exec.scene.time (spans_of exec.plan.cycle exec.scene) (3 * exec.plan.cycle + 1) exec.scene.jobs (3 * exec.plan.cycle)
HavePlace-arrival exec row index plan stands later known in_time =
    HavePlace-from_join exec (arriving_job exec.plan.tasks.sporadics row index exec.scene) plan stands (MayJoin-arrival exec row index plan stands later known in_time)

-- and the spans with it are those of the scene after it
pub spans-arrived : (exec : Executive) (row index : ℕ) → IsPlan exec.plan → StandsForSome exec → exec.last_row < row → index < length exec.plan.tasks.sporadics → spans_after_arrival (is_too_soon exec.scene.nexts exec.scene.time index) (arriving_job exec.plan.tasks.sporadics row index exec.scene) (spans_of exec.plan.cycle exec.scene) ≡ spans_of exec.plan.cycle (arrived exec.plan.tasks.sporadics row index exec.scene)
spans-arrived exec row index plan stands later known = by_soon (is_too_soon exec.scene.nexts exec.scene.time index) refl
  where
    by_soon : (soon : Bool) → is_too_soon exec.scene.nexts exec.scene.time index ≡ soon → spans_after_arrival soon (arriving_job exec.plan.tasks.sporadics row index exec.scene) (spans_of exec.plan.cycle exec.scene) ≡ spans_of exec.plan.cycle (record exec.scene { jobs = jobs_after_arrival soon (arriving_job exec.plan.tasks.sporadics row index exec.scene) exec.scene.jobs; points = cond soon exec.scene.points (with_point (arriving_job exec.plan.tasks.sporadics row index exec.scene).dl exec.scene.points) })
    by_soon true e = refl
    by_soon false e =
        let job = arriving_job exec.plan.tasks.sporadics row index exec.scene in
        let may = MayJoin-arrival exec row index plan stands later known e in
        spans-with_job exec.plan.cycle exec.scene job (proper_scene exec plan stands) may.after may.within
