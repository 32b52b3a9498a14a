-- What the choice of a slot names: a job of the scene that may start, or the first soft job.
use Rattle.std.proofs.Common.{◌≡◌, ℕ, ◌+◌, ◌-◌, ◌/◌, ◌≤◌, ◌⊎◌, Bool, true, false, not, List, Option, Some, None, refl, sym, ap, ◌∙◌, inl, inr, arith}
use Rattle.std.specs.Prelude.{nat_le, slice_get}
use Rattle.std.specs.List.{range_with_len}
use Rattle.std.specs.Option.{option_map_or}
use Rattle.std.proofs.lemmas.Bool.{both_ways, leb-true, ltb-false, not-true}
use Rattle.slot_core.specs.declared.jobs.Key.{Key}
use Rattle.slot_core.specs.declared.jobs.Key.TheVariants.{Soft as SoftKey}
use Rattle.slot_core.specs.declared.jobs.Job.{Job}
use Rattle.slot_core.specs.declared.jobs.SoftJob.{SoftJob}
use Rattle.slot_core.specs.declared.tasks.Sporadic.{Sporadic}
use Rattle.slot_core.specs.declared.events.Ran.TheVariants.{Idle as RanIdle, Key as RanKey}
use Rattle.slot_core.specs.Offline.Keys.{is_soft}
use Rattle.slot_core.specs.Runs.Demand.{need_by, is_overloaded}
use Rattle.slot_core.specs.Runs.Scenes.{Scene, horizon}
use Rattle.slot_core.specs.Runs.Choice.{earliest, ready, first_soft, soft_may_run, earliest_ready, choice}
use Rattle.slot_core.specs.Keeping.Plans.{IsPlan}
use Rattle.slot_core.specs.Keeping.Executives.{Executive, StandsForSome}
use Rattle.slot_facts.proofs.Choice.Earliest.{IsEarliest-from_earliest}
use Rattle.slot_facts.proofs.Lists.Members.{Has, Contains-from_Has, Has-filter_passes, Has-range_with_len, passes_from_list_all}
use Rattle.slot_facts.proofs.Legal.Executives.{every_executive_is_kept}
use Rattle.scene_steps.proofs.Facts.SceneWork.{jobs-not_soft}
use Rattle.scene_steps.proofs.Facts.SoftRuns.{first_soft-front}

-- soft work takes the slot: the first soft job, and it may run
pub record ChoosesSoft (sporadics : List Sporadic) (cycle : ℕ) (scene : Scene) : Type 0 where
  pub soft : SoftJob
  pub first : first_soft scene.soft ≡ Some soft
  pub may : soft_may_run sporadics cycle scene ≡ true
  pub chosen : choice sporadics cycle scene ≡ RanKey (SoftKey soft.row)

-- soft work takes the slot, or the earliest ready job or none does
pub choice-cases : (sporadics : List Sporadic) (cycle : ℕ) (scene : Scene) → ChoosesSoft sporadics cycle scene ⊎ (choice sporadics cycle scene ≡ earliest_ready scene)
choice-cases sporadics cycle scene =
    by_first (first_soft scene.soft) (soft_may_run sporadics cycle scene) refl refl
  where
    by_first : (o : Option SoftJob) (b : Bool) → first_soft scene.soft ≡ o → soft_may_run sporadics cycle scene ≡ b → ChoosesSoft sporadics cycle scene ⊎ (choice sporadics cycle scene ≡ earliest_ready scene)
    by_first None b e f = inr (rw e refl)
    by_first (Some s) true e f = inl (record { soft = s; first = e; may = f; chosen = rw (e, f) refl })
    by_first (Some s) false e f = inr (rw (e, f) refl)

-- where soft work may run, at each later time up to the horizon one slot more still fits
pub soft_may_run-fits : (sporadics : List Sporadic) (cycle : ℕ) (scene : Scene) (x : ℕ) → soft_may_run sporadics cycle scene ≡ true → scene.time + 1 ≤ x → x ≤ horizon cycle scene.time → 1 + need_by sporadics scene (scene.time + 1) x ≤ x - scene.time
soft_may_run-fits sporadics cycle scene x may low high =
    let t = scene.time in
    let test = λ (y : ℕ). not (is_overloaded sporadics scene 1 (t + 1) y) in
    let count = horizon cycle t - t in
    let passes = passes_from_list_all test (range_with_len (t + 1) count) x may (Has-range_with_len (t + 1) count x low (omega arith)) in
    ltb-false (x - t) (1 + need_by sporadics scene (t + 1) x) (not-true (is_overloaded sporadics scene 1 (t + 1) x) passes)

-- the earliest of the jobs that are ready is one of them, and may start
pub earliest-listed : (time : ℕ) (jobs : List Job) (job : Job) → earliest (ready time jobs) ≡ Some job → Has jobs job × (job.est ≤ time)
earliest-listed time jobs job at =
    let first = IsEarliest-from_earliest (ready time jobs) job at in
    let among = Has-filter_passes (λ (j : Job). nat_le j.est time) jobs job first.among in
    (among.0, leb-true job.est time among.1)

-- the earliest ready job is one of the scene that may start
earliest_ready-listed : (scene : Scene) (key : Key) → earliest_ready scene ≡ RanKey key → (job : Job) × Has scene.jobs job × (job.key ≡ key) × (job.est ≤ scene.time)
earliest_ready-listed scene key e = by_first (earliest (ready scene.time scene.jobs)) refl e
  where
    by_first : (o : Option Job) → earliest (ready scene.time scene.jobs) ≡ o → option_map_or (λ (j : Job). RanKey j.key) o RanIdle ≡ RanKey key → (job : Job) × Has scene.jobs job × (job.key ≡ key) × (job.est ≤ scene.time)
    by_first None at is = absurd (cc is)
    by_first (Some job) at is =
        let listed = earliest-listed scene.time scene.jobs job at in
        (job, listed.0, cc is, listed.1)

-- a choice that is not soft names a job of the scene that may start
pub choice-listed : (sporadics : List Sporadic) (cycle : ℕ) (scene : Scene) (key : Key) → choice sporadics cycle scene ≡ RanKey key → is_soft key ≡ false → (job : Job) × Has scene.jobs job × (job.key ≡ key) × (job.est ≤ scene.time)
choice-listed sporadics cycle scene key is hard =
    elim (choice-cases sporadics cycle scene) [
      | inl soft ↦
          let named : SoftKey soft.soft.row ≡ key = cc (soft.chosen) in
          absurd (both_ways (is_soft key) hard (sym (ap is_soft named)))
      | inr other ↦ earliest_ready-listed scene key (sym other ∙ is)
    ]

-- the job that is chosen is one of the executive's scene, and may start
pub chosen-listed : (exec : Executive) (key : Key) → choice exec.plan.tasks.sporadics exec.plan.cycle exec.scene ≡ RanKey key → is_soft key ≡ false → (job : Job) × Has exec.scene.jobs job × (job.key ≡ key) × (job.est ≤ exec.scene.time)
chosen-listed exec key is hard =
    choice-listed exec.plan.tasks.sporadics exec.plan.cycle exec.scene key is hard

-- a soft key that is chosen is that of the first soft job
pub chosen-soft : (exec : Executive) (key : Key) → IsPlan exec.plan → StandsForSome exec → choice exec.plan.tasks.sporadics exec.plan.cycle exec.scene ≡ RanKey key → is_soft key ≡ true → (first : SoftJob) × (slice_get exec.scene.soft 0 ≡ Some first) × (key ≡ SoftKey first.row)
chosen-soft exec key plan stands is soft_key =
    let kept = every_executive_is_kept exec plan stands in
    let scene = exec.scene in
    elim (choice-cases exec.plan.tasks.sporadics exec.plan.cycle exec.scene) [
      | inl soft ↦
          let named : key ≡ SoftKey soft.soft.row = cc (soft.chosen) in
          (soft.soft, sym (first_soft-front scene.soft kept.soft.rows) ∙ soft.first, named)
      | inr other ↦
          let found = earliest_ready-listed scene key (sym other ∙ is) in
          let hard = jobs-not_soft exec.plan.tasks exec.plan.cycle (scene.time / exec.plan.cycle + 3) scene found.0 kept.bounds (Contains-from_Has scene.jobs found.0 found.1) in
          absurd (both_ways (is_soft found.0.key) hard (ap is_soft found.2 ∙ soft_key))
    ]
