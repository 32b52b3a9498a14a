-- For how many slots a choice stays, and when another comes.
use Rattle.std.proofs.Common.{◌≡◌, ℕ, zero, suc, ◌+◌, ◌-◌, ◌*◌, ◌/◌, ◌%◌, ◌<◌, ◌≤◌, ◌==◌, ◌⊎◌, Bool, true, false, cond, not, List, [], ◌∷◌, map, Option, Some, None, refl, sym, ap, ap₂, ◌∙◌, subst, inl, inr, add-one, arith}
use Rattle.std.specs.Prelude.{⊤, Contains, nat_le, nat_lt, slice_get, if◌then◌else◌}
use Rattle.std.specs.Ordering.{is_lt, nat_cmp}
use Rattle.std.specs.Cmp.Lexicographic.{slice_cmp}
use Rattle.std.specs.List.{range_with_len}
use Rattle.std.specs.Option.{option_map_or}
use Rattle.std.proofs.lemmas.Bool.{both_ways, cases_Bool, cases_lt, eqb-true, le-leb, le-ltb, lt-ltb, not_from_false}
use Rattle.std.proofs.lemmas.Nat.{div-add-mod'}
use Rattle.slot_core.specs.declared.jobs.Key.{Key}
use Rattle.slot_core.specs.declared.jobs.Key.TheVariants.{Soft as SoftKey}
use Rattle.slot_core.specs.declared.jobs.Job.{Job}
use Rattle.slot_core.specs.declared.jobs.SoftJob.{SoftJob}
use Rattle.slot_core.specs.declared.events.Ran.{Ran}
use Rattle.slot_core.specs.declared.events.Ran.TheVariants.{Idle as RanIdle, Key as RanKey}
use Rattle.slot_core.specs.declared.tasks.TaskSet.{TaskSet}
use Rattle.slot_core.specs.Claims.Safety.{after_run, after_slot}
use Rattle.slot_core.specs.Feasibility.Sporadics.{sporadic_demand}
use Rattle.slot_core.specs.Feasibility.Feasible.{IsFeasible}
use Rattle.slot_core.specs.Keeping.Kept.{ArePlanned}
use Rattle.slot_core.specs.Keeping.Executives.{Does, Executive, StandsFor, StandsForSome}
use Rattle.slot_core.specs.Keeping.Plans.{IsPlan}
use Rattle.slot_core.specs.Offline.Keys.{is_earlier, is_offline, is_soft, key_order, same_key}
use Rattle.slot_core.specs.Offline.OfflineJobs.{cycle_jobs}
use Rattle.slot_core.specs.Runs.Choice.{earliest, earliest_ready, first_soft, ready, soft_may_run}
use Rattle.slot_core.specs.Runs.Demand.{is_overloaded, need_by, work_by}
use Rattle.slot_core.specs.Runs.Histories.{History}
use Rattle.slot_core.specs.Runs.Rising.{AreRising}
use Rattle.slot_core.specs.Runs.Scenes.{Scene, horizon}
use Rattle.slot_core.specs.Runs.Traces.{slot, told_of_slot}
use Rattle.slot_core.specs.Sets.Cycles.{cycle_of}
use Rattle.slot_facts.proofs.Bounds.CycleLater.{one_cycle_later_has_no_less_room}
use Rattle.slot_facts.proofs.Choice.Earliest.{IsEarliest-from_earliest, IsNotAfter-from_earlier, IsNotAfter-from_not_earlier}
use Rattle.slot_facts.proofs.Choice.SameEarliest.{earliest_of, one_key}
use Rattle.slot_facts.proofs.Demand.OneSlot.{sporadic_demand-later}
use Rattle.slot_facts.proofs.Legal.Executives.{every_executive_is_kept}
use Rattle.slot_facts.proofs.Lists.Apart.{above-from_rising}
use Rattle.slot_facts.proofs.Lists.ApartKeys.{same_key-itself}
use Rattle.slot_facts.proofs.Lists.Members.{Has, Contains-from_Has, Has-append_cases, Has-append_left, Has-filter, Has-filter_passes, Has-from_slice_get, Has-map, Has-map_cases, Has-range_with_len_bounds}
use Rattle.slot_facts.proofs.Lists.Tests.{list_all-from_Has}
use Rattle.slot_facts.proofs.Offline.Cycles.{IsOfCycle-from_cycle}
use Rattle.slot_facts.proofs.Plans.Horizons.{NextSlot, turn, inside, further_now, next_slot}
use Rattle.slot_facts.proofs.Plans.Items.{plan_cycle-bounds}
use Rattle.scene_steps.specs.Steps.{after_ran, one_slot_later, soft_after_slot, with_cycle}
use Rattle.scene_steps.proofs.Facts.Choices.{chosen-listed, chosen-soft, earliest-listed, soft_may_run-fits}
use Rattle.scene_steps.proofs.Same.Events.{told_in-stands}
use Rattle.scene_steps.proofs.Same.SameScenes.{same_scene-refl}
use Rattle.scene_steps.proofs.Slots.Chosen.{choice-by_front, listed-not_soft, soft-front_run}
use Rattle.scene_steps.proofs.Slots.NewParts.{next_cycle-stays}
use Rattle.scene_steps.proofs.Slots.Turns.{Does-slot, StandsForSome-slot}
use Rattle.slot_exec.specs.Ahead.{TellsAhead, TellsOtherAfter}
use Rattle.slot_exec.specs.declared.runs.Chosen.TheVariants.{Soft, Guaranteed}
use Rattle.slot_exec.specs.declared.runs.Chosen.{Chosen}
use Rattle.slot_exec.proofs.RememberedRoom.{ran_due}
use Rattle.slot_exec.proofs.SceneRooms.{work_by-ran, work_by-turn}
use Rattle.slot_exec.proofs.SlotChoice.{choice_of, IsChosen}

-- the executive a slot later, and n slots later, where nothing arrives
abbrev pub later : Executive → Executive
later exec = record exec { scene = after_ran exec.plan.tasks exec.plan.cycle (choice_of exec) exec.scene }

abbrev pub slots_later : ℕ → Executive → Executive
slots_later zero exec = exec
slots_later (suc n) exec = slots_later n (later exec)

-- this is the choice of each of the next n slots
abbrev pub ChoosesAhead : Ran → ℕ → Executive → Type 0
ChoosesAhead ran zero exec = ⊤
ChoosesAhead ran (suc n) exec = (ran ≡ choice_of exec) × ChoosesAhead ran n (later exec)

-- so it is told of them
Does-later : (exec : Executive) → IsPlan exec.plan → StandsForSome exec → Does exec (later exec) slot (told_of_slot (choice_of exec))
Does-later exec plan stands =
    Does-slot exec (later exec) (choice_of exec) plan stands refl refl (same_scene-refl (later exec).scene) refl

stands-longer : (ran : Ran) (exec : Executive) (h : History) → IsPlan exec.plan → StandsFor exec h → ran ≡ choice_of exec → StandsFor (later exec) (told_of_slot ran ∷ h)
stands-longer ran exec h plan stands chosen =
    subst
    (λ r. StandsFor (later exec) (told_of_slot r ∷ h))
    (sym chosen)
    ((Does-later exec plan (h, stands)).stands h stands)

pub TellsAhead-from_choices : (ran : Ran) (n : ℕ) (exec : Executive) (h : History) → IsPlan exec.plan → StandsFor exec h → ChoosesAhead ran n exec → TellsAhead exec.plan.tasks exec.plan.cycle (told_of_slot ran) n h
TellsAhead-from_choices ran zero exec h plan stands chooses = tt
TellsAhead-from_choices ran (suc n) exec h plan stands chooses = (
  ap told_of_slot chooses.0 ∙ (Does-later exec plan (h, stands)).told h stands,
  TellsAhead-from_choices ran n (later exec) (told_of_slot ran ∷ h) plan (stands-longer ran exec h plan stands chooses.0) chooses.1,
)

-- and something else of the slot after them, where that is not its choice
told_apart : (a b : Ran) → told_of_slot a ≡ told_of_slot b → a ≡ b
told_apart RanIdle RanIdle e = refl
told_apart RanIdle (RanKey key) e = cc
told_apart (RanKey key) RanIdle e = cc
told_apart (RanKey key) (RanKey other) e = cc

pub TellsOtherAfter-from_choices : (ran : Ran) (n : ℕ) (exec : Executive) (h : History) → IsPlan exec.plan → StandsFor exec h → ChoosesAhead ran n exec → (ran ≡ choice_of (slots_later n exec) → ⊥) → TellsOtherAfter exec.plan.tasks exec.plan.cycle (told_of_slot ran) n h
TellsOtherAfter-from_choices ran zero exec h plan stands chooses other =
    λ same. other (told_apart ran (choice_of exec) (same ∙ sym (told_in-stands exec slot h plan stands)))
TellsOtherAfter-from_choices ran (suc n) exec h plan stands chooses other =
    TellsOtherAfter-from_choices ran n (later exec) (told_of_slot ran ∷ h) plan (stands-longer ran exec h plan stands chooses.0) chooses.1 other

-- the next slot lies before the same horizon, or its horizon is a cycle further
horizon-next : (cycle t : ℕ) → 1 ≤ cycle → (horizon cycle (t + 1) ≡ horizon cycle t) ⊎ ((horizon cycle (t + 1) ≡ horizon cycle t + cycle) × (horizon cycle t ≡ t + 1 + 2 * cycle))
horizon-next cycle t some = by_slot (next_slot t cycle some)
  where
    by_slot : NextSlot t cycle → (horizon cycle (t + 1) ≡ horizon cycle t) ⊎ ((horizon cycle (t + 1) ≡ horizon cycle t + cycle) × (horizon cycle t ≡ t + 1 + 2 * cycle))
    by_slot (turn starts number whole) =
        let far : horizon cycle (t + 1) ≡ horizon cycle t + cycle = ap (horizon cycle) (add-one t) ∙ further_now t cycle number in
        inr (far, omega arith)
    by_slot (inside starts number) =
        inl (ap (horizon cycle) (add-one t) ∙ ap (λ d. (d + 3) * cycle) number)

-- jobs after a slot of a job: each is one of before with its start, deadline and key, and of the job's key a slot less is left
pub run-from : (key : Key) (jobs : List Job) (after : Job) → Has (after_run key jobs) after → (job : Job) × Has jobs job × (after.est ≡ job.est) × (after.dl ≡ job.dl) × (after.key ≡ job.key) × (same_key job.key key ≡ true → after.left ≡ job.left - 1)
run-from key jobs after at =
    let ran = λ (j : Job). cond (same_key j.key key) (record j { left = j.left - 1 }) j in
    let (mapped, some) = Has-filter_passes (λ (j : Job). nat_lt 0 j.left) (map ran jobs) after at in
    let (job, listed, is) = Has-map_cases ran jobs after mapped in
    by_test job listed (same_key job.key key) refl is
  where
    by_test : (job : Job) → Has jobs job → (b : Bool) → same_key job.key key ≡ b → cond b (record job { left = job.left - 1 }) job ≡ after → (job : Job) × Has jobs job × (after.est ≡ job.est) × (after.dl ≡ job.dl) × (after.key ≡ job.key) × (same_key job.key key ≡ true → after.left ≡ job.left - 1)
    by_test job listed true own is =
        (job, listed, ap (λ (j : Job). j.est) (sym is), ap (λ (j : Job). j.dl) (sym is), ap (λ (j : Job). j.key) (sym is), λ same. ap (λ (j : Job). j.left) (sym is))
    by_test job listed false other is =
        (job, listed, ap (λ (j : Job). j.est) (sym is), ap (λ (j : Job). j.dl) (sym is), ap (λ (j : Job). j.key) (sym is), λ same. absurd (both_ways (same_key job.key key) other same))

-- a job of another key stays, and so does that of the key with a slot less, where it has more
pub run-other : (key : Key) (jobs : List Job) (job : Job) → Has jobs job → same_key job.key key ≡ false → 1 ≤ job.left → Has (after_run key jobs) job
run-other key jobs job at other some =
    let ran = λ (j : Job). cond (same_key j.key key) (record j { left = j.left - 1 }) j in
    let here : ran job ≡ job = ap (λ b. cond b (record job { left = job.left - 1 }) job) other in
    Has-filter (λ (j : Job). nat_lt 0 j.left) (map ran jobs) job (subst (Has (map ran jobs)) here (Has-map ran jobs job at)) (lt-ltb 0 job.left (omega arith))

pub run-own : (jobs : List Job) (job : Job) → Has jobs job → 2 ≤ job.left → Has (after_run job.key jobs) (record job { left = job.left - 1 })
run-own jobs job at more =
    let ran = λ (j : Job). cond (same_key j.key job.key) (record j { left = j.left - 1 }) j in
    let here : ran job ≡ record job { left = job.left - 1 } = ap (λ b. cond b (record job { left = job.left - 1 }) job) (same_key-itself job.key job.key refl) in
    Has-filter (λ (j : Job). nat_lt 0 j.left) (map ran jobs) (record job { left = job.left - 1 }) (subst (Has (map ran jobs)) here (Has-map ran jobs job at)) (lt-ltb 0 (job.left - 1) (omega arith))

-- one job goes before another by its deadline and key alone
earlier-same : (a b c d : Job) → a.dl ≡ b.dl → a.key ≡ b.key → c.dl ≡ d.dl → c.key ≡ d.key → is_earlier a c ≡ is_earlier b d
earlier-same a b c d due key due' key' =
    ap₂ (λ x y. is_lt (slice_cmp nat_cmp x y)) (ap₂ (λ n k. n ∷ key_order k) due key) (ap₂ (λ n k. n ∷ key_order k) due' key')

module _ (exec : Executive) (plan : IsPlan exec.plan) (stands : StandsForSome exec) where
  abbrev set : TaskSet
  set = exec.plan.tasks

  abbrev cycle : ℕ
  cycle = exec.plan.cycle

  abbrev time : ℕ
  time = exec.scene.time

  -- a slot later: the time, the next arrivals and the soft jobs
  time-later : (later exec).scene.time ≡ time + 1
  time-later =
      next_cycle-stays (λ (s : Scene). s.time) set cycle (one_slot_later (choice_of exec) exec.scene) (λ n. refl)

  nexts-later : (later exec).scene.nexts ≡ exec.scene.nexts
  nexts-later =
      next_cycle-stays (λ (s : Scene). s.nexts) set cycle (one_slot_later (choice_of exec) exec.scene) (λ n. refl)

  soft-later : (ran : Ran) → ran ≡ choice_of exec → (later exec).scene.soft ≡ soft_after_slot ran exec.scene.soft
  soft-later ran chosen =
      next_cycle-stays (λ (s : Scene). s.soft) set cycle (one_slot_later (choice_of exec) exec.scene) (λ n. refl)
      ∙ ap (λ r. soft_after_slot r exec.scene.soft) (sym chosen)

  -- the jobs that come in start more than two cycles later
  come-later : (ran : Ran) (job : Job) → ran ≡ choice_of exec → Has (later exec).scene.jobs job → Has (after_slot ran exec.scene.jobs) job ⊎ (time + 1 + 2 * cycle ≤ job.est)
  come-later ran job chosen at =
      by_test ((time + 1) % cycle == 0) refl at
    where
      n : ℕ
      n = (time + 1) / cycle + 2

      stay : List Job
      stay = after_slot (choice_of exec) exec.scene.jobs

      starts : Has (cycle_jobs set cycle n) job → n * cycle ≤ job.est
      starts =
          subst
          (λ c. Has (cycle_jobs set c n) job → n * c ≤ job.est)
          (sym plan.cycle)
          (λ among. (IsOfCycle-from_cycle set n job plan.sound (Contains-from_Has (cycle_jobs set (cycle_of set) n) job among)).starts)

      by_test : (b : Bool) → ((time + 1) % cycle == 0) ≡ b → Has (cond b (with_cycle set cycle n (one_slot_later (choice_of exec) exec.scene)) (one_slot_later (choice_of exec) exec.scene)).jobs job → Has (after_slot ran exec.scene.jobs) job ⊎ (time + 1 + 2 * cycle ≤ job.est)
      by_test true turns among =
          elim (Has-append_cases stay (cycle_jobs set cycle n) job among) [
            | inl old ↦ inl (subst (λ r. Has (after_slot r exec.scene.jobs) job) (sym chosen) old)
            | inr new ↦
                let start : ((time + 1) / cycle + 2) * cycle ≤ job.est = starts new in
                inr (omega (arith, div-add-mod' (time + 1) cycle, eqb-true ((time + 1) % cycle) 0 turns))
          ]
      by_test false goes among =
          inl (subst (λ r. Has (after_slot r exec.scene.jobs) job) (sym chosen) among)

  -- the others stay
  stay-later : (ran : Ran) (job : Job) → ran ≡ choice_of exec → Has (after_slot ran exec.scene.jobs) job → Has (later exec).scene.jobs job
  stay-later ran job chosen at =
      by_test ((time + 1) % cycle == 0) (subst (λ r. Has (after_slot r exec.scene.jobs) job) chosen at)
    where
      by_test : (b : Bool) → Has (after_slot (choice_of exec) exec.scene.jobs) job → Has (cond b (with_cycle set cycle ((time + 1) / cycle + 2) (one_slot_later (choice_of exec) exec.scene)) (one_slot_later (choice_of exec) exec.scene)).jobs job
      by_test true among = Has-append_left (after_slot (choice_of exec) exec.scene.jobs) _ job among
      by_test false among = among

  -- up to the horizon as much work is due but for the slot that has run
  work-later : (chosen : Chosen) (x : ℕ) → IsChosen exec chosen → x ≤ horizon cycle time → work_by exec.scene.jobs x ≡ work_by (later exec).scene.jobs x + ran_due chosen x
  work-later chosen x is within =
      omega (arith, work_by-turn exec plan stands x within, work_by-ran exec plan stands chosen is x)

  -- and the same densest arrivals
  demand-later : (r s x : ℕ) → r ≡ s → sporadic_demand set.sporadics (later exec).scene.nexts r x ≡ sporadic_demand set.sporadics exec.scene.nexts s x
  demand-later r s x same = ap₂ (λ ns n. sporadic_demand set.sporadics ns n x) nexts-later same

  -- its horizon is no nearer
  further-later : horizon cycle time ≤ horizon cycle (later exec).scene.time
  further-later =
      let at : horizon cycle (later exec).scene.time ≡ horizon cycle (time + 1) = ap (horizon cycle) time-later in
      elim (horizon-next cycle time (plan_cycle-bounds exec.plan plan).0) [
        | inl same ↦ omega arith
        | inr far ↦ omega (arith, far)
      ]

  -- where no soft job waits or soft work may not run, the earliest ready job is chosen, or none is
  held-choice : (exec.scene.soft ≡ []) ⊎ (soft_may_run set.sporadics cycle exec.scene ≡ false) → choice_of exec ≡ earliest_ready exec.scene
  held-choice (inl none) = ap (λ ss. option_map_or (λ (s : SoftJob). if soft_may_run set.sporadics cycle exec.scene then RanKey (SoftKey s.row) else earliest_ready exec.scene) (first_soft ss) (earliest_ready exec.scene)) none
  held-choice (inr held) = by_first (first_soft exec.scene.soft)
    where
      by_first : (o : Option SoftJob) → option_map_or (λ (s : SoftJob). if soft_may_run set.sporadics cycle exec.scene then RanKey (SoftKey s.row) else earliest_ready exec.scene) o (earliest_ready exec.scene) ≡ earliest_ready exec.scene
      by_first None = refl
      by_first (Some s) = ap (λ b. cond b (RanKey (SoftKey s.row)) (earliest_ready exec.scene)) held

  -- up to a time that is short it may not run
  short-held : (x : ℕ) → time < x → x ≤ horizon cycle time → x - time ≤ need_by set.sporadics exec.scene (time + 1) x → soft_may_run set.sporadics cycle exec.scene ≡ false
  short-held x after within short =
      elim (cases_Bool (soft_may_run set.sporadics cycle exec.scene)) [
        | inl may ↦ absurd (omega (arith, soft_may_run-fits set.sporadics cycle exec.scene x may (omega arith) within))
        | inr held ↦ held
      ]

  -- no job is ready: idle
  idle-chosen : exec.scene.soft ≡ [] → ((job : Job) → Has exec.scene.jobs job → time < job.est) → RanIdle ≡ choice_of exec
  idle-chosen none wait = sym (held-choice (inl none) ∙ by_found (earliest (ready time exec.scene.jobs)) refl)
    where
      by_found : (o : Option Job) → earliest (ready time exec.scene.jobs) ≡ o → option_map_or (λ (j : Job). RanKey j.key) o RanIdle ≡ RanIdle
      by_found None e = refl
      by_found (Some job) e =
          let listed = earliest-listed time exec.scene.jobs job e in
          absurd (omega (arith, wait job listed.0, listed.1))

  -- a ready job that none goes before: its key
  job-chosen : (job : Job) → (exec.scene.soft ≡ []) ⊎ (soft_may_run set.sporadics cycle exec.scene ≡ false) → Has exec.scene.jobs job → job.est ≤ time → ((other : Job) → Has exec.scene.jobs other → other.est ≤ time → is_earlier other job ≡ false) → RanKey job.key ≡ choice_of exec
  job-chosen job held at come first = sym (held-choice held ∙ by_found (earliest (ready time exec.scene.jobs)) refl)
    where
      by_found : (o : Option Job) → earliest (ready time exec.scene.jobs) ≡ o → option_map_or (λ (j : Job). RanKey j.key) o RanIdle ≡ RanKey job.key
      by_found None e =
          absurd (earliest_of (ready time exec.scene.jobs) job (Has-filter (λ (j : Job). nat_le j.est time) exec.scene.jobs job at (le-leb job.est time come)) e)
      by_found (Some best) e =
          let listed = earliest-listed time exec.scene.jobs best e in
          let before = (IsEarliest-from_earliest (ready time exec.scene.jobs) best e).first job (Has-filter (λ (j : Job). nat_le j.est time) exec.scene.jobs job at (le-leb job.est time come)) in
          ap (λ k. RanKey k) (one_key best job before (IsNotAfter-from_not_earlier job best (first best listed.0 listed.1)))

  -- the first soft job where soft work may run
  pub soft-chosen : (s : SoftJob) (rest : List SoftJob) → exec.scene.soft ≡ s ∷ rest → soft_may_run set.sporadics cycle exec.scene ≡ true → RanKey (SoftKey s.row) ≡ choice_of exec
  soft-chosen s rest soft may =
      let other = earliest_ready exec.scene in
      sym (ap₂ (λ b ss. option_map_or (λ (j : SoftJob). cond b (RanKey (SoftKey j.row)) other) (slice_get ss 0) other) may soft)
      ∙ choice-by_front exec plan stands

  -- a guaranteed key that is chosen is that of the earliest ready job
  key-earliest : (key : Key) → is_soft key ≡ false → RanKey key ≡ choice_of exec → (job : Job) × (earliest (ready time exec.scene.jobs) ≡ Some job) × (job.key ≡ key)
  key-earliest key hard chosen = by_first (first_soft exec.scene.soft) (soft_may_run set.sporadics cycle exec.scene) chosen
    where
      by_found : (o : Option Job) → earliest (ready time exec.scene.jobs) ≡ o → RanKey key ≡ option_map_or (λ (j : Job). RanKey j.key) o RanIdle → (job : Job) × (earliest (ready time exec.scene.jobs) ≡ Some job) × (job.key ≡ key)
      by_found None e is = absurd (cc is)
      by_found (Some job) e is = (job, e, cc is)

      by_first : (o : Option SoftJob) (b : Bool) → RanKey key ≡ option_map_or (λ (s : SoftJob). cond b (RanKey (SoftKey s.row)) (earliest_ready exec.scene)) o (earliest_ready exec.scene) → (job : Job) × (earliest (ready time exec.scene.jobs) ≡ Some job) × (job.key ≡ key)
      by_first None b is = by_found (earliest (ready time exec.scene.jobs)) refl is
      by_first (Some s) true is =
          let named : key ≡ SoftKey s.row = cc is in
          absurd (both_ways (is_soft key) hard (ap is_soft named))
      by_first (Some s) false is = by_found (earliest (ready time exec.scene.jobs)) refl is

  -- where soft work may not run, no soft key is chosen
  soft-not_chosen : (row : ℕ) → soft_may_run set.sporadics cycle exec.scene ≡ false → RanKey (SoftKey row) ≡ choice_of exec → ⊥
  soft-not_chosen row held chosen =
      by_found (earliest (ready time exec.scene.jobs)) refl (chosen ∙ held-choice (inr held))
    where
      by_found : (o : Option Job) → earliest (ready time exec.scene.jobs) ≡ o → RanKey (SoftKey row) ≡ option_map_or (λ (j : Job). RanKey j.key) o RanIdle → ⊥
      by_found None e is = cc is
      by_found (Some job) e is =
          let named : job.key ≡ SoftKey row = cc is in
          both_ways (is_soft job.key) (listed-not_soft exec job plan stands (earliest-listed time exec.scene.jobs job e).0) (ap is_soft named)

  -- a job of the scene has a slot left, and is due later
  pub job-left : (job : Job) → Has exec.scene.jobs job → (time < job.dl) × (1 ≤ job.left)
  job-left job at =
      let l = (every_executive_is_kept exec plan stands).bounds.left job (Contains-from_Has exec.scene.jobs job at) in
      (l.0, l.1)

-- where no soft job waits and no job starts before n slots have passed, they are idle
pub idle-ahead : (n : ℕ) (exec : Executive) → IsPlan exec.plan → StandsForSome exec → exec.scene.soft ≡ [] → ((job : Job) → Has exec.scene.jobs job → exec.scene.time + n ≤ job.est) → n ≤ 2 * exec.plan.cycle → ChoosesAhead RanIdle n exec
idle-ahead zero exec plan stands soft wait few = tt
idle-ahead (suc n) exec plan stands soft wait few =
    let chosen = idle-chosen exec plan stands soft (λ job at. omega (arith, wait job at)) in (
      chosen,
      idle-ahead n (later exec) plan (StandsForSome-slot exec plan stands) (soft-later exec plan stands RanIdle chosen ∙ soft) (λ job at.
          elim (come-later exec plan stands RanIdle job chosen at) [
            | inl old ↦ omega (arith, wait job old, time-later exec plan stands)
            | inr new ↦ omega (arith, new, time-later exec plan stands)
          ]) (omega arith),
    )

-- then a job that starts ends it
pub idle-ends : (n : ℕ) (exec : Executive) (job : Job) → IsPlan exec.plan → StandsForSome exec → ChoosesAhead RanIdle n exec → Has exec.scene.jobs job → job.est ≤ exec.scene.time + n → RanIdle ≡ choice_of (slots_later n exec) → ⊥
idle-ends zero exec job plan stands chooses at come idle =
    let time = exec.scene.time in
    let jobs = exec.scene.jobs in
    let ready_now = Has-filter (λ (j : Job). nat_le j.est time) jobs job at (le-leb job.est time (omega arith)) in
    by_first (first_soft exec.scene.soft) (soft_may_run exec.plan.tasks.sporadics exec.plan.cycle exec.scene) (earliest (ready time jobs)) (λ none. earliest_of (ready time jobs) job ready_now none) idle
  where
    by_found : (o : Option Job) → (o ≡ None → ⊥) → RanIdle ≡ option_map_or (λ (j : Job). RanKey j.key) o RanIdle → ⊥
    by_found None some is = some refl
    by_found (Some j) some is = cc is

    by_first : (o : Option SoftJob) (b : Bool) (e : Option Job) → (e ≡ None → ⊥) → RanIdle ≡ option_map_or (λ (s : SoftJob). cond b (RanKey (SoftKey s.row)) (option_map_or (λ (j : Job). RanKey j.key) e RanIdle)) o (option_map_or (λ (j : Job). RanKey j.key) e RanIdle) → ⊥
    by_first None b e some is = by_found e some is
    by_first (Some s) true e some is = cc is
    by_first (Some s) false e some is = by_found e some is
idle-ends (suc n) exec job plan stands chooses at come idle =
    idle-ends n (later exec) job plan (StandsForSome-slot exec plan stands) chooses.1 (stay-later exec plan stands RanIdle job chooses.0 at) (omega (arith, time-later exec plan stands)) idle

-- soft work may not run beside this job for n slots: none waits, or a time by which the job is due stays short
abbrev pub SoftHeldBack : Executive → Job → ℕ → Type 0
SoftHeldBack exec job n =
    (exec.scene.soft ≡ [])
    ⊎ ((x : ℕ) × (job.dl ≤ x) × (x ≤ horizon exec.plan.cycle exec.scene.time) × (x - exec.scene.time ≤ work_by exec.scene.jobs x + sporadic_demand exec.plan.tasks.sporadics exec.scene.nexts (exec.scene.time + n) x))

-- so it may not in the first of them
held-now : (n : ℕ) (exec : Executive) (job : Job) → IsPlan exec.plan → StandsForSome exec → Has exec.scene.jobs job → 1 ≤ n → SoftHeldBack exec job n → (exec.scene.soft ≡ []) ⊎ (soft_may_run exec.plan.tasks.sporadics exec.plan.cycle exec.scene ≡ false)
held-now n exec job plan stands at some (inl none) = inl none
held-now n exec job plan stands at some (inr (x, due, within, short)) =
    let t = exec.scene.time in
    inr (short-held exec plan stands x (omega (arith, job-left exec plan stands job at)) within (omega (arith, short, sporadic_demand-later exec.plan.tasks.sporadics exec.scene.nexts (t + 1) (t + n) x (omega arith))))

-- nor in the others once the job has run
held-later : (n : ℕ) (exec : Executive) (job : Job) → IsPlan exec.plan → StandsForSome exec → Has exec.scene.jobs job → RanKey job.key ≡ choice_of exec → SoftHeldBack exec job (suc n) → SoftHeldBack (later exec) (record job { left = job.left - 1 }) n
held-later n exec job plan stands at chosen (inl none) =
    inl (soft-later exec plan stands (RanKey job.key) chosen ∙ ap (soft_after_slot (RanKey job.key)) none)
held-later n exec job plan stands at chosen (inr (x, due, within, short)) =
    let next = time-later exec plan stands in
    let from : (later exec).scene.time + n ≡ exec.scene.time + suc n = omega arith in
    let one : ran_due (Guaranteed job) x ≡ 1 = ap (λ b. cond {A = ℕ} b 1 0) (le-leb job.dl x due) in
    inr (x, due, omega (arith, further-later exec plan stands), omega (arith, short, next, one, work-later exec plan stands (Guaranteed job) x (at, chosen) within, demand-later exec plan stands ((later exec).scene.time + n) (exec.scene.time + suc n) x from))

-- a ready job runs n slots, where it has so many left, none that starts before they have passed goes before it, and soft work is held back
pub job-ahead : (n : ℕ) (exec : Executive) (job : Job) → IsPlan exec.plan → StandsForSome exec → Has exec.scene.jobs job → job.est ≤ exec.scene.time → n ≤ job.left → n ≤ 2 * exec.plan.cycle → ((other : Job) → Has exec.scene.jobs other → other.est < exec.scene.time + n → is_earlier other job ≡ false) → SoftHeldBack exec job n → ChoosesAhead (RanKey job.key) n exec
job-ahead zero exec job plan stands at come some few first held = tt
job-ahead (suc zero) exec job plan stands at come some few first held =
    (job-chosen exec plan stands job (held-now 1 exec job plan stands at (omega arith) held) at come (λ other among early. first other among (omega arith)), tt)
job-ahead (suc (suc n)) exec job plan stands at come some few first held =
    let chosen = job-chosen exec plan stands job (held-now (suc (suc n)) exec job plan stands at (omega arith) held) at come (λ other among early. first other among (omega arith)) in
    let ran : Job = record job { left = job.left - 1 } in
    let next = time-later exec plan stands in (
      chosen,
      job-ahead (suc n) (later exec) ran plan (StandsForSome-slot exec plan stands)
          (stay-later exec plan stands (RanKey job.key) ran chosen (run-own exec.scene.jobs job at (omega arith)))
          (omega arith)
          (omega arith)
          (omega arith)
          (λ other among early.
          elim (come-later exec plan stands (RanKey job.key) other chosen among) [
            | inl old ↦
                let (before, there, est, due, key, less) = run-from job.key exec.scene.jobs other old in
                earlier-same other before ran job due key refl refl ∙ first before there (omega arith)
            | inr new ↦ absurd (omega (arith, new))
          ])
          (held-later (suc n) exec job plan stands at chosen held),
    )

-- it runs no more slots than it has
pub job-runs_out : (n : ℕ) (key : Key) (exec : Executive) → IsPlan exec.plan → StandsForSome exec → is_soft key ≡ false → n ≤ 2 * exec.plan.cycle → ChoosesAhead (RanKey key) n exec → ((job : Job) → Has exec.scene.jobs job → job.key ≡ key → job.est ≤ exec.scene.time + n → job.left ≡ n) → RanKey key ≡ choice_of (slots_later n exec) → ⊥
job-runs_out zero key exec plan stands hard few chooses left chosen =
    let (job, at, named, come) = chosen-listed exec key (sym chosen) hard in
    omega (arith, left job at named (omega arith), job-left exec plan stands job at)
job-runs_out (suc n) key exec plan stands hard few chooses left chosen =
    let next = time-later exec plan stands in
    job-runs_out n key (later exec) plan (StandsForSome-slot exec plan stands) hard (omega arith) chooses.1 (λ job at named early.
    elim (come-later exec plan stands (RanKey key) job chooses.0 at) [
      | inl old ↦
          let (before, there, est, due, same, less) = run-from key exec.scene.jobs job old in
          let own : before.key ≡ key = sym same ∙ named in
          omega (arith, less (same_key-itself before.key key own), left before there own (omega arith))
      | inr new ↦ absurd (omega (arith, new))
    ]) chosen

-- and where one starts that goes before it, it gives way
pub job-gives_way : (n : ℕ) (key : Key) (exec : Executive) (first : Job) → IsPlan exec.plan → StandsForSome exec → is_soft key ≡ false → n ≤ 2 * exec.plan.cycle → ChoosesAhead (RanKey key) n exec → Has exec.scene.jobs first → same_key first.key key ≡ false → first.est ≤ exec.scene.time + n → ((job : Job) → Has exec.scene.jobs job → job.key ≡ key → job.est ≤ exec.scene.time + n → is_earlier first job ≡ true) → RanKey key ≡ choice_of (slots_later n exec) → ⊥
job-gives_way zero key exec first plan stands hard few chooses at other come before chosen =
    let time = exec.scene.time in
    let (job, found, named) = key-earliest exec plan stands key hard chosen in
    let listed = earliest-listed time exec.scene.jobs job found in
    let after = (IsEarliest-from_earliest (ready time exec.scene.jobs) job found).first first (Has-filter (λ (j : Job). nat_le j.est time) exec.scene.jobs first at (le-leb first.est time (omega arith))) in
    let level = one_key job first after (IsNotAfter-from_earlier first job (before job listed.0 named (omega (arith, listed.1)))) in
    both_ways (same_key first.key key) other (same_key-itself first.key key (sym level ∙ named))
job-gives_way (suc n) key exec first plan stands hard few chooses at other come before chosen =
    let next = time-later exec plan stands in
    job-gives_way n key (later exec) first plan (StandsForSome-slot exec plan stands) hard (omega arith) chooses.1 (stay-later exec plan stands (RanKey key) first chooses.0 (run-other key exec.scene.jobs first at other (job-left exec plan stands first at).1)) other (omega arith) (λ job among named early.
    elim (come-later exec plan stands (RanKey key) job chooses.0 among) [
      | inl old ↦
          let (was, there, est, due, same, less) = run-from key exec.scene.jobs job old in
          earlier-same first first job was refl refl due same ∙ before was there (sym same ∙ named) (omega arith)
      | inr new ↦ absurd (omega (arith, new))
    ]) chosen

-- soft work may run in each of n slots: each later time up to the horizon by which something is needed has room for it
abbrev pub IsFree : Executive → ℕ → Type 0
IsFree exec n =
    (k x : ℕ) → k < n → exec.scene.time + k < x → x ≤ horizon exec.plan.cycle exec.scene.time
    → 1 ≤ need_by exec.plan.tasks.sporadics exec.scene (exec.scene.time + k + 1) x
    → k + 1 + need_by exec.plan.tasks.sporadics exec.scene (exec.scene.time + k + 1) x ≤ x - exec.scene.time

-- so it may in the first
may-from_free : (n : ℕ) (exec : Executive) → 1 ≤ n → IsFree exec n → soft_may_run exec.plan.tasks.sporadics exec.plan.cycle exec.scene ≡ true
may-from_free n exec some free =
    let t = exec.scene.time in
    let end = horizon exec.plan.cycle t in
    let set = exec.plan.tasks in
    list_all-from_Has (λ x. not (is_overloaded set.sporadics exec.scene 1 (t + 1) x)) (range_with_len (t + 1) (end - t)) (λ x at.
    let (low, high) = Has-range_with_len_bounds (t + 1) (end - t) x at in
    let from : t + 0 + 1 ≡ t + 1 = omega arith in
    let room = subst (λ r. 1 ≤ need_by set.sporadics exec.scene r x → 0 + 1 + need_by set.sporadics exec.scene r x ≤ x - t) from (free 0 x (omega arith) (omega arith) (omega arith)) in
    not_from_false (is_overloaded set.sporadics exec.scene 1 (t + 1) x) (le-ltb (x - t) (1 + need_by set.sporadics exec.scene (t + 1) x) (fits (need_by set.sporadics exec.scene (t + 1) x) (x - t) (omega arith) room)))
  where
    fits : (need slots : ℕ) → 1 ≤ slots → (1 ≤ need → 0 + 1 + need ≤ slots) → 1 + need ≤ slots
    fits zero slots later room = omega arith
    fits (suc m) slots later room = omega (arith, room (omega arith))

-- after a slot of soft work as much is needed by each time up to the horizon
need-later : (exec : Executive) (row r s x : ℕ) → IsPlan exec.plan → StandsForSome exec → IsChosen exec (Soft row) → x ≤ horizon exec.plan.cycle exec.scene.time → r ≡ s → need_by exec.plan.tasks.sporadics (later exec).scene r x ≡ need_by exec.plan.tasks.sporadics exec.scene s x
need-later exec row r s x plan stands is within same =
    omega (arith, work-later exec plan stands (Soft row) x is within, demand-later exec plan stands r s x same)

-- and a cycle past it at most a cycle more
need-cycle_later : (exec : Executive) (r x : ℕ) → IsPlan exec.plan → StandsForSome exec → exec.scene.time + exec.plan.cycle ≤ x → need_by exec.plan.tasks.sporadics exec.scene r (x + exec.plan.cycle) ≤ need_by exec.plan.tasks.sporadics exec.scene r x + exec.plan.cycle
need-cycle_later exec r x plan stands past =
    let kept = (every_executive_is_kept exec plan stands).bounds in
    let set = exec.plan.tasks in
    let scene = exec.scene in
    let cycles : ℕ = scene.time / exec.plan.cycle + 3 in
    subst
    (λ c. IsFeasible set c → ArePlanned set c cycles scene.jobs → ((job : Job) → Contains scene.jobs job → is_offline job.key ≡ false → job.dl ≤ scene.time + c) → scene.time + c ≤ x → need_by set.sporadics scene r (x + c) ≤ need_by set.sporadics scene r x + c)
    (sym plan.cycle)
    (λ feasible planned come late. one_cycle_later_has_no_less_room set cycles scene r x plan.sound feasible planned kept.apart (λ job at. (kept.left job at).2) come late)
    plan.feasible
    kept.planned
    (λ job at other. (kept.come job at other).2)
    past

-- so the other slots stay free
free-later : (n : ℕ) (exec : Executive) (row : ℕ) → IsPlan exec.plan → StandsForSome exec → IsChosen exec (Soft row) → suc n ≤ exec.plan.cycle → IsFree exec (suc n) → IsFree (later exec) n
free-later n exec row plan stands is few free k x low after within some =
    let next = time-later exec plan stands in
    let from : (later exec).scene.time + k + 1 ≡ exec.scene.time + suc k + 1 = omega (arith, next) in
    elim (cases_lt (horizon exec.plan.cycle exec.scene.time) x) [
      | inr near ↦
          let same = need-later exec row ((later exec).scene.time + k + 1) (exec.scene.time + suc k + 1) x plan stands is near from in
          omega (arith, same, next, free (suc k) x (omega arith) (omega (arith, next)) near (omega (arith, same, some)))
      | inl far ↦
          let here : horizon exec.plan.cycle (later exec).scene.time ≡ horizon exec.plan.cycle (exec.scene.time + 1) = ap (horizon exec.plan.cycle) next in
          elim (horizon-next exec.plan.cycle exec.scene.time (plan_cycle-bounds exec.plan plan).0) [
            | inl stays ↦ absurd (omega arith)
            | inr (moves, whole) ↦
                let back : x - exec.plan.cycle + exec.plan.cycle ≡ x = omega arith in
                let near : x - exec.plan.cycle ≤ horizon exec.plan.cycle exec.scene.time = omega arith in
                let more = subst (λ z. need_by exec.plan.tasks.sporadics (later exec).scene ((later exec).scene.time + k + 1) z ≤ need_by exec.plan.tasks.sporadics (later exec).scene ((later exec).scene.time + k + 1) (x - exec.plan.cycle) + exec.plan.cycle) back (need-cycle_later (later exec) ((later exec).scene.time + k + 1) (x - exec.plan.cycle) plan (StandsForSome-slot exec plan stands) (omega (arith, next))) in
                let same = need-later exec row ((later exec).scene.time + k + 1) (exec.scene.time + suc k + 1) (x - exec.plan.cycle) plan stands is near from in
                let room = free (suc k) (x - exec.plan.cycle) (omega arith) (omega arith) near in
                let last = fits k x exec.plan.cycle exec.scene.time (need_by exec.plan.tasks.sporadics exec.scene (exec.scene.time + suc k + 1) (x - exec.plan.cycle)) (need_by exec.plan.tasks.sporadics (later exec).scene ((later exec).scene.time + k + 1) x) (omega (arith, more, same)) room (omega arith) (omega arith) in
                omega (arith, last, next)
          ]
    ]
  where
    fits : (k x cycle t need all : ℕ) → all ≤ need + cycle → (1 ≤ need → suc k + 1 + need ≤ x - cycle - t) → t + 1 + 2 * cycle < x → suc k ≤ cycle → k + 1 + all ≤ x - (t + 1)
    fits k x cycle t zero all more room far few = omega arith
    fits k x cycle t (suc m) all more room far few = omega (arith, room (omega arith))

-- the first soft job runs n slots, where it has so many left and they are free
pub soft-ahead : (n : ℕ) (exec : Executive) (s : SoftJob) (rest : List SoftJob) → IsPlan exec.plan → StandsForSome exec → exec.scene.soft ≡ s ∷ rest → n ≤ s.left → n ≤ exec.plan.cycle → IsFree exec n → ChoosesAhead (RanKey (SoftKey s.row)) n exec
soft-ahead zero exec s rest plan stands soft some few free = tt
soft-ahead (suc zero) exec s rest plan stands soft some few free =
    (soft-chosen exec plan stands s rest soft (may-from_free 1 exec (omega arith) free), tt)
soft-ahead (suc (suc n)) exec s rest plan stands soft some few free =
    let chosen = soft-chosen exec plan stands s rest soft (may-from_free (suc (suc n)) exec (omega arith) free) in
    let more = lt-ltb 1 s.left (omega arith) in
    let ran : SoftJob = record s { left = s.left - 1 } in
    let front = soft-later exec plan stands (RanKey (SoftKey s.row)) chosen ∙ soft-front_run exec s rest plan stands soft ∙ ap (λ b. cond b (ran ∷ rest) rest) more in (
      chosen,
      soft-ahead (suc n) (later exec) ran rest plan (StandsForSome-slot exec plan stands) front (omega arith) (omega arith) (free-later (suc n) exec s.row plan stands (s, rest, soft, refl, chosen) few free),
    )

-- it runs no more slots than it has
pub soft-runs_out : (n : ℕ) (exec : Executive) (s : SoftJob) (rest : List SoftJob) → IsPlan exec.plan → StandsForSome exec → ChoosesAhead (RanKey (SoftKey s.row)) n exec → exec.scene.soft ≡ s ∷ rest → s.left ≡ n → 1 ≤ n → RanKey (SoftKey s.row) ≡ choice_of (slots_later n exec) → ⊥
soft-runs_out zero exec s rest plan stands chooses soft left some chosen = absurd (omega arith)
soft-runs_out (suc zero) exec s rest plan stands chooses soft left some chosen =
    let last = le-ltb 1 s.left (omega arith) in
    let front = soft-later exec plan stands (RanKey (SoftKey s.row)) chooses.0 ∙ soft-front_run exec s rest plan stands soft ∙ ap (λ b. cond b (record s { left = s.left - 1 } ∷ rest) rest) last in
    let (first, at, named) = chosen-soft (later exec) (SoftKey s.row) plan (StandsForSome-slot exec plan stands) (sym chosen) refl in
    let row : s.row ≡ first.row = cc named in
    let rows = subst (λ ss. AreRising 0 (map (λ (j : SoftJob). j.row) ss)) soft (every_executive_is_kept exec plan stands).soft.rows in
    let among = Has-from_slice_get rest 0 first (sym (ap (λ ss. slice_get ss 0) front) ∙ at) in
    omega (arith, row, above-from_rising s.row (map (λ (j : SoftJob). j.row) rest) first.row rows.1 (Has-map (λ (j : SoftJob). j.row) rest first among))
soft-runs_out (suc (suc n)) exec s rest plan stands chooses soft left some chosen =
    let more = lt-ltb 1 s.left (omega arith) in
    let ran : SoftJob = record s { left = s.left - 1 } in
    let front = soft-later exec plan stands (RanKey (SoftKey s.row)) chooses.0 ∙ soft-front_run exec s rest plan stands soft ∙ ap (λ b. cond b (ran ∷ rest) rest) more in
    soft-runs_out (suc n) (later exec) ran rest plan (StandsForSome-slot exec plan stands) chooses.1 front (omega arith) (omega arith) chosen

-- a soft key that is chosen is that of the first soft job
pub soft-is_chosen : (row : ℕ) (exec : Executive) → IsPlan exec.plan → StandsForSome exec → RanKey (SoftKey row) ≡ choice_of exec → IsChosen exec (Soft row)
soft-is_chosen row exec plan stands chosen =
    let (first, at, named) = chosen-soft exec (SoftKey row) plan stands (sym chosen) refl in
    by_soft exec.scene.soft refl first at (cc named)
  where
    by_soft : (soft : List SoftJob) → exec.scene.soft ≡ soft → (first : SoftJob) → slice_get exec.scene.soft 0 ≡ Some first → row ≡ first.row → IsChosen exec (Soft row)
    by_soft [] same first at named =
        absurd (cc (sym (ap (λ ss. slice_get ss 0) same) ∙ at))
    by_soft (s ∷ rest) same first at named =
        let here : s ≡ first = cc (sym (ap (λ ss. slice_get ss 0) same) ∙ at) in
        (s, rest, same, named ∙ ap (λ (j : SoftJob). j.row) (sym here), chosen)

-- nor where after n of them a time is short
pub soft-held : (n row : ℕ) (exec : Executive) (x : ℕ) → IsPlan exec.plan → StandsForSome exec → ChoosesAhead (RanKey (SoftKey row)) n exec → exec.scene.time + n < x → x ≤ horizon exec.plan.cycle exec.scene.time → x - exec.scene.time ≤ n + need_by exec.plan.tasks.sporadics exec.scene (exec.scene.time + n + 1) x → RanKey (SoftKey row) ≡ choice_of (slots_later n exec) → ⊥
soft-held zero row exec x plan stands chooses after within short chosen =
    let from : exec.scene.time + 0 + 1 ≡ exec.scene.time + 1 = omega arith in
    let due = subst (λ r. x - exec.scene.time ≤ 0 + need_by exec.plan.tasks.sporadics exec.scene r x) from short in
    soft-not_chosen exec plan stands row (short-held exec plan stands x (omega arith) within (omega (arith, due))) chosen
soft-held (suc n) row exec x plan stands chooses after within short chosen =
    let next = time-later exec plan stands in
    let from : (later exec).scene.time + n + 1 ≡ exec.scene.time + suc n + 1 = omega (arith, next) in
    let same = need-later exec row ((later exec).scene.time + n + 1) (exec.scene.time + suc n + 1) x plan stands (soft-is_chosen row exec plan stands chooses.0) within from in
    soft-held n row (later exec) x plan (StandsForSome-slot exec plan stands) chooses.1 (omega (arith, next)) (omega (arith, further-later exec plan stands)) (omega (arith, same, next, short)) chosen
