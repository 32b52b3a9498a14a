-- No soft job waits through an idle slot.
use Rattle.std.proofs.Common.{◌≡◌, ℕ, ◌+◌, ◌-◌, ◌*◌, ◌/◌, Bool, true, false, not, cond, List, [], ◌∷◌, length, fold, Option, Some, None, refl, subst, arith}
use Rattle.std.specs.Prelude.{nat_lt}
use Rattle.std.specs.Option.{option_map_or}
use Rattle.std.specs.List.{range_with_len}
use Rattle.std.proofs.lemmas.Bool.{both_ways, not_from_false, le-ltb}
use Rattle.slot_core.specs.declared.jobs.Key.TheVariants.{Soft as SoftKey}
use Rattle.slot_core.specs.declared.jobs.SoftJob.{SoftJob}
use Rattle.slot_core.specs.declared.tasks.TaskSet.{TaskSet}
use Rattle.slot_core.specs.declared.events.Ran.{Ran}
use Rattle.slot_core.specs.declared.events.Ran.TheVariants.{Idle as RanIdle, Key as RanKey}
use Rattle.slot_core.specs.declared.events.What.TheVariants.{Idle}
use Rattle.slot_core.specs.Sets.Cycles.{cycle_of}
use Rattle.slot_core.specs.Sets.Ranges.{is_sound}
use Rattle.slot_core.specs.Runs.Histories.{History, time_of}
use Rattle.slot_core.specs.Runs.Scenes.{Scene, horizon, scene_of, unended, guaranteed_in, next_arrivals}
use Rattle.slot_core.specs.Runs.Demand.{need_by, is_overloaded}
use Rattle.slot_core.specs.Runs.Choice.{lower_of, first_soft, soft_may_run, earliest_ready, choice}
use Rattle.slot_core.specs.Claims.Safety.{after_slot, IsSafe}
use Rattle.slot_core.specs.Runs.Traces.{told_of_slot}
use Rattle.slot_facts.specs.Bounds.{NoSoftJobWaitsThroughAnIdleSlot}
use Rattle.slot_facts.proofs.Demand.OneSlot.{one_slot}
use Rattle.slot_facts.proofs.Histories.Unended.{unended_have_left}
use Rattle.slot_facts.proofs.Lists.Members.{Has-range_with_len_bounds}
use Rattle.slot_facts.proofs.Lists.Tests.{list_all-from_Has}
use Rattle.slot_facts.proofs.Offline.Jobs.{cycle-positive}
use Rattle.slot_facts.proofs.Legal.Bounds.{below_end}
use Rattle.slot_facts.proofs.Legal.Carried.{carried-legal}
use Rattle.slot_facts.proofs.Legal.Data.{legal-as_data}

-- of one or more soft jobs there is a first
first_soft-some : (best : SoftJob) (jobs : List SoftJob) → fold lower_of (Some best) jobs ≡ None → ⊥
first_soft-some best [] e = cc
first_soft-some best (j ∷ jobs) e =
    by_test (nat_lt j.row best.row) (first_soft-some j jobs) (first_soft-some best jobs) e
  where
    by_test : (b : Bool) → (fold lower_of (Some j) jobs ≡ None → ⊥) → (fold lower_of (Some best) jobs ≡ None → ⊥) → fold lower_of (cond b (Some j) (Some best)) jobs ≡ None → ⊥
    by_test true lower kept f = lower f
    by_test false lower kept f = kept f

none_waits : (jobs : List SoftJob) → first_soft jobs ≡ None → length jobs ≡ 0
none_waits [] e = refl
none_waits (j ∷ jobs) e = absurd (first_soft-some j jobs e)

-- what is told of a slot is idle where nothing runs
idle-ran : (ran : Ran) → told_of_slot ran ≡ Idle → ran ≡ RanIdle
idle-ran RanIdle e = refl
idle-ran (RanKey key) e = cc

-- where no guaranteed job is ready soft work may run
soft_may_run-idle : (set : TaskSet) (h : History) → is_sound set ≡ true → IsSafe set.sporadics (next_arrivals set.sporadics h) (unended h (guaranteed_in set (cycle_of set) (time_of h / cycle_of set + 3) h)) (time_of h) ((time_of h / cycle_of set + 3) * cycle_of set) → earliest_ready (scene_of set (cycle_of set) h) ≡ RanIdle → soft_may_run set.sporadics (cycle_of set) (scene_of set (cycle_of set) h) ≡ true
soft_may_run-idle set h sound safe idle =
    let t = time_of h in
    let cycle = cycle_of set in
    let scene = scene_of set cycle h in
    let end = horizon cycle t in
    let past = below_end t cycle (t / cycle + 3) (cycle-positive set sound) (omega arith) in
    let next = one_slot set.sporadics scene end (unended_have_left h (guaranteed_in set cycle (t / cycle + 3) h)) (omega (arith, past)) safe in
    let idles = subst (λ ran. IsSafe set.sporadics scene.nexts (after_slot ran scene.jobs) (t + 1) end) idle next in
    let test = λ (x : ℕ). not (is_overloaded set.sporadics scene 1 (t + 1) x) in
    list_all-from_Has test (range_with_len (t + 1) (end - t)) (λ x at.
    let within = Has-range_with_len_bounds (t + 1) (end - t) x at in
    let fits = idles.due x within.0 (omega (arith, within, past)) in
    not_from_false (is_overloaded set.sporadics scene 1 (t + 1) x) (le-ltb (x - t) (1 + need_by set.sporadics scene (t + 1) x) (omega (arith, fits, within))))

pub no_soft_job_waits_through_an_idle_slot : NoSoftJobWaitsThroughAnIdleSlot
no_soft_job_waits_through_an_idle_slot set h sound feasible legal idle =
    let cycle = cycle_of set in
    let scene = scene_of set cycle h in
    let carried = carried-legal set sound feasible (legal-as_data set cycle h legal) (time_of h / cycle + 3) (omega arith) in
    let may = soft_may_run-idle set h sound carried.safe in
    let ran = idle-ran (choice set.sporadics cycle scene) idle in
    by_first set scene (first_soft scene.soft) (soft_may_run set.sporadics cycle scene) refl refl may ran
  where
    by_first : (set : TaskSet) (scene : Scene) (o : Option SoftJob) (b : Bool) → first_soft scene.soft ≡ o → soft_may_run set.sporadics (cycle_of set) scene ≡ b → (earliest_ready scene ≡ RanIdle → soft_may_run set.sporadics (cycle_of set) scene ≡ true) → option_map_or (λ (s : SoftJob). cond b (RanKey (SoftKey s.row)) (earliest_ready scene)) o (earliest_ready scene) ≡ RanIdle → length scene.soft ≡ 0
    by_first set scene None b e f may ran = none_waits scene.soft e
    by_first set scene (Some s) true e f may ran = absurd (cc ran)
    by_first set scene (Some s) false e f may ran = absurd (both_ways (soft_may_run set.sporadics (cycle_of set) scene) f (may ran))
