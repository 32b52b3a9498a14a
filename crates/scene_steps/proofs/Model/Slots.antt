-- A slot: what ran in it, the time one later, and the next cycle where one starts.
use Rattle.std.proofs.Common.{◌≡◌, ℕ, suc, ◌+◌, ◌*◌, ◌/◌, ◌%◌, ◌≤◌, true, ◌==◌, List, ◌∷◌, ◌++◌, map, add-one, refl, sym, ap, ◌∙◌, subst, inl, inr, arith}
use Rattle.std.specs.Prelude.{sum_by}
use Rattle.std.proofs.lemmas.Bool.{cond-true, cond-false, eq-eqb, ne_eqb}
use Rattle.std.proofs.lemmas.List.Sums.{sum_by-append}
use Rattle.slot_core.specs.declared.jobs.Job.{Job}
use Rattle.slot_core.specs.declared.tasks.TaskSet.{TaskSet}
use Rattle.slot_core.specs.declared.events.Ran.{Ran}
use Rattle.slot_core.specs.declared.events.Ran.TheVariants.{Idle as RanIdle, Key as RanKey}
use Rattle.slot_core.specs.Sets.Cycles.{cycle_of}
use Rattle.slot_core.specs.Sets.Ranges.{is_sound}
use Rattle.slot_core.specs.Offline.OfflineJobs.{cycle_jobs, offline_jobs}
use Rattle.slot_core.specs.Runs.Points.{is_point}
use Rattle.slot_core.specs.Runs.Histories.{History, time_of, firm_jobs, sporadic_jobs}
use Rattle.slot_core.specs.Claims.Safety.{after_slot}
use Rattle.slot_core.specs.Runs.Scenes.{Scene, horizon, guaranteed_in, unended, remaining, waiting_soft, next_arrivals, scene_of}
use Rattle.slot_core.specs.Runs.Matches.{HaveSameItems, IsSameScene}
use Rattle.slot_core.specs.Runs.Traces.{told_of_slot}
use Rattle.slot_facts.proofs.Histories.Unended.{unended-fresh, unended-append, unended-after_slot}
use Rattle.slot_facts.proofs.Legal.Bounds.{below_end}
use Rattle.slot_facts.proofs.Legal.Data.{Slots, Entries}
use Rattle.slot_facts.proofs.Legal.Owned.{IsOwned, not_run-early, not_freed}
use Rattle.slot_facts.proofs.Legal.Rows.{entries-before, firm-come, sporadic-come}
use Rattle.slot_facts.proofs.Lists.Members.{Has, Contains-from_Has, Has-append_right, Has-map_cases, Has-append_cases}
use Rattle.slot_facts.proofs.Offline.Cycles.{IsOfCycle-from_cycle}
use Rattle.slot_facts.proofs.Offline.Jobs.{cycle-positive}
use Rattle.slot_facts.proofs.Plans.Horizons.{turn, inside, NextSlot, next_slot, past_now}
use Rattle.slot_facts.proofs.Plans.SetPoints.{planned}
use Rattle.slot_facts.proofs.Replays.Entries.{time_of-ran}
use Rattle.scene_steps.specs.Steps.{one_slot_later, with_cycle, with_next_cycle, after_ran}
use Rattle.scene_steps.proofs.Model.Points.{points_to_horizon, points_to_horizon-inside, points_to_horizon-turn}
use Rattle.scene_steps.proofs.Model.SoftJobs.{waiting-slot}

-- a slot changes the guaranteed jobs that have not ended
guaranteed-slot : (set : TaskSet) (cycle n : ℕ) (ran : Ran) (h : History) → after_slot ran (unended h (guaranteed_in set cycle n h)) ≡ unended (told_of_slot ran ∷ h) (guaranteed_in set cycle n (told_of_slot ran ∷ h))
guaranteed-slot set cycle n RanIdle h = refl
guaranteed-slot set cycle n (RanKey key) h = sym (unended-after_slot (RanKey key) h (guaranteed_in set cycle n h))

-- the jobs of one cycle more, none of which has run or was ended, come beside those that have not ended
guaranteed-more : (set : TaskSet) (cycle n : ℕ) (h : History) → unended h (cycle_jobs set cycle n) ≡ cycle_jobs set cycle n → HaveSameItems (unended h (guaranteed_in set cycle n h) ++ cycle_jobs set cycle n) (unended h (guaranteed_in set cycle (suc n) h))
guaranteed-more set cycle n h fresh f =
    let offline = offline_jobs set cycle n in
    let jobs = cycle_jobs set cycle n in
    let firm = firm_jobs h in
    let sporadic = sporadic_jobs set.sporadics h in
    let sum = λ (js : List Job). sum_by f (unended h js) in
    let split = λ (xs ys : List Job). ap (sum_by f) (unended-append h xs ys) ∙ sum_by-append f (unended h xs) (unended h ys) in
    let new : sum jobs ≡ sum_by f jobs = ap (sum_by f) fresh in
    omega (
      arith,
      sum_by-append f (unended h (offline ++ firm ++ sporadic)) jobs,
      split (offline ++ firm) sporadic,
      split offline firm,
      split ((offline ++ jobs) ++ firm) sporadic,
      split (offline ++ jobs) firm,
      split offline jobs,
    )

-- the jobs of a cycle that starts now or later have all their slots left
cycle-fresh : {S : Slots} (set : TaskSet) (n : ℕ) (h : History) → is_sound set ≡ true → Entries S set (cycle_of set) h → IsOwned set (suc n) h → time_of h ≤ n * cycle_of set → unended h (cycle_jobs set (cycle_of set) n) ≡ cycle_jobs set (cycle_of set) n
cycle-fresh set n h sound told owned early =
    let jobs = cycle_jobs set (cycle_of set) n in
    unended-fresh h jobs λ job at.
    let own = IsOfCycle-from_cycle set n job sound (Contains-from_Has jobs job at) in
    let listed = Has-append_right (offline_jobs set (cycle_of set) n) jobs job at in
    let none = not_run-early set (suc n) sound h job told owned listed (omega (arith, own.starts)) in
    record {
      none = none;
      kept = not_freed set (suc n) sound h job told owned listed none;
      some = own.some;
      whole = own.whole;
    }

-- the deadlines of the jobs that came lie up to the horizon
own-near : {S : Slots} (set : TaskSet) (h : History) (x : ℕ) → is_sound set ≡ true → Entries S set (cycle_of set) h → Has (map (λ (j : Job). j.dl) (firm_jobs h ++ sporadic_jobs set.sporadics h)) x → x ≤ horizon (cycle_of set) (time_of h)
own-near set h x sound told at =
    let t = time_of h in
    let cycle = cycle_of set in
    let past = below_end t cycle (t / cycle + 3) (cycle-positive set sound) (omega arith) in
    let m = Has-map_cases (λ (j : Job). j.dl) (firm_jobs h ++ sporadic_jobs set.sporadics h) x at in
    elim (Has-append_cases (firm_jobs h) (sporadic_jobs set.sporadics h) m.0 m.1) [
      | inl a ↦ omega (arith, m.2, (firm-come set cycle h m.0 told a).due)
      | inr b ↦ omega (arith, m.2, (sporadic-come set h m.0 sound told b).due)
    ]

module _ (set : TaskSet) (ran : Ran) (h : History) where
  -- the cycle of the set
  abbrev cycle : ℕ
  cycle = cycle_of set

  -- the time before the slot
  abbrev t : ℕ
  t = time_of h

  -- the history after it
  abbrev after : History
  after = told_of_slot ran ∷ h

  -- the deadlines of the jobs that came
  abbrev own : List ℕ
  own = map (λ (j : Job). j.dl) (firm_jobs h ++ sporadic_jobs set.sporadics h)

  -- the scene after a slot, with the time that is one later
  abbrev later : Scene
  later = record {
    time = suc t;
    jobs = unended after (guaranteed_in set cycle (suc t / cycle + 3) after);
    nexts = next_arrivals set.sporadics h;
    soft = waiting_soft after;
    points = points_to_horizon (is_point cycle (planned set) own) cycle (suc t);
  }

  -- where the next slot lies in the same cycle, the scene one slot later is that one
  slot-inside : is_sound set ≡ true → suc t / cycle ≡ t / cycle → IsSameScene (one_slot_later ran (scene_of set cycle h)) later
  slot-inside sound same_cycle =
      let jobs : after_slot ran (remaining set cycle h) ≡ later.jobs = guaranteed-slot set cycle (t / cycle + 3) ran h ∙ ap (λ d. unended after (guaranteed_in set cycle (d + 3) after)) (sym same_cycle) in
      record {
        time = add-one t;
        jobs = λ f. ap (sum_by f) jobs;
        nexts = refl;
        soft = waiting-slot ran h;
        points = points_to_horizon-inside (is_point cycle (planned set) own) cycle t (cycle-positive set sound) same_cycle;
      }

  -- where it starts a cycle, so is the scene one slot later with the jobs and the points of the further cycle
  slot-turn : {S : Slots} (n : ℕ) → is_sound set ≡ true → Entries S set cycle h → suc t / cycle ≡ suc (t / cycle) → n ≡ t / cycle + 3 → unended after (cycle_jobs set cycle n) ≡ cycle_jobs set cycle n → IsSameScene (with_cycle set cycle n (one_slot_later ran (scene_of set cycle h))) later
  slot-turn n sound told next_cycle is fresh =
      let old : after_slot ran (remaining set cycle h) ≡ unended after (guaranteed_in set cycle n after) = guaranteed-slot set cycle (t / cycle + 3) ran h ∙ ap (λ m. unended after (guaranteed_in set cycle m after)) (sym is) in
      let more : suc n ≡ suc t / cycle + 3 = omega arith in
      record {
        time = add-one t;
        jobs = λ f.
            ap (λ js. sum_by f (js ++ cycle_jobs set cycle n)) old
            ∙ guaranteed-more set cycle n after fresh f
            ∙ ap (λ m. sum_by f (unended after (guaranteed_in set cycle m after))) more;
        nexts = refl;
        soft = waiting-slot ran h;
        points = points_to_horizon-turn cycle (planned set) own t n (cycle-positive set sound) (λ x at. own-near set h x sound told at) next_cycle is;
      }

-- it is the scene of the history after the slot
later-slot : (set : TaskSet) (ran : Ran) (h : History) → later set ran h ≡ scene_of set (cycle_of set) (told_of_slot ran ∷ h)
later-slot set RanIdle h = refl
later-slot set (RanKey key) h = refl

-- the third cycle from a time on comes in where the time is the start of a cycle
with_next_cycle-turn : (set : TaskSet) (cycle n : ℕ) (scene : Scene) → scene.time % cycle ≡ 0 → scene.time / cycle + 2 ≡ n → with_next_cycle set cycle scene ≡ with_cycle set cycle n scene
with_next_cycle-turn set cycle n scene even is =
    cond-true (scene.time % cycle == 0) (with_cycle set cycle (scene.time / cycle + 2) scene) scene (eq-eqb (scene.time % cycle) 0 even) ∙ ap (λ m. with_cycle set cycle m scene) is

-- and elsewhere no cycle does
with_next_cycle-inside : (set : TaskSet) (cycle : ℕ) (scene : Scene) → (scene.time % cycle ≡ 0 → ⊥) → with_next_cycle set cycle scene ≡ scene
with_next_cycle-inside set cycle scene odd =
    cond-false (scene.time % cycle == 0) (with_cycle set cycle (scene.time / cycle + 2) scene) scene (ne_eqb (scene.time % cycle) 0 odd)

-- so a slot changes the scene by its step
pub slot-follows : {S : Slots} (set : TaskSet) (ran : Ran) (h : History) → is_sound set ≡ true → Entries S set (cycle_of set) (told_of_slot ran ∷ h) → IsOwned set (time_of (told_of_slot ran ∷ h) / cycle_of set + 3) (told_of_slot ran ∷ h) → IsSameScene (after_ran set (cycle_of set) ran (scene_of set (cycle_of set) h)) (scene_of set (cycle_of set) (told_of_slot ran ∷ h))
slot-follows set ran h sound told owned =
    subst
    (IsSameScene (after_ran set (cycle_of set) ran (scene_of set (cycle_of set) h)))
    (later-slot set ran h)
    (by_slot (next_slot (time_of h) (cycle_of set) (cycle-positive set sound)))
  where
    next : Scene
    next = one_slot_later ran (scene_of set (cycle_of set) h)

    by_slot : NextSlot (time_of h) (cycle_of set) → IsSameScene (with_next_cycle set (cycle_of set) next) (later set ran h)
    by_slot (inside odd same_cycle) =
        let stays = with_next_cycle-inside set (cycle_of set) next (λ e. odd (ap (λ n. n % cycle_of set) (sym (add-one (time_of h))) ∙ e)) in
        subst (λ s. IsSameScene s (later set ran h)) (sym stays) (slot-inside set ran h sound same_cycle)
    by_slot (turn even next_cycle start) =
        let cycle = cycle_of set in
        let t = time_of h in
        let n = t / cycle + 3 in
        let time = time_of-ran ran h in
        let number : (t + 1) / cycle + 2 ≡ n = ap (λ u. u / cycle + 2) (add-one t) ∙ omega arith in
        let comes = with_next_cycle-turn set cycle n next (ap (λ u. u % cycle) (add-one t) ∙ even) number in
        let last : time_of (told_of_slot ran ∷ h) / cycle + 3 ≡ suc n = rw time (omega arith) in
        let fresh = cycle-fresh set n (told_of_slot ran ∷ h) sound told (subst (λ m. IsOwned set m (told_of_slot ran ∷ h)) last owned) (omega (arith, past_now t cycle (cycle-positive set sound))) in
        subst (λ s. IsSameScene s (later set ran h)) (sym comes) (slot-turn set ran h n sound (entries-before told) next_cycle refl fresh)
