-- Soft work is held back exactly where its slot is needed.
use Rattle.std.proofs.Common.{◌≡◌, ℕ, ◌+◌, ◌-◌, ◌/◌, ◌<◌, ◌≤◌, Bool, true, false, not, cond, List, [], ◌∷◌, ◌++◌, length, fold, Option, Some, None, refl, sym, ap, ◌∙◌, subst, arith}
use Rattle.std.specs.Prelude.{nat_le, nat_lt}
use Rattle.std.specs.Option.{option_map_or}
use Rattle.std.specs.List.{range_with_len}
use Rattle.std.proofs.lemmas.Bool.{both_ways, not_from_false, not-true, le-ltb, ltb-false}
use Rattle.std.proofs.lemmas.List.{append-nil}
use Rattle.std.proofs.lemmas.List.Elements.{recursion_from_All, All-from_recursion}
use Rattle.slot_core.specs.declared.jobs.Job.{Job}
use Rattle.slot_core.specs.declared.jobs.SoftJob.{SoftJob}
use Rattle.slot_core.specs.declared.jobs.Key.TheVariants.{Soft as SoftKey}
use Rattle.slot_core.specs.declared.tasks.Sporadic.{Sporadic as SporadicTask}
use Rattle.slot_core.specs.declared.tasks.TaskSet.{TaskSet}
use Rattle.slot_core.specs.declared.events.Ran.{Ran}
use Rattle.slot_core.specs.declared.events.Ran.TheVariants.{Idle as RanIdle, Key as RanKey}
use Rattle.slot_core.specs.declared.events.What.TheVariants.{Run}
use Rattle.slot_core.specs.Offline.Keys.{row_of, is_soft}
use Rattle.slot_core.specs.Sets.Cycles.{cycle_of}
use Rattle.slot_core.specs.Sets.Ranges.{is_sound}
use Rattle.slot_core.specs.Feasibility.Feasible.{IsFeasible}
use Rattle.slot_core.specs.Feasibility.Sporadics.{densest_pattern, IsLegalPattern}
use Rattle.slot_core.specs.Runs.Histories.{History, time_of, last_row}
use Rattle.slot_core.specs.Runs.Scenes.{Scene, horizon, scene_of, waiting_soft, next_arrivals}
use Rattle.slot_core.specs.Runs.Demand.{need_by, is_overloaded}
use Rattle.slot_core.specs.Runs.Choice.{earliest, ready, lower_of, first_soft, soft_may_run, earliest_ready, choice}
use Rattle.slot_core.specs.Runs.Traces.{told_of_slot, IsLegal}
use Rattle.slot_core.specs.Claims.Futures.{pattern_jobs}
use Rattle.slot_facts.specs.Bounds.{HistoryIsKept}
use Rattle.slot_facts.proofs.Choice.Earliest.{IsEarliest-from_earliest}
use Rattle.slot_facts.proofs.Lists.Members.{Has, Contains-from_Has, Has-filter_passes, Has-range_with_len, Has-range_with_len_bounds, passes_from_list_all, AllByRecursion-at_Has}
use Rattle.slot_facts.proofs.Lists.Tests.{list_all-from_Has}
use Rattle.slot_facts.proofs.Offline.Jobs.{cycle-positive}
use Rattle.slot_facts.proofs.Legal.Bounds.{below_end}
use Rattle.slot_facts.proofs.Legal.Kept.{every_legal_history_is_kept}
use Rattle.slot_facts.proofs.Offers.Room.{densest-legal}
use Rattle.slot_facts.proofs.Offers.Served.{rows-below}
use Rattle.slot_facts.proofs.Patterns.Densest.{the_densest_pattern_needs_all}
use Rattle.slot_facts.proofs.Patterns.NeedNoMore.{patterns_need_no_more}
use Rattle.slot_facts.proofs.Scheduling.Beside.{AreOwn, served_beside, closed_beside}
use Rattle.slot_facts.proofs.Scheduling.Extras.{AreExtra-pattern, separated-from_sound}
use Rattle.service_laws.specs.SoftWork.{with_arrivals, HasScheduleNext, SlotCanBeSpared, ShowsNeed, densest_next, RunsSoftWork, SoftWorkIsHeldBackExactly}

-- of one or more soft jobs there is a first
first_from : (best : SoftJob) (jobs : List SoftJob) → (s : SoftJob) × (fold lower_of (Some best) jobs ≡ Some s)
first_from best [] = (best, refl)
first_from best (j ∷ jobs) = by_test (nat_lt j.row best.row) (first_from j jobs) (first_from best jobs)
  where
    by_test : (b : Bool) → ((s : SoftJob) × (fold lower_of (Some j) jobs ≡ Some s)) → ((s : SoftJob) × (fold lower_of (Some best) jobs ≡ Some s)) → (s : SoftJob) × (fold lower_of (cond b (Some j) (Some best)) jobs ≡ Some s)
    by_test true lower kept = lower
    by_test false lower kept = kept

first_soft-waits : (jobs : List SoftJob) → 1 ≤ length jobs → (s : SoftJob) × (first_soft jobs ≡ Some s)
first_soft-waits [] some = absurd (omega (arith, some))
first_soft-waits (j ∷ jobs) some = first_from j jobs

-- what is told of a slot names what ran
ran-from_told : (ran : Ran) (row : ℕ) → told_of_slot ran ≡ Run (SoftKey row) → ran ≡ RanKey (SoftKey row)
ran-from_told RanIdle row e = absurd (cc e)
ran-from_told (RanKey key) row e = cc e

-- the earliest ready job is one of the scene
earliest_ready-listed : (scene : Scene) (row : ℕ) → earliest_ready scene ≡ RanKey (SoftKey row) → (job : Job) × Has scene.jobs job × (job.key ≡ SoftKey row)
earliest_ready-listed scene row e = by_first (earliest (ready scene.time scene.jobs)) refl e
  where
    by_first : (o : Option Job) → earliest (ready scene.time scene.jobs) ≡ o → option_map_or (λ (j : Job). RanKey j.key) o RanIdle ≡ RanKey (SoftKey row) → (job : Job) × Has scene.jobs job × (job.key ≡ SoftKey row)
    by_first None at is = absurd (cc is)
    by_first (Some job) at is =
        let first = IsEarliest-from_earliest (ready scene.time scene.jobs) job at in
        let among = Has-filter_passes (λ (j : Job). nat_le j.est scene.time) scene.jobs job first.among in
        (job, among.0, cc is)

-- no arrivals are legal, from whatever time
nothing_is_legal : (sporadics : List SporadicTask) (nexts : List ℕ) (r : ℕ) → IsLegalPattern sporadics nexts r []
nothing_is_legal sporadics nexts r =
    record { named = All-from_recursion _ [] tt; spaced = λ index s at. tt }

module _ (set : TaskSet) (h : History) (sound : is_sound set ≡ true) (feasible : IsFeasible set (cycle_of set)) (legal : IsLegal set (cycle_of set) h) where
  abbrev t : ℕ
  t = time_of h

  abbrev cycle : ℕ
  cycle = cycle_of set

  abbrev cycles : ℕ
  cycles = t / cycle + 3

  abbrev end : ℕ
  end = horizon cycle t

  abbrev row : ℕ
  row = last_row h + 1

  abbrev scene : Scene
  scene = scene_of set cycle h

  abbrev sporadics : List SporadicTask
  sporadics = set.sporadics

  kept : HistoryIsKept set cycles h
  kept = every_legal_history_is_kept set h cycles sound feasible legal (omega arith)

  -- the next slot lies before the horizon
  next_slot : t + 1 ≤ end
  next_slot = omega (arith, below_end t cycle cycles (cycle-positive set sound) (omega arith))

  own : AreOwn set cycles row scene.jobs
  own = record {
    planned = kept.bounds.planned;
    apart = kept.bounds.apart;
    rows = λ job at. AllByRecursion-at_Has (λ (j : Job). row_of j.key < row) scene.jobs job (recursion_from_All _ scene.jobs (rows-below set cycles h kept)) at;
    some = λ job at. (kept.bounds.left job (Contains-from_Has scene.jobs job at)).1;
  }

  -- soft work may take the slot exactly where at each later time one slot more fits
  abbrev Fits : Type 0
  Fits = (x : ℕ) → t + 1 ≤ x → x ≤ end → 1 + need_by sporadics scene (t + 1) x ≤ x - t

  fits-from_may : soft_may_run sporadics cycle scene ≡ true → Fits
  fits-from_may may x low high =
      let test = λ (y : ℕ). not (is_overloaded sporadics scene 1 (t + 1) y) in
      let passes = passes_from_list_all test (range_with_len (t + 1) (end - t)) x may (Has-range_with_len (t + 1) (end - t) x low (omega arith)) in
      ltb-false (x - t) (1 + need_by sporadics scene (t + 1) x) (not-true (is_overloaded sporadics scene 1 (t + 1) x) passes)

  may-from_fits : Fits → soft_may_run sporadics cycle scene ≡ true
  may-from_fits fits =
      list_all-from_Has (λ (y : ℕ). not (is_overloaded sporadics scene 1 (t + 1) y)) (range_with_len (t + 1) (end - t)) (λ x at.
      let within = Has-range_with_len_bounds (t + 1) (end - t) x at in
      not_from_false (is_overloaded sporadics scene 1 (t + 1) x) (le-ltb (x - t) (1 + need_by sporadics scene (t + 1) x) (fits x within.0 (omega (arith, within, next_slot)))))

  -- then the slot can be spared
  spared-from_fits : Fits → SlotCanBeSpared set cycle h
  spared-from_fits fits = λ pattern arrivals.
      let most = λ (x : ℕ). patterns_need_no_more sporadics scene.nexts (t + 1) row x pattern (separated-from_sound set sound) arrivals in
      served_beside set cycles row (t + 1) end scene.jobs (pattern_jobs sporadics row pattern) sound own (AreExtra-pattern set scene.nexts (t + 1) row row pattern sound (omega arith) arrivals) next_slot
      (λ x low high. omega (arith, fits x low high, (most x).0))
      (λ a x low middle high. omega (arith, kept.safe.to_come a x (omega arith) middle high, (most x).1 a))

  -- and where the densest arrivals leave a schedule, one slot more fits
  fits-from_densest : HasScheduleNext set cycle h (with_arrivals set cycle h (densest_next set cycle h)) → Fits
  fits-from_densest schedule x low high =
      let pattern = densest_next set cycle h in
      let densest = the_densest_pattern_needs_all sporadics scene.nexts (t + 1) row x end (separated-from_sound set sound) high in
      let extras = AreExtra-pattern set scene.nexts (t + 1) row row pattern sound (omega arith) densest.0 in
      let fits = closed_beside set cycles row (t + 1) x scene.jobs (pattern_jobs sporadics row pattern) sound kept.bounds.planned kept.bounds.waiting extras high schedule in
      omega (arith, fits, densest.1, low)

  -- no guaranteed job has the key of soft work
  not_soft : (soft : ℕ) → earliest_ready scene ≡ RanKey (SoftKey soft) → ⊥
  not_soft soft e =
      let (job, at, named) = earliest_ready-listed scene soft e in
      let come = kept.bounds.come job (Contains-from_Has scene.jobs job at) (rw named refl) in
      both_ways (is_soft job.key) come.0 (rw named refl)

  -- soft work runs only where it may
  may-from_runs : RunsSoftWork set cycle h → soft_may_run sporadics cycle scene ≡ true
  may-from_runs (soft, told) =
      by_first (first_soft scene.soft) (soft_may_run sporadics cycle scene) (ran-from_told (choice sporadics cycle scene) soft told)
    where
      by_first : (o : Option SoftJob) (b : Bool) → option_map_or (λ (s : SoftJob). cond b (RanKey (SoftKey s.row)) (earliest_ready scene)) o (earliest_ready scene) ≡ RanKey (SoftKey soft) → b ≡ true
      by_first None b ran = absurd (not_soft soft ran)
      by_first (Some s) true ran = refl
      by_first (Some s) false ran = absurd (not_soft soft ran)

  module _ (waits : 1 ≤ length (waiting_soft h)) where
    -- and where it may, it does
    runs-from_may : soft_may_run sporadics cycle scene ≡ true → RunsSoftWork set cycle h
    runs-from_may may =
        let (s, first) = first_soft-waits (waiting_soft h) waits in
        (s.row, rw (first, may) refl)

    -- held back, the densest arrivals show that the slot is needed
    need-from_held : ¬ (RunsSoftWork set cycle h) → ShowsNeed set cycle h (densest_next set cycle h)
    need-from_held held =
        record {
          legal = densest-legal set scene.nexts (t + 1) end sound;
          none = λ schedule. held (runs-from_may (may-from_fits (fits-from_densest schedule)));
        }

    -- what runs can be spared
    spared-from_runs : RunsSoftWork set cycle h → SlotCanBeSpared set cycle h
    spared-from_runs runs = spared-from_fits (fits-from_may (may-from_runs runs))

    -- without sporadic tasks the densest arrivals are none
    densest-none : sporadics ≡ [] → with_arrivals set cycle h (densest_next set cycle h) ≡ scene.jobs
    densest-none bare =
        let none : densest_next set cycle h ≡ [] = ap (λ (ss : List SporadicTask). densest_pattern 0 ss scene.nexts (t + 1) end) bare in
        ap (λ (p : List (ℕ × ℕ)). scene.jobs ++ pattern_jobs sporadics row p) none ∙ append-nil scene.jobs

pub soft_work_is_held_back_exactly : SoftWorkIsHeldBackExactly
soft_work_is_held_back_exactly set h sound feasible legal waits =
    let cycle = cycle_of set in
    let jobs = (scene_of set cycle h).jobs in
    let nexts = next_arrivals set.sporadics h in
    let spared = spared-from_runs set h sound feasible legal waits in
    let needed = need-from_held set h sound feasible legal waits in
    record {
      runs = (
        spared,
        λ can. runs-from_may set h sound feasible legal waits (may-from_fits set h sound feasible legal (fits-from_densest set h sound feasible legal (can (densest_next set cycle h) (densest-legal set nexts (time_of h + 1) (horizon cycle (time_of h)) sound)))),
      );
      held = (
        λ held. (densest_next set cycle h, needed held),
        λ need runs. need.1.none (spared runs need.0 need.1.legal),
      );
      densest = needed;
      alone = λ bare. (
        λ held schedule. (needed held).none (subst (HasScheduleNext set cycle h) (sym (densest-none set h sound feasible legal waits bare)) schedule),
        λ none runs. none (subst (HasScheduleNext set cycle h) (append-nil jobs) (spared runs [] (nothing_is_legal set.sporadics nexts (time_of h + 1)))),
      );
    }
