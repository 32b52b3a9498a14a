-- Scenes that keep their bounds can be served, and so can every legal history, for ever, whatever legal pattern of
-- arrivals follows.
use Rattle.std.proofs.Common.{◌≡◌, ℕ, ◌+◌, ◌-◌, ◌*◌, ◌/◌, ◌<◌, ◌≤◌, true, List, [], ◌++◌, append_assoc, sym, subst, arith}
use Rattle.std.proofs.Math.Nat.{mul-le-mul_right}
use Rattle.std.specs.Prelude.{All}
use Rattle.std.proofs.lemmas.List.Elements.{recursion_from_All, All-weaker}
use Rattle.slot_core.specs.declared.jobs.Job.{Job}
use Rattle.slot_core.specs.declared.tasks.TaskSet.{TaskSet}
use Rattle.slot_core.specs.Offline.Keys.{row_of}
use Rattle.slot_core.specs.Sets.Cycles.{cycle_of}
use Rattle.slot_core.specs.Sets.Ranges.{is_sound}
use Rattle.slot_core.specs.Feasibility.Sporadics.{sporadic_demand, IsLegalPattern}
use Rattle.slot_core.specs.Runs.Histories.{History, time_of, last_row}
use Rattle.slot_core.specs.Runs.Scenes.{Scene, scene_in, next_arrivals}
use Rattle.slot_core.specs.Keeping.Kept.{KeepsBounds}
use Rattle.slot_core.specs.Feasibility.Feasible.{IsFeasible}
use Rattle.slot_core.specs.Runs.Demand.{work_by, work_from}
use Rattle.slot_core.specs.Claims.Schedules.{HasSchedule}
use Rattle.slot_core.specs.Claims.Futures.{pattern_jobs}
use Rattle.slot_facts.specs.Bounds.{HistoryIsKept}
use Rattle.slot_facts.specs.Offers.{EveryLegalHistoryCanBeServed}
use Rattle.slot_facts.proofs.Lists.Members.{Contains-from_Has, AllByRecursion-at_Has}
use Rattle.slot_facts.proofs.Offline.Jobs.{cycle-positive}
use Rattle.slot_facts.proofs.Bounds.Safe.{kept_scenes_are_safe}
use Rattle.slot_facts.proofs.Scheduling.Extras.{AreExtra, AreExtra-pattern, separated-from_sound}
use Rattle.slot_facts.proofs.Scheduling.Beside.{AreOwn, served_beside, work_by-both, work_from-both}
use Rattle.slot_facts.proofs.Patterns.NeedNoMore.{patterns_need_no_more}
use Rattle.slot_facts.proofs.Legal.Kept.{every_legal_history_is_kept}

-- the time lies before the end of any number of cycles past its horizon
time-le_end : (time cycle cycles : ℕ) → 1 ≤ cycle → time / cycle + 3 ≤ cycles → time ≤ cycles * cycle
time-le_end time cycle cycles some far =
    let last : (time / cycle + 3) * cycle ≤ cycles * cycle = mul-le-mul_right cycle far in
    omega arith

-- where extra jobs have come and fit beside what is needed, a scene that keeps its bounds can be served with them
-- and the jobs of any legal pattern
module _ (set : TaskSet) (cycles row : ℕ) (scene : Scene) (sound : is_sound set ≡ true) (feasible : IsFeasible set (cycle_of set)) (bounds : KeepsBounds set (cycle_of set) cycles scene) (rows : All (λ (j : Job). row_of j.key < row) scene.jobs) where
  own : AreOwn set cycles row scene.jobs
  own = record {
    planned = bounds.planned;
    apart = bounds.apart;
    rows = λ job at. AllByRecursion-at_Has (λ (j : Job). row_of j.key < row) scene.jobs job (recursion_from_All _ scene.jobs rows) at;
    some = λ job at. (bounds.left job (Contains-from_Has scene.jobs job at)).1;
  }

  pub served_with : (first : ℕ) (extra : List Job) (pattern : List (ℕ × ℕ)) → scene.time / cycle_of set + 3 ≤ cycles → IsLegalPattern set.sporadics scene.nexts scene.time pattern → AreExtra row (extra ++ pattern_jobs set.sporadics first pattern) → ((x : ℕ) → scene.time ≤ x → x ≤ cycles * cycle_of set → work_by scene.jobs x + work_by extra x + sporadic_demand set.sporadics scene.nexts scene.time x ≤ x - scene.time) → ((a x : ℕ) → scene.time < a → work_from extra a x ≤ 0) → HasSchedule set (scene.jobs ++ extra ++ pattern_jobs set.sporadics first pattern) scene.time (cycles * cycle_of set)
  served_with first extra pattern far legal extras room come =
      let end = cycles * cycle_of set in
      let arrivals = pattern_jobs set.sporadics first pattern in
      let most = λ (x : ℕ). patterns_need_no_more set.sporadics scene.nexts scene.time first x pattern (separated-from_sound set sound) legal in
      let safe = kept_scenes_are_safe set cycles scene sound feasible bounds in
      let served = served_beside set cycles row scene.time end scene.jobs (extra ++ arrivals) sound own extras (time-le_end scene.time (cycle_of set) cycles (cycle-positive set sound) far)
      (λ x low high. omega (arith, room x low high, (most x).0, work_by-both extra arrivals x))
      (λ a x low middle high. omega (arith, safe.to_come a x low middle high, (most x).1 a, come a x low, work_from-both extra arrivals a x)) in
      subst (λ js. HasSchedule set js scene.time end) (sym (append_assoc scene.jobs extra arrivals)) served

-- the jobs of a history stand in rows up to its last
pub rows-below : (set : TaskSet) (cycles : ℕ) (h : History) → HistoryIsKept set cycles h → All (λ (j : Job). row_of j.key < last_row h + 1) (scene_in set (cycle_of set) cycles h).jobs
rows-below set cycles h kept =
    All-weaker
    (λ (j : Job). row_of j.key ≤ last_row h)
    (λ (j : Job). row_of j.key < last_row h + 1)
    (λ j le. omega arith)
    (scene_in set (cycle_of set) cycles h).jobs
    kept.rows.jobs

-- so every legal history can be served
pub every_legal_history_can_be_served : EveryLegalHistoryCanBeServed
every_legal_history_can_be_served set h cycles sound feasible legal far = λ pattern arrivals.
    let kept = every_legal_history_is_kept set h cycles sound feasible legal far in
    let row = last_row h + 1 in
    let extras = AreExtra-pattern set (next_arrivals set.sporadics h) (time_of h) row row pattern sound (omega arith) arrivals in
    served_with set cycles row (scene_in set (cycle_of set) cycles h) sound feasible kept.bounds (rows-below set cycles h kept) row [] pattern far arrivals extras (λ x low high. omega (arith, kept.safe.due x low high)) (λ a x low. omega arith)
