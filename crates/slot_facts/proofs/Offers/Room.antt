-- Room for an offer gives a schedule, and is exact.
use Rattle.std.proofs.Common.{◌≡◌, ℕ, ◌+◌, ◌-◌, ◌/◌, ◌<◌, ◌≤◌, true, cond, ◌&&◌, List, [], ◌∷◌, ◌++◌, append_assoc, refl, subst, inl, inr, arith}
use Rattle.std.specs.Prelude.{nat_le, All}
use Rattle.std.proofs.lemmas.Bool.{cases_lt}
use Rattle.std.proofs.lemmas.Bool.Decides.{nat_tests}
use Rattle.std.proofs.lemmas.List.Sums.{sum_by-cons}
use Rattle.slot_core.specs.declared.jobs.Job.{Job}
use Rattle.slot_core.specs.declared.tasks.TaskSet.{TaskSet}
use Rattle.slot_core.specs.Sets.Cycles.{cycle_of}
use Rattle.slot_core.specs.Sets.Ranges.{is_sound}
use Rattle.slot_core.specs.Feasibility.Feasible.{IsFeasible}
use Rattle.slot_core.specs.Feasibility.Sporadics.{densest_pattern, IsLegalPattern}
use Rattle.slot_core.specs.Runs.Histories.{History, time_of, last_row, offered_job}
use Rattle.slot_core.specs.Offline.Keys.{row_of}
use Rattle.slot_core.specs.Keeping.Kept.{KeepsBounds}
use Rattle.slot_core.specs.Runs.Scenes.{Scene, horizon, scene_of, next_arrivals}
use Rattle.slot_core.specs.Runs.Demand.{work_by, work_from, need_by, HasRoom}
use Rattle.slot_core.specs.Claims.Schedules.{HasSchedule}
use Rattle.slot_core.specs.Runs.Traces.{IsLegal}
use Rattle.slot_core.specs.Claims.Futures.{pattern_jobs, CanBeServed, with_offer, densest_until}
use Rattle.slot_facts.specs.Offers.{RoomIsExact, RoomGivesASchedule, TheDensestPatternShowsIt}
use Rattle.slot_facts.proofs.Scheduling.Extras.{AreExtra, AreExtra-cons, AreExtra-pattern, separated-from_sound}
use Rattle.slot_facts.proofs.Scheduling.Beside.{closed_beside, work_by-both}
use Rattle.slot_facts.proofs.Patterns.Densest.{the_densest_pattern_needs_all}
use Rattle.slot_facts.proofs.Legal.Kept.{every_legal_history_is_kept}
use Rattle.slot_facts.proofs.Offers.Served.{served_with, rows-below}

-- the work of an offer alone
pub work_by-offer : (row t slots within x : ℕ) → work_by (offered_job row t slots within ∷ []) x ≡ cond (nat_le (t + within) x) slots 0
work_by-offer row t slots within x =
    let one = sum_by-cons (λ (j : Job). cond (nat_le j.dl x) j.left 0) (offered_job row t slots within) [] in
    omega (arith, one)

-- it has come
offer_has_come : (t dl slots a x : ℕ) → t < a → cond (nat_le a t && nat_le dl x) slots 0 ≤ 0
offer_has_come t dl slots a x late = grind (arith, nat_tests)

-- so it is not among those to come
work_from-offer : (row t slots within a x : ℕ) → t < a → work_from (offered_job row t slots within ∷ []) a x ≤ 0
work_from-offer row t slots within a x late =
    let one = sum_by-cons (λ (j : Job). cond (nat_le a j.est && nat_le j.dl x) j.left 0) (offered_job row t slots within) [] in
    omega (arith, one, offer_has_come t (t + within) slots a x late)

-- an offer counts by each time from its deadline on, and not before
due_offer : (dl slots x : ℕ) → dl ≤ x → cond (nat_le dl x) slots 0 ≡ slots
due_offer dl slots x due = grind (arith, nat_tests)

later_offer : (dl slots x : ℕ) → x < dl → cond (nat_le dl x) slots 0 ≡ 0
later_offer dl slots x late = grind (arith, nat_tests)

-- a scene that keeps its bounds up to its horizon, with an offer in a row above those of its jobs
module _ (set : TaskSet) (scene : Scene) (row slots within : ℕ) (sound : is_sound set ≡ true) (feasible : IsFeasible set (cycle_of set)) (bounds : KeepsBounds set (cycle_of set) (scene.time / cycle_of set + 3) scene) (rows : All (λ (j : Job). row_of j.key < row) scene.jobs) (some : 1 ≤ slots) where
  abbrev cycles : ℕ
  cycles = scene.time / cycle_of set + 3

  abbrev end : ℕ
  end = horizon (cycle_of set) scene.time

  abbrev offer : Job
  offer = offered_job row scene.time slots within

  -- the offer and the jobs of a pattern stand in rows of their own
  extras : (pattern : List (ℕ × ℕ)) → IsLegalPattern set.sporadics scene.nexts scene.time pattern → AreExtra row (offer ∷ pattern_jobs set.sporadics (row + 1) pattern)
  extras pattern arrivals =
      AreExtra-cons row offer (pattern_jobs set.sporadics (row + 1) pattern) refl (omega arith) some
      (AreExtra-pattern set scene.nexts scene.time (row + 1) (row + 1) pattern sound (omega arith) arrivals)

  -- where there is room, the offer can be served
  served : HasRoom set.sporadics (cycle_of set) scene slots within → CanBeServed set (cycle_of set) scene (row + 1) (offer ∷ [])
  served room = λ pattern arrivals.
      served_with set cycles row scene sound feasible bounds rows (row + 1) (offer ∷ []) pattern (omega arith) arrivals (extras pattern arrivals)
      (λ x low high.
      let own = work_by-offer row scene.time slots within x in
      elim (cases_lt x (scene.time + within)) [
        | inl early ↦ omega (arith, own, later_offer (scene.time + within) slots x early, bounds.fits x low high)
        | inr due ↦ omega (arith, own, due_offer (scene.time + within) slots x due, room x due high)
      ])
      (λ a x late. work_from-offer row scene.time slots within a x late)

  -- where it has a schedule with the densest arrivals that are due by a time, it has room at each
  -- time up to then
  room_from_densest : (due x : ℕ) → scene.time + within ≤ x → x ≤ due → x ≤ end → HasSchedule set (scene.jobs ++ offer ∷ [] ++ pattern_jobs set.sporadics (row + 1) (densest_until set scene due)) scene.time end → slots + need_by set.sporadics scene scene.time x ≤ x - scene.time
  room_from_densest due x low counted high schedule =
      let pattern = densest_until set scene due in
      let arrivals = pattern_jobs set.sporadics (row + 1) pattern in
      let densest = the_densest_pattern_needs_all set.sporadics scene.nexts scene.time (row + 1) x due (separated-from_sound set sound) counted in
      let both = subst (λ js. HasSchedule set js scene.time end) (append_assoc scene.jobs (offer ∷ []) arrivals) schedule in
      let fits = closed_beside set cycles row scene.time x scene.jobs (offer ∷ arrivals) sound bounds.planned bounds.waiting (extras pattern densest.0) high both in
      omega (arith, fits, work_by-both (offer ∷ []) arrivals x, work_by-offer row scene.time slots within x, due_offer (scene.time + within) slots x low, densest.1)

-- room gives a schedule
pub room_gives_a_schedule : RoomGivesASchedule
room_gives_a_schedule set scene row slots within sound feasible bounds rows some later near =
    served set scene row slots within sound feasible bounds rows some

-- where the densest arrivals from now that are due by a time leave the remaining jobs and an offer a
-- schedule, the offer has room at each time up to then
pub room_at-densest : (set : TaskSet) (h : History) (slots within due x : ℕ) → is_sound set ≡ true → IsFeasible set (cycle_of set) → IsLegal set (cycle_of set) h → 1 ≤ slots → time_of h + within ≤ x → x ≤ due → x ≤ horizon (cycle_of set) (time_of h) → let scene = scene_of set (cycle_of set) h in HasSchedule set (with_offer set (cycle_of set) h slots within ++ pattern_jobs set.sporadics (last_row h + 1 + 1) (densest_until set scene due)) (time_of h) (horizon (cycle_of set) (time_of h)) → slots + need_by set.sporadics scene (time_of h) x ≤ x - time_of h
room_at-densest set h slots within due x sound feasible legal some =
    let cycles = time_of h / cycle_of set + 3 in
    let kept = every_legal_history_is_kept set h cycles sound feasible legal (omega arith) in
    room_from_densest set (scene_of set (cycle_of set) h) (last_row h + 1) slots within sound feasible kept.bounds (rows-below set cycles h kept) some due x

-- the densest pattern of a sound set is legal
pub densest-legal : (set : TaskSet) (nexts : List ℕ) (t end : ℕ) → is_sound set ≡ true → IsLegalPattern set.sporadics nexts t (densest_pattern 0 set.sporadics nexts t end)
densest-legal set nexts t end sound =
    (the_densest_pattern_needs_all set.sporadics nexts t 0 0 end (separated-from_sound set sound) (omega arith)).0

-- room is exact
pub room_is_exact : RoomIsExact
room_is_exact set h slots within sound feasible legal some = (
  let cycles = time_of h / cycle_of set + 3 in
      let kept = every_legal_history_is_kept set h cycles sound feasible legal (omega arith) in
      served set (scene_of set (cycle_of set) h) (last_row h + 1) slots within sound feasible kept.bounds (rows-below set cycles h kept) some,
  λ can x low high.
      let end = horizon (cycle_of set) (time_of h) in
      let nexts = next_arrivals set.sporadics h in
      room_at-densest set h slots within end x sound feasible legal some low high high (can (densest_pattern 0 set.sporadics nexts (time_of h) end) (densest-legal set nexts (time_of h) end sound)),
)

-- where there is none, the densest pattern, which is legal, shows it
pub the_densest_pattern_shows_it : TheDensestPatternShowsIt
the_densest_pattern_shows_it set h slots within sound feasible legal some none =
    let end = horizon (cycle_of set) (time_of h) in
    record {
      legal = densest-legal set (next_arrivals set.sporadics h) (time_of h) end sound;
      none = λ schedule. none (λ x low high. room_at-densest set h slots within end x sound feasible legal some low high high schedule);
    }
