-- What is shown adds up to what is needed, and refuses an offer that passes it.
use Rattle.std.proofs.Common.{◌≡◌, ℕ, zero, suc, ◌+◌, ◌*◌, ◌-◌, max, List, [], ◌∷◌, Some, refl, ap, ◌∙◌, arith}
use Rattle.std.specs.Prelude.{filter, nat_le, slice_get, sum_by}
use Rattle.std.specs.List.{range_with_len}
use Rattle.std.proofs.lemmas.List.Sorted.{sum_by-IsPermutation}
use Rattle.std.proofs.lemmas.List.Sums.{sum_by-append, sum_by-cons}
use Rattle.slot_core.specs.declared.jobs.Evidence.{Evidence}
use Rattle.slot_core.specs.declared.jobs.Job.{Job}
use Rattle.slot_core.specs.declared.tasks.Sporadic.{Sporadic}
use Rattle.slot_core.specs.Claims.Futures.{densest_until}
use Rattle.slot_core.specs.Feasibility.Sporadics.{arrivals_due, densest_arrivals, densest_pattern, sporadic_demand}
use Rattle.slot_core.specs.Keeping.Plans.{in_deadline_order}
use Rattle.slot_core.specs.Runs.Demand.{need_by, work_by}
use Rattle.slot_core.specs.Runs.Histories.{time_of}
use Rattle.slot_core.specs.Runs.Scenes.{next_arrivals, scene_of}
use Rattle.slot_core.specs.Sets.Cycles.{cycle_of}
use Rattle.slot_facts.proofs.Lists.Sums.{sum_by-filter, sum_by-map}
use Rattle.slot_facts.proofs.Offers.Answers.{short-from_no_room}
use Rattle.slot_facts.proofs.Offers.Room.{densest-legal, room_at-densest}
use Rattle.slot_facts.proofs.Plans.InOrder.{IsPermutation-in_order}
use Rattle.future_check.specs.Explanations.{in_time_order, slots_of}
use Rattle.future_check.specs.Laws.{AllIsShown, ShownSlotsAreNeeded, ShownFuturesRefuse, RefusalsAddUp}
use Rattle.future_check.proofs.ArrivalOrder.{IsPermutation-in_time_order}

-- all that is due is shown
pub all_is_shown : AllIsShown
all_is_shown set scene until = (
  IsPermutation-in_order (filter (λ (j : Job). nat_le j.dl until) scene.jobs),
  IsPermutation-in_time_order (densest_until set scene until),
)

-- the slots of the shown jobs are the work that is due
jobs-needed : (jobs : List Job) (until : ℕ) → sum_by (λ (j : Job). j.left) (in_deadline_order (filter (λ (j : Job). nat_le j.dl until) jobs)) ≡ work_by jobs until
jobs-needed jobs until =
    let left = λ (j : Job). j.left in
    let test = λ (j : Job). nat_le j.dl until in
    sum_by-IsPermutation left (filter test jobs) (in_deadline_order (filter test jobs)) (IsPermutation-in_order (filter test jobs))
    ∙ sum_by-filter left test jobs

-- as many arrivals of one task as are counted, each with so many slots
each-needed : (f : ℕ → ℕ) (w a n : ℕ) → ((m : ℕ) → f m ≡ w) → sum_by f (range_with_len a n) ≡ w * n
each-needed f w a zero each = omega arith
each-needed f w a (suc n) each =
    omega (arith, sum_by-cons f a (range_with_len (a + 1) n), each a, each-needed f w (a + 1) n each)

-- the densest arrivals of one task
task-needed : (g : ℕ × ℕ → ℕ) (i : ℕ) (s : Sporadic) (next r x : ℕ) → ((t : ℕ) → g (i, t) ≡ s.wcet) → sum_by g (densest_arrivals i s next r x) ≡ s.wcet * arrivals_due s next r x
task-needed g i s next r x each =
    let time = λ (m : ℕ). max r next + m * s.separation in
    sum_by-map g (λ m. (i, time m)) (range_with_len 0 (arrivals_due s next r x))
    ∙ each-needed (λ m. g (i, time m)) s.wcet 0 (arrivals_due s next r x) (λ m. each (time m))

-- those of all tasks
tasks-needed : (g : ℕ × ℕ → ℕ) (k : ℕ) (ss : List Sporadic) (ns : List ℕ) (r x : ℕ) → ((j i t : ℕ) (s : Sporadic) → k + j ≡ i → slice_get ss j ≡ Some s → g (i, t) ≡ s.wcet) → sum_by g (densest_pattern k ss ns r x) ≡ sporadic_demand ss ns r x
tasks-needed g k [] ns r x each = refl
tasks-needed g k (s ∷ ss) [] r x each =
    omega (arith, sum_by-append g (densest_arrivals k s 0 r x) (densest_pattern (k + 1) ss [] r x), task-needed g k s 0 r x (λ t. each 0 k t s (omega arith) refl), tasks-needed g (k + 1) ss [] r x (λ j i t u place at. each (suc j) i t u (omega arith) at))
tasks-needed g k (s ∷ ss) (n ∷ ns) r x each =
    omega (arith, sum_by-append g (densest_arrivals k s n r x) (densest_pattern (k + 1) ss ns r x), task-needed g k s n r x (λ t. each 0 k t s (omega arith) refl), tasks-needed g (k + 1) ss ns r x (λ j i t u place at. each (suc j) i t u (omega arith) at))

-- the slots of a task at its index
slots-at : (sporadics : List Sporadic) (j i : ℕ) (s : Sporadic) → 0 + j ≡ i → slice_get sporadics j ≡ Some s → slots_of sporadics i ≡ s.wcet
slots-at sporadics j i s place at =
    let same : j ≡ i = omega arith in
    rw (← same, at) refl

-- what is shown is what is needed
pub shown_slots_are_needed : ShownSlotsAreNeeded
shown_slots_are_needed set scene until =
    let slots = λ (a : ℕ × ℕ). slots_of set.sporadics a.0 in
    let pattern = densest_until set scene until in
    let arrivals : sum_by slots (in_time_order pattern) ≡ sporadic_demand set.sporadics scene.nexts scene.time until =
    sum_by-IsPermutation slots pattern (in_time_order pattern) (IsPermutation-in_time_order pattern)
    ∙ tasks-needed slots 0 set.sporadics scene.nexts scene.time until (λ j i t s place at. slots-at set.sporadics j i s place at) in
    omega (arith, jobs-needed scene.jobs until, arrivals)

-- where it is too much, the shown arrivals leave no schedule
pub shown_futures_refuse : ShownFuturesRefuse
shown_futures_refuse set h slots within until sound feasible legal some low high short =
    let scene = scene_of set (cycle_of set) h in
    record {
      legal = densest-legal set (next_arrivals set.sporadics h) (time_of h) until sound;
      none = λ schedule.
          let room = room_at-densest set h slots within until until sound feasible legal some low (omega arith) high schedule in
          absurd (omega (arith, room, short, shown_slots_are_needed set scene until));
    }

-- the numbers of a refusal are those of what is shown and of the offer
pub refusals_add_up : RefusalsAddUp
refusals_add_up set cycle scene slots within e refused =
    let short = short-from_no_room set.sporadics cycle scene slots within e refused in
    let shown = shown_slots_are_needed set scene e.until in
    let need : e.need ≡ slots + need_by set.sporadics scene scene.time e.until = ap (λ (e : Evidence). e.need) short.exact in
    let room : e.room ≡ e.until - scene.time = ap (λ (e : Evidence). e.room) short.exact in
    record {
      need = omega (arith, need, shown);
      room = room;
      short = omega (arith, need, room, short.short);
      due = short.after;
      near = short.before;
    }
