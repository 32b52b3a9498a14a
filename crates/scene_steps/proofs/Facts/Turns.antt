-- The turn of a cycle: the jobs of the next cycle stand beside those that remain, each with a key of its own, and all
-- fit the slots of three cycles.
use Rattle.std.proofs.Common.{◌≡◌, ℕ, suc, ◌+◌, ◌*◌, ◌/◌, ◌%◌, ◌≤◌, true, false, List, [], ◌∷◌, ◌++◌, length, length-append, add-one, sym, ap, ◌∙◌, subst, inl, inr, arith}
use Rattle.std.specs.Prelude.{All}
use Rattle.std.proofs.lemmas.Bool.{cases_Bool, both_ways}
use Rattle.std.proofs.lemmas.List.{length-map}
use Rattle.std.proofs.lemmas.List.Elements.{All-from_recursion}
use Rattle.slot_core.specs.declared.jobs.Job.{Job}
use Rattle.slot_core.specs.declared.tasks.TaskSet.{TaskSet}
use Rattle.slot_core.specs.Offline.Keys.{is_offline, is_soft}
use Rattle.slot_core.specs.Sets.Cycles.{cycle_of}
use Rattle.slot_core.specs.Sets.Ranges.{is_sound}
use Rattle.slot_core.specs.Offline.OfflineJobs.{later_job, cycle_jobs, offline_jobs}
use Rattle.slot_core.specs.Feasibility.Feasible.{IsFeasible}
use Rattle.slot_core.specs.Runs.Scenes.{Scene}
use Rattle.slot_core.specs.Runs.Choice.{choice}
use Rattle.slot_core.specs.Claims.Safety.{after_slot}
use Rattle.slot_core.specs.Keeping.Kept.{AreApart, KeepsBounds}
use Rattle.slot_core.specs.Keeping.Plans.{PlanParts, IsPlan}
use Rattle.slot_core.specs.Keeping.Executives.{Executive, StandsForSome}
use Rattle.slot_facts.proofs.Bounds.CycleDemand.{cycle-fits}
use Rattle.slot_facts.proofs.Lists.ApartKeys.{IsApart-from_count, AreApart-from_members}
use Rattle.slot_facts.proofs.Lists.Members.{Has, Has-from_Contains, Contains-from_Has, Has-append_right, AllByRecursion-from_Has}
use Rattle.slot_facts.proofs.Offline.Cycles.{IsOfCycle-from_cycle}
use Rattle.slot_facts.proofs.Offline.DistinctKeys.{IsApart, IsApart-append, offline_jobs-apart}
use Rattle.slot_facts.proofs.Offline.Jobs.{cycle-positive}
use Rattle.slot_facts.proofs.Offline.LaterJobs.{cycle_jobs-are_later}
use Rattle.slot_facts.proofs.Plans.Horizons.{NextSlot, turn, inside, next_slot}
use Rattle.slot_facts.proofs.Legal.Executives.{every_executive_is_kept}
use Rattle.slot_facts.proofs.Legal.Jobs.{offline-key, not_soft-from_offline}
use Rattle.scene_steps.proofs.Facts.AfterChoice.{later_with, choice-keeps}
use Rattle.slot_facts.proofs.Lists.MemberSums.{length-at_most_sum}
use Rattle.scene_steps.proofs.Facts.SceneWork.{jobs-fit}

-- where two lists in a row are apart, the second one is, and no two members across them have one value
IsApart-parts : {X Y : Type 0} (f : X → Y) (xs ys : List X) → IsApart f (xs ++ ys) → IsApart f ys × ((x y : X) → Has xs x → Has ys y → f x ≡ f y → ⊥)
IsApart-parts f [] ys apart = (apart, λ x y at. absurd at)
IsApart-parts {X} f (x ∷ xs) ys apart =
    let rest = IsApart-parts f xs ys apart.1 in
    let across = λ (z y : X) (at : Has (x ∷ xs) z) (at_y : Has ys y) (e : f z ≡ f y).
    elim at as (λ _. ⊥) [
      | inl is ↦ apart.0 y (Has-append_right xs ys y at_y) (ap f is ∙ e)
      | inr listed ↦ rest.1 z y listed at_y e
    ] in
    (rest.0, across)

-- none of the offline jobs of a cycle is soft, and each has a slot left
pub cycle_jobs-wait : (set : TaskSet) (n : ℕ) → is_sound set ≡ true → All (λ (j : Job). (is_soft j.key ≡ false) × (1 ≤ j.left)) (cycle_jobs set (cycle_of set) n)
cycle_jobs-wait set n sound =
    let jobs = cycle_jobs set (cycle_of set) n in
    let each = λ (job : Job) (at : Has jobs job).
    let later = Has-append_right (offline_jobs set (cycle_of set) n) jobs job at in
    let of_cycle = IsOfCycle-from_cycle set n job sound (Contains-from_Has jobs job at) in
    let some : 1 ≤ job.left = omega (arith, of_cycle.some, of_cycle.whole) in
    let hard = not_soft-from_offline job.key (offline-key set (cycle_of set) (suc n) job later) in
    let both : (is_soft job.key ≡ false) × (1 ≤ job.left) = (hard, some) in
    both in
    All-from_recursion (λ (j : Job). (is_soft j.key ≡ false) × (1 ≤ j.left)) jobs (AllByRecursion-from_Has (λ (j : Job). (is_soft j.key ≡ false) × (1 ≤ j.left)) jobs each)

-- a cycle has no more offline jobs than slots
pub cycle_jobs-few : (set : TaskSet) (n : ℕ) → is_sound set ≡ true → IsFeasible set (cycle_of set) → length (cycle_jobs set (cycle_of set) n) ≤ cycle_of set
cycle_jobs-few set n sound feasible =
    let first = cycle_jobs set (cycle_of set) 0 in
    let some = λ (job : Job) (at : Has first job). (IsOfCycle-from_cycle set 0 job sound (Contains-from_Has first job at)).some in
    omega (
      arith,
      ap length (cycle_jobs-are_later set n sound feasible),
      length-map first (later_job set (cycle_of set) n),
      length-at_most_sum (λ (j : Job). j.declared) first some,
      cycle-fits set sound feasible,
    )

-- a scene that keeps its bounds up to the start of cycle n has no key of a job of that cycle
pub next_cycle-keys : (set : TaskSet) (n : ℕ) (scene : Scene) → KeepsBounds set (cycle_of set) n scene → AreApart (scene.jobs ++ cycle_jobs set (cycle_of set) n)
next_cycle-keys set n scene bounds =
    let earlier = offline_jobs set (cycle_of set) n in
    let coming = cycle_jobs set (cycle_of set) n in
    let key = λ (j : Job). j.key in
    let parts = IsApart-parts key earlier coming (offline_jobs-apart set (cycle_of set) (suc n)) in
    let across = λ (a b : Job) (at : Has scene.jobs a) (at_b : Has coming b) (e : a.key ≡ b.key).
    elim (cases_Bool (is_offline a.key)) as (λ _. ⊥) [
      | inl offline ↦
          let planned = bounds.planned a (Contains-from_Has scene.jobs a at) offline in
          parts.1 (record a { left = a.declared }) b (Has-from_Contains earlier (record a { left = a.declared }) planned) at_b e
      | inr other ↦
          let own = offline-key set (cycle_of set) (suc n) b (Has-append_right earlier coming b at_b) in
          both_ways (is_offline a.key) other (ap is_offline e ∙ own)
    ] in
    AreApart-from_members (scene.jobs ++ coming) (IsApart-append key scene.jobs coming (IsApart-from_count scene.jobs bounds.apart) parts.0 across)

-- the keys of these jobs are apart, and they are no more than the slots of three cycles
abbrev pub FitsThreeCycles : ℕ → List Job → Type 0
FitsThreeCycles cycle jobs = AreApart jobs × (length jobs ≤ 3 * cycle)

-- the jobs of the next cycle fit beside those that the slot before it leaves
turn-fits : (set : TaskSet) (scene : Scene) → is_sound set ≡ true → IsFeasible set (cycle_of set) → KeepsBounds set (cycle_of set) (scene.time / cycle_of set + 3) scene → (scene.time + 1) % cycle_of set ≡ 0 → FitsThreeCycles (cycle_of set) (after_slot (choice set.sporadics (cycle_of set) scene) scene.jobs ++ cycle_jobs set (cycle_of set) ((scene.time + 1) / cycle_of set + 2))
turn-fits set scene sound feasible bounds starts = by_slot (next_slot scene.time (cycle_of set) (cycle-positive set sound))
  where
    t : ℕ
    t = scene.time

    after : List Job
    after = after_slot (choice set.sporadics (cycle_of set) scene) scene.jobs

    fits : (n : ℕ) → n ≡ t / cycle_of set + 3 → suc t ≡ suc (t / cycle_of set) * cycle_of set → FitsThreeCycles (cycle_of set) (after ++ cycle_jobs set (cycle_of set) n)
    fits n at whole =
        let kept = subst (λ m. KeepsBounds set (cycle_of set) m (later_with scene after)) (sym at) (choice-keeps set scene sound feasible bounds) in
        let end : n * cycle_of set ≡ (t / cycle_of set + 3) * cycle_of set = ap (λ m. m * cycle_of set) at in
        let few = jobs-fit set n (later_with scene after) sound kept (omega arith) in (
          next_cycle-keys set n (later_with scene after) kept,
          omega (arith, few, length-append after (cycle_jobs set (cycle_of set) n), cycle_jobs-few set n sound feasible),
        )

    by_slot : NextSlot t (cycle_of set) → FitsThreeCycles (cycle_of set) (after ++ cycle_jobs set (cycle_of set) ((t + 1) / cycle_of set + 2))
    by_slot (turn at_start next whole) =
        let counted : (t + 1) / cycle_of set ≡ suc (t / cycle_of set) = ap (λ u. u / cycle_of set) (add-one t) ∙ next in
        fits ((t + 1) / cycle_of set + 2) (omega arith) whole
    by_slot (inside later same) =
        absurd (later (sym (ap (λ u. u % cycle_of set) (add-one t)) ∙ starts))

-- at a turn of a cycle the keys of the jobs that come in are apart from those that remain, and all fit three cycles
pub next_cycle-apart : (exec : Executive) → IsPlan exec.plan → StandsForSome exec → (exec.scene.time + 1) % exec.plan.cycle ≡ 0 → let ran = choice exec.plan.tasks.sporadics exec.plan.cycle exec.scene in let jobs = after_slot ran exec.scene.jobs ++ cycle_jobs exec.plan.tasks exec.plan.cycle ((exec.scene.time + 1) / exec.plan.cycle + 2) in AreApart jobs × (length jobs ≤ 3 * exec.plan.cycle)
next_cycle-apart exec plan stands starts =
    let set = exec.plan.tasks in
    let scene = exec.scene in
    subst
    (λ c. IsFeasible set c → KeepsBounds set c (scene.time / c + 3) scene → (scene.time + 1) % c ≡ 0 → FitsThreeCycles c (after_slot (choice set.sporadics c scene) scene.jobs ++ cycle_jobs set c ((scene.time + 1) / c + 2)))
    (sym plan.cycle)
    (λ feasible bounds at_start. turn-fits set scene plan.sound feasible bounds at_start)
    plan.feasible
    (every_executive_is_kept exec plan stands).bounds
    starts

-- none of the jobs that come in is soft, and each has a slot left
pub next_cycle-wait : (plan : PlanParts) (n : ℕ) → IsPlan plan → All (λ (j : Job). (is_soft j.key ≡ false) × (1 ≤ j.left)) (cycle_jobs plan.tasks plan.cycle n)
next_cycle-wait plan n is_plan =
    subst
    (λ c. All (λ (j : Job). (is_soft j.key ≡ false) × (1 ≤ j.left)) (cycle_jobs plan.tasks c n))
    (sym is_plan.cycle)
    (cycle_jobs-wait plan.tasks n is_plan.sound)
