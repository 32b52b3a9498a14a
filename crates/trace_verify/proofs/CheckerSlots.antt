-- What a slot leaves for a checker, and where a cycle comes in.
use Rattle.std.proofs.Common.{◌≡◌, ℕ, ◌+◌, ◌*◌, ◌/◌, ◌%◌, ◌-◌, ◌≤◌, Bool, true, false, cond, List, [], ◌∷◌, length, ◌^◌, add-one, div-mul-le_self, sym, ap, ◌∙◌, subst, arith}
use Rattle.std.specs.Prelude.{nat_lt, sum_by, All}
use Rattle.std.specs.List.{AllByRecursion}
use Rattle.std.proofs.lemmas.List.Elements.{All-from_recursion, recursion_from_All}
use Rattle.std.proofs.lemmas.List.Sums.{sum_by-cons}
use Rattle.slot_core.specs.declared.TheConstants.{SLOT_LIMIT}
use Rattle.slot_core.specs.declared.jobs.Key.{Key}
use Rattle.slot_core.specs.declared.jobs.Job.{Job}
use Rattle.slot_core.specs.declared.events.Ran.{Ran}
use Rattle.slot_core.specs.declared.events.Ran.TheVariants.{Idle as RanIdle, Key as RanKey}
use Rattle.slot_core.specs.Claims.Safety.{after_run, after_slot}
use Rattle.slot_core.specs.Offline.Keys.{same_key}
use Rattle.slot_core.specs.Runs.Rising.{AreRising, last_point}
use Rattle.slot_core.specs.Runs.Scenes.{horizon}
use Rattle.slot_facts.proofs.Plans.Horizons.{NextSlot, inside, next_slot, turn}

-- there are no more rising points than slots up to the last
pub length-rising : (s : ℕ) (points : List ℕ) → AreRising s points → s + length points ≤ last_point s points
length-rising s [] rising = omega arith
length-rising s (p ∷ points) rising = omega (arith, rising.0, length-rising p points rising.1)

-- what holds of all deadlines holds of those that a run leaves
due-after_run : (P : ℕ → Type 0) (key : Key) (jobs : List Job) → AllByRecursion (λ (j : Job). P j.dl) jobs → AllByRecursion (λ (j : Job). P j.dl) (after_run key jobs)
due-after_run P key [] all = tt
due-after_run P key (j ∷ jobs) all =
    by_tests (same_key j.key key) (due-after_run P key jobs all.1)
  where
    kept : (test : Bool) (b : Bool) → AllByRecursion (λ (j : Job). P j.dl) (after_run key jobs) → let job = cond b (record j { left = j.left - 1 }) j in AllByRecursion (λ (j : Job). P j.dl) (cond test (job ∷ after_run key jobs) (after_run key jobs))
    kept true true rest = (all.0, rest)
    kept true false rest = (all.0, rest)
    kept false b rest = rest

    by_tests : (b : Bool) → AllByRecursion (λ (j : Job). P j.dl) (after_run key jobs) → let job = cond b (record j { left = j.left - 1 }) j in AllByRecursion (λ (j : Job). P j.dl) (cond (nat_lt 0 job.left) (job ∷ after_run key jobs) (after_run key jobs))
    by_tests b rest = kept (nat_lt 0 (cond b (record j { left = j.left - 1 }) j).left) b rest

due-after_slot : (P : ℕ → Type 0) (ran : Ran) (jobs : List Job) → AllByRecursion (λ (j : Job). P j.dl) jobs → AllByRecursion (λ (j : Job). P j.dl) (after_slot ran jobs)
due-after_slot P RanIdle jobs all = all
due-after_slot P (RanKey key) jobs all = due-after_run P key jobs all

-- a run leaves no more slots
left-after_run : (key : Key) (jobs : List Job) → sum_by (λ (j : Job). j.left) (after_run key jobs) ≤ sum_by (λ (j : Job). j.left) jobs
left-after_run key [] = omega arith
left-after_run key (j ∷ jobs) = by_tests (same_key j.key key) (left-after_run key jobs)
  where
    left : Job → ℕ
    left o = o.left

    kept : (test : Bool) (o : Job) (rest : List Job) → o.left ≤ j.left → sum_by left rest ≤ sum_by left jobs → sum_by left (cond test (o ∷ rest) rest) ≤ sum_by left (j ∷ jobs)
    kept true o rest less few = omega (arith, sum_by-cons left o rest, sum_by-cons left j jobs, less, few)
    kept false o rest less few = omega (arith, sum_by-cons left j jobs, few)

    by_tests : (b : Bool) → sum_by left (after_run key jobs) ≤ sum_by left jobs → let job = cond b (record j { left = j.left - 1 }) j in sum_by left (cond (nat_lt 0 job.left) (job ∷ after_run key jobs) (after_run key jobs)) ≤ sum_by left (j ∷ jobs)
    by_tests true few = kept (nat_lt 0 (j.left - 1)) (record j { left = j.left - 1 }) (after_run key jobs) (omega arith) few
    by_tests false few = kept (nat_lt 0 j.left) j (after_run key jobs) (omega arith) few

pub left-after_slot : (ran : Ran) (jobs : List Job) → sum_by (λ (j : Job). j.left) (after_slot ran jobs) ≤ sum_by (λ (j : Job). j.left) jobs
left-after_slot RanIdle jobs = omega arith
left-after_slot (RanKey key) jobs = left-after_run key jobs

-- where the next slot starts a cycle, the jobs that a slot leaves are due by the start of the third cycle from there on
pub due-at_turn : (cycle : ℕ) (ran : Ran) (t : ℕ) (jobs : List Job) → 1 ≤ cycle → All (λ (j : Job). j.dl ≤ horizon cycle t) jobs → (t + 1) % cycle ≡ 0 → All (λ (j : Job). j.dl ≤ ((t + 1) / cycle + 2) * cycle) (after_slot ran jobs)
due-at_turn cycle ran t jobs some near starts =
    let after = after_slot ran jobs in
    let left = due-after_slot (λ n. n ≤ horizon cycle t) ran jobs (recursion_from_All (λ (j : Job). j.dl ≤ horizon cycle t) jobs near) in
    let end : horizon cycle t ≡ ((t + 1) / cycle + 2) * cycle = by_slot (next_slot t cycle some) in
    All-from_recursion (λ (j : Job). j.dl ≤ ((t + 1) / cycle + 2) * cycle) after (subst (λ n. AllByRecursion (λ (j : Job). j.dl ≤ n) after) end left)
  where
    by_slot : NextSlot t cycle → horizon cycle t ≡ ((t + 1) / cycle + 2) * cycle
    by_slot (turn at_start next whole) =
        let number : t / cycle + 3 ≡ (t + 1) / cycle + 2 = omega (arith, next, ap (λ u. u / cycle) (add-one t)) in
        ap (λ n. n * cycle) number
    by_slot (inside later same) =
        absurd (later (sym (ap (λ u. u % cycle) (add-one t)) ∙ starts))

-- up to the horizon there are few points
pub points-few : (cycle t : ℕ) (points : List ℕ) → cycle ≤ SLOT_LIMIT → AreRising t points → last_point t points ≡ horizon cycle t → length points ≤ 2 ^ 20
points-few cycle t points short rising last =
    omega (arith, short, length-rising t points rising, last, div-mul-le_self t cycle)
