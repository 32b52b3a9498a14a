use Rattle.std.proofs.Common.{◌≡◌, ℕ, ◌+◌, ◌-◌, ◌*◌, ◌/◌, ◌%◌, ◌<◌, ◌≤◌, true, refl, subst, ap, ◌∙◌, arith}
use Rattle.std.proofs.Math.Nat.{mul-add, mul-le-mul_left, mul-le-mul_right}
use Rattle.slot_core.specs.declared.TheConstants.{SLOT_LIMIT}
use Rattle.slot_core.specs.declared.faults.Part.{Part}
use Rattle.slot_core.specs.declared.jobs.Window.{Window}
use Rattle.slot_core.specs.declared.tasks.TaskSet.{TaskSet}
use Rattle.slot_core.specs.Sets.Cycles.{cycle_of}
use Rattle.slot_core.specs.Sets.Ranges.{is_sound}
use Rattle.slot_core.specs.Feasibility.Feasible.{IsFeasible, demand}
use Rattle.slot_facts.proofs.Offline.Jobs.{cycle-positive, cycle-at_most}
use Rattle.margin_find.specs.Parts.{IsTaskOf, jobs_in_cycle}
use Rattle.margin_find.proofs.WholeCycle.{AreBounds-whole, StaysSound-from_whole, jobs_in_cycle-positive, jobs_in_cycle-le}
use Rattle.margin_find.proofs.whole.by_whole_cycle.Goals as goal

-- what is read of the set: the cycle, its demand, and the jobs of the task in it
record AreRead (set : TaskSet) (part : Part) (cycle total jobs : ℕ) : Type 0 where
  whole : cycle ≡ cycle_of set
  needs : total ≡ demand set (cycle_of set) 0 (cycle_of set)
  counts : jobs ≡ jobs_in_cycle set (cycle_of set) part
  fits : total ≤ cycle
  some : 1 ≤ jobs
  few : jobs ≤ cycle + 1
  short : cycle ≤ SLOT_LIMIT

AreRead-from : (set : TaskSet) (part : Part) (cycle total jobs : ℕ) → is_sound set ≡ true → IsTaskOf set part → IsFeasible set cycle → cycle ≡ cycle_of set → total ≡ demand set cycle 0 cycle → jobs ≡ jobs_in_cycle set cycle part → AreRead set part cycle total jobs
AreRead-from set part cycle total jobs sound of feasible whole needs counts =
    let positive = cycle-positive set sound in
    let fits = feasible 0 cycle (omega arith) (omega arith) (omega arith) in
    let some = jobs_in_cycle-positive set part sound of in
    let few = jobs_in_cycle-le set part (cycle_of set) of in
    let here : jobs ≡ jobs_in_cycle set (cycle_of set) part = counts ∙ ap (λ n. jobs_in_cycle set n part) whole in
    record {
      whole = whole;
      needs = needs ∙ ap (λ n. demand set n 0 n) whole;
      counts = here;
      fits = omega arith;
      some = omega arith;
      few = omega arith;
      short = omega (arith, cycle-at_most set sound);
    }

-- q jobs more fit, and one more does not
record IsMost (total cycle jobs most : ℕ) : Type 0 where
  fits : total + jobs * most ≤ cycle
  fails : cycle < total + jobs * (most + 1)
  more : jobs * (most + 1) ≡ jobs * most + jobs
  few : most ≤ cycle

quotient-IsMost : (total cycle jobs : ℕ) → 1 ≤ jobs → total ≤ cycle → IsMost total cycle jobs ((cycle - total) / jobs)
quotient-IsMost total cycle jobs some fits =
    let q = (cycle - total) / jobs in
    let whole : jobs * q + (cycle - total) % jobs ≡ cycle - total = omega arith in
    let rest : (cycle - total) % jobs < jobs = omega arith in
    let few : 1 * q ≤ jobs * q = mul-le-mul_right q some in
    let one : jobs * 1 ≡ jobs = omega arith in
    let next : jobs * (q + 1) ≡ jobs * q + jobs = mul-add jobs q 1 ∙ ap (λ n. jobs * q + n) one in
    record { fits = omega arith; fails = omega arith; more = next; few = omega arith }

-- the window of the whole cycle
whole_window : {until other needed more : ℕ} → until ≡ other → needed ≡ more → ◌≡◌ {A = Window} (record { from = 0; until = until; demand = needed }) (record { from = 0; until = other; demand = more })
whole_window {until} {other} {needed} {more} a b = cc

pub overflow_sub-most : goal.overflow_sub-most
overflow_sub-most c =
    let r = AreRead-from c.args.tasks.now c.args.at c.args.cycle c.total-total.result c.jobs_of-jobs.result c.requires.sound c.requires.of c.requires.feasible c.requires.cycle c.total-total.ensures c.jobs_of-jobs.ensures in
    omega (arith, r.fits)

pub nonzero_div-most : goal.nonzero_div-most
nonzero_div-most c =
    let r = AreRead-from c.args.tasks.now c.args.at c.args.cycle c.total-total.result c.jobs_of-jobs.result c.requires.sound c.requires.of c.requires.feasible c.requires.cycle c.total-total.ensures c.jobs_of-jobs.ensures in
    omega (arith, r.some)

pub overflow_add-result : goal.overflow_add-result
overflow_add-result c =
    let r = AreRead-from c.args.tasks.now c.args.at c.args.cycle c.total-total.result c.jobs_of-jobs.result c.requires.sound c.requires.of c.requires.feasible c.requires.cycle c.total-total.ensures c.jobs_of-jobs.ensures in
    let most = quotient-IsMost c.total-total.result c.from.result c.jobs_of-jobs.result r.some (omega (arith, r.fits)) in
    omega (arith, most.few, r.short)

pub overflow_add-result-3 : goal.overflow_add-result-3
overflow_add-result-3 c =
    let r = AreRead-from c.args.tasks.now c.args.at c.args.cycle c.total-total.result c.jobs_of-jobs.result c.requires.sound c.requires.of c.requires.feasible c.requires.cycle c.total-total.ensures c.jobs_of-jobs.ensures in
    let most = quotient-IsMost c.total-total.result c.from.result c.jobs_of-jobs.result r.some (omega (arith, r.fits)) in
    omega (arith, most.fits, most.more, r.few, r.short)

pub returns-clause-bounds : goal.returns-clause-bounds
returns-clause-bounds c =
    let set = c.args.tasks.now in
    let r = AreRead-from set c.args.at c.args.cycle c.total-total.result c.jobs_of-jobs.result c.requires.sound c.requires.of c.requires.feasible c.requires.cycle c.total-total.ensures c.jobs_of-jobs.ensures in
    let most = quotient-IsMost c.total-total.result c.from.result c.jobs_of-jobs.result r.some (omega (arith, r.fits)) in
    let until : c.from-2.result ≡ cycle_of set = omega (arith, r.whole) in
    let each = ap (λ n. n * ((c.from.result - c.total-total.result) / c.jobs_of-jobs.result + 1)) r.counts in
    let needed : c.total-total.result + c.jobs_of-jobs.result * ((c.from.result - c.total-total.result) / c.jobs_of-jobs.result + 1) ≡ demand set (cycle_of set) 0 (cycle_of set) + jobs_in_cycle set (cycle_of set) c.args.at * ((c.from.result - c.total-total.result) / c.jobs_of-jobs.result + 1) = omega (arith, r.needs, each) in
    AreBounds-whole set c.args.at _ c.requires.sound (subst (IsFeasible set) c.requires.cycle c.requires.feasible) c.requires.of refl (omega arith) (whole_window until needed) (omega (arith, most.fails, r.whole))

pub returns-clause-sound : goal.returns-clause-sound
returns-clause-sound c =
    let set = c.args.tasks.now in
    let r = AreRead-from set c.args.at c.args.cycle c.total-total.result c.jobs_of-jobs.result c.requires.sound c.requires.of c.requires.feasible c.requires.cycle c.total-total.ensures c.jobs_of-jobs.ensures in
    let most = quotient-IsMost c.total-total.result c.from.result c.jobs_of-jobs.result r.some (omega (arith, r.fits)) in
    λ growth low.
    let within : c.jobs_of-jobs.result * growth ≤ c.jobs_of-jobs.result * ((c.from.result - c.total-total.result) / c.jobs_of-jobs.result) = mul-le-mul_left c.jobs_of-jobs.result (omega arith) in
    let same = ap (λ n. n * growth) r.counts in
    StaysSound-from_whole set c.args.at growth c.requires.sound c.requires.of (omega (arith, most.fits, r.needs, r.whole))
