use Rattle.std.proofs.Common.{◌≡◌, ◌+◌, ◌-◌, ◌*◌, ◌≤◌, ◌∙◌, ℕ, length, sum, take, List, [], Option, None, sym, ap, arith}
use Rattle.std.specs.Prelude.{slice_index}
use Rattle.slot_core.specs.declared.jobs.Window.{Window}
use Rattle.slot_core.specs.declared.tasks.Sporadic.{Sporadic}
use Rattle.slot_core.specs.Feasibility.Sporadics.{sporadic_demand}
use Rattle.slot_core.specs.Feasibility.Feasible.{window_demand}
use Rattle.slot_core.specs.Offline.OfflineJobs.{cycle_jobs}
use Rattle.slot_facts.proofs.Offline.Cycles.{all_due_by}
use Rattle.slot_facts.proofs.Offline.Jobs.{cycle-at_most}
use Rattle.plan_answers.specs.Tightest.{tightest_by}
use Rattle.plan_answers.proofs.Insides.{listed-by}
use Rattle.plan_answers.proofs.Starts.{declared-fits, fold-range_more, tightest-agree}
use Rattle.plan_answers.proofs.tightest.tightest_in.Goals as goal

pub overflow_mul-cycle : goal.overflow_mul-cycle
overflow_mul-cycle c = omega (arith, c.requires.cycle, cycle-at_most c.args.tasks.now c.requires.sound)

pub needed_table-requires : goal.needed_table-requires
needed_table-requires c = omega (arith, c.requires.cycle, cycle-at_most c.args.tasks.now c.requires.sound)

pub due_from-requires-clause-cycle : goal.due_from-requires-clause-cycle
due_from-requires-clause-cycle c = omega (arith, c.requires.cycle, cycle-at_most c.args.tasks.now c.requires.sound)

pub due_from-requires-clause-within : goal.due_from-requires-clause-within
due_from-requires-clause-within c =
    let set = c.args.tasks.now in
    all_due_by set c.args.jobs.now c.args.cycle c.requires.sound c.requires.cycle (listed-by set c.args.cycle c.args.jobs.now c.requires.cycle c.requires.jobs)

pub due_from-requires-clause-few : goal.due_from-requires-clause-few
due_from-requires-clause-few c =
    let set = c.args.tasks.now in
    declared-fits set c.args.cycle c.args.jobs.now c.requires.sound c.requires.cycle (listed-by set c.args.cycle c.args.jobs.now c.requires.cycle c.requires.jobs) c.requires.fits

pub tightest_from-kept-requires-clause-few : goal.tightest_from-kept-requires-clause-few
tightest_from-kept-requires-clause-few c =
    omega (arith, ap length c.deref.ensures.value, c.in_ok-due.ensures.len, c.requires.cycle, cycle-at_most c.args.tasks.now c.requires.sound)

pub tightest_from-kept-requires-clause-small : goal.tightest_from-kept-requires-clause-small
tightest_from-kept-requires-clause-small c =
    omega (arith, ap sum c.deref.ensures.value, c.in_ok-due.ensures.small, c.requires.cycle, cycle-at_most c.args.tasks.now c.requires.sound)

pub loop-from-preserved : goal.loop-from-preserved
loop-from-preserved c =
    let set = c.args.tasks.now in
    let cycle = c.args.cycle in
    let a = c.loop-from.from in
    let jobs = c.args.jobs.now in
    let due = c.deref.result.now in
    let arrivals = c.items-in-loop-from.result.now in
    let step = λ (kept : Option Window) (x : ℕ). tightest_by (window_demand (cycle_jobs set cycle 0) set.sporadics cycle x) cycle kept x in
    let listed = listed-by set cycle jobs c.requires.cycle c.requires.jobs in
    let len : length due ≡ 2 * cycle + 1 = ap length c.deref.ensures.value ∙ c.in_ok-due.ensures.len in
    let sums : (b : ℕ) → b ≤ 2 * cycle → sum (take (b + 1) due) ≡ window_demand jobs [] cycle a b = λ b low. ap (λ (d : List ℕ). sum (take (b + 1) d)) c.deref.ensures.value ∙ c.in_ok-due.ensures.sums b low in
    let arriving : (x : ℕ) → x ≤ 2 * cycle → slice_index arrivals x ≡ sporadic_demand set.sporadics [] 0 x = λ x low. ap (λ (t : List ℕ). slice_index t x) c.items-in-loop-from.ensures ∙ c.in_ok-arrivals.ensures.values x low ∙ ap (λ (ss : List Sporadic). sporadic_demand ss [] 0 x) c.items.ensures in
    let now : c.tightest_from-kept.result ≡ step c.loop-from.kept a = c.tightest_from-kept.ensures ∙ tightest-agree set cycle a jobs due arrivals c.loop-from.kept c.requires.sound c.requires.cycle listed len (omega arith) sums arriving in
    now
    ∙ ap (λ kept. step kept a) c.loop-from.invariant
    ∙ sym (fold-range_more step None 0 a a (omega arith))
