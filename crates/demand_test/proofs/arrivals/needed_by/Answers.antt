use Rattle.std.proofs.Common.{◌≡◌, ℕ, ◌-◌, ◌*◌, ◌^◌, ◌≤◌, take, get_or, ap, arith}
use Rattle.std.specs.Prelude.{sum_by}
use Rattle.std.proofs.lemmas.Nat.{mul-le}
use Rattle.std.proofs.lemmas.List.{take_all}
use Rattle.std.proofs.lemmas.List.Sums.{sum_by_more, sum_by_more_le}
use Rattle.slot_core.specs.declared.tasks.Sporadic.{Sporadic}
use Rattle.slot_core.specs.Feasibility.Sporadics.{arrivals_due}
use Rattle.slot_facts.proofs.Demand.Arrivals.{arrivals_due-le, sporadic_demand-sum_by}
use Rattle.demand_test.proofs.arrivals.needed_by.Goals as goal

-- the slots that the arrivals of a task need by x
abbrev term : ℕ → Sporadic → ℕ
term x s = s.wcet * arrivals_due s 0 0 x

pub overflow_mul-more : goal.overflow_mul-more
overflow_mul-more c =
    let few = arrivals_due-le c.task-item.result 0 c.args.end in
    let most : c.from.result * c.arrivals_by.result ≤ (2 ^ 32 - 1) * 2 ^ 32 = mul-le c.from.result c.arrivals_by.result (2 ^ 32 - 1) (2 ^ 32) (omega arith) (omega arith) in
    omega arith

pub returns-then-needed-more : goal.returns-then-needed-more
returns-then-needed-more c =
    let s = c.task-item.result in
    let x = c.args.end in
    let more : c.from.result * c.arrivals_by.result ≡ term x s = cc in
    let here : term x s ≡ term x (get_or c.args.sporadics.now c.loop-task.task-index s) = ap (term x) c.task-item.is in
    let within = sum_by_more_le (term x) c.args.sporadics.now c.loop-task.task-index s c.loop-task-test.true in
    omega (arith, sporadic_demand-sum_by c.args.sporadics.now 0 x)

pub loop-task-preserved : goal.loop-task-preserved
loop-task-preserved c =
    let s = c.task-item.result in
    let x = c.args.end in
    let more : c.from.result * c.arrivals_by.result ≡ term x s = cc in
    let here : term x s ≡ term x (get_or c.args.sporadics.now c.loop-task.task-index s) = ap (term x) c.task-item.is in
    let step = sum_by_more (term x) c.args.sporadics.now c.loop-task.task-index s c.loop-task-test.true in
    (omega arith, omega arith)

pub returns : goal.returns
returns c =
    let ss = c.args.sporadics.now in
    let whole : take c.loop-task.task-index ss ≡ ss = take_all c.loop-task.task-index ss c.loop-task-test.false in
    let same : sum_by (term c.args.end) (take c.loop-task.task-index ss) ≡ sum_by (term c.args.end) ss = ap (sum_by (term c.args.end)) whole in
    (omega (arith, sporadic_demand-sum_by ss 0 c.args.end), omega arith)
