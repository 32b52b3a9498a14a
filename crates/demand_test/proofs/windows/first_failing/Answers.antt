use Rattle.std.proofs.Common.{◌≡◌, ℕ, ◌+◌, ◌-◌, ◌*◌, ◌<◌, ◌≤◌, true, false, List, length, take, drop, Option, Some, None, is_some, sym, ap, ◌∙◌, arith}
use Rattle.std.specs.Prelude.{All, sum_by}
use Rattle.std.specs.List.{range_with_len}
use Rattle.std.proofs.lemmas.Bool.{false≢true}
use Rattle.std.proofs.lemmas.List.Elements.{All-same, All-take, All-drop}
use Rattle.std.proofs.lemmas.List.Sums.{sum_by-take-le}
use Rattle.slot_core.specs.declared.jobs.Job.{Job}
use Rattle.slot_core.specs.declared.jobs.Window.{Window}
use Rattle.slot_core.specs.declared.tasks.Sporadic.{Sporadic}
use Rattle.slot_core.specs.Feasibility.Feasible.{window_demand, first_some, first_failing_from}
use Rattle.demand_test.specs.declared.ends.Ends.{Ends}
use Rattle.demand_test.specs.EndTables.{ending_by, first_end, needed_in, failing_in}
use Rattle.slot_facts.proofs.Demand.Feasible.{fits-from_first_failing}
use Rattle.slot_facts.proofs.Lists.FirstSome.{first_some-found, first_some-from_none}
use Rattle.demand_test.proofs.EndSums.{ending_by-le, ending_by-twice, declared-twice}
use Rattle.demand_test.proofs.WindowSums.{AreTables, AreTables-first, AreTables-next, IsStart-next, AreReadable-from_AreTables, needed_in-AreTables, window_demand-rises, window_demand-next, AreKnown-same, first_failing_from-AreTables}
use Rattle.demand_test.proofs.windows.first_failing.Goals as goal

-- the first start from which a window fails
first_found : (f : ℕ → Option Window) (cycle a : ℕ) (o : Option Window) → a < cycle → ((k : ℕ) → k < a → f k ≡ None) → o ≡ f a → is_some o ≡ true → o ≡ first_some f (range_with_len 0 cycle)
first_found f cycle a None low none is h = absurd (false≢true h)
first_found f cycle a (Some w) low none is h =
    sym (first_some-found f w 0 cycle a (omega arith) (omega arith) (λ m _ before. none m before) (sym is))

-- nothing is there
none_there : (o : Option Window) → is_some o ≡ false → o ≡ None
none_there None is = λ i. None
none_there (Some w) is = absurd (false≢true (sym is))

-- what the call found is what the definition has
found-is : (jobs rest : List Job) (ss : List Sporadic) (cycle a : ℕ) (ends : Ends) (arrivals : List ℕ) (o : Option Window) → AreTables jobs rest ss cycle a ends arrivals → a < cycle → o ≡ first_some (failing_in ends arrivals a) (range_with_len (a + 1) (length ends.sums.items - 1 - a)) → o ≡ first_failing_from jobs ss cycle a
found-is jobs rest ss cycle a ends arrivals o h low is =
    is ∙ first_failing_from-AreTables jobs rest ss cycle a ends arrivals h low

-- jobs at the front of the rest are jobs
within_front : (jobs rest front : List Job) (p n m : ℕ) → rest ≡ drop p jobs → front ≡ take n rest → All (λ (j : Job). j.dl ≤ m) jobs → All (λ (j : Job). j.dl ≤ 2 * m) front
within_front jobs rest front p n m is at_front all = λ k d low.
    let due = All-same (λ (j : Job). j.dl ≤ m) front (take n rest) at_front (All-take (λ (j : Job). j.dl ≤ m) n rest (All-same (λ (j : Job). j.dl ≤ m) rest (drop p jobs) is (All-drop (λ (j : Job). j.dl ≤ m) p jobs all))) k d low in
    omega arith

pub loop-from-init : goal.loop-from-init
loop-from-init c =
    record {
      tables = AreTables-first c.args.jobs.now c.args.sporadics.now c.args.cycle c.in_ok-ends.ends c.args.arrivals.now c.in_ok-ends.ensures c.requires.needed;
      known = c.nothing_known-bounds.ensures (window_demand c.args.jobs.now c.args.sporadics.now c.args.cycle 0) 0;
    }

pub renewed-bounds-requires-clause-readable : goal.renewed-bounds-requires-clause-readable
renewed-bounds-requires-clause-readable c =
    AreReadable-from_AreTables c.args.jobs.now c.loop-from.rest.now c.args.sporadics.now c.args.cycle c.loop-from.from c.loop-from.ends c.args.arrivals.now c.loop-from.invariant.tables c.requires.cycle c.requires.few

pub renewed-bounds-requires-clause-rising : goal.renewed-bounds-requires-clause-rising
renewed-bounds-requires-clause-rising c =
    let jobs = c.args.jobs.now in
    let rest = c.loop-from.rest.now in
    let ss = c.args.sporadics.now in
    let cycle = c.args.cycle in
    let a = c.loop-from.from in
    let tables = c.loop-from.invariant.tables in
    let needs = needed_in-AreTables jobs rest ss cycle a c.loop-from.ends c.args.arrivals.now tables c.loop-from-test.true in
    λ b d low later high.
    omega (
      arith,
      needs b low (omega arith),
      needs d (omega arith) (omega arith),
      window_demand-rises jobs rest ss cycle a tables.started b d tables.start (omega arith) later,
    )

pub renewed-bounds-requires-clause-known : goal.renewed-bounds-requires-clause-known
renewed-bounds-requires-clause-known c =
    let jobs = c.args.jobs.now in
    let ss = c.args.sporadics.now in
    let cycle = c.args.cycle in
    let a = c.loop-from.from in
    let needs = needed_in-AreTables jobs c.loop-from.rest.now ss cycle a c.loop-from.ends c.args.arrivals.now c.loop-from.invariant.tables c.loop-from-test.true in
    AreKnown-same (window_demand jobs ss cycle a) (needed_in c.loop-from.ends c.args.arrivals.now a) a (2 * cycle) c.loop-from.bounds needs c.loop-from.invariant.known

pub failing_from-failing-requires-clause-last : goal.failing_from-failing-requires-clause-last
failing_from-failing-requires-clause-last c =
    let tables = c.loop-from.invariant.tables in
    let len = tables.passed.len in
    omega (arith, c.least_after.ensures.within _ _ _ c.renewed-bounds.ensures)

pub failing_from-failing-requires-clause-readable : goal.failing_from-failing-requires-clause-readable
failing_from-failing-requires-clause-readable c =
    AreReadable-from_AreTables c.args.jobs.now c.loop-from.rest.now c.args.sporadics.now c.args.cycle c.loop-from.from c.loop-from.ends c.args.arrivals.now c.loop-from.invariant.tables c.requires.cycle c.requires.few

pub failing_from-failing-requires-clause-rising : goal.failing_from-failing-requires-clause-rising
failing_from-failing-requires-clause-rising c =
    let jobs = c.args.jobs.now in
    let rest = c.loop-from.rest.now in
    let ss = c.args.sporadics.now in
    let cycle = c.args.cycle in
    let a = c.loop-from.from in
    let tables = c.loop-from.invariant.tables in
    let needs = needed_in-AreTables jobs rest ss cycle a c.loop-from.ends c.args.arrivals.now tables c.loop-from-test.true in
    let within = failing_from-failing-requires-clause-last c in
    λ b d low later high.
    omega (
      arith,
      needs b low (omega arith),
      needs d (omega arith) (omega arith),
      window_demand-rises jobs rest ss cycle a tables.started b d tables.start (omega arith) later,
    )

pub failing_from-failing-requires-clause-known : goal.failing_from-failing-requires-clause-known
failing_from-failing-requires-clause-known c =
    let tables = c.loop-from.invariant.tables in
    let len = tables.passed.len in
    λ b past low high. c.least_after.ensures.known _ _ _ c.renewed-bounds.ensures b past low (omega arith)

pub returns-then-is_some : goal.returns-then-is_some
returns-then-is_some c =
    let jobs = c.args.jobs.now in
    let ss = c.args.sporadics.now in
    let cycle = c.args.cycle in
    let a = c.loop-from.from in
    let o = c.failing_from-failing.result in
    let tables = c.loop-from.invariant.tables in
    let is = found-is jobs c.loop-from.rest.now ss cycle a c.loop-from.ends c.args.arrivals.now o tables c.loop-from-test.true c.failing_from-failing.ensures in
    first_found (first_failing_from jobs ss cycle) cycle a o c.loop-from-test.true tables.none is (sym c.is_some.ensures ∙ c.if-is_some.true)

pub pass_all-requires-clause-within : goal.pass_all-requires-clause-within
pass_all-requires-clause-within c =
    let tables = c.loop-from.invariant.tables in
    let start = tables.start in
    within_front c.args.jobs.now c.loop-from.rest.now c.split_at.result.0.now tables.started c.count_started.result c.args.cycle start.rest_is c.split_at.ensures.front c.requires.within

pub pass_all-requires-clause-few : goal.pass_all-requires-clause-few
pass_all-requires-clause-few c =
    let jobs = c.args.jobs.now in
    let tables = c.loop-from.invariant.tables in
    let start = tables.start in
    λ b low.
    omega (
      arith,
      tables.passed.passed b low,
      ap (λ xs. ending_by first_end xs b) c.split_at.ensures.front,
      ending_by-twice first_end jobs c.loop-from.rest.now tables.started c.count_started.result b start.rest_is,
      ending_by-le first_end (take (tables.started + c.count_started.result) jobs) b,
      sum_by-take-le (λ (j : Job). j.declared) jobs (tables.started + c.count_started.result),
      c.requires.few,
      c.requires.cycle,
    )

pub next_bounds-bounds-requires-clause-few : goal.next_bounds-bounds-requires-clause-few
next_bounds-bounds-requires-clause-few c =
    let jobs = c.args.jobs.now in
    let tables = c.loop-from.invariant.tables in
    let start = tables.start in
    omega (
      arith,
      ap (sum_by (λ (j : Job). j.declared)) c.split_at.ensures.front,
      declared-twice jobs c.loop-from.rest.now tables.started c.count_started.result start.rest_is,
      sum_by-take-le (λ (j : Job). j.declared) jobs (tables.started + c.count_started.result),
      c.requires.few,
      c.requires.cycle,
    )

pub next_bounds-bounds-requires-clause-within : goal.next_bounds-bounds-requires-clause-within
next_bounds-bounds-requires-clause-within c =
    let tables = c.loop-from.invariant.tables in
    within_front c.args.jobs.now c.loop-from.rest.now c.split_at.result.0.now tables.started c.count_started.result c.args.cycle tables.start.rest_is c.split_at.ensures.front c.requires.within

pub loop-from-preserved : goal.loop-from-preserved
loop-from-preserved c =
    let jobs = c.args.jobs.now in
    let rest = c.loop-from.rest.now in
    let front = c.split_at.result.0.now in
    let others = c.split_at.result.1.now in
    let ss = c.args.sporadics.now in
    let cycle = c.args.cycle in
    let a = c.loop-from.from in
    let n = c.count_started.result in
    let tables = c.loop-from.invariant.tables in
    let start = tables.start in
    let o = c.failing_from-failing.result in
    let is = found-is jobs rest ss cycle a c.loop-from.ends c.args.arrivals.now o tables c.loop-from-test.true c.failing_from-failing.ensures in
    let needs = needed_in-AreTables jobs rest ss cycle a c.loop-from.ends c.args.arrivals.now tables c.loop-from-test.true in
    let none : first_failing_from jobs ss cycle a ≡ None = sym is ∙ none_there o (sym c.is_some.ensures ∙ c.if-is_some.false) in
    let next_start = IsStart-next jobs rest others a tables.started n c.requires.ordered start c.count_started.ensures.count c.split_at.ensures.back in
    let next : AreTables jobs others ss cycle (a + 1) c.pass_all.new.self c.args.arrivals.now = AreTables-next jobs rest front others ss cycle a n c.loop-from.ends c.pass_all.new.self c.args.arrivals.now c.requires.ordered tables c.count_started.ensures.count c.split_at.ensures.front c.split_at.ensures.back c.pass_all.ensures none in
    record {
      tables = next;
      known = c.next_bounds-bounds.ensures (window_demand jobs ss cycle a) (window_demand jobs ss cycle (a + 1)) (AreKnown-same (needed_in c.loop-from.ends c.args.arrivals.now a) (window_demand jobs ss cycle a) a (2 * cycle) c.renewed-bounds.result (λ b low high. sym (needs b low high)) c.renewed-bounds.ensures) (λ b low high. fits-from_first_failing jobs ss cycle a none b low high) (λ b low high. omega (
        arith,
        window_demand-next jobs rest others ss cycle a tables.started n b start next_start c.split_at.ensures.back c.loop-from-test.true,
        ap (λ xs. ending_by first_end xs b) c.split_at.ensures.front,
      ));
    }

pub returns : goal.returns
returns c =
    sym (first_some-from_none (first_failing_from c.args.jobs.now c.args.sporadics.now c.args.cycle) 0 c.args.cycle (λ k _ low. c.loop-from.invariant.tables.none k (omega arith)))
