use Rattle.std.proofs.Common.{◌≡◌, ℕ, ◌+◌, ◌-◌, ◌*◌, ◌/◌, ◌^◌, ◌<◌, ◌≤◌, [], List, length, map, slice_index, sym, ap, ◌∙◌, subst, arith}
use Rattle.std.specs.List.{range_with_len}
use Rattle.std.proofs.lemmas.List.Sorted.{IsPermutation-refl}
use Rattle.std.proofs.lemmas.Result.{IfOk-weaker}
use Rattle.slot_core.specs.Feasibility.Sporadics.{sporadic_demand}
use Rattle.supply_find.specs.Found.{supplies_of}
use Rattle.supply_find.specs.Keys.{IsShortest, entry_of}
use Rattle.supply_find.specs.declared.supply.TheConstants.{WEIGHT}
use Rattle.supply_find.proofs.Tables.{mapped-length}
use Rattle.supply_find.proofs.OfPlan.{of-plan, some-cycle, short-cycle, few-jobs, within-jobs, read-entries, entries-same}
use Rattle.supply_find.proofs.supply.find_supply.Goals as goal

pub overflow_mul-cycle : goal.overflow_mul-cycle
overflow_mul-cycle c =
    let plan = c.args.plan.now in
    let of = of-plan plan plan.jobs c.cycle-cycle.ensures.plan (IsPermutation-refl plan.jobs) in
    omega (arith, short-cycle plan.tasks plan.jobs c.cycle-cycle.result of (c.cycle-cycle.ensures.cycle ∙ c.cycle-cycle.ensures.plan.cycle))

pub needed_table-requires : goal.needed_table-requires
needed_table-requires c =
    let plan = c.args.plan.now in
    let of = of-plan plan plan.jobs c.cycle-cycle.ensures.plan (IsPermutation-refl plan.jobs) in
    omega (arith, short-cycle plan.tasks plan.jobs c.cycle-cycle.result of (c.cycle-cycle.ensures.cycle ∙ c.cycle-cycle.ensures.plan.cycle))

pub most_keys-requires-clause-positive : goal.most_keys-requires-clause-positive
most_keys-requires-clause-positive c =
    let plan = c.args.plan.now in
    some-cycle plan.tasks c.jobs_by_start.result.now c.cycle-cycle.result (of-plan plan c.jobs_by_start.result.now c.cycle-cycle.ensures.plan c.jobs_by_start.ensures.items) (c.cycle-cycle.ensures.cycle ∙ c.cycle-cycle.ensures.plan.cycle)

pub most_keys-requires-clause-cycle : goal.most_keys-requires-clause-cycle
most_keys-requires-clause-cycle c =
    let plan = c.args.plan.now in
    short-cycle plan.tasks c.jobs_by_start.result.now c.cycle-cycle.result (of-plan plan c.jobs_by_start.result.now c.cycle-cycle.ensures.plan c.jobs_by_start.ensures.items) (c.cycle-cycle.ensures.cycle ∙ c.cycle-cycle.ensures.plan.cycle)

pub most_keys-requires-clause-few : goal.most_keys-requires-clause-few
most_keys-requires-clause-few c =
    let plan = c.args.plan.now in
    few-jobs plan.tasks c.jobs_by_start.result.now c.cycle-cycle.result (of-plan plan c.jobs_by_start.result.now c.cycle-cycle.ensures.plan c.jobs_by_start.ensures.items) (c.cycle-cycle.ensures.cycle ∙ c.cycle-cycle.ensures.plan.cycle)

pub most_keys-requires-clause-within : goal.most_keys-requires-clause-within
most_keys-requires-clause-within c =
    let plan = c.args.plan.now in
    within-jobs plan.tasks c.jobs_by_start.result.now c.cycle-cycle.result (of-plan plan c.jobs_by_start.result.now c.cycle-cycle.ensures.plan c.jobs_by_start.ensures.items) (c.cycle-cycle.ensures.cycle ∙ c.cycle-cycle.ensures.plan.cycle)

-- the length of the keys is small
few-keys : (xs ys : List ℕ) (n : ℕ) → ys ≡ xs → length xs ≡ 2 * n + 1 → n ≤ 2 ^ 13 → length ys < 2 ^ 32
few-keys xs ys n same len short = omega (arith, ap length same, len, short)

pub free_table-requires-clause-few : goal.free_table-requires-clause-few
free_table-requires-clause-few c =
    let plan = c.args.plan.now in
    few-keys c.in_ok-most.most.items c.deref.result.now c.cycle-cycle.result c.deref.ensures.value c.in_ok-most.ensures.len (short-cycle plan.tasks c.jobs_by_start.result.now c.cycle-cycle.result (of-plan plan c.jobs_by_start.result.now c.cycle-cycle.ensures.plan c.jobs_by_start.ensures.items) (c.cycle-cycle.ensures.cycle ∙ c.cycle-cycle.ensures.plan.cycle))

-- as long as the keys
free-long : (most m1 free f2 : List ℕ) (f : ℕ → ℕ) (n : ℕ) → m1 ≡ most → f2 ≡ free → length most ≡ 2 * n + 1 → free ≡ map f (range_with_len 0 (length m1)) → length f2 ≡ 2 * n + 1
free-long most m1 free f2 f n same other len is = ap length other ∙ mapped-length f free (length m1) is ∙ ap length same ∙ len

pub shortest_table-requires-clause-some : goal.shortest_table-requires-clause-some
shortest_table-requires-clause-some c =
    omega (arith, free-long c.in_ok-most.most.items c.deref.result.now c.in_ok-free.free.items c.deref-2.result.now _ c.cycle-cycle.result c.deref.ensures.value c.deref-2.ensures.value c.in_ok-most.ensures.len c.in_ok-free.ensures)

pub shortest_table-requires-clause-few : goal.shortest_table-requires-clause-few
shortest_table-requires-clause-few c =
    let plan = c.args.plan.now in
    omega (arith, free-long c.in_ok-most.most.items c.deref.result.now c.in_ok-free.free.items c.deref-2.result.now _ c.cycle-cycle.result c.deref.ensures.value c.deref-2.ensures.value c.in_ok-most.ensures.len c.in_ok-free.ensures, short-cycle plan.tasks c.jobs_by_start.result.now c.cycle-cycle.result (of-plan plan c.jobs_by_start.result.now c.cycle-cycle.ensures.plan c.jobs_by_start.ensures.items) (c.cycle-cycle.ensures.cycle ∙ c.cycle-cycle.ensures.plan.cycle))

pub supplies-requires-clause-cycle : goal.supplies-requires-clause-cycle
supplies-requires-clause-cycle c =
    let plan = c.args.plan.now in
    short-cycle plan.tasks c.jobs_by_start.result.now c.cycle-cycle.result (of-plan plan c.jobs_by_start.result.now c.cycle-cycle.ensures.plan c.jobs_by_start.ensures.items) (c.cycle-cycle.ensures.cycle ∙ c.cycle-cycle.ensures.plan.cycle)

pub supplies-requires-clause-free : goal.supplies-requires-clause-free
supplies-requires-clause-free c =
    free-long c.in_ok-most.most.items c.deref.result.now c.in_ok-free.free.items c.deref-4.result.now _ c.cycle-cycle.result c.deref.ensures.value c.deref-4.ensures.value c.in_ok-most.ensures.len c.in_ok-free.ensures

pub supplies-requires-clause-shortest : goal.supplies-requires-clause-shortest
supplies-requires-clause-shortest c =
    ap length c.deref-5.ensures.value ∙ c.in_ok-shortest.ensures.len ∙ free-long c.in_ok-most.most.items c.deref.result.now c.in_ok-free.free.items c.deref-2.result.now _ c.cycle-cycle.result c.deref.ensures.value c.deref-2.ensures.value c.in_ok-most.ensures.len c.in_ok-free.ensures

pub supplies-requires-clause-lengths : goal.supplies-requires-clause-lengths
supplies-requires-clause-lengths c =
    let plan = c.args.plan.now in
    let n = c.cycle-cycle.result in
    let jobs = c.jobs_by_start.result.now in
    let of = of-plan plan jobs c.cycle-cycle.ensures.plan c.jobs_by_start.ensures.items in
    let is = subst (λ m. c.in_ok-free.free.items ≡ map (λ k. k - (slice_index m k / WEIGHT + slice_index c.items.result.now k)) (range_with_len 0 (length m))) c.deref.ensures.value c.in_ok-free.ensures in
    let needs = subst (λ ss. (x : ℕ) → x ≤ 2 * n → slice_index c.items.result.now x ≡ sporadic_demand ss [] 0 x) c.sporadics.ensures.sporadics (subst (λ xs. (x : ℕ) → x ≤ 2 * n → slice_index xs x ≡ sporadic_demand c.sporadics.result.now [] 0 x) (sym c.items.ensures) c.in_ok-arriving.ensures.values) in
    let shorter = subst (λ f. (k : ℕ) → k < length f → IsShortest f k (slice_index c.in_ok-shortest.shortest.items k)) c.deref-2.ensures.value c.in_ok-shortest.ensures.shortest in
    let read = read-entries plan.tasks jobs n of (c.cycle-cycle.ensures.cycle ∙ c.cycle-cycle.ensures.plan.cycle) c.in_ok-most.most.items c.in_ok-free.free.items c.in_ok-shortest.shortest.items c.items.result.now c.in_ok-most.ensures.greatest c.in_ok-most.ensures.len is needs shorter in
    subst (λ xs. (k : ℕ) → k ≤ n → slice_index xs k ≤ 2 * n) (sym c.deref-5.ensures.value) read.0

pub returns : goal.returns
returns c =
    let plan = c.args.plan.now in
    let n = c.cycle-cycle.result in
    let jobs = c.jobs_by_start.result.now in
    let of = of-plan plan jobs c.cycle-cycle.ensures.plan c.jobs_by_start.ensures.items in
    let is = subst (λ m. c.in_ok-free.free.items ≡ map (λ k. k - (slice_index m k / WEIGHT + slice_index c.items.result.now k)) (range_with_len 0 (length m))) c.deref.ensures.value c.in_ok-free.ensures in
    let needs = subst (λ ss. (x : ℕ) → x ≤ 2 * n → slice_index c.items.result.now x ≡ sporadic_demand ss [] 0 x) c.sporadics.ensures.sporadics (subst (λ xs. (x : ℕ) → x ≤ 2 * n → slice_index xs x ≡ sporadic_demand c.sporadics.result.now [] 0 x) (sym c.items.ensures) c.in_ok-arriving.ensures.values) in
    let shorter = subst (λ f. (k : ℕ) → k < length f → IsShortest f k (slice_index c.in_ok-shortest.shortest.items k)) c.deref-2.ensures.value c.in_ok-shortest.ensures.shortest in
    let read = read-entries plan.tasks jobs n of (c.cycle-cycle.ensures.cycle ∙ c.cycle-cycle.ensures.plan.cycle) c.in_ok-most.most.items c.in_ok-free.free.items c.in_ok-shortest.shortest.items c.items.result.now c.in_ok-most.ensures.greatest c.in_ok-most.ensures.len is needs shorter in
    let same = entries-same c.deref-3.result.now c.in_ok-most.most.items c.deref-4.result.now c.in_ok-free.free.items c.deref-5.result.now c.in_ok-shortest.shortest.items n c.deref-3.ensures.value c.deref-4.ensures.value c.deref-5.ensures.value in
    IfOk-weaker c.supplies.result (λ table. table ≡ map (entry_of c.deref-3.result.now c.deref-4.result.now c.deref-5.result.now n) (range_with_len 0 (n + 1))) (λ table. table ≡ supplies_of plan.tasks) (λ table told. told ∙ same ∙ read.1) c.supplies.ensures
