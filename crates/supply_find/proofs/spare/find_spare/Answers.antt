-- The tables are those of the plan.
use Rattle.std.proofs.Common.{◌≡◌, ℕ, ◌+◌, ◌*◌, ◌≤◌, true, List, length, map, slice_index, sym, ap, ◌∙◌, subst, arith}
use Rattle.std.specs.List.{range_with_len}
use Rattle.std.specs.Prelude.{Result, Ok, Err, IfOk, sum_by}
use Rattle.std.proofs.lemmas.List.Elements.{All-same}
use Rattle.std.proofs.lemmas.List.Sorted.{IsPermutation-refl}
use Rattle.std.proofs.lemmas.Result.{IfOk-weaker}
use Rattle.std.proofs.lemmas.List.Sums.{AllPass-from_list_all}
use Rattle.slot_core.specs.declared.TheConstants.{SLOT_LIMIT}
use Rattle.slot_core.specs.declared.jobs.Job.{Job}
use Rattle.slot_core.specs.Sets.Ranges.{sporadic_in_range}
use Rattle.slot_facts.proofs.Sets.Ranges.{SetRanges-from_sound}
use Rattle.supply_laws.specs.Spare.{arrivals_within}
use Rattle.supply_find.specs.Due.{due_by}
use Rattle.supply_find.specs.Spare.{least_by, spares_of}
use Rattle.supply_find.proofs.OfPlan.{of-plan, few-jobs, short-cycle}
use Rattle.supply_find.proofs.SpareTables.{spares-are, two-small}
use Rattle.supply_find.proofs.Tables.{mapped-length, whole-small}
use Rattle.supply_find.proofs.spare.find_spare.Goals as goal

pub due_table-requires-clause-cycle : goal.due_table-requires-clause-cycle
due_table-requires-clause-cycle c =
    let plan = c.args.plan.now in
    short-cycle plan.tasks plan.jobs c.cycle-cycle.result (of-plan plan plan.jobs c.cycle-cycle.ensures.plan (IsPermutation-refl plan.jobs)) (c.cycle-cycle.ensures.cycle ∙ c.cycle-cycle.ensures.plan.cycle)

pub due_table-requires-clause-few : goal.due_table-requires-clause-few
due_table-requires-clause-few c =
    let plan = c.args.plan.now in
    let few = few-jobs plan.tasks plan.jobs c.cycle-cycle.result (of-plan plan plan.jobs c.cycle-cycle.ensures.plan (IsPermutation-refl plan.jobs)) (c.cycle-cycle.ensures.cycle ∙ c.cycle-cycle.ensures.plan.cycle) in
    omega (arith, few, ap (λ (js : List Job). sum_by (λ (j : Job). j.declared) js) c.jobs.ensures.jobs)

pub two_cycles-requires-clause-cycle : goal.two_cycles-requires-clause-cycle
two_cycles-requires-clause-cycle c =
    let plan = c.args.plan.now in
    short-cycle plan.tasks plan.jobs c.cycle-cycle.result (of-plan plan plan.jobs c.cycle-cycle.ensures.plan (IsPermutation-refl plan.jobs)) (c.cycle-cycle.ensures.cycle ∙ c.cycle-cycle.ensures.plan.cycle)

-- what is due in a cycle is small
due-small : (jobs : List Job) (cycle : ℕ) (first same : List ℕ) → same ≡ first → sum_by (λ (j : Job). j.declared) jobs ≤ cycle → cycle ≤ SLOT_LIMIT → length first ≡ cycle + 1 → ((b : ℕ) → b ≤ cycle → slice_index first b ≡ due_by jobs b) → (b : ℕ) → slice_index same b ≤ SLOT_LIMIT
due-small jobs cycle first same is few short long due =
    subst (λ xs. (b : ℕ) → slice_index xs b ≤ SLOT_LIMIT) (sym is) (whole-small jobs cycle first few short long due)

pub two_cycles-requires-clause-small : goal.two_cycles-requires-clause-small
two_cycles-requires-clause-small c =
    let plan = c.args.plan.now in
    let of = of-plan plan plan.jobs c.cycle-cycle.ensures.plan (IsPermutation-refl plan.jobs) in
    let same = c.cycle-cycle.ensures.cycle ∙ c.cycle-cycle.ensures.plan.cycle in
    let few : sum_by (λ (j : Job). j.declared) c.jobs.result.now ≤ c.cycle-cycle.result = omega (arith, few-jobs plan.tasks plan.jobs c.cycle-cycle.result of same, ap (λ (js : List Job). sum_by (λ (j : Job). j.declared) js) c.jobs.ensures.jobs) in
    due-small c.jobs.result.now c.cycle-cycle.result c.in_ok-first.first.items c.deref.result.now c.deref.ensures.value few (short-cycle plan.tasks plan.jobs c.cycle-cycle.result of same) c.in_ok-first.ensures.len c.in_ok-first.ensures.due

pub arriving_table-requires-clause-cycle : goal.arriving_table-requires-clause-cycle
arriving_table-requires-clause-cycle c =
    let plan = c.args.plan.now in
    short-cycle plan.tasks plan.jobs c.cycle-cycle.result (of-plan plan plan.jobs c.cycle-cycle.ensures.plan (IsPermutation-refl plan.jobs)) (c.cycle-cycle.ensures.cycle ∙ c.cycle-cycle.ensures.plan.cycle)

pub arriving_table-requires-clause-few : goal.arriving_table-requires-clause-few
arriving_table-requires-clause-few c =
    let set = c.args.plan.now.tasks in
    omega (arith, ap length c.sporadics.ensures.sporadics, (SetRanges-from_sound set c.cycle-cycle.ensures.plan.sound).few)

pub arriving_table-requires-clause-in_range : goal.arriving_table-requires-clause-in_range
arriving_table-requires-clause-in_range c =
    let set = c.args.plan.now.tasks in
    All-same (λ s. sporadic_in_range s ≡ true) _ _ c.sporadics.ensures.sporadics (AllPass-from_list_all sporadic_in_range set.sporadics (SetRanges-from_sound set c.cycle-cycle.ensures.plan.sound).sporadics)

pub spares-requires-clause-cycle : goal.spares-requires-clause-cycle
spares-requires-clause-cycle c =
    let plan = c.args.plan.now in
    short-cycle plan.tasks plan.jobs c.cycle-cycle.result (of-plan plan plan.jobs c.cycle-cycle.ensures.plan (IsPermutation-refl plan.jobs)) (c.cycle-cycle.ensures.cycle ∙ c.cycle-cycle.ensures.plan.cycle)

pub spares-requires-clause-len : goal.spares-requires-clause-len
spares-requires-clause-len c =
    ap length c.deref-2.ensures.value ∙ mapped-length _ c.in_ok-due.due.items (2 * c.cycle-cycle.result + 1) c.in_ok-due.ensures

pub spares-requires-clause-len_arriving : goal.spares-requires-clause-len_arriving
spares-requires-clause-len_arriving c =
    ap length c.deref-3.ensures.value ∙ mapped-length _ c.in_ok-arriving.arriving.items (c.cycle-cycle.result + 1) c.in_ok-arriving.ensures.table

pub spares-requires-clause-due : goal.spares-requires-clause-due
spares-requires-clause-due c =
    let plan = c.args.plan.now in
    let of = of-plan plan plan.jobs c.cycle-cycle.ensures.plan (IsPermutation-refl plan.jobs) in
    let same = c.cycle-cycle.ensures.cycle ∙ c.cycle-cycle.ensures.plan.cycle in
    let few : sum_by (λ (j : Job). j.declared) c.jobs.result.now ≤ c.cycle-cycle.result = omega (arith, few-jobs plan.tasks plan.jobs c.cycle-cycle.result of same, ap (λ (js : List Job). sum_by (λ (j : Job). j.declared) js) c.jobs.ensures.jobs) in
    let small = due-small c.jobs.result.now c.cycle-cycle.result c.in_ok-first.first.items c.deref.result.now c.deref.ensures.value few (short-cycle plan.tasks plan.jobs c.cycle-cycle.result of same) c.in_ok-first.ensures.len c.in_ok-first.ensures.due in
    subst (λ xs. (b : ℕ) → slice_index xs b ≤ 2 * SLOT_LIMIT) (sym c.deref-2.ensures.value) (two-small c.deref.result.now c.in_ok-due.due.items c.cycle-cycle.result (2 * c.cycle-cycle.result + 1) c.in_ok-due.ensures small)

both-ok : {X E : Type 0} (r : Result X E) (P Q : X → Type 0) → IfOk r P → IfOk r Q → IfOk r (λ x. P x × Q x)
both-ok (Ok x) P Q p q = (p, q)
both-ok (Err e) P Q p q = tt

pub returns : goal.returns
returns c =
    let plan = c.args.plan.now in
    let n = c.cycle-cycle.result in
    let of = of-plan plan plan.jobs c.cycle-cycle.ensures.plan (IsPermutation-refl plan.jobs) in
    let same = c.cycle-cycle.ensures.cycle ∙ c.cycle-cycle.ensures.plan.cycle in
    let first = subst (λ xs. (b : ℕ) → b ≤ n → slice_index xs b ≡ due_by plan.jobs b) (sym c.deref.ensures.value) (subst (λ (js : List Job). (b : ℕ) → b ≤ n → slice_index c.in_ok-first.first.items b ≡ due_by js b) c.jobs.ensures.jobs c.in_ok-first.ensures.due) in
    let two = c.deref-2.ensures.value ∙ c.in_ok-due.ensures in
    let arrive = c.deref-3.ensures.value ∙ c.in_ok-arriving.ensures.table ∙ ap (λ ss. map (arrivals_within ss) (range_with_len 0 (n + 1))) c.sporadics.ensures.sporadics in
    let both = both-ok c.spares.result (λ table. length table.items ≡ n + 1) (λ table. (k : ℕ) → k ≤ n → slice_index table.items k ≡ least_by c.deref-2.result.now c.deref-3.result.now n n k) c.spares.ensures.len c.spares.ensures.least in
    IfOk-weaker c.spares.result (λ table. (length table.items ≡ n + 1) × ((k : ℕ) → k ≤ n → slice_index table.items k ≡ least_by c.deref-2.result.now c.deref-3.result.now n n k)) (λ table. table.items ≡ spares_of plan.tasks) (λ table told. spares-are plan.tasks plan.jobs n c.deref.result.now c.deref-2.result.now c.deref-3.result.now table.items of same first two arrive told.0 told.1) both
