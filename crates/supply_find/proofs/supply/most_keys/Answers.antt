use Rattle.std.proofs.Common.{◌≡◌, ℕ, suc, ◌+◌, ◌-◌, ◌*◌, ◌≤◌, List, length, slice_index, sym, ap, ◌∙◌, subst, arith}
use Rattle.slot_core.specs.declared.TheConstants.{SLOT_LIMIT}
use Rattle.supply_find.specs.Due.{due_by}
use Rattle.supply_find.specs.Keys.{IsCounted}
use Rattle.supply_find.proofs.Tables.{whole-small, counted-small, mapped-length, later-small, later-reads, keyed-step}
use Rattle.supply_find.proofs.supply.most_keys.Goals as goal

-- the same list is small
small-same : (xs ys : List ℕ) (m : ℕ) → ys ≡ xs → ((b : ℕ) → slice_index xs b ≤ m) → (b : ℕ) → slice_index ys b ≤ m
small-same xs ys m same small = subst (λ zs. (b : ℕ) → slice_index zs b ≤ m) (sym same) small

pub later_table-requires-clause-small : goal.later_table-requires-clause-small
later_table-requires-clause-small c =
    small-same c.in_ok-whole.whole.items c.deref.result.now SLOT_LIMIT c.deref.ensures.value (whole-small c.args.jobs.now c.args.cycle c.in_ok-whole.whole.items c.requires.few c.requires.cycle c.in_ok-whole.ensures.len c.in_ok-whole.ensures.due)

pub keep_start-requires-clause-later : goal.keep_start-requires-clause-later
keep_start-requires-clause-later c =
    ap length c.deref-in-loop-from-2.ensures.value ∙ mapped-length _ c.in_ok-later.later.items (3 * c.args.cycle + 1) c.in_ok-later.ensures

pub keep_start-requires-clause-small : goal.keep_start-requires-clause-small
keep_start-requires-clause-small c =
    small-same c.count_from-front.new.due.items c.deref-in-loop-from.result.now SLOT_LIMIT c.deref-in-loop-from.ensures.value (counted-small c.args.jobs.now c.count_from-front.result c.args.cycle c.count_from-front.new.due.items c.requires.few c.requires.cycle c.count_from-front.ensures.counted)

pub keep_start-requires-clause-small_later : goal.keep_start-requires-clause-small_later
keep_start-requires-clause-small_later c =
    let whole = small-same c.in_ok-whole.whole.items c.deref.result.now SLOT_LIMIT c.deref.ensures.value (whole-small c.args.jobs.now c.args.cycle c.in_ok-whole.whole.items c.requires.few c.requires.cycle c.in_ok-whole.ensures.len c.in_ok-whole.ensures.due) in
    small-same c.in_ok-later.later.items c.deref-in-loop-from-2.result.now (2 * SLOT_LIMIT) c.deref-in-loop-from-2.ensures.value (later-small c.deref.result.now c.in_ok-later.later.items c.args.cycle (3 * c.args.cycle + 1) c.in_ok-later.ensures whole)

pub loop-from-preserved : goal.loop-from-preserved
loop-from-preserved c =
    let inv = c.loop-from.invariant in
    let jobs = c.args.jobs.now in
    let cycle = c.args.cycle in
    let from : ℕ = c.loop-from.from - 1 in
    let front = c.count_from-front.result in
    let due = c.deref-in-loop-from.result.now in
    let later = c.deref-in-loop-from-2.result.now in
    let same_due = c.deref-in-loop-from.ensures.value in
    let same_later = c.deref-in-loop-from-2.ensures.value in
    let len : length due ≡ cycle + 1 = ap length same_due ∙ c.count_from-front.ensures.len ∙ inv.due in
    let counted : IsCounted jobs front due = subst (IsCounted jobs front) (sym same_due) c.count_from-front.ensures.counted in
    let step : c.loop-from.from ≡ suc from = omega (arith, c.loop-from-test.true) in
    record {
      low = omega (arith, inv.low);
      front = c.count_from-front.ensures.front;
      due = c.count_from-front.ensures.len ∙ inv.due;
      counted = c.count_from-front.ensures.counted;
      split = c.count_from-front.ensures.split;
      most = c.keep_start.ensures.len ∙ inv.most;
      greatest = λ n within.
          let read = ap (λ xs. slice_index xs (from + n)) same_later ∙ later-reads jobs c.deref.result.now c.in_ok-later.later.items cycle (from + n) c.requires.within c.in_ok-later.ensures (subst (λ xs. (k : ℕ) → k ≤ cycle → slice_index xs k ≡ due_by jobs k) (sym c.deref.ensures.value) c.in_ok-whole.ensures.due) (omega (arith, inv.low, within, step)) in
          keyed-step jobs cycle c.loop-from.from from front n _ _ due later step c.requires.within len counted c.count_from-front.ensures.split read (omega (arith, step, inv.low)) (inv.greatest n within) (c.keep_start.ensures.kept n within);
    }
