-- Of two offline jobs that are carried over a predecessor goes first, and one list is carried.
use Rattle.std.proofs.Common.{◌≡◌, ℕ, zero, suc, ◌+◌, ◌-◌, ◌/◌, ◌<◌, ◌≤◌, min, Bool, true, false, cond, List, [], ◌∷◌, Some, sym, ap, ◌∙◌, subst, inl, inr, arith}
use Rattle.std.specs.Prelude.{filter, slice_get}
use Rattle.std.specs.Cmp.Lexicographic.{slice_cmp}
use Rattle.std.specs.Ordering.{is_lt, nat_cmp}
use Rattle.std.proofs.lemmas.Bool.{cases_order}
use Rattle.std.proofs.lemmas.Bool.Decides.{nat_tests}
use Rattle.std.proofs.lemmas.List.Sorted.{IsPermutation-sym, IsPermutation-trans}
use Rattle.slot_core.specs.declared.jobs.Job.{Job}
use Rattle.slot_core.specs.declared.tasks.TaskSet.{TaskSet}
use Rattle.slot_core.specs.Offline.Keys.{is_offline, key_order, row_of}
use Rattle.slot_core.specs.Offline.Windows.{precedes}
use Rattle.slot_core.specs.Sets.Cycles.{cycle_of}
use Rattle.slot_core.specs.Keeping.Executives.{Executive, IsKept}
use Rattle.slot_core.specs.Keeping.Kept.{AreApart, ArePlanned}
use Rattle.slot_core.specs.Runs.Matches.{HaveSameItems}
use Rattle.slot_core.specs.Runs.Scenes.{remaining}
use Rattle.slot_facts.proofs.Lists.Apart.{IsApart-filter}
use Rattle.slot_facts.proofs.Lists.ApartKeys.{IsApart-from_count}
use Rattle.slot_facts.proofs.Lists.Members.{AllByRecursion-at_Has, Contains-from_Has, Has, Has-from_slice_get}
use Rattle.slot_facts.proofs.Lists.SameItems.{jobs-same_items, same-filter, same-sym}
use Rattle.slot_facts.proofs.Offline.Windows.{precedes-offline}
use Rattle.slot_facts.proofs.Scheduling.Raw.{IsBefore-from_planned}
use Rattle.scene_steps.proofs.Slots.Places.{AreApart-same}
use Rattle.plan_change.specs.declared.keep.Keep.{Keep}
use Rattle.plan_change.specs.declared.offers.Offer.{Offer}
use Rattle.plan_change.specs.Carrying.{carried_from, carried_jobs, goes_first, goes_on, in_row_order, next_row, offer_of, offers_from, offers_of, row_in}
use Rattle.plan_change.specs.Laws.{OneListIsCarried, PredecessorsGoFirst, TheRowOrderRises}
use Rattle.plan_change.proofs.CarriedRows.{carried-one, carried-sorted}
use Rattle.plan_change.proofs.CarriedServed.{carried_jobs_keep_their_order}
use Rattle.plan_change.proofs.RowOrder.{AreInRowOrder, AreInRowOrder-in_order, AreInRowOrder-one, IsPermutation-in_row_order}

-- the offer at a place is that of the job there
within-at : (c cycle next n : ℕ) (jobs : List Job) (job : Job) (offer : Offer) → slice_get jobs n ≡ Some job → slice_get (offers_of c cycle next jobs) n ≡ Some offer → offer.within ≡ min (job.dl - c) cycle
within-at c cycle next n [] job offer at made = absurd (cc at)
within-at c cycle next zero (j ∷ jobs) job offer at made =
    let same : j ≡ job = cc at in
    let own : offer_of c cycle (row_in next j) j ≡ offer = cc made in
    sym (ap (λ (o : Offer). o.within) own) ∙ ap (λ (k : Job). min (k.dl - c) cycle) same
within-at c cycle next (suc n) (j ∷ jobs) job offer at made =
    within-at c cycle (next_row next j) n jobs job offer at made

pub next-row : (next : ℕ) (job : Job) → next ≤ next_row next job
next-row next job = by_kind (is_offline job.key)
  where
    by_kind : (b : Bool) → next ≤ cond b (next + 1) next
    by_kind true = omega arith
    by_kind false = omega arith

-- an offline job has a row from the next one on
row-from : (c cycle next n : ℕ) (jobs : List Job) (job : Job) (offer : Offer) → slice_get jobs n ≡ Some job → slice_get (offers_of c cycle next jobs) n ≡ Some offer → is_offline job.key ≡ true → next ≤ offer.row
row-from c cycle next n [] job offer at made offline = absurd (cc at)
row-from c cycle next zero (j ∷ jobs) job offer at made offline =
    let same : j ≡ job = cc at in
    let own : offer_of c cycle (row_in next j) j ≡ offer = cc made in
    let first = ap {B = ℕ} (λ (b : Bool). cond b next (row_of j.key)) (ap (λ (k : Job). is_offline k.key) same ∙ offline) in
    omega (arith, ap (λ (o : Offer). o.row) own, first)
row-from c cycle next (suc n) (j ∷ jobs) job offer at made offline =
    omega (arith, next-row next j, row-from c cycle (next_row next j) n jobs job offer at made offline)

-- and of two of them the one at the earlier place the lower
rows-rise : (c cycle next m n : ℕ) (jobs : List Job) (before after : Job) (a b : Offer) → m < n → slice_get jobs m ≡ Some before → slice_get jobs n ≡ Some after → slice_get (offers_of c cycle next jobs) m ≡ Some a → slice_get (offers_of c cycle next jobs) n ≡ Some b → is_offline before.key ≡ true → is_offline after.key ≡ true → a.row < b.row
rows-rise c cycle next m n [] before after a b lower at_m at_n made_m made_n first second = absurd (cc at_m)
rows-rise c cycle next m zero (j ∷ jobs) before after a b lower at_m at_n made_m made_n first second = absurd (omega (arith, lower))
rows-rise c cycle next zero (suc n) (j ∷ jobs) before after a b lower at_m at_n made_m made_n first second =
    let same : j ≡ before = cc at_m in
    let own : offer_of c cycle (row_in next j) j ≡ a = cc made_m in
    let kind = ap (λ (k : Job). is_offline k.key) same ∙ first in
    let here = ap {B = ℕ} (λ (o : Bool). cond o next (row_of j.key)) kind in
    let there = ap {B = ℕ} (λ (o : Bool). cond o (next + 1) next) kind in
    omega (arith, ap (λ (o : Offer). o.row) own, here, there, row-from c cycle (next_row next j) n jobs after b at_n made_n second)
rows-rise c cycle next (suc m) (suc n) (j ∷ jobs) before after a b lower at_m at_n made_m made_n first second =
    rows-rise c cycle (next_row next j) m n jobs before after a b (omega (arith, lower)) at_m at_n made_m made_n first second

-- in an ordered list the job at an earlier place goes first
first-at : (jobs : List Job) (m n : ℕ) (before after : Job) → AreInRowOrder jobs → m < n → slice_get jobs m ≡ Some before → slice_get jobs n ≡ Some after → goes_first before after ≡ true
first-at [] m n before after sorted lower at_m at_n = absurd (cc at_m)
first-at (j ∷ jobs) m zero before after sorted lower at_m at_n = absurd (omega (arith, lower))
first-at (j ∷ jobs) zero (suc n) before after sorted lower at_m at_n =
    let same : j ≡ before = cc at_m in
    subst (λ (k : Job). goes_first k after ≡ true) same (AllByRecursion-at_Has (λ other. goes_first j other ≡ true) jobs after sorted.0 (Has-from_slice_get jobs n after at_n))
first-at (j ∷ jobs) (suc m) (suc n) before after sorted lower at_m at_n =
    first-at jobs m n before after sorted.1 (omega (arith, lower)) at_m at_n

pub the_row_order_rises : TheRowOrderRises
the_row_order_rises jobs apart = (
  IsPermutation-in_row_order jobs,
  λ m n a b lower at_m at_n. first-at (in_row_order jobs) m n a b (AreInRowOrder-in_order jobs (IsApart-from_count jobs apart)) lower at_m at_n,
)

-- of two offline jobs the one that goes first is due no later
first_due : (off other : Bool) (dl row dl' row' : ℕ) (xs ys : List ℕ) → off ≡ true → other ≡ true → is_lt (slice_cmp nat_cmp ((cond off 1 0) ∷ (cond off dl row) ∷ xs) ((cond other 1 0) ∷ (cond other dl' row') ∷ ys)) ≡ true → dl ≤ dl'
first_due off other dl row dl' row' xs ys a b first = grind (arith, nat_tests)

due-le : (a b : Job) → is_offline a.key ≡ true → is_offline b.key ≡ true → goes_first a b ≡ true → a.dl ≤ b.dl
due-le a b own other first =
    first_due (is_offline a.key) (is_offline b.key) a.dl (row_of a.key) b.dl (row_of b.key) (key_order a.key) (key_order b.key) own other first

-- the job of an offer in a lower row with no later deadline goes before
earlier-firm : (x y r s : ℕ) → x ≤ y → r < s → is_lt (slice_cmp nat_cmp (x ∷ 2 ∷ r ∷ []) (y ∷ 2 ∷ s ∷ [])) ≡ true
earlier-firm x y r s low above = grind (arith, nat_tests)

-- a predecessor is due before
module _ (exec : Executive) (kept : IsKept exec) (keep : Keep) (before after : Job) (first : precedes exec.plan.tasks before.key after.key ≡ true) where
  predecessor-due : Has (carried_from keep exec) before → Has (carried_from keep exec) after → before.dl < after.dl
  predecessor-due at_b at_a =
      let set = exec.plan.tasks in
      let cycles = exec.scene.time / exec.plan.cycle + 3 in
      let jobs = exec.scene.jobs in
      let planned = subst (λ n. ArePlanned set n cycles jobs) kept.plan.cycle kept.bounds.planned in
      let inside_b = Contains-from_Has jobs before (carried-one exec kept keep before at_b).0 in
      let inside_a = Contains-from_Has jobs after (carried-one exec kept keep after at_a).0 in
      (IsBefore-from_planned set cycles jobs before after kept.plan.sound planned inside_b inside_a first).due (omega (arith, (kept.bounds.left after inside_a).0))

  predecessor-place : (m n : ℕ) → slice_get (carried_from keep exec) m ≡ Some before → slice_get (carried_from keep exec) n ≡ Some after → m < n
  predecessor-place m n at_m at_n =
      let jobs = carried_from keep exec in
      let due = predecessor-due (Has-from_slice_get jobs m before at_m) (Has-from_slice_get jobs n after at_n) in
      let offline = precedes-offline exec.plan.tasks before.key after.key first in
      elim (cases_order m n) [
        | inl same ↦
            let one : before ≡ after = cc (sym at_m ∙ ap (slice_get jobs) same ∙ at_n) in
            absurd (omega (arith, due, ap (λ (j : Job). j.dl) one))
        | inr (inl lower) ↦ lower
        | inr (inr above) ↦ absurd (omega (arith, due, due-le after before offline.1 offline.0 (first-at jobs n m after before (carried-sorted exec kept keep) above at_n at_m)))
      ]

pub predecessors_go_first : PredecessorsGoFirst
predecessors_go_first exec set keep first m n before after a b later kept sound feasible at_m at_n precede made_m made_n =
    let c = exec.scene.time in
    let cycle = cycle_of set in
    let jobs = carried_from keep exec in
    let offers = offers_from keep exec cycle first in
    let offline = precedes-offline exec.plan.tasks before.key after.key precede in
    let due = predecessor-due exec kept keep before after precede (Has-from_slice_get jobs m before at_m) (Has-from_slice_get jobs n after at_n) in
    let lower = predecessor-place exec kept keep before after precede m n at_m at_n in
    let row = rows-rise c cycle first m n jobs before after a b lower at_m at_n made_m made_n offline.0 offline.1 in
    let near : a.within ≤ b.within = omega (arith, due, within-at c cycle first m jobs before a at_m made_m, within-at c cycle first n jobs after b at_n made_n) in (
      row,
      near,
      λ legal told. carried_jobs_keep_their_order set offers a b later sound feasible (Contains-from_Has offers a (Has-from_slice_get offers m a made_m)) (Contains-from_Has offers b (Has-from_slice_get offers n b made_n)) (earlier-firm (0 + a.within) (0 + b.within) a.row b.row (omega (arith, near)) row) legal told,
    )

-- however the jobs are listed, they are carried over as one list
carried-same : (keep : Keep) (set : TaskSet) (c : ℕ) (xs ys : List Job) → HaveSameItems xs ys → AreApart ys → carried_jobs keep set c xs ≡ carried_jobs keep set c ys
carried-same keep set c xs ys same apart =
    let test = goes_on keep set c in
    let key = λ (j : Job). j.key in
    let left = filter test xs in
    let right = filter test ys in
    let moved = (jobs-same_items left right).0 (same-filter test xs ys same) in
    let first = IsPermutation-in_row_order left in
    let second = IsPermutation-in_row_order right in
    let permuted = IsPermutation-trans (in_row_order left) left (in_row_order right) (IsPermutation-sym left (in_row_order left) first) (IsPermutation-trans left right (in_row_order right) moved second) in
    AreInRowOrder-one (in_row_order left) (in_row_order right)
    (AreInRowOrder-in_order left (IsApart-filter key test xs (IsApart-from_count xs (AreApart-same xs ys same apart))))
    (AreInRowOrder-in_order right (IsApart-filter key test ys (IsApart-from_count ys apart)))
    permuted

pub one_list_is_carried : OneListIsCarried
one_list_is_carried exec h keep kept stands =
    let own = remaining exec.plan.tasks exec.plan.cycle h in
    let same = stands.same.jobs in
    carried-same keep exec.plan.tasks exec.scene.time exec.scene.jobs own same (AreApart-same own exec.scene.jobs (same-sym exec.scene.jobs own same) kept.bounds.apart)
