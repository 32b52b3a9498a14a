use Rattle.std.proofs.Common.{ℕ, ◌≡◌, ◌-◌, ◌<◌, ◌≤◌, ◌≤ℤ◌, suc, ap, arith, get_or, refl, rules, slice_get, slice_set, subst, sym, List, Option, Some, IfSome, false, ◌∙◌, w64, to_z, of_z, FitsSigned}
use Rattle.std.specs.Int.{int_max}
use Rattle.std.proofs.lemmas.Int.{to_z-of_z}
use Rattle.std.proofs.lemmas.Option.{slice_get-get_or}
use Rattle.slot_core.specs.declared.jobs.Span.{Span}
use Rattle.node_chain.specs.Nodes.{blank}
use Rattle.node_chain.specs.Raises.{lifted_by, map_between, passes_on, spare_after, spare_under}
use Rattle.node_chain.proofs.WalksBack.{between-before, between-next, AreUpTo-next, PassOn-next}
use Rattle.interval_row.proofs.rows.RowsShelf.raise_back.Given.{Over}
use Rattle.interval_row.proofs.rows.RowsShelf.raise_back.Goals as goal
use Rattle.interval_row.proofs.rows.RowsShelf.raise_back.Goals.{Joined-index-gt0, else-index-gt0, then-index-gt0, then-index-eq0-via-then-index-eq0, then-index-eq0-via-else-index-eq0+then-not-passes_on}

module _ (g : Over) (c : Joined-index-gt0 g) where
  abbrev k : ℕ
  k = c.loop-index.index - 1

  abbrev spans : List Span
  spans = c.args.self.now.spans

  below : k < c.args.from
  below = omega (arith, c.loop-index-test.true, c.loop-index.auto.index)

  now : c.loop-index.self.spans ≡ map_between (lifted_by c.args.raise.more) (suc k) c.args.from spans
  now =
      let next : c.loop-index.index ≡ suc k = omega (arith, c.loop-index-test.true) in
      c.loop-index.invariant.spans ∙ ap (λ n. map_between (lifted_by c.args.raise.more) n c.args.from spans) next

  -- the code reads the next span
  here : slice_get spans k ≡ Some c.at-span.result
  here =
      let own = slice_get-get_or spans k blank (omega (arith, below, c.requires.within)) in
      own ∙ sym (between-before (lifted_by c.args.raise.more) k c.args.from spans (get_or spans k blank) below own)
      ∙ ap (λ xs. slice_get xs k) (sym now) ∙ c.at-span.ensures.span

  -- it is raised
  done : c.set.new.self.spans ≡ map_between (lifted_by c.args.raise.more) k c.args.from spans
  done =
      c.set.ensures.spans ∙ (λ i. slice_set (now i) k (c.raised.ensures i))
      ∙ between-next (lifted_by c.args.raise.more) k c.args.from spans c.at-span.result below here

  -- no span from it on, but the first of all, has more capacity than the bound
  high : (i : ℕ) (s : Span) → 1 ≤ i → k ≤ i → i < c.args.from → slice_get spans i ≡ Some s → spare_after c.args.raise s ≤ℤ to_z w64 c.if-index-gt0.high-bits
  high i s other low up e = elim c.if-index-gt0.branch [
    | then-index-gt0 w ↦
        let whole : FitsSigned w64 w.max-high.result = search rules in
        let fits : FitsSigned w64 w.spare_after.result = search rules in
        let given = to_z-of_z w64 w.spare_after.result fits ∙ w.spare_after.ensures in
        let max = w.high-is ∙ to_z-of_z w64 w.max-high.result whole ∙ w.max-high.ensures.value ∙ ap (int_max (to_z w64 c.loop-index.high-bits)) given in
        AreUpTo-next c.args.raise spans (to_z w64 c.loop-index.high-bits) (to_z w64 c.if-index-gt0.high-bits) k c.args.from c.at-span.result here max
        (λ j t above. c.loop-index.invariant.high j t (omega (arith, above))) i s low up e
    | else-index-gt0 w ↦
        subst (λ high. spare_after c.args.raise s ≤ℤ high) (sym w.high-is) (c.loop-index.invariant.high i s (omega (arith, other, w.if-index-gt0.false)) up e)
  ]

pub returns-then-index-eq0-clause-spans : goal.returns-then-index-eq0-clause-spans
returns-then-index-eq0-clause-spans g c = done g ((goal.at.returns-then-index-eq0-clause-spans g c).Joined-index-gt0)

pub returns-then-index-eq0-clause-first : goal.returns-then-index-eq0-clause-first
returns-then-index-eq0-clause-first g c =
    let whole : FitsSigned w64 c.spare.result = search rules in
    subst
    (λ (o : Option Span). IfSome o (λ s. (c.at-span.result.start ≡ s.start) × (to_z w64 (of_z w64 c.spare.result) ≡ spare_under c.args.raise.add s)))
    (sym (here g ((goal.at.returns-then-index-eq0-clause-first g c).Joined-index-gt0)))
    (refl, to_z-of_z w64 c.spare.result whole ∙ c.spare.ensures)

pub returns-then-index-eq0-clause-passed : goal.returns-then-index-eq0-clause-passed
returns-then-index-eq0-clause-passed g c i s low below e =
    c.loop-index.invariant.passed i s (omega (arith, low, c.loop-index-test.true)) below e

pub returns-then-index-eq0-clause-ended : goal.returns-then-index-eq0-clause-ended
returns-then-index-eq0-clause-ended g c some = elim c.then-index-eq0.branch [
  | then-index-eq0-via-then-index-eq0 w ↦ absurd (omega (arith, some, w.if-index-eq0.true))
  | then-index-eq0-via-else-index-eq0+then-not-passes_on w ↦
      subst
      (λ (o : Option Span). IfSome o (λ s. passes_on c.args.raise s ≡ false))
      (sym (here g ((goal.at.returns-then-index-eq0-clause-ended g c).Joined-index-gt0)))
      (sym w.passes_on.ensures ∙ w.if-not-passes_on.true)
]

pub returns-then-index-eq0-clause-high : goal.returns-then-index-eq0-clause-high
returns-then-index-eq0-clause-high g c = high g ((goal.at.returns-then-index-eq0-clause-high g c).Joined-index-gt0)

pub loop-index-preserved : goal.loop-index-preserved
loop-index-preserved g c =
    let b = (goal.at.loop-index-preserved g c).Joined-index-gt0 in
    record {
      some = omega (arith, c.if-index-eq0.false);
      spans = done g b;
      room = c.set.ensures.kept.room ∙ c.loop-index.invariant.room;
      laps = c.set.ensures.kept.numbers ∙ c.loop-index.invariant.laps;
      passed = PassOn-next c.args.raise (spans g b) (k g b) c.args.from c.at-span.result (here g b) (sym c.passes_on.ensures ∙ c.if-not-passes_on.false)
          (λ i s low. c.loop-index.invariant.passed i s (omega (arith, low)));
      high = λ i s low. high g b i s (omega (arith, low, c.if-index-eq0.false)) low;
      steps = omega (arith, c.at-span.ensures.one_step, c.set.ensures.one_step, c.loop-index.invariant.steps, c.loop-index-test.true);
    }
