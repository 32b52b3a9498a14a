use Rattle.std.proofs.Common.{◌≡◌, ℕ, ◌+◌, ◌*◌, ◌<◌, ◌≤◌, ◌∙◌, ◌+ℤ◌, List, drop, length, take, IfSome, Some, FitsSigned, get_or, slice_get, ap, refl, sym, subst, arith, ltb, rules, w64, to_z, of_z}
use Rattle.std.proofs.lemmas.Grind.{common_steps}
use Rattle.std.proofs.lemmas.Int.{ints, clamps, to_z-of_z}
use Rattle.std.proofs.lemmas.List.Sums.{count_by-le-length}
use Rattle.std.proofs.lemmas.Option.{slice_get-get_or}
use Rattle.slot_core.specs.declared.jobs.Span.{Span}
use Rattle.spare_capacity.specs.Lending.{repaid}
use Rattle.spare_capacity.proofs.Steps.{no_row}
use Rattle.node_chain.specs.declared.raises.Raise.{Raise}
use Rattle.node_chain.specs.Raises.{map_between, spare_under}
use Rattle.interval_row.specs.Lifts.{lifted, lifted_by, lifted_in}
use Rattle.interval_row.specs.Spans.{AreFilled}
use Rattle.interval_row.specs.Walks.{others_between, walked, HaveAtMost}
use Rattle.interval_row.proofs.RunWalks.{first-of-run, follows-lifted, repaid_by, FollowsRun, IsRun, IsRun-follows, IsRun-reached, IsRun-spare, IsRun-up, IsRun-within}
use Rattle.interval_row.proofs.lifted.follow_run.Given.{Over}
use Rattle.interval_row.proofs.lifted.follow_run.Goals as goal
use Rattle.interval_row.proofs.lifted.follow_run.Goals.{After-raise_back-raised}

pub overflow_mul-raise : goal.overflow_mul-raise
overflow_mul-raise g c = omega (arith, c.requires.near)

-- what is given to the shelf
abbrev raise : (g : Over) (c : After-raise_back-raised g) → Raise
raise g c = record {
  more = to_z w64 (of_z w64 c.args.from.more);
  border = c.args.page * 64;
  limit = to_z w64 (of_z w64 c.most_to_pass_on.result);
  add = to_z w64 (of_z w64 c.args.lift.add);
}

is : (g : Over) (c : After-raise_back-raised g) → IsRun (g.S.Shelf.laps c.args.shelf.now).lifts c.args.page c.args.lift (raise g c) c.raise_back-raised.result.index c.args.from.index (g.S.Shelf.spans c.args.shelf.now)
is g c =
    let lifts = (g.S.Shelf.laps c.args.shelf.now).lifts in
    let rows = g.S.Shelf.spans c.args.shelf.now in
    let add : FitsSigned w64 c.args.lift.add = search rules in
    let limit : FitsSigned w64 c.most_to_pass_on.result = search rules in
    record {
      follow = follows-lifted lifts c.args.from rows c.requires.filled;
      told = c.requires.lift;
      some = c.requires.some;
      place = c.requires.place;
      border = refl;
      add = to_z-of_z w64 c.args.lift.add add;
      limit = omega (arith, ints, to_z-of_z w64 c.most_to_pass_on.result limit, c.most_to_pass_on.ensures.before);
      after = omega (arith, ints, to_z-of_z w64 c.most_to_pass_on.result limit, c.most_to_pass_on.ensures.after);
      before = c.raise_back-raised.ensures.before;
      passed = c.raise_back-raised.ensures.passed;
    }

-- the first of the run
abbrev first : (g : Over) (c : After-raise_back-raised g) → Span
first g c = get_or (g.S.Shelf.spans c.args.shelf.now) c.raise_back-raised.result.index no_row

there : (g : Over) (c : After-raise_back-raised g) → slice_get (g.S.Shelf.spans c.args.shelf.now) c.raise_back-raised.result.index ≡ Some (first g c)
there g c =
    let lifts = (g.S.Shelf.laps c.args.shelf.now).lifts in
    let rows = g.S.Shelf.spans c.args.shelf.now in
    let k = c.raise_back-raised.result.index in
    slice_get-get_or rows k no_row (omega (arith, c.raise_back-raised.ensures.before, IsRun-within lifts c.args.page c.args.lift (raise g c) k c.args.from.index rows (is g c)))

told : (g : Over) (c : After-raise_back-raised g) → (c.raise_back-raised.result.start ≡ (first g c).start) × (c.raise_back-raised.result.spare ≡ spare_under (raise g c).add (first g c))
told g c =
    let raised = c.raise_back-raised.result in
    subst (λ o. IfSome o (λ (s : Span). (raised.start ≡ s.start) × (raised.spare ≡ spare_under (raise g c).add s))) (there g c) c.raise_back-raised.ensures.first

spare : (g : Over) (c : After-raise_back-raised g) → c.raise_back-raised.result.spare ≡ (lifted_in (g.S.Shelf.laps c.args.shelf.now).lifts (first g c)).spare
spare g c =
    let lifts = (g.S.Shelf.laps c.args.shelf.now).lifts in
    let rows = g.S.Shelf.spans c.args.shelf.now in
    let k = c.raise_back-raised.result.index in
    (told g c).1 ∙ sym (IsRun-spare lifts c.args.page c.args.lift (raise g c) k c.args.from.index rows (is g c) k (first g c) (omega arith) c.raise_back-raised.ensures.before (there g c))

run : (g : Over) (c : After-raise_back-raised g) → FollowsRun (g.S.Shelf.laps c.args.shelf.now).lifts (raise g c).more c.raise_back-raised.result.index c.args.from.index (first g c) (g.S.Shelf.spans c.args.shelf.now)
run g c =
    let lifts = (g.S.Shelf.laps c.args.shelf.now).lifts in
    let rows = g.S.Shelf.spans c.args.shelf.now in
    let k = c.raise_back-raised.result.index in
    let more : FitsSigned w64 c.args.from.more = search rules in
    let are = subst (λ m. AreFilled (walked m c.args.from.index (lifted lifts rows))) (sym (to_z-of_z w64 c.args.from.more more)) c.requires.filled in
    IsRun-follows lifts c.args.page c.args.lift (raise g c) k c.args.from.index rows (is g c) (first g c) (there g c) are

sum_fits : (g : Over) (c : After-raise_back-raised g) → FitsSigned w64 (to_z w64 (of_z w64 c.raise_back-raised.result.spare) +ℤ (raise g c).more)
sum_fits g c =
    let run = run g c in
    let fits : FitsSigned w64 c.raise_back-raised.result.spare = search rules in
    omega (arith, ints, run.within.low, run.within.high, spare g c, to_z-of_z w64 c.raise_back-raised.result.spare fits)

pub overflow_add-raised : goal.overflow_add-raised
overflow_add-raised g c = sum_fits g ((goal.at.overflow_add-raised g c).After-raise_back-raised)

-- what the span before is repaid
repays : (g : Over) (c : After-raise_back-raised g) → repaid (to_z w64 (of_z w64 c.raise_back-raised.result.spare)) (to_z w64 (of_z w64 (to_z w64 (of_z w64 c.raise_back-raised.result.spare) +ℤ (raise g c).more))) ≡ repaid_by (g.S.Shelf.laps c.args.shelf.now).lifts (raise g c).more (first g c)
repays g c =
    let s = c.raise_back-raised.result.spare in
    let more = (raise g c).more in
    let fits : FitsSigned w64 s = search rules in
    ap (repaid (to_z w64 (of_z w64 s))) (to_z-of_z w64 (to_z w64 (of_z w64 s) +ℤ more) (sum_fits g c))
    ∙ ap (λ x. repaid x (x +ℤ more)) (to_z-of_z w64 s fits ∙ spare g c)

repaid_fits : (g : Over) (c : After-raise_back-raised g) → FitsSigned w64 (repaid_by (g.S.Shelf.laps c.args.shelf.now).lifts (raise g c).more (first g c))
repaid_fits g c =
    let run = run g c in
    let fits : FitsSigned w64 c.raise_back-raised.result.spare = search rules in
    omega (arith, ints, clamps, run.within.low, run.within.high, spare g c, fits)

pub repaid-more-requires : goal.repaid-more-requires
repaid-more-requires g c =
    let w = (goal.at.repaid-more-requires g c).After-raise_back-raised in
    subst (FitsSigned w64) (sym (repays g w)) (repaid_fits g w)

pub returns-clause-spans : goal.returns-clause-spans
returns-clause-spans g c =
    let w = (goal.at.returns-clause-spans g c).After-raise_back-raised in
    let lifts = (g.S.Shelf.laps c.args.shelf.now).lifts in
    let rows = g.S.Shelf.spans c.args.shelf.now in
    let k = c.raise_back-raised.result.index in
    let run = run g w in
    let fits : FitsSigned w64 c.repaid-more.result = search rules in
    let more : FitsSigned w64 c.args.from.more = search rules in
    let is : to_z w64 (of_z w64 c.repaid-more.result) ≡ repaid_by lifts (raise g w).more (first g w) =
    to_z-of_z w64 c.repaid-more.result fits ∙ c.repaid-more.ensures ∙ repays g w in
    ap (λ m. walked m k (lifted lifts (g.S.Shelf.spans c.raise_back-raised.new.self))) is
    ∙ ap (λ xs. walked (repaid_by lifts (raise g w).more (first g w)) k (lifted lifts xs)) c.raise_back-raised.ensures.spans
    ∙ run.walk
    ∙ ap (λ m. walked m c.args.from.index (lifted lifts rows)) (to_z-of_z w64 c.args.from.more more)

pub returns-clause-reached : goal.returns-clause-reached
returns-clause-reached g c =
    let w = (goal.at.returns-clause-reached g c).After-raise_back-raised in
    IsRun-reached _ _ _ _ _ _ _ (is g w)

pub returns-clause-start : goal.returns-clause-start
returns-clause-start g c =
    let w = (goal.at.returns-clause-start g c).After-raise_back-raised in
    let lifts = (g.S.Shelf.laps c.args.shelf.now).lifts in
    let rows = g.S.Shelf.spans c.args.shelf.now in
    let k = c.raise_back-raised.result.index in
    let few = IsRun-within lifts c.args.page c.args.lift (raise g w) k c.args.from.index rows (is g w) in
    let at = ap (λ xs. slice_get xs k) c.raise_back-raised.ensures.spans ∙ first-of-run (raise g w).more k c.args.from.index (first g w) rows c.raise_back-raised.ensures.before few (there g w) in
    subst (λ o. IfSome o (λ (s : Span). s.start ≡ c.raise_back-raised.result.start)) (sym at) (sym (told g w).0)

pub returns-clause-high : goal.returns-clause-high
returns-clause-high g c =
    let w = (goal.at.returns-clause-high g c).After-raise_back-raised in
    let lifts = (g.S.Shelf.laps c.args.shelf.now).lifts in
    let rows = g.S.Shelf.spans c.args.shelf.now in
    let k = c.raise_back-raised.result.index in
    let n = c.args.from.index in
    let high : FitsSigned w64 c.raise_back-raised.result.high = search rules in
    let up = IsRun-up lifts c.args.page c.args.lift (raise g w) k n rows (is g w) c.raise_back-raised.result.high c.raise_back-raised.ensures.high in
    subst (λ h. HaveAtMost h (others_between k n (lifted lifts (g.S.Shelf.spans c.raise_back-raised.new.self)))) (sym (to_z-of_z w64 c.raise_back-raised.result.high high))
    (subst (λ xs. HaveAtMost c.raise_back-raised.result.high (others_between k n (lifted lifts xs))) (sym c.raise_back-raised.ensures.spans) up)

pub returns-clause-before : goal.returns-clause-before
returns-clause-before g c = c.raise_back-raised.ensures.before

-- the spans before those that change stay
front-kept : {X : Type 0} (f : X → X) (k n : ℕ) (xs : List X) → k ≤ length xs → take k (map_between f k n xs) ≡ take k xs
front-kept f k n xs within = grind (arith, common_steps)

pub returns-clause-front : goal.returns-clause-front
returns-clause-front g c =
    let w = (goal.at.returns-clause-front g c).After-raise_back-raised in
    let lifts = (g.S.Shelf.laps c.args.shelf.now).lifts in
    let rows = g.S.Shelf.spans c.args.shelf.now in
    let k = c.raise_back-raised.result.index in
    let few = IsRun-within lifts c.args.page c.args.lift (raise g w) k c.args.from.index rows (is g w) in
    ap (take k) c.raise_back-raised.ensures.spans ∙ front-kept (lifted_by (raise g w).more) k c.args.from.index rows (omega (arith, c.raise_back-raised.ensures.before, few))

-- and so do those after them
rest-kept : {X : Type 0} (f : X → X) (k n : ℕ) (xs : List X) → k < n → n ≤ length xs → drop n (map_between f k n xs) ≡ drop n xs
rest-kept f k n xs before within = grind (arith, common_steps)

pub returns-clause-rest : goal.returns-clause-rest
returns-clause-rest g c =
    let w = (goal.at.returns-clause-rest g c).After-raise_back-raised in
    let lifts = (g.S.Shelf.laps c.args.shelf.now).lifts in
    let rows = g.S.Shelf.spans c.args.shelf.now in
    let k = c.raise_back-raised.result.index in
    let few = IsRun-within lifts c.args.page c.args.lift (raise g w) k c.args.from.index rows (is g w) in
    ap (drop c.args.from.index) c.raise_back-raised.ensures.spans ∙ rest-kept (lifted_by (raise g w).more) k c.args.from.index rows c.raise_back-raised.ensures.before few

pub returns-clause-two_steps : goal.returns-clause-two_steps
returns-clause-two_steps g c =
    omega (arith, c.raise_back-raised.ensures.two_steps, c.raise_back-raised.ensures.before)

pub raise_back-raised-requires : goal.raise_back-raised-requires
raise_back-raised-requires g c = record {
  some = omega (arith, c.requires.some);
  within = omega (arith, c.requires.place, count_by-le-length (λ (s : Span). ltb s.end ((c.args.page + 1) * 64)) (g.S.Shelf.spans c.args.shelf.now));
}

pub returns-clause-kept : goal.returns-clause-kept
returns-clause-kept g c = c.raise_back-raised.ensures.kept
