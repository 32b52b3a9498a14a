use Rattle.std.proofs.Common.{rules, ◌≡◌, ℕ, ◌+◌, ◌-◌, ◌%◌, ◌^◌, ◌≤◌, ◌<◌, ℤ, ◌+ℤ◌, ◌≤ℤ◌, ◌<ℤ◌, pos, IfSome, Option, List, slice_get, get_or, length, subst, sym, ap, ◌∙◌, arith, w64, to_z, of_z, FitsSigned}
use Rattle.std.proofs.lemmas.Int.{ints, to_z-of_z, wraps}
use Rattle.std.proofs.lemmas.List.{with_items_is}
use Rattle.std.proofs.lemmas.Option.{slice_get-get_or}
use Rattle.std.specs.Int.{int_wrap}
use Rattle.std.specs.Vec.{with_items}
use Rattle.node_chain.specs.declared.marks.Lift.{Lift}
use Rattle.node_chain.specs.declared.marks.Mark.{Mark}
use Rattle.node_chain.specs.Laps.{Laps, blank_lift, blank_mark, paired, lift_over, made_mark}
use Rattle.node_chain.specs.Passes.{lift_raised, lifts_passed, spans_ending}
use Rattle.node_chain.proofs.PassedLifts.{AreUnder-next, ending-next, lift-kept, lift_over-raised, passes, stays}
use Rattle.node_chain.proofs.SideBySide.{get_or-paired, length-paired, set-second}
use Rattle.node_chain.proofs.marks.Marks.pass_back.Goals as goal
use Rattle.node_chain.proofs.marks.Marks.pass_back.Goals.{After-as_mut_slice-adds}

-- the lists
module _ (c : After-as_mut_slice-adds) where
  -- there is a mark for each page
  many-marks : length c.args.self.now.marks ≡ 512
  many-marks =
      omega (
        arith,
        c.self.invariant.0,
        length-paired made_mark c.self.inside.counts.items c.self.inside.rests.items (c.self.invariant.0 ∙ sym c.self.invariant.1),
        ap (λ (v : Laps). length v.marks) c.self.view_is,
      )

  -- and a lift
  many-lifts : length c.args.self.now.lifts ≡ 512
  many-lifts =
      omega (
        arith,
        c.self.invariant.2,
        length-paired lift_over c.self.inside.tops.items c.self.inside.adds.items (c.self.invariant.2 ∙ sym c.self.invariant.3),
        ap (λ (v : Laps). length v.lifts) c.self.view_is,
      )

  -- the bounds without their sums
  abbrev tops : List ℤ
  tops = c.as_slice-tops.result.now

  -- one for each page
  tops-long : length tops ≡ 512
  tops-long = omega (arith, c.self.invariant.2, ap (λ xs. length xs) c.as_slice-tops.ensures.value)

  -- and a sum
  adds-long : length c.as_mut_slice-adds.result.now ≡ 512
  adds-long = omega (arith, c.self.invariant.3, ap (λ xs. length xs) c.as_mut_slice-adds.ensures.value)

  -- a count that is read
  count-is : (k : ℕ) → k < 512 → get_or c.as_slice-counts.result.now k 0 ≡ (get_or c.args.self.now.marks k blank_mark).count
  count-is k within =
      ap (λ xs. get_or xs k 0) c.as_slice-counts.ensures.value
      ∙ sym (ap (λ (m : Mark). m.count) (get_or-paired made_mark c.self.inside.counts.items c.self.inside.rests.items k 0 (record { works = 0; low = 0 }) blank_mark
      (omega (arith, within, c.self.invariant.0)) (omega (arith, within, c.self.invariant.1))))
      ∙ ap (λ (v : Laps). (get_or v.marks k blank_mark).count) c.self.view_is

  -- the lifts, as they are at first
  lifts-at-first : paired lift_over tops c.as_mut_slice-adds.result.now ≡ c.args.self.now.lifts
  lifts-at-first =
      (λ i. paired lift_over (c.as_slice-tops.ensures.value i) (c.as_mut_slice-adds.ensures.value i))
      ∙ ap (λ (v : Laps). v.lifts) c.self.view_is

  -- a list of sums
  module _ (adds : List ℤ) (too : length adds ≡ length c.as_mut_slice-adds.result.now) where
    -- the lifts once it is given back
    whole : paired lift_over c.self.inside.tops.items (with_items c.self.inside.adds adds).items ≡ paired lift_over tops adds
    whole =
        let add = with_items_is c.self.inside.adds adds (omega (arith, too, adds-long, c.self.inside.adds.ok.0, c.self.invariant.3)) in
        λ i. paired lift_over (sym c.as_slice-tops.ensures.value i) (add i)

    -- a lift that is read
    lift-read : (k : ℕ) → k < 512 → get_or (paired lift_over tops adds) k blank_lift ≡ lift_over (get_or tops k (pos 0)) (get_or adds k (pos 0))
    lift-read k below = get_or-paired lift_over tops adds k (pos 0) (pos 0) blank_lift (omega (arith, below, tops-long)) (omega (arith, below, too, adds-long))

    -- where those after it are passed
    lift-is : (k : ℕ) → k < 512
        → paired lift_over tops adds ≡ lifts_passed c.args.pass.more c.args.self.now.marks (k + 1) (c.args.end - (k + 1)) c.args.self.now.lifts
        → lift_over (get_or tops k (pos 0)) (get_or adds k (pos 0)) ≡ get_or c.args.self.now.lifts k blank_lift
    lift-is k below was =
        sym (lift-read k below)
        ∙ lift-kept c.args.pass.more c.args.self.now.marks c.args.self.now.lifts (paired lift_over tops adds) k c.args.end was blank_lift

-- a number with so much more, in the words that the machine adds
abbrev sum : ℤ → ℤ → ℤ
sum more x = to_z w64 ((of_z w64 x + of_z w64 more) % 2 ^ 64)

pub loop-index-init : goal.loop-index-init
loop-index-init c =
    let b = (goal.at.loop-index-init c).After-as_mut_slice-adds in
    let none : c.args.end - c.args.end ≡ 0 = omega arith in
    record {
      from = c.requires.rising;
      lifts = lifts-at-first b ∙ sym (ap (λ m. lifts_passed c.args.pass.more c.args.self.now.marks c.args.end m c.args.self.now.lifts) none);
      passed = λ i mark lift from below. absurd (omega (arith, from, below));
      count = sym (ap (spans_ending c.args.self.now.marks c.args.end) none);
      room = omega (arith, c.requires.within);
    }

pub returns-then-pass-tops-clause-lifts : goal.returns-then-pass-tops-clause-lifts
returns-then-pass-tops-clause-lifts c =
    let b = (goal.at.returns-then-pass-tops-clause-lifts c).After-as_mut_slice-adds in
    let next : c.loop-index.index ≡ c.loop-index.index - 1 + 1 = omega (arith, c.loop-index-test.true) in
    let lifts = whole b c.loop-index.adds c.loop-index.auto.adds ∙ c.loop-index.invariant.lifts
    ∙ ap (λ n. lifts_passed c.args.pass.more c.args.self.now.marks n (c.args.end - n) c.args.self.now.lifts) next in
    λ i. record { marks = (c.self.view_is i).marks; lifts = lifts i }

pub returns-then-pass-tops-clause-ended : goal.returns-then-pass-tops-clause-ended
returns-then-pass-tops-clause-ended c before =
    let b = (goal.at.returns-then-pass-tops-clause-ended c).After-as_mut_slice-adds in
    let k = c.loop-index.index - 1 in
    let within : k < 512 = omega (arith, c.loop-index-test.true, c.loop-index.auto.index, c.requires.within) in
    let at : k + 1 - 1 ≡ k = omega arith in
    subst
    (λ (o : Option Mark). IfSome o (λ m. 1 ≤ m.count))
    (sym (ap (slice_get c.args.self.now.marks) at ∙ slice_get-get_or c.args.self.now.marks k blank_mark (omega (arith, within, many-marks b))))
    (omega (arith, c.if-spans-ne0.true, count-is b k within))

pub returns-then-pass-tops-clause-above : goal.returns-then-pass-tops-clause-above
returns-then-pass-tops-clause-above c before =
    let b = (goal.at.returns-then-pass-tops-clause-above c).After-as_mut_slice-adds in
    let k = c.loop-index.index - 1 in
    let top : ℤ = get_or (tops b) k (pos 0) in
    let add : ℤ = get_or c.loop-index.adds k (pos 0) in
    let limit : FitsSigned w64 c.args.pass.limit = search rules in
    let high : sum add top ≡ int_wrap w64 (top +ℤ add) = search (rules, wraps) in
    let over : c.args.pass.limit <ℤ sum add top = omega (arith, ints, c.if-pass-tops.true, to_z-of_z w64 c.args.pass.limit limit) in
    let above : c.args.pass.limit <ℤ int_wrap w64 (top +ℤ add) = subst (λ x. c.args.pass.limit <ℤ x) high over in
    let within : k < 512 = omega (arith, c.loop-index-test.true, c.loop-index.auto.index, c.requires.within) in
    let next : c.loop-index.index ≡ k + 1 = omega (arith, c.loop-index-test.true) in
    let was = c.loop-index.invariant.lifts ∙ ap (λ n. lifts_passed c.args.pass.more c.args.self.now.marks n (c.args.end - n) c.args.self.now.lifts) next in
    let is = lift-is b c.loop-index.adds c.loop-index.auto.adds k within was in
    let at : k + 1 - 1 ≡ k = omega arith in
    subst
    (λ (o : Option Lift). IfSome o (λ l. c.args.pass.limit <ℤ l.high))
    (sym (ap (slice_get c.args.self.now.lifts) at ∙ slice_get-get_or c.args.self.now.lifts k blank_lift (omega (arith, within, many-lifts b))))
    (subst (λ (l : Lift). c.args.pass.limit <ℤ l.high) is above)

pub loop-index-preserved-then-spans-ne0 : goal.loop-index-preserved-then-spans-ne0
loop-index-preserved-then-spans-ne0 c =
    let b = (goal.at.loop-index-preserved-then-spans-ne0 c).After-as_mut_slice-adds in
    let k = c.loop-index.index - 1 in
    let more = c.args.pass.more in
    let adds = c.loop-index.adds in
    let top : ℤ = get_or (tops b) k (pos 0) in
    let add : ℤ = get_or adds k (pos 0) in
    let limit : FitsSigned w64 c.args.pass.limit = search rules in
    let high : sum add top ≡ int_wrap w64 (top +ℤ add) = search (rules, wraps) in
    let below_limit : sum add top ≤ℤ c.args.pass.limit = omega (arith, ints, c.if-pass-tops.false, to_z-of_z w64 c.args.pass.limit limit) in
    let under : int_wrap w64 (top +ℤ add) ≤ℤ c.args.pass.limit = subst (λ x. x ≤ℤ c.args.pass.limit) high below_limit in
    let few : c.from-count.result < 2 ^ 32 = search rules in
    let before : k < c.args.end = omega (arith, c.loop-index-test.true, c.loop-index.auto.index) in
    let within : k < 512 = omega (arith, before, c.requires.within) in
    let read = lift-read b adds c.loop-index.auto.adds k within in
    let next : c.loop-index.index ≡ k + 1 = omega (arith, c.loop-index-test.true) in
    let was = c.loop-index.invariant.lifts ∙ ap (λ n. lifts_passed more c.args.self.now.marks n (c.args.end - n) c.args.self.now.lifts) next in
    let is = lift-is b adds c.loop-index.auto.adds k within was in
    let spans = count-is b k within in
    let one : sum more add ≡ int_wrap w64 (add +ℤ more) = search (rules, wraps) in
    let raised : lift_over top (sum more add) ≡ lift_raised more (get_or (paired lift_over (tops b) adds) k blank_lift) =
    ap (lift_over top) one ∙ lift_over-raised more top add ∙ ap (lift_raised more) (sym read) in
    record {
      from = omega (arith, c.loop-index-test.true);
      lifts = set-second lift_over (tops b) adds k (pos 0) (sum more add)
          ∙ passes more c.args.self.now.marks c.args.self.now.lifts (paired lift_over (tops b) adds) k c.args.end was before
          (lift_over top (sum more add)) (omega (arith, c.if-spans-ne0.true, spans)) raised;
      passed = AreUnder-next c.args.pass.limit c.args.self.now.marks c.args.self.now.lifts k c.args.end (λ some. subst (λ (l : Lift). l.high ≤ℤ c.args.pass.limit) is under)
          (λ i mark lift from. c.loop-index.invariant.passed i mark lift (omega (arith, from, c.loop-index-test.true)));
      count = omega (arith, c.from-count.ensures, spans, c.loop-index.invariant.count, ending-next c.args.self.now.marks k c.args.end before, ap (λ n. spans_ending c.args.self.now.marks n (c.args.end - n)) next);
      room = omega (arith, c.loop-index.invariant.room, c.loop-index-test.true, few);
    }

pub loop-index-preserved : goal.loop-index-preserved
loop-index-preserved c =
    let b = (goal.at.loop-index-preserved c).After-as_mut_slice-adds in
    let k = c.loop-index.index - 1 in
    let before : k < c.args.end = omega (arith, c.loop-index-test.true, c.loop-index.auto.index) in
    let next : c.loop-index.index ≡ k + 1 = omega (arith, c.loop-index-test.true) in
    let was = c.loop-index.invariant.lifts ∙ ap (λ n. lifts_passed c.args.pass.more c.args.self.now.marks n (c.args.end - n) c.args.self.now.lifts) next in
    let none : (get_or c.args.self.now.marks k blank_mark).count ≡ 0 = omega (arith, c.if-spans-ne0.false, count-is b k (omega (arith, before, c.requires.within))) in
    record {
      from = omega (arith, c.loop-index-test.true);
      lifts = stays c.args.pass.more c.args.self.now.marks c.args.self.now.lifts (paired lift_over (tops b) c.loop-index.adds) k c.args.end was before none;
      passed = AreUnder-next c.args.pass.limit c.args.self.now.marks c.args.self.now.lifts k c.args.end (λ some. absurd (omega (arith, some, none)))
          (λ i mark lift from. c.loop-index.invariant.passed i mark lift (omega (arith, from, c.loop-index-test.true)));
      count = omega (arith, none, c.loop-index.invariant.count, ending-next c.args.self.now.marks k c.args.end before, ap (λ n. spans_ending c.args.self.now.marks n (c.args.end - n)) next);
      room = omega (arith, c.loop-index.invariant.room);
    }

pub returns-clause-lifts : goal.returns-clause-lifts
returns-clause-lifts c =
    let b = (goal.at.returns-clause-lifts c).After-as_mut_slice-adds in
    let none : c.loop-index.index ≡ c.args.first = omega (arith, c.loop-index-test.false, c.loop-index.invariant.from) in
    let lifts = whole b c.loop-index.adds c.loop-index.auto.adds ∙ c.loop-index.invariant.lifts
    ∙ ap (λ n. lifts_passed c.args.pass.more c.args.self.now.marks n (c.args.end - n) c.args.self.now.lifts) none in
    λ i. record { marks = (c.self.view_is i).marks; lifts = lifts i }

pub returns-clause-count : goal.returns-clause-count
returns-clause-count c =
    let none : c.loop-index.index ≡ c.args.first = omega (arith, c.loop-index-test.false, c.loop-index.invariant.from) in
    c.loop-index.invariant.count ∙ ap (λ n. spans_ending c.args.self.now.marks n (c.args.end - n)) none
