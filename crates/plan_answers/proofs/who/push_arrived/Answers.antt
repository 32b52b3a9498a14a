-- One arrival more, and all of them.
use Rattle.std.proofs.Common.{◌≡◌, ◌+◌, ◌*◌, ◌≤◌, ◌^◌, ◌++◌, ℕ, refl, ap, ◌∙◌, arith}
use Rattle.std.specs.Prelude.{flat_map}
use Rattle.std.specs.List.{range_with_len}
use Rattle.std.proofs.Math.Nat.{mul-le-mul}
use Rattle.slot_core.specs.declared.TheConstants.{SLOT_LIMIT}
use Rattle.slot_core.specs.Feasibility.Sporadics.{arrivals_due}
use Rattle.slot_facts.proofs.Demand.Arrivals.{arrivals_due-le}
use Rattle.slot_facts.proofs.Sets.Ranges.{SporadicRanges-from_test, bounds}
use Rattle.graph_unroll.proofs.RangeLemmas.{flat_map-range_more}
use Rattle.plan_answers.specs.Who.{arrived_line}
use Rattle.plan_answers.proofs.Insides.{slots-lines}
use Rattle.plan_answers.proofs.who.push_arrived.Goals as goal

pub overflow_mul-place : goal.overflow_mul-place
overflow_mul-place c =
    let s = c.args.sporadic.now in
    let apart = bounds 1 SLOT_LIMIT s.separation (SporadicRanges-from_test s c.requires.in_range).separation in
    let few : c.loop-place.place ≤ 2 ^ 32 = omega (arith, arrivals_due-le s 0 c.args.slots, c.arrivals_by-count.ensures, c.loop-place-test.true, c.requires.slots) in
    rw c.from.ensures (omega (arith, mul-le-mul few apart.1))

pub overflow_add-from : goal.overflow_add-from
overflow_add-from c =
    let s = c.args.sporadic.now in
    let apart = bounds 1 SLOT_LIMIT s.separation (SporadicRanges-from_test s c.requires.in_range).separation in
    let few : c.loop-place.place ≤ 2 ^ 32 = omega (arith, arrivals_due-le s 0 c.args.slots, c.arrivals_by-count.ensures, c.loop-place-test.true, c.requires.slots) in
    rw c.from.ensures (omega (arith, mul-le-mul few apart.1, c.requires.from))

pub push_arrival-requires-clause-time : goal.push_arrival-requires-clause-time
push_arrival-requires-clause-time c =
    let s = c.args.sporadic.now in
    let apart = bounds 1 SLOT_LIMIT s.separation (SporadicRanges-from_test s c.requires.in_range).separation in
    let few : c.loop-place.place ≤ 2 ^ 32 = omega (arith, arrivals_due-le s 0 c.args.slots, c.arrivals_by-count.ensures, c.loop-place-test.true, c.requires.slots) in
    rw c.from.ensures (omega (arith, mul-le-mul few apart.1, c.requires.from))

pub loop-place-preserved : goal.loop-place-preserved
loop-place-preserved c =
    let s = c.args.sporadic.now in
    let line = λ (m : ℕ). arrived_line s (c.args.from + m * s.separation) in
    flat_map-range_more line c.args.text.now.items c.loop-place.text.items c.push_arrival.new.text.items c.loop-place.place c.loop-place.place c.loop-place.invariant (rw c.from.ensures at c.in_ok-push_arrival.ensures) refl

pub returns : goal.returns
returns c =
    let s = c.args.sporadic.now in
    let line = λ (m : ℕ). arrived_line s (c.args.from + m * s.separation) in
    let apart = bounds 1 SLOT_LIMIT s.separation (SporadicRanges-from_test s c.requires.in_range).separation in
    let all : c.loop-place.place ≡ arrivals_due s 0 c.args.from (c.args.from + c.args.slots) = omega (arith, c.loop-place-test.false, c.arrivals_by-count.ensures, slots-lines s c.args.from c.args.slots apart.0) in
    c.loop-place.invariant ∙ ap (λ n. c.args.text.now.items ++ flat_map line (range_with_len 0 n)) all
