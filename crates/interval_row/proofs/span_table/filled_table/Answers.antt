use Rattle.std.proofs.Common.{◌≡◌, ℕ, ◌+◌, ◌≤◌, ◌^◌, ◌∙◌, List, length, ap, sym, subst, add-one, arith}
use Rattle.std.proofs.lemmas.List.{length-replicate}
use Rattle.spare_capacity.specs.Recurrence.{first_start, last_end}
use Rattle.interval_row.specs.Changes.{appended, copies_of}
use Rattle.slot_core.specs.declared.jobs.Span.{Span}
use Rattle.spare_capacity.specs.PlanSpans.{ArePlanSpans}
use Rattle.node_chain.specs.Laps.{blank_mark}
use Rattle.node_chain.specs.declared.marks.Mark.{Mark}
use Rattle.interval_row.specs.Marks.{AreMarked}
use Rattle.interval_row.proofs.Marked.{AreLight-FollowOn, AreMarked-later}
use Rattle.interval_row.proofs.Cycles.{copies_fit, last_end-le, AreCopies-copies_of}
use Rattle.interval_row.proofs.Ends.{last_end-appended}
use Rattle.interval_row.proofs.Kept.{starts-at_zero, AreFilled-ArePlanSpans}
use Rattle.interval_row.proofs.Rooms.{AreKept-copies_of, IsTable-AreKept, AreKept, marked_of}
use Rattle.interval_row.proofs.span_table.filled_table.Given.{Over}
use Rattle.interval_row.proofs.span_table.filled_table.Goals as goal
use Rattle.interval_row.proofs.span_table.filled_table.Goals.{In_ok-chain, After-loop-copy}

-- a plan has no more spans than the room
few_spans : (g : Over) (c : In_ok-chain g) → length c.args.spans.now ≤ 2 ^ 20
few_spans g c = omega (arith, c.requires.few, copies_fit 0 c.args.copies (length c.args.spans.now) c.args.room (omega (arith, c.requires.some)) c.requires.fits)

pub append-requires-clause-free : goal.append-requires-clause-free
append-requires-clause-free g c =
    let spans = c.args.spans.now in
    let copies = AreCopies-copies_of spans c.loop-copy._copy c.requires.plan in
    omega (arith, copies.count, ap length c.loop-copy.invariant.spans, c.loop-copy.invariant.room, copies_fit c.loop-copy._copy c.args.copies (length spans) c.args.room c.loop-copy-test.true c.requires.fits)

pub append-requires-clause-spans : goal.append-requires-clause-spans
append-requires-clause-spans g c =
    AreFilled-ArePlanSpans c.args.spans.now c.requires.plan (few_spans g (goal.at.append-requires-clause-spans g c).In_ok-chain)

pub append-requires-clause-near : goal.append-requires-clause-near
append-requires-clause-near g c =
    let spans = c.args.spans.now in
    let rows = copies_of spans c.loop-copy._copy in
    let copies = AreCopies-copies_of spans c.loop-copy._copy c.requires.plan in
    let few = few_spans g (goal.at.append-requires-clause-near g c).In_ok-chain in
    let fit = copies_fit c.loop-copy._copy c.args.copies (length spans) c.args.room c.loop-copy-test.true c.requires.fits in
    omega (arith, c.loop-copy.invariant.end, last_end-le 0 rows copies.consecutive, last_end-le 0 spans c.requires.plan.consecutive, copies.count, few, fit, c.requires.few)

pub put_first_marks-requires : goal.put_first_marks-requires
put_first_marks-requires g c = record { marks = ap length c.in_ok-chain.ensures.marks ∙ length-replicate 512 blank_mark }

pub append-requires-clause-few : goal.append-requires-clause-few
append-requires-clause-few g c =
    let spans = c.args.spans.now in
    let copies = AreCopies-copies_of spans c.loop-copy._copy c.requires.plan in
    omega (arith, copies.count, ap length c.loop-copy.invariant.spans, c.requires.few, copies_fit c.loop-copy._copy c.args.copies (length spans) c.args.room c.loop-copy-test.true c.requires.fits)

pub append-requires-clause-small : goal.append-requires-clause-small
append-requires-clause-small g c =
    let copies = AreCopies-copies_of c.args.spans.now c.loop-copy._copy c.requires.plan in
    rw c.loop-copy.invariant.spans (AreLight-FollowOn 0 _ copies.consecutive)

pub append-requires-clause-marked : goal.append-requires-clause-marked
append-requires-clause-marked g c = AreMarked-later (omega arith) c.loop-copy.invariant.marked

pub overflow_add-end : goal.overflow_add-end
overflow_add-end g c =
    let spans = c.args.spans.now in
    let rows = copies_of spans c.loop-copy._copy in
    let copies = AreCopies-copies_of spans c.loop-copy._copy c.requires.plan in
    let few = few_spans g (goal.at.overflow_add-end g c).In_ok-chain in
    let fit = copies_fit c.loop-copy._copy c.args.copies (length spans) c.args.room c.loop-copy-test.true c.requires.fits in
    omega (arith, c.loop-copy.invariant.end, c.last_end-cycle.ensures, last_end-le 0 rows copies.consecutive, last_end-le 0 spans c.requires.plan.consecutive, copies.count, few, fit, c.requires.few)

-- copies of a plan's spans start at 0
AreMarked-zero : (spans : List Span) (n : ℕ) {rows new : List Span} {marks : List Mark} → ArePlanSpans spans → rows ≡ copies_of spans n → AreMarked (first_start rows) new marks → AreMarked 0 new marks
AreMarked-zero spans n {new = new} {marks = marks} plan is marked =
    let start : first_start (copies_of spans n) ≡ 0 = starts-at_zero (copies_of spans n) (AreCopies-copies_of spans n plan).consecutive in
    subst (λ k. AreMarked k new marks) (ap first_start is ∙ start) marked

pub loop-copy-preserved : goal.loop-copy-preserved
loop-copy-preserved g c =
    let spans = c.args.spans.now in
    let rows = copies_of spans c.loop-copy._copy in
    let more : c.loop-copy.end + c.last_end-cycle.result ≡ last_end 0 (appended spans rows) = omega (arith, c.loop-copy.invariant.end, c.last_end-cycle.ensures, last_end-appended spans rows c.requires.plan.some) in
    record {
      spans = rw add-one (c.append.ensures.spans ∙ ap (appended spans) c.loop-copy.invariant.spans);
      end = rw add-one more;
      marked = AreMarked-zero spans c.loop-copy._copy c.requires.plan c.loop-copy.invariant.spans c.append.ensures.marked;
      room = c.append.ensures.room ∙ c.loop-copy.invariant.room;
    }

-- in the end all copies stand there
made : (g : Over) (c : After-loop-copy g) → g.S.Store.spans c.loop-copy.chain ≡ copies_of c.args.spans.now c.args.copies
made g c =
    let all : c.loop-copy._copy ≡ c.args.copies = omega (arith, c.loop-copy.auto._copy-end, c.loop-copy-test.false) in
    c.loop-copy.invariant.spans ∙ ap (copies_of c.args.spans.now) all

-- and are kept
kept : (g : Over) (c : After-loop-copy g) → AreKept (g.S.Store.spans c.loop-copy.chain) (g.S.Store.room c.loop-copy.chain) 0 c.loop-copy.end
kept g c =
    let all : c.loop-copy._copy ≡ c.args.copies = omega (arith, c.loop-copy.auto._copy-end, c.loop-copy-test.false) in
    let end : c.loop-copy.end ≡ last_end 0 (copies_of c.args.spans.now c.args.copies) = c.loop-copy.invariant.end ∙ ap (λ n. last_end 0 (copies_of c.args.spans.now n)) all in
    rw (made g c, c.loop-copy.invariant.room, end) (AreKept-copies_of c.args.spans.now c.args.copies c.args.room c.requires.plan c.requires.some c.requires.fits c.requires.few)

pub invariant_of-result : goal.invariant_of-result
invariant_of-result g c =
    marked_of (kept g (goal.at.invariant_of-result g c).After-loop-copy) c.loop-copy.invariant.marked

pub returns-clause-table : goal.returns-clause-table
returns-clause-table g c = IsTable-AreKept _ _ _ _ (kept g (goal.at.returns-clause-table g c).After-loop-copy)

pub returns-clause-time : goal.returns-clause-time
returns-clause-time g c = sym (kept g (goal.at.returns-clause-time g c).After-loop-copy).starts

pub returns-clause-spans : goal.returns-clause-spans
returns-clause-spans g c = made g (goal.at.returns-clause-spans g c).After-loop-copy
