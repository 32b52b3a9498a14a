use Rattle.std.proofs.Common.{◌++◌, ◌∙◌, sym, refl, ap, get_or, sum_by, subst, drop, ◌+◌, arith}
use Rattle.slot_core.specs.Keeping.Plans.{AreInDeadlineOrder}
use Rattle.interval_build.specs.Rows.{rows_between}
use Rattle.interval_build.proofs.Due.{left_of, work_of_front, rest_of_front, work_between-le, AreInDeadlineOrder-drop}
use Rattle.interval_build.proofs.RowSteps.{AreRising-turn, rows_turn}
use Rattle.interval_build.proofs.rows_until.Goals as goal

pub loop-point-init : goal.loop-point-init
loop-point-init c =
    record {
      rows = rw c.new-rows.ensures.items refl;
      rising = c.requires.rising;
      rest = c.due_after-rest.ensures.jobs;
      ordered = c.due_after-rest.ensures.ordered;
    }

pub work_of-requires : goal.work_of-requires
work_of-requires c =
    let jobs = c.args.jobs.now in
    let point = get_or c.args.points.now c.loop-point.point-index 0 in
    let before = c.loop-point.invariant in
    let work = ap (sum_by left_of) c.split_at.ensures.front ∙ work_of_front jobs c.loop-point.rest.now c.loop-point.from point c.count_due.result before.rest before.ordered c.count_due.ensures.count in
    omega (arith, work, work_between-le jobs c.loop-point.from point, c.requires.small)

pub loop-point-preserved : goal.loop-point-preserved
loop-point-preserved c =
    let jobs = c.args.jobs.now in
    let point = get_or c.args.points.now c.loop-point.point-index 0 in
    let before = c.loop-point.invariant in
    let turn = AreRising-turn c.loop-point.from c.loop-point.point-index c.args.points.now c.loop-point-test.true before.rising in
    let work = c.work_of.ensures ∙ ap (sum_by left_of) c.split_at.ensures.front ∙ work_of_front jobs c.loop-point.rest.now c.loop-point.from point c.count_due.result before.rest before.ordered c.count_due.ensures.count in
    let pushed = c.in_ok-push.ensures.items in
    record {
      rows = ap (λ rows. rows ++ rows_between jobs point (drop (c.loop-point.point-index + 1) c.args.points.now)) pushed ∙ rows_turn jobs c.loop-point.rows.items _ c.loop-point.from c.loop-point.point-index c.work_of.result c.args.points.now c.loop-point-test.true before.rows work;
      rising = turn.1;
      rest = c.split_at.ensures.back ∙ rest_of_front jobs c.loop-point.rest.now c.loop-point.from point c.count_due.result (omega (arith, turn.0)) before.rest before.ordered c.count_due.ensures.count;
      ordered = subst AreInDeadlineOrder (sym c.split_at.ensures.back) (AreInDeadlineOrder-drop c.count_due.result c.loop-point.rest.now before.ordered);
    }
