use Rattle.std.proofs.Common.{◌∙◌, subst, ap, sym, length, arith}
use Rattle.std.proofs.lemmas.List.{take_at}
use Rattle.spare_capacity.specs.Recurrence.{filled, AreConsecutive}
use Rattle.interval_build.proofs.Filled.{AreDueAt-from_All, filled-rows_between, AreConsecutive-rows_between, length-rows_between}
use Rattle.interval_build.proofs.spans_until.Goals as goal

pub fill-requires-clause-consecutive : goal.fill-requires-clause-consecutive
fill-requires-clause-consecutive c =
    let rows = c.deref_mut.ensures.value ∙ c.in_ok-rows.ensures in
    subst AreConsecutive (sym rows) (AreConsecutive-rows_between c.args.jobs.now c.args.start c.args.points.now c.requires.rising c.requires.near c.requires.small)

pub fill-requires-clause-few : goal.fill-requires-clause-few
fill-requires-clause-few c =
    let rows = c.deref_mut.ensures.value ∙ c.in_ok-rows.ensures in
    omega (arith, ap length rows, length-rows_between c.args.jobs.now c.args.start c.args.points.now)

pub returns : goal.returns
returns c =
    let rows = c.deref_mut.ensures.value ∙ c.in_ok-rows.ensures in
    let done = c.fill.ensures ∙ ap filled rows ∙ filled-rows_between c.args.jobs.now c.args.start c.args.points.now c.requires.rising (AreDueAt-from_All c.args.jobs.now c.args.start c.args.points.now c.requires.due) in
    take_at c.fill.new.rows _ c.in_ok-rows.rows.len (omega arith) ∙ done
