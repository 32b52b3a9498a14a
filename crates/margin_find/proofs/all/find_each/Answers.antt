use Rattle.margin_find.proofs.MarginLists.{AreMargins-more}
use Rattle.margin_find.proofs.all.find_each.Goals as goal

pub loop-part-preserved : goal.loop-part-preserved
loop-part-preserved c =
    let (so_far, kept) = c.loop-part.invariant in
    (AreMargins-more c.args.plan.now.tasks c.args.parts.now c.loop-part.part-index _ c.loop-part.found c.push.new.self c.in_ok-margin.margin c.loop-part-test.true so_far c.in_ok-push.ensures.ok c.in_ok-margin.ensures, c.in_ok-kept-2.ensures.0)
