use Rattle.std.proofs.Common.{subst}
use Rattle.interval_build.proofs.Due.{is_due_after}
use Rattle.trace_verify.specs.Dues.{AreDues}
use Rattle.trace_verify.proofs.LackFacts.{lack-few, lack-of_dues}
use Rattle.trace_verify.proofs.OrderEdits.{AreInDeadlineOrder-filter}
use Rattle.trace_verify.proofs.jobs.JobList.lack_after.Goals as goal

pub returns-clause-lack : goal.returns-clause-lack
returns-clause-lack c =
    let jobs = c.args.self.now in
    let ordered = AreInDeadlineOrder-filter (is_due_after c.args.from) jobs c.requires.ordered in
    let are = subst (AreDues c.self.inside.dues) c.self.view_is c.self.invariant in
    lack-of_dues c.self.inside.dues jobs c.args.from c.lack_after.result are ordered c.lack_after.ensures

pub returns-clause-few : goal.returns-clause-few
returns-clause-few c =
    let are = subst (AreDues c.self.inside.dues) c.self.view_is c.self.invariant in
    lack-few c.self.inside.dues c.args.self.now c.args.from c.lack_after.result are c.lack_after.ensures
