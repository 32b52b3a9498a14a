use Rattle.std.proofs.Common.{◌^◌, refl, subst, arith}
use Rattle.std.proofs.lemmas.List.{take_all}
use Rattle.demand_test.specs.EndTables.{ending_by, first_end, ArePassed}
use Rattle.demand_test.proofs.EndSums.{declared-less, ending_by-all, ending_by-none, ending_by-parts}
use Rattle.demand_test.proofs.Blocks.{ArePassed-more}
use Rattle.demand_test.proofs.ends.Ends.pass_all.Goals as goal

pub loop-job-init : goal.loop-job-init
loop-job-init c =
    record {
      sums = refl;
      inner = refl;
      blocks = refl;
      more = λ b low. omega (arith, ending_by-none first_end b);
    }

pub pass-requires-clause-few : goal.pass-requires-clause-few
pass-requires-clause-few c =
    λ b low.
    let jobs = c.args.jobs.now in
    let inner = c.requires.blocks.inner in
    omega (
      arith,
      c.loop-job.invariant.more b (omega arith),
      c.requires.few b low,
      ending_by-parts first_end jobs c.loop-job.job-index b,
    )

pub pass-requires-clause-short : goal.pass-requires-clause-short
pass-requires-clause-short c =
    let jobs = c.args.jobs.now in
    let all = ending_by-all first_end jobs c.args.last c.requires.within in
    let few = c.requires.few c.args.last (omega arith) in
    declared-less jobs c.loop-job.job-index _ (2 ^ 31) c.loop-job-test.true (omega arith)

pub loop-job-preserved : goal.loop-job-preserved
loop-job-preserved c =
    ArePassed-more c.args.self.now c.loop-job.self c.pass.new.self c.args.jobs.now c.loop-job.job-index _ c.loop-job-test.true c.loop-job.invariant c.pass.ensures

pub returns : goal.returns
returns c =
    let all = take_all c.loop-job.job-index c.args.jobs.now c.loop-job-test.false in
    subst (λ xs. ArePassed c.args.self.now c.loop-job.self (ending_by first_end xs)) all c.loop-job.invariant
