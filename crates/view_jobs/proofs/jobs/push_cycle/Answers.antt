-- The next job of the cycle is appended, or left out.
use Rattle.std.proofs.Common.{◌≡◌, ◌<◌, length, true, false, nat_lt, ap, ◌∙◌, arith}
use Rattle.std.proofs.lemmas.Bool.Decides.{nat_tests}
use Rattle.view_jobs.specs.declared.jobs.Listed.{Listed}
use Rattle.view_jobs.specs.Listing.{listed_in}
use Rattle.view_jobs.proofs.ListingSteps.{one_more-kept, one_more-left_out}
use Rattle.view_jobs.proofs.jobs.push_cycle.Goals as goal
use Rattle.view_jobs.proofs.jobs.push_cycle.Goals.{then-listed-from+in_ok-push, else-listed-from}

pub loop-i-preserved : goal.loop-i-preserved
loop-i-preserved c =
    let plan = c.args.plan.now in
    let made = c.listed_in-listed.result in
    let in_time = λ (j : Listed). nat_lt j.release c.args.slots in
    let inside : c.loop-i.i < length plan.jobs = omega (arith, c.loop-i-test.true, ap length c.jobs-i-end.ensures.jobs) in
    elim c.if-listed-from.branch [
      | then-listed-from+in_ok-push w ↦
          (let passes : nat_lt made.release c.args.slots ≡ true = grind (arith, nat_tests, w.if-listed-from.true, c.from.ensures) in
          one_more-kept in_time (listed_in plan c.args.number) c.args.jobs.now.items c.loop-i.jobs.items c.if-listed-from.jobs.items plan.jobs c.loop-i.i made c.loop-i.invariant inside c.listed_in-listed.ensures passes (ap (λ v. v.items) w.jobs-is ∙ w.in_ok-push.ensures.items))
      | else-listed-from w ↦
          (let fails : nat_lt made.release c.args.slots ≡ false = grind (arith, nat_tests, w.if-listed-from.false, c.from.ensures) in
          ap (λ v. v.items) w.jobs-is ∙ one_more-left_out in_time (listed_in plan c.args.number) c.args.jobs.now.items c.loop-i.jobs.items plan.jobs c.loop-i.i made c.loop-i.invariant inside c.listed_in-listed.ensures fails)
    ]
