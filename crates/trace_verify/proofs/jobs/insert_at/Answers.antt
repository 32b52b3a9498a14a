use Rattle.std.proofs.Common.{arith}
use Rattle.trace_verify.proofs.JobDues.{due-added}
use Rattle.trace_verify.proofs.LeftSums.{left_before-le}
use Rattle.trace_verify.proofs.jobs.insert_at.Goals as goal

pub add-requires : goal.add-requires
add-requires c = record {
  few = λ n. omega (arith, c.requires.dues.same n, left_before-le c.args.jobs.now n, c.requires.small);
}

pub take-requires : goal.take-requires
take-requires c = record {
  due = due-added c.args.dues.now c.add.new.self c.args.job c.in_ok-add.ensures.more;
}
