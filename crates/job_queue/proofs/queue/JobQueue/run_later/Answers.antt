use Rattle.std.proofs.Common.{sym, ◌∙◌, arith}
use Rattle.job_queue.proofs.Searches.{find-no_position}
use Rattle.job_queue.proofs.Runs.{count_by-not_found}
use Rattle.job_queue.proofs.queue.JobQueue.run_later.Goals as goal

pub returns-in_default-clause-jobs : goal.returns-in_default-clause-jobs
returns-in_default-clause-jobs g c =
    let none = find-no_position c.args.key c.args.self.now.jobs (sym c.place_of.ensures.place ∙ c.in_default.is) in
    absurd (omega (arith, c.requires.present, count_by-not_found c.args.key c.args.self.now.jobs none))
