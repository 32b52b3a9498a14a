use Rattle.std.proofs.Common.{ap, ◌∙◌}
use Rattle.slot_core.specs.declared.jobs.Key.TheVariants.{Firm}
use Rattle.job_queue.specs.Queues.{QueueParts}
use Rattle.slot_exec.proofs.FirmWithdrawals.{find-ready, jobs-taken}
use Rattle.slot_exec.proofs.withdrawals.take_firm.Goals as goal

pub returns-clause-job : goal.returns-clause-job
returns-clause-job g c =
    c.take_ready.ensures.job ∙ find-ready (Firm c.args.firm) c.args.time c.args.queue.now.jobs c.requires.come

pub returns-clause-jobs : goal.returns-clause-jobs
returns-clause-jobs g c =
    let told = c.take_ready.ensures.job ∙ find-ready (Firm c.args.firm) c.args.time c.args.queue.now.jobs c.requires.come in
    jobs-taken c.args.firm c.args.queue.now.jobs _ c.take_ready.result told c.take_ready.ensures.jobs (λ none. ap (λ (q : QueueParts). q.jobs) (c.take_ready.ensures.none none))
