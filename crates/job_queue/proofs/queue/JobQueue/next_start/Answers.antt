use Rattle.std.proofs.Common.{fold, length, ap, ◌∙◌, arith}
use Rattle.std.specs.Prelude.{None, filter, reverse}
use Rattle.std.specs.Option.{option_copied}
use Rattle.job_queue.specs.Queues.{QueueParts}
use Rattle.job_queue.specs.Starts.{first_start_within, sooner, starts_within}
use Rattle.job_queue.proofs.KeptQueues.{length-parts}
use Rattle.job_queue.proofs.Starts.{sooner-parts}
use Rattle.job_queue.proofs.queue.JobQueue.next_start.Goals as goal

pub returns : goal.returns
returns g c =
    let passes = starts_within c.args.now c.args.until (option_copied c.args.other) in
    let beside = c.self.inside.beside.items in
    let come = c.self.inside.come.items in
    let listed = c.self.inside.listed.items in
    let parts = ap (λ (q : QueueParts). q.jobs) c.self.view_is in
    let first = c.first_start-start.ensures.start ∙ ap (λ js. fold sooner None (filter passes js)) c.deref.ensures.value in
    let second = c.first_come_start-start.ensures.start ∙ ap (λ js. fold sooner c.first_start-start.result (filter passes (reverse js))) c.jobs.ensures ∙ ap (λ s. fold sooner s (filter passes (reverse come))) first in
    record {
      start = c.first_listed.ensures.start ∙ ap (λ s. fold sooner s (filter passes listed)) second ∙ sooner-parts passes beside (reverse come) listed ∙ ap (first_start_within c.args.now c.args.until (option_copied c.args.other)) parts;
      steps = omega arith;
      few_steps = omega (arith, ap length parts, length-parts beside come listed, ap length c.deref.ensures.value, ap length c.jobs.ensures);
    }
