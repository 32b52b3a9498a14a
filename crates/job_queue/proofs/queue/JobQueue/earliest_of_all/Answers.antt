use Rattle.std.proofs.Common.{◌≡◌, ◌++◌, fold, length, sym, ap, ◌∙◌, arith}
use Rattle.std.specs.Prelude.{None, nat_le, reverse}
use Rattle.std.specs.Option.{option_copied}
use Rattle.std.proofs.lemmas.List.Elements.{filter-append}
use Rattle.std.proofs.lemmas.List.Sums.{fold-append}
use Rattle.slot_core.specs.declared.jobs.Job.{Job}
use Rattle.slot_core.specs.Runs.Choice.{earlier_of, earliest, ready}
use Rattle.job_queue.specs.Queues.{QueueParts}
use Rattle.job_queue.proofs.KeptQueues.{length-parts}
use Rattle.job_queue.proofs.queue.JobQueue.earliest_of_all.Goals as goal

pub returns : goal.returns
returns g c =
    let now = c.args.now in
    let may = λ (j : Job). nat_le j.est now in
    let beside = c.self.inside.beside.items in
    let come = c.self.inside.come.items in
    let listed = c.self.inside.listed.items in
    let parts = ap (λ (q : QueueParts). q.jobs) c.self.view_is in
    let whole : ready now c.args.self.now.jobs ≡ ready now beside ++ ready now (reverse come) ++ ready now listed =
    ap (ready now) (sym parts) ∙ (filter-append may (beside ++ reverse come) listed ∙ ap (λ js. js ++ ready now listed) (filter-append may beside (reverse come))) in
    let split = fold-append earlier_of None (ready now beside ++ ready now (reverse come)) (ready now listed) ∙ ap (λ best. fold earlier_of best (ready now listed)) (fold-append earlier_of None (ready now beside) (ready now (reverse come))) in
    let first = c.earliest_of-best.ensures.job ∙ ap (λ jobs. earliest (ready now jobs)) c.deref.ensures.value in
    let second = c.earliest_come-best.ensures.job ∙ ap (λ jobs. fold earlier_of (option_copied c.earliest_of-best.result) (ready now (reverse jobs))) c.jobs.ensures ∙ ap (λ best. fold earlier_of best (ready now (reverse come))) first in
    record {
      job = c.copied.ensures ∙ c.earliest_listed.ensures.job ∙ ap (λ best. fold earlier_of best (ready now listed)) second ∙ sym (ap earliest whole ∙ split);
      steps = omega arith;
      few_steps = omega (arith, ap length parts, length-parts beside come listed, ap length c.deref.ensures.value, ap length c.jobs.ensures);
    }
