use Rattle.std.proofs.Common.{sym, ap, ◌∙◌}
use Rattle.std.specs.Prelude.{sum_by}
use Rattle.job_queue.proofs.Searches.{nobody, find-position, find-no_position}
use Rattle.job_queue.proofs.Runs.{filter-position, filter-no_position}
use Rattle.job_queue.proofs.queue.JobQueue.take.Goals as goal

pub returns-in_err-place-clause-job : goal.returns-in_err-place-clause-job
returns-in_err-place-clause-job g c =
    let none = sym c.place_of.ensures.place ∙ c.in_err-place.was in
    c.from_residual.ensures ∙ sym (find-no_position c.args.key c.args.self.now.jobs none)

pub returns-in_err-place-clause-jobs : goal.returns-in_err-place-clause-jobs
returns-in_err-place-clause-jobs g c = λ f.
    let none = sym c.place_of.ensures.place ∙ c.in_err-place.was in
    ap (sum_by f) (sym (filter-no_position c.args.key c.args.self.now.jobs none))

pub returns-clause-job : goal.returns-clause-job
returns-clause-job g c =
    let place = sym c.place_of.ensures.place ∙ c.in_ok-place.was in
    c.remove.ensures.job nobody ∙ sym (find-position c.args.key c.args.self.now.jobs c.in_ok-place.place nobody place)

pub returns-clause-jobs : goal.returns-clause-jobs
returns-clause-jobs g c = λ f.
    let place = sym c.place_of.ensures.place ∙ c.in_ok-place.was in
    let others = filter-position c.args.self.now c.args.key c.in_ok-place.place c.place_of.ensures.queue place in
    c.remove.ensures.jobs f ∙ ap (sum_by f) (sym others)

-- what was found has gone
pub returns-clause-none : goal.returns-clause-none
returns-clause-none g c none =
    let gone = sym none ∙ c.remove.ensures.job nobody in
    cc
