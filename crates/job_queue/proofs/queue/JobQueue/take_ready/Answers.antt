use Rattle.std.proofs.Common.{ℕ, get_or, sym, ap, ◌∙◌}
use Rattle.std.specs.Prelude.{sum_by}
use Rattle.std.specs.Option.{option_map}
use Rattle.job_queue.proofs.Searches.{nobody}
use Rattle.job_queue.proofs.Runs.{filter-ready}
use Rattle.job_queue.proofs.queue.JobQueue.take_ready.Goals as goal

pub returns-in_err-found-clause-job : goal.returns-in_err-found-clause-job
returns-in_err-found-clause-job g c =
    let jobs = c.args.self.now.jobs in
    let none = c.place_ready.ensures.place.job nobody ∙ ap (option_map (λ (i : ℕ). get_or jobs i nobody)) c.in_err-found.was in
    c.from_residual.ensures ∙ sym none

pub returns-clause-job : goal.returns-clause-job
returns-clause-job g c =
    let jobs = c.args.self.now.jobs in
    let some = c.place_ready.ensures.place.job nobody ∙ ap (option_map (λ (i : ℕ). get_or jobs i nobody)) c.in_ok-found.was in
    c.remove.ensures.job nobody ∙ sym some

pub returns-clause-jobs : goal.returns-clause-jobs
returns-clause-jobs g c = λ job some f.
    let jobs = c.args.self.now.jobs in
    let others = filter-ready c.args.self.now c.args.now c.args.key c.in_ok-found.found c.place_ready.ensures.queue (c.place_ready.ensures.place.within c.in_ok-found.found c.in_ok-found.was) (λ d. c.place_ready.ensures.place.job d ∙ ap (option_map (λ (i : ℕ). get_or jobs i d)) c.in_ok-found.was) in
    c.remove.ensures.jobs f ∙ ap (sum_by f) (sym others)

-- what was found has gone
pub returns-clause-none : goal.returns-clause-none
returns-clause-none g c none =
    let gone = sym none ∙ c.remove.ensures.job nobody in
    cc
