-- The parts make the table.
use Rattle.std.proofs.Common.{◌≡◌, Some, ap, subst, ◌∙◌}
use Rattle.std.specs.Prelude.{IfOk}
use Rattle.view_jobs.specs.Deeds.{deeds_of}
use Rattle.view_jobs.specs.Listing.{listed_jobs}
use Rattle.view_jobs.specs.Tables.{jobs_text, listed_text}
use Rattle.view_jobs.specs.Tallies.{tally_in, tally_of}
use Rattle.view_jobs.proofs.JobTexts.{jobs_text-from_parts}
use Rattle.view_jobs.proofs.put.jobs_table.Goals as goal

pub returns : goal.returns
returns c =
    let plan = c.args.plan.now in
    let lines = c.args.lines.now in
    let deeds = c.in_ok-deeds.deeds.items in
    let slots = c.time_of_last.result in
    subst
    (λ text. IfOk c.listed_table.result (λ rows. rows ≡ Some text))
    (jobs_text-from_parts plan lines c.tasks-2.result.now (tally_in c.in_ok-tallies.tallies) deeds c.deref-3.result.now slots
    c.tasks-2.ensures.tasks
    (c.in_ok-deeds.ensures ∙ ap (λ set. deeds_of set lines) c.tasks.ensures.tasks)
    c.time_of_last.ensures
    (c.deref-3.ensures.value ∙ c.in_ok-jobs.ensures ∙ ap (listed_jobs plan slots) c.deref.ensures.value)
    (λ key. c.in_ok-tallies.ensures key ∙ ap (λ ds. tally_of ds key) c.deref-2.ensures.value))
    c.listed_table.ensures
