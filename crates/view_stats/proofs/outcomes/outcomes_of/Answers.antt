-- The parts make what came of the jobs.
use Rattle.std.proofs.Common.{◌≡◌, ap, subst, ◌∙◌}
use Rattle.std.specs.Prelude.{IfOk}
use Rattle.view_jobs.specs.Deeds.{deeds_of}
use Rattle.view_jobs.specs.Listing.{listed_jobs}
use Rattle.view_jobs.specs.Tallies.{tally_in, tally_of}
use Rattle.view_stats.proofs.Parts.{outcomes-from_parts}
use Rattle.view_stats.proofs.outcomes.outcomes_of.Goals as goal

pub returns : goal.returns
returns c =
    let plan = c.args.plan.now in
    let lines = c.args.lines.now in
    let deeds = c.in_ok-deeds.deeds.items in
    let slots = c.time_of_last.result in
    subst
    (λ came. IfOk c.outcomes_with.result (λ outcomes. outcomes.items ≡ came))
    (outcomes-from_parts plan lines (tally_in c.in_ok-tallies.tallies) deeds c.deref-3.result.now slots
    (c.in_ok-deeds.ensures ∙ ap (λ set. deeds_of set lines) c.tasks.ensures.tasks)
    c.time_of_last.ensures
    (c.deref-3.ensures.value ∙ c.in_ok-jobs.ensures ∙ ap (listed_jobs plan slots) c.deref.ensures.value)
    (λ key. c.in_ok-tallies.ensures key ∙ ap (λ ds. tally_of ds key) c.deref-2.ensures.value))
    c.outcomes_with.ensures
