-- The tally that is written is that of the key, changed.
use Rattle.std.proofs.Common.{sym, ap, ◌∙◌}
use Rattle.view_jobs.specs.declared.tallies.Tally.{Tally}
use Rattle.view_jobs.specs.Tallies.{after_does, after_end, after_run, tally_in}
use Rattle.view_jobs.proofs.ToldSteps.{told-changed}
use Rattle.view_jobs.proofs.tallies.add.Goals as goal

pub returns-in_ok-insert-in-Runs : goal.returns-in_ok-insert-in-Runs
returns-in_ok-insert-in-Runs c = λ key.
    let old = c.args.tallies.now in
    let time = c.args.deed.now.time in
    let written = c.after_run-tally.ensures ∙ ap (λ (t : Tally). after_run t time) c.tally_in.ensures in
    told-changed old c.insert.new.self c.in-Runs.key key (λ t. after_run t time) c.after_run-tally.result written (c.in_ok-insert-in-Runs.ensures.updates.0 key)
    ∙ ap (after_does key (tally_in old key) time) (sym c.in-Runs.is)

pub returns-in_ok-insert-in-Ends : goal.returns-in_ok-insert-in-Ends
returns-in_ok-insert-in-Ends c = λ key.
    let old = c.args.tallies.now in
    let time = c.args.deed.now.time in
    let freed = c.in-Ends.freed in
    let written = c.after_end-tally.ensures ∙ ap (λ (t : Tally). after_end t time freed) c.tally_in-in-Ends.ensures in
    told-changed old c.insert-in-Ends.new.self c.in-Ends.key key (λ t. after_end t time freed) c.after_end-tally.result written (c.in_ok-insert-in-Ends.ensures.updates.0 key)
    ∙ ap (after_does key (tally_in old key) time) (sym c.in-Ends.is)
