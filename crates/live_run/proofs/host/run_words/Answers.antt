use Rattle.live_run.proofs.host.run_words.Goals as goal

pub returns-in-Ok-clause-usage : goal.returns-in-Ok-clause-usage
returns-in-Ok-clause-usage g c = rw c.in-Ok.is c.run_over.ensures.usage

pub returns-in-Ok-clause-no_form : goal.returns-in-Ok-clause-no_form
returns-in-Ok-clause-no_form g c = rw c.in-Ok.is c.run_over.ensures.no_form
