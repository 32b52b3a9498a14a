use Rattle.plan_run.proofs.host.run_words.Goals as goal

pub returns-in-Ok-clause-usage : goal.returns-in-Ok-clause-usage
returns-in-Ok-clause-usage g c = rw c.in-Ok.is c.run_over.ensures.usage

pub returns-in-Ok-clause-page : goal.returns-in-Ok-clause-page
returns-in-Ok-clause-page g c = rw c.in-Ok.is c.run_over.ensures.page
