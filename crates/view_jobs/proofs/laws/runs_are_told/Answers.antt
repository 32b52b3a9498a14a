use Rattle.std.proofs.Common.{ap, ◌∙◌}
use Rattle.view_jobs.specs.declared.tallies.Tally.{Tally}
use Rattle.view_jobs.specs.Deeds.{key_in}
use Rattle.view_jobs.specs.JobTimes.{times_run}
use Rattle.view_jobs.specs.Tallies.{untold}
use Rattle.view_jobs.proofs.CountedRuns.{runs-counted}
use Rattle.view_jobs.proofs.JobNames.{named-by}
use Rattle.view_jobs.proofs.RisingTimes.{rise-in, rise-of}
use Rattle.view_jobs.proofs.ToldTimes.{first-after, last-after, told-times}
use Rattle.view_jobs.proofs.laws.runs_are_told.Goals as goal

pub returns-clause-names : goal.returns-clause-names
returns-clause-names c = λ set key name. named-by key (key_in set name)

pub returns-clause-rise : goal.returns-clause-rise
returns-clause-rise c = λ set lines key trace. rise-of (times_run set lines key) (rise-in set key lines _ trace)

pub returns-clause-ran : goal.returns-clause-ran
returns-clause-ran c = λ set lines key trace. runs-counted set lines key trace

pub returns-clause-first : goal.returns-clause-first
returns-clause-first c = λ set lines key.
    ap (λ (t : Tally). t.first) (told-times set key untold lines) ∙ first-after untold (times_run set lines key)

pub returns-clause-last : goal.returns-clause-last
returns-clause-last c = λ set lines key.
    ap (λ (t : Tally). t.last) (told-times set key untold lines) ∙ last-after untold (times_run set lines key)
