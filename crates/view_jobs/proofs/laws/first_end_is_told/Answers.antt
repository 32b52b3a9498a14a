use Rattle.view_jobs.specs.Tallies.{untold}
use Rattle.view_jobs.proofs.ToldTimes.{told-ends}
use Rattle.view_jobs.proofs.laws.first_end_is_told.Goals as goal

pub returns : goal.returns
returns c = λ set lines key. told-ends set key untold lines
