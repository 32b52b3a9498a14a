use Rattle.std.proofs.Common.{ap, ◌∙◌}
use Rattle.view_jobs.specs.declared.tallies.Tally.{Tally}
use Rattle.view_jobs.specs.Tallies.{untold}
use Rattle.view_jobs.proofs.CountedRuns.{gaps-between}
use Rattle.view_jobs.proofs.ToldTimes.{after_times, told-times}
use Rattle.view_jobs.proofs.laws.gaps_are_told.Goals as goal

pub returns-clause-between : goal.returns-clause-between
returns-clause-between c = λ set lines key first later trace are. gaps-between set lines key first later trace are

pub returns-clause-none : goal.returns-clause-none
returns-clause-none c = λ set lines key none.
    ap (λ (t : Tally). t.gaps) (told-times set key untold lines) ∙ ap (λ ts. (after_times untold ts).gaps) none
