-- What the next deed tells is added.
use Rattle.view_jobs.specs.Tallies.{tally_in}
use Rattle.view_jobs.proofs.ToldSteps.{told-next}
use Rattle.view_jobs.proofs.tallies.add_all.Goals as goal

pub loop-deed-preserved : goal.loop-deed-preserved
loop-deed-preserved c = λ key.
    told-next key (tally_in c.args.tallies.now key) (tally_in c.loop-deed.tallies key) (tally_in c.add.new.tallies key) c.args.deeds.now c.loop-deed.deed-index _ c.loop-deed-test.true (c.loop-deed.invariant key) (c.in_ok-add.ensures key)
