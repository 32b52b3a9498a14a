use Rattle.arrival_csv.proofs.ReadingSteps.{after-read}
use Rattle.std.proofs.Common.{sym}
use Rattle.arrival_csv.proofs.so_far.SoFar.keep.Goals as goal

pub returns-clause-reading : goal.returns-clause-reading
returns-clause-reading c = λ set slots fields is rows.
    let old = c.args.self.now in
    rw c.in_ok-push.ensures.items (sym (after-read set slots old.row old.before fields rows c.args.arrival old.arrivals.items is))
