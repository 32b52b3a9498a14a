use Rattle.std.proofs.Common.{length}
use Rattle.guarantee.proofs.Tables.{later-more}
use Rattle.guarantee.proofs.walk.past.Goals as goal

pub returns-then-passed-place-clause-last : goal.returns-then-passed-place-clause-last
returns-then-passed-place-clause-last g c =
    later-more c.args.place (length (g.T.SpareTable.spans c.args.table.now)) c.after.result c.after.ensures.last
