use Rattle.std.proofs.Common.{◌∙◌, slice_get, ap, sym}
use Rattle.library_tests.proofs.fronts.counts_passed.Goals as goal

pub skip-passed-requires-clause-span : goal.skip-passed-requires-clause-span
skip-passed-requires-clause-span g c =
    ap (slice_get (g.T.SpareTable.spans c.args.table.now)) (sym c.spot.ensures) ∙ c.read-span.ensures.span
