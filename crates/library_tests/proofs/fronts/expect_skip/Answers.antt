use Rattle.std.proofs.Common.{◌∙◌, slice_get, ap, sym}
use Rattle.library_tests.proofs.fronts.expect_skip.Goals as goal

pub skip-later-requires-clause-span : goal.skip-later-requires-clause-span
skip-later-requires-clause-span g c =
    ap (slice_get (g.T.SpareTable.spans c.args.table.now)) (sym c.spot.ensures) ∙ c.read-place.ensures.span
