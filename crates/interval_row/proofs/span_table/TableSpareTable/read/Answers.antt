use Rattle.std.proofs.Common.{◌∙◌, slice_get, ap, arith}
use Rattle.interval_row.proofs.Rooms.{seen_of, kept_of}
use Rattle.interval_row.proofs.span_table.TableSpareTable.read.Goals as goal

pub at-requires : goal.at-requires
at-requires g c =
    omega (arith, c.requires, (seen_of c.self.view_is (kept_of c.self.invariant)).count)

pub returns-clause-span : goal.returns-clause-span
returns-clause-span g c =
    ap (λ xs. slice_get xs c.args.at.0) (seen_of c.self.view_is (kept_of c.self.invariant)).rows ∙ c.at.ensures.span
