use Rattle.std.proofs.Common.{◌∙◌, sym, subst}
use Rattle.spare_capacity.specs.Recurrence.{first_start}
use Rattle.interval_row.specs.Stores.{Stored}
use Rattle.interval_row.specs.Tables.{IsTable}
use Rattle.interval_row.proofs.Rooms.{seen_of, IsTable-AreKept, kept_of}
use Rattle.interval_row.proofs.span_table.TableSpareTable.count.Goals as goal

pub returns-clause-count : goal.returns-clause-count
returns-clause-count g c = c.len.ensures ∙ sym (seen_of c.self.view_is (kept_of c.self.invariant)).count

pub returns-clause-table : goal.returns-clause-table
returns-clause-table g c =
    subst (λ (v : Stored). IsTable (first_start v.spans) v.spans v.room) c.self.view_is (IsTable-AreKept _ _ _ _ (kept_of c.self.invariant))
