use Rattle.std.proofs.Common.{sym}
use Rattle.interval_row.proofs.Rooms.{seen_of, kept_of}
use Rattle.interval_row.proofs.span_table.TableSpareTable.last_end.Goals as goal

pub returns : goal.returns
returns g c = sym (seen_of c.self.view_is (kept_of c.self.invariant)).end
