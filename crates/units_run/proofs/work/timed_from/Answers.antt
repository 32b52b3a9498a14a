-- The rows that are refused are those of the other file.
use Rattle.std.proofs.lemmas.Result.{IfErr-weaker}
use Rattle.units_run.specs.Runs.{AreRows, IsRowRefusal, IsTimedRefusal, seen}
use Rattle.units_run.proofs.Timed.{rows-refused}
use Rattle.units_run.proofs.work.timed_from.Goals as goal

pub returns-clause-refused : goal.returns-clause-refused
returns-clause-refused g c =
    let form = c.args.form in
    let f = g.F.Files in
    let files = seen f.held f.blamed f.given f.faults c.args.files.now c.read_rows.new.files in
    let other = c.args.other.now in
    let bytes = c.args.bytes.now in
    let physical = c.in_ok-physical.physical in
    let rows = c.as_slice.result.now in
    let read : AreRows form (f.held c.args.files.now) other rows = rw c.as_slice.ensures.value c.in_ok-rows.ensures.read in
    IfErr-weaker c.timed_rows.result (IsRowRefusal form physical rows) (IsTimedRefusal form other bytes files) (rows-refused form other bytes files physical rows c.in_ok-physical.ensures.units read) c.timed_rows.ensures.refused
