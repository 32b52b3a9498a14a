-- A file that is too large has its cause.
use Rattle.std.proofs.Common.{◌≡◌, ◌<◌, length, sym, arith}
use Rattle.std.specs.Vec.{vec_len}
use Rattle.slot_core.specs.declared.TheConstants.{TASK_FILE_LIMIT}
use Rattle.units_run.specs.Runs.{seen}
use Rattle.units_run.proofs.Seen.{too-long}
use Rattle.units_run.proofs.work.read_file.Goals as goal

pub returns-then-len-gt-TASK_FILE_LIMIT-clause-refused : goal.returns-then-len-gt-TASK_FILE_LIMIT-clause-refused
returns-then-len-gt-TASK_FILE_LIMIT-clause-refused g c =
    let f = g.F.Files in
    let bytes = c.in-Ok.bytes.items in
    let files = seen f.held f.blamed f.given f.faults c.args.files.now c.read.new.self in
    let long : TASK_FILE_LIMIT < length bytes = omega (arith, sym c.len.ensures, c.if-len-gt-TASK_FILE_LIMIT.true) in
    let count = vec_len c.in-Ok.bytes in
    let same : count ≡ length bytes = omega arith in
    too-long TASK_FILE_LIMIT count c.args.name.now bytes files same c.in-Ok.ensures.gives c.in-Ok.ensures.first long
