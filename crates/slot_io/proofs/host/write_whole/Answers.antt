use Rattle.std.proofs.Common.{◌++◌, take, ◌∙◌}
use Rattle.std.proofs.KnownBytes.{Appends-trans}
use Rattle.slot_io.proofs.SinkParts.{AppendsPart-on, AppendsPart-kept, take_rest}
use Rattle.slot_io.proofs.host.write_whole.Goals as goal

pub returns-in-Err-clause-part : goal.returns-in-Err-clause-part
returns-in-Err-clause-part g c =
    let before = c.loop-rest.invariant in
    AppendsPart-kept _ _ _ before.0 c.loop-rest.rest.now _ before.1 before.2 c.in-Err.ensures.bytes

pub returns-then-taken-eq0-clause-part : goal.returns-then-taken-eq0-clause-part
returns-then-taken-eq0-clause-part g c =
    let before = c.loop-rest.invariant in
    AppendsPart-on _ _ _ before.0 c.loop-rest.rest.now _ before.1 before.2 (c.in-Ok.taken, c.in-Ok.ensures.bytes)

pub loop-rest-preserved : goal.loop-rest-preserved
loop-rest-preserved g c =
    let before = c.loop-rest.invariant in
    let rest = c.loop-rest.rest.now in
    let n = c.in-Ok.taken in
    (before.0 ++ take n rest, before.1 ∙ take_rest before.0 rest n, Appends-trans _ _ _ before.0 (take n rest) before.2 c.in-Ok.ensures.bytes)

pub returns-in-Err-flush-clause-part : goal.returns-in-Err-flush-clause-part
returns-in-Err-flush-clause-part g c =
    let before = c.loop-rest.invariant in
    AppendsPart-kept _ _ _ before.0 c.loop-rest.rest.now _ before.1 before.2 c.in-Err-flush.ensures.bytes
