use Rattle.std.proofs.Common.{◌≡◌, rules, refl, length}
use Rattle.std.proofs.KnownBytes.{Keeps-refl, Keeps-trans}
use Rattle.live_lines.proofs.ByteLemmas.{none-of_read, one-of_read}
use Rattle.live_lines.proofs.input.next_byte.Goals as goal

pub loop-turn-init : goal.loop-turn-init
loop-turn-init g c = (refl, Keeps-refl _)

pub returns-in-Ok-eq0-clause-gives : goal.returns-in-Ok-eq0-clause-gives
returns-in-Ok-eq0-clause-gives g c =
    let single : length c.read.new.buf ≡ 1 = search rules in
    none-of_read _ _ _ c.read.result c.in-Ok-eq0.field-0 c.read.new.buf c.loop-turn.invariant.1 c.read.ensures.bytes c.in-Ok-eq0.is c.in-Ok-eq0.field-0-test single

pub returns-in-Ok-clause-gives : goal.returns-in-Ok-clause-gives
returns-in-Ok-clause-gives g c =
    let single : length c.read.new.buf ≡ 1 = search rules in
    one-of_read _ _ _ c.in-Ok.field-0 c.read.new.buf c.loop-turn.invariant.1 c.in-Ok.ensures.bytes.0 c.in-Ok.field-0-test.1 c.in-Ok.ensures.bound.0 single

pub loop-turn-preserved : goal.loop-turn-preserved
loop-turn-preserved g c =
    let single : length c.read.new.buf ≡ 1 = search rules in
    (single, Keeps-trans _ _ _ c.loop-turn.invariant.1 c.in-Err.ensures.bytes)
