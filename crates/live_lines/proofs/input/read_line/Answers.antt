use Rattle.live_lines.proofs.PieceLemmas.{GivesOne-at_end, GivesOne-at_feed, HasFront-byte, HasFront-start}
use Rattle.live_lines.proofs.input.read_line.Goals as goal

pub loop-turn-init : goal.loop-turn-init
loop-turn-init g c = HasFront-start _ _ c.clear.ensures

pub returns-in-None-clause-gives : goal.returns-in-None-clause-gives
returns-in-None-clause-gives g c =
    GivesOne-at_end _ _ _ c.loop-turn.given c.loop-turn.line.items c.loop-turn.invariant (rw c.in-None.is at c.in_ok-next_byte.ensures.gives)

pub returns-in-Some-eq10-clause-gives : goal.returns-in-Some-eq10-clause-gives
returns-in-Some-eq10-clause-gives g c =
    rw c.ended.ensures (GivesOne-at_feed _ _ _ c.loop-turn.given c.loop-turn.line.items c.loop-turn.invariant
    (rw (c.in-Some-eq10.is, c.in-Some-eq10.field-0-test) at c.in_ok-next_byte.ensures.gives))

pub loop-turn-preserved : goal.loop-turn-preserved
loop-turn-preserved g c =
    rw (c.extended-given.ensures.given, c.extended-given.ensures.line) (HasFront-byte _ _ _ c.loop-turn.given c.loop-turn.line.items c.in-Some.byte
    c.loop-turn.invariant c.in-Some.byte-test.1 (rw c.in-Some.is at c.in_ok-next_byte.ensures.gives))
