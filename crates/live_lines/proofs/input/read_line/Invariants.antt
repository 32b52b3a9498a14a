use Rattle.live_lines.proofs.PieceLemmas.{HasFront}
use Rattle.live_lines.proofs.input.read_line.Given as goal

abbrev pub invariant-loop-turn : goal.invariant-loop-turn
invariant-loop-turn g l =
    HasFront (g.R.Read.remaining l.fn.reader) (g.R.Read.remaining l.reader) l.given l.line.items
