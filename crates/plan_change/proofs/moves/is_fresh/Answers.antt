-- With no slot and no arrival the history has starts and ends alone.
use Rattle.std.proofs.Common.{sym, ◌∙◌, arith}
use Rattle.std.proofs.lemmas.Bool.{eq-eqb, eqb-true}
use Rattle.plan_change.proofs.FreshStart.{StandsFor-fresh}
use Rattle.plan_change.proofs.moves.is_fresh.Goals as goal

pub returns-then-now-eq0-clause-fresh : goal.returns-then-now-eq0-clause-fresh
returns-then-now-eq0-clause-fresh g c = (
  λ is. StandsFor-fresh c.args.exec.now c.now.ensures.stands (omega (arith, c.now.ensures.time)) (sym c.last_row.ensures ∙ eqb-true c.last_row.result 0 is),
  λ stands. eq-eqb c.last_row.result 0 (c.last_row.ensures ∙ stands.last),
)
