-- The words ask for the view that is shown, and a refusal of it has its cause.
use Rattle.std.proofs.Common.{sym, ◌∙◌}
use Rattle.view_run.proofs.run_view_of.Goals as goal

pub returns-in-Some-clause-refused : goal.returns-in-Some-clause-refused
returns-in-Some-clause-refused g c = λ undone _. (c.in-Some.view, sym c.view_of.ensures ∙ c.in-Some.is, c.run_view.ensures.refused undone)
