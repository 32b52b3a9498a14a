-- A page that is told ends done, or with a failed write.
use Rattle.std.proofs.Common.{inl, inr}
use Rattle.plan_run.proofs.host.run_over.Goals as goal

pub returns-clause-page : goal.returns-clause-page
returns-clause-page g c page is = elim (c.run.ensures.page page is) [
  | inl done ↦ inl done.0
  | inr lost ↦ inr lost.0
]
