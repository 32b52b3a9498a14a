use Rattle.std.proofs.Common.{◌≡◌, Err, refl, sym, ap, subst, ◌∙◌, inl, inr}
use Rattle.command_line.specs.declared.refusal.Refusal.TheVariants.{WriteFault}
use Rattle.command_line.specs.Refusals.{has_fixed_line, refusal_status}
use Rattle.view_run.specs.Runs.{IsRefused}
use Rattle.view_run.proofs.Causes.{refused-no_usage, write-by_status}
use Rattle.view_run.proofs.run_named.Goals as goal

pub returns-in-Err-clause-shows : goal.returns-in-Err-clause-shows
returns-in-Err-clause-shows g c = λ usage.
    elim c.report.ensures.kept [
      | inl same ↦
          refused-no_usage c.args.view c.args.names.now _ _ _ _ _ _ _ c.in-Err.refusal c.in-Err.ensures.refused (ap refusal_status (sym same) ∙ sym c.status.ensures ∙ usage)
      | inr memory ↦ cc (ap refusal_status (sym memory.0) ∙ sym c.status.ensures ∙ usage)
    ]

pub returns-in-Err-clause-refused : goal.returns-in-Err-clause-refused
returns-in-Err-clause-refused g c = λ undone. (
  c.report.result,
  c.status.ensures,
  elim c.report.ensures.kept [
    | inl same ↦ subst (IsRefused c.args.view c.args.names.now _ _ _ _ _ _ _) (sym same) c.in-Err.ensures.refused
    | inr memory ↦ subst (IsRefused c.args.view c.args.names.now _ _ _ _ _ _ _) (sym memory.0) (inl refl)
  ],
  c.report.ensures.told,
)

pub returns-in-Err-clause-refusal_writes_nothing : goal.returns-in-Err-clause-refusal_writes_nothing
returns-in-Err-clause-refusal_writes_nothing g c = λ undone unfailed. c.work.ensures.untouched c.in-Err.refusal c.in-Err.is (λ write. elim c.report.ensures.kept [
  | inl same ↦ unfailed (c.status.ensures ∙ ap refusal_status (same ∙ write))
  | inr memory ↦ cc (sym memory.1 ∙ ap has_fixed_line write)
])

pub returns-in-Err-clause-part : goal.returns-in-Err-clause-part
returns-in-Err-clause-part g c = λ write.
    let told : c.report.result ≡ WriteFault = write-by_status c.report.result (sym c.status.ensures ∙ write) in
    elim c.report.ensures.kept [
      | inl same ↦ c.work.ensures.part (c.in-Err.is ∙ ap Err (sym same ∙ told))
      | inr memory ↦ cc (sym memory.0 ∙ told)
    ]
