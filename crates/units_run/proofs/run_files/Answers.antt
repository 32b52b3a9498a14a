-- The refusal is the one of the work, or want of memory for its line.
use Rattle.std.proofs.Common.{◌≡◌, Err, sym, ap, ◌∙◌, inl, inr}
use Rattle.units_run.specs.declared.refusal.UnitsRefusal.TheVariants.{WriteFault}
use Rattle.units_run.proofs.Refused.{write-by_status}
use Rattle.units_run.proofs.run_files.Goals as goal

pub returns-in-Err-clause-part : goal.returns-in-Err-clause-part
returns-in-Err-clause-part g c = λ write.
    let told : c.report.result ≡ WriteFault = write-by_status c.report.result (sym c.status.ensures ∙ write) in
    elim c.report.ensures.kept [
      | inl same ↦ c.work.ensures.part (c.in-Err.is ∙ ap Err (sym same ∙ told))
      | inr memory ↦ cc (sym memory.0 ∙ told)
    ]
