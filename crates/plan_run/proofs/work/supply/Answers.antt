-- The file is read as a plan, and then the answer is made.
use Rattle.std.proofs.Common.{ℕ, Vec, Global, Ok, refl, sym, ap, inl}
use Rattle.std.proofs.lemmas.Result.{err_from_is_err_and}
use Rattle.slot_core.specs.Keeping.Plans.{PlanParts}
use Rattle.command_line.specs.declared.commands.Source.TheVariants.{Tasks}
use Rattle.run_steps.specs.Readings.{plan_from}
use Rattle.run_steps.proofs.StepLemmas.{reading-as, reading-refused, reading-then}
use Rattle.supply_lines.specs.Lines.{supply_text}
use Rattle.plan_run.proofs.Files.{file-tasks}
use Rattle.plan_run.proofs.work.supply.Goals as goal

pub returns-in_err-plan : goal.returns-in_err-plan
returns-in_err-plan g c =
    let p = err_from_is_err_and c.from_residual.result c.from_residual.ensures.1 in
    rw (p.1, p.2) (reading-as _ _ _ _ _ _ _ _ _ _ _ _ file-tasks (λ files. refl) (reading-refused _ _ _ _ _ _ _ (λ held. plan_from held c.args.words.now Tasks) (λ (plan : PlanParts). Ok (supply_text plan.tasks)) c.in_err-plan.field-0.0 _ (λ (text : Vec ℕ Global). text.items) c.in_err-plan.ensures.reading))

pub returns-in_err-text : goal.returns-in_err-text
returns-in_err-text g c =
    let p = err_from_is_err_and c.from_residual-in_err-text.result c.from_residual-in_err-text.ensures.1 in
    rw p.1 (reading-as _ _ _ _ _ _ _ _ _ _ _ _ file-tasks (λ files. refl) (reading-then _ _ _ _ _ _ _ (λ held. plan_from held c.args.words.now Tasks) (λ (plan : PlanParts). Ok (supply_text plan.tasks)) _ _ _ (λ (text : Vec ℕ Global). text.items) c.in_ok-plan.ensures.reading tt (inl p.2)))

pub returns : goal.returns
returns g c =
    reading-as _ _ _ _ _ _ _ _ _ _ _ _ file-tasks (λ files. refl) (reading-then _ _ _ _ _ _ _ (λ held. plan_from held c.args.words.now Tasks) (λ (plan : PlanParts). Ok (supply_text plan.tasks)) _ _ _ (λ (text : Vec ℕ Global). text.items) c.in_ok-plan.ensures.reading tt (ap Ok (sym c.in_ok-text.ensures)))
