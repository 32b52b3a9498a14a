-- The file is read as a set, and then the answer is made.
use Rattle.std.proofs.Common.{ℕ, Vec, Global, Ok, sym, ap, inl}
use Rattle.std.proofs.lemmas.Result.{err_from_is_err_and}
use Rattle.slot_core.specs.declared.tasks.TaskSet.{TaskSet}
use Rattle.command_line.specs.declared.commands.Source.TheVariants.{Tasks}
use Rattle.run_steps.specs.Sets.{set_from}
use Rattle.run_steps.proofs.StepLemmas.{reading-refused, reading-then}
use Rattle.plan_answers.specs.Loads.{load_text}
use Rattle.plan_run.proofs.work.load.Goals as goal

pub returns-in_err-tasks : goal.returns-in_err-tasks
returns-in_err-tasks g c =
    let p = err_from_is_err_and c.from_residual.result c.from_residual.ensures.1 in
    rw (p.1, p.2) (reading-refused _ _ _ _ _ _ _ (λ held. set_from held c.args.words.now Tasks) (λ (set : TaskSet). Ok (load_text set)) c.in_err-tasks.field-0.0 _ (λ (text : Vec ℕ Global). text.items) c.in_err-tasks.ensures.reading)

pub returns-in_err-text : goal.returns-in_err-text
returns-in_err-text g c =
    let p = err_from_is_err_and c.from_residual-in_err-text.result c.from_residual-in_err-text.ensures.1 in
    rw p.1 (reading-then _ _ _ _ _ _ _ (λ held. set_from held c.args.words.now Tasks) (λ (set : TaskSet). Ok (load_text set)) _ _ _ (λ (text : Vec ℕ Global). text.items) c.in_ok-tasks.ensures.reading tt (inl p.2))

pub returns : goal.returns
returns g c =
    reading-then _ _ _ _ _ _ _ (λ held. set_from held c.args.words.now Tasks) (λ (set : TaskSet). Ok (load_text set)) _ _ _ (λ (text : Vec ℕ Global). text.items) c.in_ok-tasks.ensures.reading tt (ap Ok (sym c.in_ok-text.ensures))
