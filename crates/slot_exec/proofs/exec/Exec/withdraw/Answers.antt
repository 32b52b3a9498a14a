use Rattle.slot_core.specs.declared.jobs.Key.TheVariants.{Firm}
use Rattle.slot_exec.proofs.EarlyEnds.{due-before}
use Rattle.slot_exec.proofs.FirmWithdrawals.{answer-withdrawn, come-before, some-withdrawn, none-withdrawn, parts-withdrawn}
use Rattle.slot_exec.proofs.StepBounds.{few_steps-withdrawal, no_job_steps-withdrawal}
use Rattle.slot_exec.proofs.exec.Exec.withdraw.Goals as goal

pub take_back-requires : goal.take_back-requires
take_back-requires g c =
    record {
      due = due-before _ _ _ _ _ _ _ c.args.row (Firm c.args.firm) c.self.invariant c.self.view_is;
      come = come-before _ _ _ _ _ _ _ c.args.row c.args.firm c.self.invariant c.self.view_is;
    }

pub invariant_of-self : goal.invariant_of-self
invariant_of-self g c =
    let gone = c.take_back.ensures in
    (parts-withdrawn _ _ _ _ _ _ _ c.args.row c.args.firm c.self.invariant c.self.view_is _ _ _ _ _ _ _ c.requires.later gone.gone gone.spans gone.time gone.places gone.jobs gone.capacity gone.due).1

pub returns-clause-does : goal.returns-clause-does
returns-clause-does g c =
    let gone = c.take_back.ensures in
    (parts-withdrawn _ _ _ _ _ _ _ c.args.row c.args.firm c.self.invariant c.self.view_is _ _ _ _ _ _ _ c.requires.later gone.gone gone.spans gone.time gone.places gone.jobs gone.capacity gone.due).0

pub returns-clause-answer : goal.returns-clause-answer
returns-clause-answer g c =
    answer-withdrawn _ _ _ _ _ _ _ c.args.row c.args.firm c.self.invariant c.self.view_is c.take_back.result c.take_back.ensures.gone

pub returns-clause-no_job : goal.returns-clause-no_job
returns-clause-no_job g c =
    none-withdrawn _ _ _ _ _ _ _ c.args.row c.args.firm c.self.invariant c.self.view_is c.take_back.result c.take_back.ensures.gone

pub returns-clause-some : goal.returns-clause-some
returns-clause-some g c =
    some-withdrawn _ _ _ _ _ _ _ c.args.row c.args.firm c.self.invariant c.self.view_is c.take_back.result c.take_back.ensures.gone

pub returns-clause-few_steps : goal.returns-clause-few_steps
returns-clause-few_steps g c counted job remains key =
    few_steps-withdrawal _ _ _ _ _ _ _ c.self.invariant c.self.view_is c.args.firm _ _ job remains key (λ found. c.take_back.ensures.few_steps counted job found)

pub returns-clause-no_job_steps : goal.returns-clause-no_job_steps
returns-clause-no_job_steps g c none =
    no_job_steps-withdrawal _ _ _ _ _ _ _ c.self.invariant c.self.view_is _ _ (c.take_back.ensures.no_job_steps none)
