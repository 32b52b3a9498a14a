use Rattle.std.proofs.Common.{ℕ, List, subst, ◌∙◌}
use Rattle.std.proofs.lemmas.Result.{err_from_is_err_and}
use Rattle.slot_core.specs.declared.events.Arrival.{Arrival}
use Rattle.std.specs.Prelude.{⊤}
use Rattle.slot_io.specs.Files.{Held}
use Rattle.command_line.specs.Refusals.{Outcome}
use Rattle.command_line.specs.Writings.{IsPartWriting}
use Rattle.command_line.specs.Commands.{is_file_of, is_second_of, is_recorded_in, is_verified_in, slots_of, writes_in_parts}
use Rattle.command_line.proofs.CommandLemmas.{reads-plan, reads-second, reads-recorded, reads-verified}
use Rattle.run_steps.specs.Readings.{plan_from, second_from}
use Rattle.run_steps.proofs.StepLemmas.{reading-since}
use Rattle.slot_cli.specs.Due.{arrivals_for, check_for, output_due}
use Rattle.slot_cli.proofs.CheckedCommands.{may_be_written-checked}
use Rattle.slot_cli.proofs.WorkLemmas.{work-refused, work-writing, way-plan, way-second, way-arrivals, way-check, writing-is_due}
use Rattle.slot_cli.proofs.work.carry_out.Goals as goal

pub returns-in_err-plan : goal.returns-in_err-plan
returns-in_err-plan g c =
    let words = c.args.words.now in
    let command = c.args.command in
    let p = err_from_is_err_and c.from_residual.result c.from_residual.ensures.1 in
    rw (p.1, p.2) (work-refused _ _ _ _ _ _ _ _ words command (is_file_of command.source) (λ held. plan_from held words command.source) c.in_err-plan.field-0.0 _ (reads-plan command) (λ held told. way-plan held words command) c.in_err-plan.ensures.reading)

pub returns-in_err-second : goal.returns-in_err-second
returns-in_err-second g c =
    let words = c.args.words.now in
    let command = c.args.command in
    let plan = c.in_ok-plan.plan in
    let planned = c.in_ok-plan.ensures.reading in
    let p = err_from_is_err_and c.from_residual-in_err-second.result c.from_residual-in_err-second.ensures.1 in
    let since = reading-since _ _ _ _ _ _ _ (is_second_of command.second) (λ held. second_from held words command.second) _ _ planned.keeps planned.counts c.in_err-second.ensures.reading in
    rw (p.1, p.2) (work-refused _ _ _ _ _ _ _ _ words command (is_second_of command.second) (λ held. second_from held words command.second) c.in_err-second.field-0.0 _ (reads-second command) (λ held told. way-second held words command plan (planned.answers held told)) since)

pub returns-in_err-arrivals : goal.returns-in_err-arrivals
returns-in_err-arrivals g c =
    let words = c.args.words.now in
    let command = c.args.command in
    let plan = c.in_ok-plan.plan in
    let second = c.in_ok-second.second in
    let planned = c.in_ok-plan.ensures.reading in
    let seconded = c.in_ok-second.ensures.reading in
    let p = err_from_is_err_and c.from_residual-in_err-arrivals.result c.from_residual-in_err-arrivals.ensures.1 in
    let gathered = rw c.tasks.ensures.tasks at c.in_err-arrivals.ensures.reading in
    let since = reading-since _ _ _ _ _ _ _ (is_recorded_in command.arrivals) (λ held. arrivals_for held words command plan.tasks) _ _ seconded.keeps seconded.counts gathered in
    let whole = reading-since _ _ _ _ _ _ _ (is_recorded_in command.arrivals) (λ held. arrivals_for held words command plan.tasks) _ _ planned.keeps planned.counts since in
    rw (p.1, p.2) (work-refused _ _ _ _ _ _ _ _ words command (is_recorded_in command.arrivals) (λ held. arrivals_for held words command plan.tasks) c.in_err-arrivals.field-0.0 _ (reads-recorded command) (λ held told. way-arrivals held words command plan second (planned.answers held told) (seconded.answers held (planned.keeps ∙ told))) whole)

pub returns-in_err-check_arrivals : goal.returns-in_err-check_arrivals
returns-in_err-check_arrivals g c =
    let words = c.args.words.now in
    let command = c.args.command in
    let plan = c.in_ok-plan.plan in
    let second = c.in_ok-second.second in
    let arrivals = c.in_ok-arrivals.arrivals.items in
    let planned = c.in_ok-plan.ensures.reading in
    let seconded = c.in_ok-second.ensures.reading in
    let gathered = rw c.tasks.ensures.tasks at c.in_ok-arrivals.ensures.reading in
    let p = err_from_is_err_and c.from_residual-in_err-check_arrivals.result c.from_residual-in_err-check_arrivals.ensures.1 in
    let checked = rw (c.as_slice-rows.ensures.value, c.slots-slots.ensures) at c.in_err-check_arrivals.ensures.reading in
    let step : Held → Outcome ⊤ = λ held. check_for held words command plan arrivals in
    let since = reading-since _ _ _ _ _ _ _ (is_verified_in command.check) step _ _ gathered.keeps gathered.counts checked in
    let more = reading-since _ _ _ _ _ _ _ (is_verified_in command.check) step _ _ seconded.keeps seconded.counts since in
    let whole = reading-since _ _ _ _ _ _ _ (is_verified_in command.check) step _ _ planned.keeps planned.counts more in
    rw (p.1, p.2) (work-refused _ _ _ _ _ _ _ _ words command (is_verified_in command.check) step c.in_err-check_arrivals.field-0.0 _ (reads-verified command) (λ held told. way-check held words command plan second arrivals (planned.answers held told) (seconded.answers held (planned.keeps ∙ told)) (gathered.answers held (seconded.keeps ∙ planned.keeps ∙ told))) whole)

pub write-requires-clause-checked : goal.write-requires-clause-checked
write-requires-clause-checked g c =
    let command = c.args.command in
    let checked = rw (c.as_slice-rows.ensures.value, c.slots-slots.ensures) at c.in_ok-check_arrivals.ensures.checked in
    rw (c.as_slice-rows.ensures.value, c.slots-slots.ensures) (may_be_written-checked command c.in_ok-plan.plan c.in_ok-arrivals.arrivals.items c.requires checked)

pub returns : goal.returns
returns g c =
    let words = c.args.words.now in
    let command = c.args.command in
    let plan = c.in_ok-plan.plan in
    let second = c.in_ok-second.second in
    let planned = c.in_ok-plan.ensures.reading in
    let seconded = c.in_ok-second.ensures.reading in
    let gathered = rw c.tasks.ensures.tasks at c.in_ok-arrivals.ensures.reading in
    let checked = rw (c.as_slice-rows.ensures.value, c.slots-slots.ensures) at c.in_ok-check_arrivals.ensures.reading in
    let Writes : ℕ → List Arrival → Type 0 = λ slots arrivals. IsPartWriting g.K.Sink.written g.K.Sink.faults (writes_in_parts command.output) (output_due command.output slots plan second arrivals) c.write.result c.args.out.now c.write.new.out in
    let writing = subst (Writes (slots_of command)) c.as_slice-rows.ensures.value (subst (λ slots. Writes slots c.as_slice-rows.result.now) c.slots-slots.ensures c.write.ensures) in
    work-writing _ _ _ _ _ _ _ _ _ words command _ c.write.result (λ held told. let from = planned.answers held told in let others = seconded.answers held (planned.keeps ∙ told) in let made = gathered.answers held (seconded.keeps ∙ planned.keeps ∙ told) in writing-is_due held words command plan second c.in_ok-arrivals.arrivals.items from others made (checked.answers held (gathered.keeps ∙ seconded.keeps ∙ planned.keeps ∙ told))) writing (checked.counts ∙ gathered.counts ∙ seconded.counts ∙ planned.counts)
