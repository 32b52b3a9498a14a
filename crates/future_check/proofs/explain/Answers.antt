-- What is shown is that of each history for which the executive stands.
use Rattle.std.proofs.Common.{◌≤◌, ◌∙◌, subst}
use Rattle.std.specs.Io.KnownBytes.{Appends}
use Rattle.slot_core.specs.declared.TheConstants.{TIME_LIMIT}
use Rattle.slot_io.specs.Sinks.{AppendsPart}
use Rattle.future_check.proofs.Comings.{until-near}
use Rattle.future_check.proofs.SameShown.{arrivals-named, keys-named, lines-told, none-at, sum-at}
use Rattle.future_check.proofs.explain.Goals as goal
use Rattle.slot_io.proofs.SinkParts.{OnErr-anyhow}

pub due_arrivals-requires : goal.due_arrivals-requires
due_arrivals-requires g c =
    until-near c.args.exec.now c.args.until c.now-now.ensures.kept (subst (λ t. t ≤ TIME_LIMIT) c.now-now.ensures.time c.now-now.ensures.early) c.requires.near

pub put_lines-requires-clause-keys : goal.put_lines-requires-clause-keys
put_lines-requires-clause-keys g c =
    keys-named c.args.exec.now c.tasks.result.now c.as_slice.result.now c.args.until c.now-now.ensures.kept c.now-now.ensures.stands c.tasks.ensures.tasks (c.as_slice.ensures.value ∙ c.in_ok-jobs.ensures)

pub put_lines-requires-clause-named : goal.put_lines-requires-clause-named
put_lines-requires-clause-named g c =
    arrivals-named c.args.exec.now c.tasks.result.now c.as_slice-2.result.now c.args.until c.tasks.ensures.tasks (c.as_slice-2.ensures.value ∙ c.in_ok-arrivals.ensures)

pub returns-in_err-put_lines-clause-part : goal.returns-in_err-put_lines-clause-part
returns-in_err-put_lines-clause-part g c = λ h stands.
    let text = lines-told c.args.exec.now h c.tasks.result.now c.as_slice.result.now c.as_slice-2.result.now c.args.c c.args.dl c.args.until c.now-now.ensures.kept.bounds.apart stands c.tasks.ensures.tasks (c.as_slice.ensures.value ∙ c.in_ok-jobs.ensures) (c.as_slice-2.ensures.value ∙ c.in_ok-arrivals.ensures) in
    OnErr-anyhow c.from_residual-in_err-put_lines.result (subst (AppendsPart (g.K.Sink.written c.args.out.now) (g.K.Sink.written c.put_lines.new.out)) text c.in_err-put_lines.ensures.part)

pub returns-clause-text : goal.returns-clause-text
returns-clause-text g c = λ h stands.
    let text = lines-told c.args.exec.now h c.tasks.result.now c.as_slice.result.now c.as_slice-2.result.now c.args.c c.args.dl c.args.until c.now-now.ensures.kept.bounds.apart stands c.tasks.ensures.tasks (c.as_slice.ensures.value ∙ c.in_ok-jobs.ensures) (c.as_slice-2.ensures.value ∙ c.in_ok-arrivals.ensures) in
    subst (Appends (g.K.Sink.written c.args.out.now) (g.K.Sink.written c.put_lines.new.out)) text c.in_ok-put_lines.ensures.text

pub returns-in_err-jobs-clause-sum : goal.returns-in_err-jobs-clause-sum
returns-in_err-jobs-clause-sum g c = λ h stands. sum-at c.args.exec.now h c.args.until

pub returns-in_err-jobs-clause-none : goal.returns-in_err-jobs-clause-none
returns-in_err-jobs-clause-none g c = λ h stands short.
    none-at c.args.exec.now h c.args.c c.args.dl c.args.until c.now-now.ensures.kept stands c.requires.later c.requires.due c.requires.near c.requires.some short

pub returns-in_err-arrivals-clause-sum : goal.returns-in_err-arrivals-clause-sum
returns-in_err-arrivals-clause-sum g c = λ h stands. sum-at c.args.exec.now h c.args.until

pub returns-in_err-arrivals-clause-none : goal.returns-in_err-arrivals-clause-none
returns-in_err-arrivals-clause-none g c = λ h stands short.
    none-at c.args.exec.now h c.args.c c.args.dl c.args.until c.now-now.ensures.kept stands c.requires.later c.requires.due c.requires.near c.requires.some short

pub returns-in_err-put_lines-clause-sum : goal.returns-in_err-put_lines-clause-sum
returns-in_err-put_lines-clause-sum g c = λ h stands. sum-at c.args.exec.now h c.args.until

pub returns-in_err-put_lines-clause-none : goal.returns-in_err-put_lines-clause-none
returns-in_err-put_lines-clause-none g c = λ h stands short.
    none-at c.args.exec.now h c.args.c c.args.dl c.args.until c.now-now.ensures.kept stands c.requires.later c.requires.due c.requires.near c.requires.some short

pub returns-clause-sum : goal.returns-clause-sum
returns-clause-sum g c = λ h stands. sum-at c.args.exec.now h c.args.until

pub returns-clause-none : goal.returns-clause-none
returns-clause-none g c = λ h stands short.
    none-at c.args.exec.now h c.args.c c.args.dl c.args.until c.now-now.ensures.kept stands c.requires.later c.requires.due c.requires.near c.requires.some short
