-- The names of the files are those of the words.
use Rattle.std.proofs.Common.{◌≡◌, ◌≢◌, refl, subst, inl}
use Rattle.command_line.specs.declared.refusal.Refusal.{Refusal}
use Rattle.command_line.specs.declared.refusal.Refusal.TheVariants.{Memory}
use Rattle.command_line.specs.declared.status.Status.{Status}
use Rattle.command_line.specs.Refusals.{refusal_line, refusal_status}
use Rattle.command_line.specs.Reports.{IsTold}
use Rattle.view_run.specs.Runs.{IsRefused}
use Rattle.view_run.proofs.run_view.Goals as goal

pub returns-in-Ok-clause-refused : goal.returns-in-Ok-clause-refused
returns-in-Ok-clause-refused g c =
    subst
    (λ names. c.run_named.result ≢ Status.Done → (e : Refusal) × (c.run_named.result ≡ refusal_status e) × IsRefused c.args.view names (g.F.Files.held c.args.files.now) (g.I.Files.held c.args.input.now) (g.F.Files.blamed c.run_named.new.files, g.F.Files.given c.run_named.new.files) (g.I.Files.blamed c.run_named.new.input, g.I.Files.given c.run_named.new.input) (g.F.Files.faults c.args.files.now, g.F.Files.faults c.run_named.new.files) (g.I.Files.faults c.args.input.now, g.I.Files.faults c.run_named.new.input) (g.K.Sink.faults c.args.out.now, g.K.Sink.faults c.run_named.new.out) e × IsTold (refusal_line names e) (g.E.Sink.written c.args.err.now) (g.E.Sink.written c.run_named.new.err) (g.E.Sink.faults c.args.err.now) (g.E.Sink.faults c.run_named.new.err))
    c.in-Ok.ensures
    c.run_named.ensures.refused

pub returns-in-Err-clause-refused : goal.returns-in-Err-clause-refused
returns-in-Err-clause-refused g c = λ undone. (Memory, c.refuse.ensures.status, inl refl, c.refuse.ensures.told)
