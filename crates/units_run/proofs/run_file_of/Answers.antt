-- The names are those of the words.
use Rattle.std.proofs.Common.{◌≡◌, sym, ◌∙◌}
use Rattle.command_line.specs.Refusals.{word_at}
use Rattle.command_line.specs.Reports.{IsTold}
use Rattle.units_run.specs.Lines.{refusal_line}
use Rattle.units_run.specs.Questions.{other_of}
use Rattle.units_run.specs.Runs.{IsPartWritten, IsRefused, refusal_status, seen}
use Rattle.units_run.specs.declared.refusal.UnitsRefusal.{UnitsRefusal}
use Rattle.units_run.proofs.run_file_of.Goals as goal

pub returns-in-Some-clause-refused : goal.returns-in-Some-clause-refused
returns-in-Some-clause-refused g c = λ not_done known.
    let words = c.args.words.now in
    let ran = c.run_files in
    let f = g.F.Files in
    let i = g.I.Files in
    let files = seen f.held f.blamed f.given f.faults c.args.files.now ran.new.files in
    let input = seen i.held i.blamed i.given i.faults c.args.input.now ran.new.input in
    let out = g.K.Sink in
    let err = g.E.Sink in
    let why : (e : UnitsRefusal) × (ran.result ≡ refusal_status e) × IsRefused c.in-Some.question (word_at words 1) (other_of words) files input (out.faults c.args.out.now, out.faults ran.new.out) e × IsTold (refusal_line (word_at words 1) (other_of words) e) (err.written c.args.err.now) (err.written ran.new.err) (err.faults c.args.err.now) (err.faults ran.new.err) = rw (← c.name_of.ensures, ← c.other_of.ensures) (ran.ensures.refused not_done) in
    (c.in-Some.question, sym c.question_of.ensures ∙ c.in-Some.is, why)

pub returns-in-Some-clause-part : goal.returns-in-Some-clause-part
returns-in-Some-clause-part g c = λ failed.
    let words = c.args.words.now in
    let ran = c.run_files in
    let out = g.K.Sink in
    let part : IsPartWritten c.in-Some.question (g.F.Files.held c.args.files.now) (g.I.Files.held c.args.input.now) (word_at words 1) (other_of words) (out.written c.args.out.now) (out.written ran.new.out) = rw (← c.name_of.ensures, ← c.other_of.ensures) (ran.ensures.part failed) in
    (c.in-Some.question, sym c.question_of.ensures ∙ c.in-Some.is, part)
