-- Why the bytes have no answer, after the file was read.
use Rattle.std.proofs.Common.{subst, inr}
use Rattle.std.proofs.lemmas.Result.{IfErr-weaker}
use Rattle.units_run.specs.Runs.{FilesSeen, IsAnswerRefusal, IsDueRefusal, IsRead, seen}
use Rattle.units_run.proofs.Seen.{seen-on}
use Rattle.units_run.proofs.work.answer.Goals as goal

pub returns-clause-refused : goal.returns-clause-refused
returns-clause-refused g c =
    let f = g.F.Files in
    let i = g.I.Files in
    let question = c.args.question in
    let name = c.args.name.now in
    let other = c.args.other.now in
    let bytes = c.as_slice.result.now in
    let before = c.args.files.now in
    let last = c.answer_to.new.files in
    let between = c.read_file.new.files in
    let files = seen f.held f.blamed f.given f.faults before last in
    let input = seen i.held i.blamed i.given i.faults c.args.input.now c.answer_to.new.input in
    let same = seen-on f.held f.blamed f.given f.faults before between last c.read_file.ensures.keeps c.in_ok-bytes.ensures.reads_well in
    let read : IsRead (f.held before) name bytes = rw c.as_slice.ensures.value c.in_ok-bytes.ensures.read in
    IfErr-weaker c.answer_to.result (IsAnswerRefusal question other bytes (seen f.held f.blamed f.given f.faults between last) input) (IsDueRefusal question name other files input) (λ e h. inr (bytes, read, subst (λ (told : FilesSeen). IsAnswerRefusal question other bytes told input e) same h)) c.answer_to.ensures.refused
