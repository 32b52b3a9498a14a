-- Where a put fails, a part of all lines is put.
use Rattle.std.proofs.Common.{◌++◌, ◌∷◌, [], ◌∙◌, codes, length, refl, subst}
use Rattle.std.specs.Prelude.{flat_map}
use Rattle.std.proofs.lemmas.Result.{on_err_weaker}
use Rattle.std.proofs.KnownBytes.{Appends-nil}
use Rattle.std.specs.Io.KnownBytes.{Appends}
use Rattle.slot_core.specs.Output.Texts.{worded}
use Rattle.slot_io.specs.Sinks.{AppendsPart}
use Rattle.slot_io.proofs.SinkParts.{AppendsPart-more, AppendsPart-on, OnErr-anyhow}
use Rattle.live_run.specs.Carried.{carried_line, carried_lines}
use Rattle.live_run.proofs.carried.put_jobs.Goals as goal

pub returns-in_err-put_answer-clause-part : goal.returns-in_err-put_answer-clause-part
returns-in_err-put_answer-clause-part g c =
    let before = g.K.Sink.written c.args.out.now in
    let after = g.K.Sink.written c.put_answer.new.out in
    let jobs = c.args.jobs.now in
    let count = worded (codes "carried") (length jobs) ++ 10 ∷ [] in
    let part = subst (AppendsPart before after) (c.bytes.ensures ∙ c.count_line-count.ensures) c.in_err-put_answer.ensures.part in
    OnErr-anyhow c.from_residual.result (AppendsPart-more before before after [] count (flat_map (carried_line c.args.tasks.now c.args.now) jobs) (carried_lines c.args.tasks.now c.args.now jobs) refl (Appends-nil before) part)

pub returns-clause-part : goal.returns-clause-part
returns-clause-part g c = on_err_weaker c.put_each.result (λ part.
    let before = g.K.Sink.written c.args.out.now in
    let between = g.K.Sink.written c.put_answer.new.out in
    let jobs = c.args.jobs.now in
    let count = worded (codes "carried") (length jobs) ++ 10 ∷ [] in
    let put = subst (Appends before between) (c.bytes.ensures ∙ c.count_line-count.ensures) c.in_ok-put_answer.ensures.put in
    AppendsPart-on before between (g.K.Sink.written c.put_each.new.out) count (flat_map (carried_line c.args.tasks.now c.args.now) jobs) (carried_lines c.args.tasks.now c.args.now jobs) refl put part) c.put_each.ensures.part
