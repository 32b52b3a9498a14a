-- Where a put fails, a part of all lines is written.
use Rattle.std.specs.Prelude.{flat_map}
use Rattle.std.proofs.lemmas.Result.{on_err_weaker}
use Rattle.future_check.specs.Explanations.{arrival_line, job_line, offer_line}
use Rattle.slot_io.proofs.LineTexts.{part-first, part-second, part-third}
use Rattle.future_check.proofs.lines.put_lines.Goals as goal
use Rattle.slot_io.proofs.SinkParts.{OnErr-anyhow}

pub returns-in_err-put_jobs-clause-part : goal.returns-in_err-put_jobs-clause-part
returns-in_err-put_jobs-clause-part g c =
    let set = c.args.tasks.now in
    OnErr-anyhow c.from_residual.result (part-first (g.K.Sink.written c.args.out.now) (g.K.Sink.written c.put_jobs.new.out) (flat_map (job_line set) c.args.jobs.now) (flat_map (arrival_line set) c.args.arrivals.now) (offer_line c.args.c c.args.dl) c.in_err-put_jobs.ensures.part)

pub returns-in_err-put_arrivals-clause-part : goal.returns-in_err-put_arrivals-clause-part
returns-in_err-put_arrivals-clause-part g c =
    let set = c.args.tasks.now in
    OnErr-anyhow c.from_residual-in_err-put_arrivals.result (part-second (g.K.Sink.written c.args.out.now) (g.K.Sink.written c.put_jobs.new.out) (g.K.Sink.written c.put_arrivals.new.out) (flat_map (job_line set) c.args.jobs.now) (flat_map (arrival_line set) c.args.arrivals.now) (offer_line c.args.c c.args.dl) c.in_ok-put_jobs.ensures.text c.in_err-put_arrivals.ensures.part)

pub returns-clause-part : goal.returns-clause-part
returns-clause-part g c =
    let set = c.args.tasks.now in
    on_err_weaker c.put_offer.result (part-third (g.K.Sink.written c.args.out.now) (g.K.Sink.written c.put_jobs.new.out) (g.K.Sink.written c.put_arrivals.new.out) (g.K.Sink.written c.put_offer.new.out) (flat_map (job_line set) c.args.jobs.now) (flat_map (arrival_line set) c.args.arrivals.now) (offer_line c.args.c c.args.dl) c.in_ok-put_jobs.ensures.text c.in_ok-put_arrivals.ensures.text) c.put_offer.ensures.part
