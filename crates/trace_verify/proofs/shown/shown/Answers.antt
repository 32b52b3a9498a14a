use Rattle.std.proofs.Common.{ap, ◌∙◌, length, take, arith}
use Rattle.std.proofs.lemmas.List.{length-take}
use Rattle.slot_core.specs.Runs.Rising.{last_point}
use Rattle.slot_facts.proofs.Plans.FirstSpans.{length-spans}
use Rattle.trace_verify.proofs.shown.shown.Goals as goal

pub push_spans-requires : goal.push_spans-requires
push_spans-requires c =
    let points = c.args.points.now in
    let front = take c.min-count.result points in
    omega (
      arith,
      ap length (c.deref.ensures.value ∙ c.in_ok-spans.ensures),
      length-spans c.args.jobs.now (last_point c.args.time points) c.args.time front,
      length-take c.min-count.result points,
      ap (λ s. length s.spans) c.new-shown.ensures,
      c.min-count.ensures,
    )
