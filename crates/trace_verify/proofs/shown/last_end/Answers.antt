use Rattle.std.proofs.Common.{ap, ◌∙◌, arith}
use Rattle.std.specs.Prelude.{unwrap_or}
use Rattle.trace_verify.proofs.FirstSpans.{last_point-read}
use Rattle.trace_verify.proofs.shown.last_end.Goals as goal

pub returns : goal.returns
returns c =
    let points = c.args.points.now in
    c.unwrap_or.ensures ∙ ap (λ o. unwrap_or o c.args.time) c.copied.ensures ∙ c.last.ensures.item.4 (omega arith) c.args.time ∙ last_point-read c.args.time points
