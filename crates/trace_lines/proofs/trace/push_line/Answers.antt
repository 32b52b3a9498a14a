-- One line more is kept.
use Rattle.std.proofs.Common.{sym, ◌∙◌}
use Rattle.trace_lines.proofs.PartReads.{IsKept-more}
use Rattle.trace_lines.proofs.trace.push_line.Goals as goal

pub returns-clause-ok : goal.returns-clause-ok
returns-clause-ok c =
    let e = c.in_ok-push.ensures in (
      c.in-Some.line,
      sym c.short_line.ensures ∙ c.in-Some.is,
      sym c.after.ensures ∙ c.in-Some-after.is,
      (λ lines kept. IsKept-more c.args.slots lines c.in-Some.line _ _ _ _ _ _ _ _ _ _ e.before e.last e.within e.end e.count e.few kept),
    )
