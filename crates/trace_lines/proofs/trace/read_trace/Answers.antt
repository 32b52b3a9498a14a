-- All lines of a trace tell of the slots that it may have.
use Rattle.std.proofs.Common.{sym, ap, subst, ◌∙◌}
use Rattle.trace_lines.specs.Traces.{AreTrace}
use Rattle.trace_lines.specs.Texts.{lines_text}
use Rattle.trace_lines.specs.declared.trace.Reached.TheVariants.{Nothing, End as AtEnd}
use Rattle.trace_lines.proofs.PartReads.{lines_within-all}
use Rattle.trace_lines.proofs.trace.read_trace.Goals as goal

pub returns-clause-trace : goal.returns-clause-trace
returns-clause-trace c =
    let (lines, (trace, text), kept) = c.in_ok-kept.ensures.kept in
    subst AreTrace (sym (kept.within_all ∙ lines_within-all Nothing AtEnd lines trace)) trace

pub returns-clause-text : goal.returns-clause-text
returns-clause-text c =
    let (lines, (trace, text), kept) = c.in_ok-kept.ensures.kept in
    text ∙ ap lines_text (sym (kept.within_all ∙ lines_within-all Nothing AtEnd lines trace))
