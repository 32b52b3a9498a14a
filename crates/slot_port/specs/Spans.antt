-- Spans in numbers.
use Rattle.std.specs.Prelude.{List, map}
use Rattle.slot_core.specs.declared.jobs.Span.{Span}
use Rattle.slot_core.specs.Keeping.Executives.{Executive}
use Rattle.slot_core.specs.Runs.Spans.{spans_of}
use Rattle.slot_port.specs.declared.numbers.SpanNumbers.{SpanNumbers}

-- a span with its work and its spare capacity
abbrev pub span_numbers : Span → SpanNumbers
span_numbers s = record { start = s.start; end = s.end; work = s.work; spare = s.spare }

-- the spans of an executive
abbrev pub spans_in : Executive → List SpanNumbers
spans_in exec = map span_numbers (spans_of exec.plan.cycle exec.scene)
