use Rattle.std.proofs.Common.{◌≡◌, ◌-◌, length}
use Rattle.slot_core.specs.declared.TheConstants.{SHOWN_LIMIT}
use Rattle.trace_lines.specs.Readings.{spans_within}
use Rattle.trace_lines.proofs.SpanReads.{behind}
use Rattle.trace_lines.proofs.spans.push_spans.Given as goal

-- there are as many spans as steps, and what is read of the rest comes behind them
abbrev pub invariant-loop : goal.invariant-loop
invariant-loop l =
    record {
      count : length l.spans ≡ l.counter;
      later : spans_within SHOWN_LIMIT l.text ≡ behind l.spans (spans_within (SHOWN_LIMIT - l.counter) l.rest);
    }
