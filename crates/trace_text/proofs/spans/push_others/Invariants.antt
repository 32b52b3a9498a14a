use Rattle.std.proofs.Common.{◌≡◌, ◌≤◌, ◌+◌, ◌*◌, ◌∷◌, ◌++◌, length, take}
use Rattle.std.specs.List.{flat_map}
use Rattle.slot_core.specs.Output.Texts.{span_text}
use Rattle.trace_text.specs.declared.TheConstants.{SPAN_LIMIT}
use Rattle.trace_text.proofs.spans.push_others.Given as goal

abbrev pub invariant-loop-span : goal.invariant-loop-span
invariant-loop-span g l = record {
  len : l.len ≡ length l.line;
  text : l.line ≡ l.initial.line ++ flat_map (λ s. 32 ∷ span_text s) (take l.span-index l.spans);
  short : length l.line ≤ length l.initial.line + SPAN_LIMIT * l.span-index;
}
