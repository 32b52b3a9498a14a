use Rattle.std.proofs.Common.{◌≡◌, ◌++◌, take}
use Rattle.trace_verify.proofs.shown.push_spans.Given as goal

-- the spans so far stand behind those that were there
abbrev pub invariant-loop-span : goal.invariant-loop-span
invariant-loop-span l =
    l.shown ≡ record l.initial.shown { spans = l.initial.shown.spans ++ take l.span-index l.spans }
