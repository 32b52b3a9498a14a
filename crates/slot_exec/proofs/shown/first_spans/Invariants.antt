use Rattle.std.proofs.Common.{◌≡◌, ◌+◌, ◌-◌, length, take}
use Rattle.slot_core.specs.declared.TheConstants.{SHOWN_LIMIT}
use Rattle.slot_exec.proofs.shown.first_spans.Given as goal

-- the spans so far are shown, one step each
abbrev pub invariant-loop-index : goal.invariant-loop-index
invariant-loop-index g l =
    let spans = g.T.SpareTable.spans l.table in
    record {
      shown : l.shown ≡ record { spans = take l.index spans; more = length (g.T.SpareTable.spans l.table) - SHOWN_LIMIT };
      steps : l.steps ≡ l.initial.steps + l.index;
    }
