use Rattle.std.proofs.Common.{◌≡◌, ◌-◌, drop}
use Rattle.timed_arrivals.specs.Texts.{timed_text, due_of, lines_after}
use Rattle.timed_arrivals.proofs.text.timed_text.Given as goal

abbrev pub invariant-loop-byte : goal.invariant-loop-byte
invariant-loop-byte l =
    record {
      form : l.so_far.form ≡ l.fn.form;
      slot : l.so_far.slot ≡ l.set.slot;
      worth : l.so_far.worth ≡ l.set.slot - l.set.overhead;
      due : due_of l.so_far (lines_after l.so_far.line.items (drop l.byte-index l.bytes)) ≡ timed_text l.fn.form l.set l.bytes;
    }
