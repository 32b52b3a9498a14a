-- The text of a tally.
use Rattle.std.proofs.Common.{◌≡◌, ℕ, ◌^◌, ◌<◌, List, length, ◌∙◌, arith}
use Rattle.std.proofs.lemmas.List.Sums.{count_by-le-length}
use Rattle.slot_core.specs.declared.events.Entry.{Entry}
use Rattle.slot_core.specs.Output.Charts.{Kind, is_of_kind, number_of, tally_line, tally_text, soft_taken, soft_full, firm_accepted, firm_late, firm_far, firm_no_room, sporadic_taken, sporadic_soon, ran_offline, ran_sporadic, ran_firm, ran_soft, idle}
use Rattle.load_gen.specs.Tallies.{grown}

-- the line of the same numbers
tally_line-same : (n slots : ℕ) (f g : Kind → ℕ) → ((kind : Kind) → f kind ≡ g kind) → tally_line n slots f ≡ tally_line n slots g
tally_line-same n slots f g same =
    cc (same soft_taken, same soft_full, same firm_accepted, same firm_late, same firm_far, same firm_no_room, same sporadic_taken, same sporadic_soon, same ran_offline, same ran_sporadic, same ran_firm, same ran_soft, same idle)

-- a count that began at 0 is the number of entries
grown-all : (k : ℕ) → k < 2 ^ 64 → grown 0 k ≡ k
grown-all k small = omega arith

pub tally_line-trace : (n slots : ℕ) (count : Kind → ℕ) (trace : List Entry) → length trace < 2 ^ 64 → ((kind : Kind) → count kind ≡ grown 0 (number_of trace kind)) → tally_line n slots count ≡ tally_text n slots trace
tally_line-trace n slots count trace short took =
    tally_line-same n slots count (number_of trace) (λ kind.
    let few = count_by-le-length (λ (e : Entry). is_of_kind kind e.what) trace in
    took kind ∙ grown-all (number_of trace kind) (omega arith))
