-- How many entries a trace has.
use Rattle.std.proofs.Common.{◌≡◌, ℕ, zero, suc, ◌+◌, ◌*◌, ◌^◌, ◌==◌, ◌<◌, ◌≤◌, List, [], ◌∷◌, length, map, filter, refl, ap, arith}
use Rattle.std.specs.Prelude.{flat_map}
use Rattle.std.specs.List.{range_with_len}
use Rattle.std.proofs.lemmas.List.{length-append, length-map}
use Rattle.std.proofs.lemmas.List.Sums.{count_by-le-length, length-filter}
use Rattle.std.proofs.lemmas.Nat.{mul-le}
use Rattle.slot_core.specs.declared.TheConstants.{ARRIVAL_LIMIT, REPLAY_LIMIT}
use Rattle.slot_core.specs.declared.tasks.TaskSet.{TaskSet}
use Rattle.slot_core.specs.declared.events.Arrival.{Arrival}
use Rattle.slot_core.specs.Sets.Cycles.{cycle_of}
use Rattle.slot_core.specs.Runs.Histories.{History}
use Rattle.slot_core.specs.Runs.Traces.{Occurrence, arrive, slot, end_entry, entries, occurrences_in, occurrences_of, started, told_of, trace}

-- an entry for each occurrence
length-entries : (set : TaskSet) (cycle : ℕ) (h : History) (steps : List Occurrence) → length (entries set cycle h steps) ≡ length steps
length-entries set cycle h [] = refl
length-entries set cycle h (next ∷ later) =
    ap suc (length-entries set cycle (told_of set cycle h next ∷ h) later)

-- in a slot come no more than all arrivals
length-occurrences_in : (arrivals : List Arrival) (time : ℕ) → length (occurrences_in arrivals time) ≤ length arrivals + 1
length-occurrences_in arrivals time =
    let here = filter (λ (a : Arrival). a.slot == time) arrivals in
    let told = map (λ (a : Arrival). arrive a.row a.event) here in
    omega (arith, length-append told (slot ∷ []), length-map here (λ (a : Arrival). arrive a.row a.event), length-filter (λ (a : Arrival). a.slot == time) arrivals, count_by-le-length (λ (a : Arrival). a.slot == time) arrivals)

length-occurrences_from : (arrivals : List Arrival) (a n : ℕ) → length (flat_map (occurrences_in arrivals) (range_with_len a n)) ≤ n * (length arrivals + 1)
length-occurrences_from arrivals a zero = omega arith
length-occurrences_from arrivals a (suc n) =
    omega (arith, length-append (occurrences_in arrivals a) (flat_map (occurrences_in arrivals) (range_with_len (a + 1) n)), length-occurrences_in arrivals a, length-occurrences_from arrivals (a + 1) n)

-- the trace of few arrivals over few slots
pub trace-short : (set : TaskSet) (arrivals : List Arrival) (n : ℕ) → length arrivals ≤ ARRIVAL_LIMIT → n ≤ REPLAY_LIMIT → length (trace set arrivals n) < 2 ^ 64
trace-short set arrivals n few short =
    let cycle = cycle_of set in
    let steps = occurrences_of arrivals n in
    let told = entries set cycle started steps in
    let most = mul-le n (length arrivals + 1) REPLAY_LIMIT (ARRIVAL_LIMIT + 1) short (omega arith) in
    omega (arith, length-append told (end_entry n ∷ []), length-entries set cycle started steps, length-occurrences_from arrivals 0 n, most)
