-- Where the cycle is within its limit, so is each running multiple before it.
use Rattle.std.proofs.Common.{◌≡◌, ℕ, ◌≤◌, true, false, List, [], ◌∷◌, None, refl, ltb, fold, arith}
use Rattle.std.specs.List.{list_all}
use Rattle.std.proofs.lemmas.Bool.{and_parts}
use Rattle.std.proofs.lemmas.Bool.Decides.{nat_tests}
use Rattle.slot_core.specs.declared.TheConstants.{SLOT_LIMIT}
use Rattle.slot_core.specs.Sets.Cycles.{least_common_multiple, first_multiple_above}
use Rattle.slot_core.specs.Sets.Ranges.{is_between}
use Rattle.graph_unroll.proofs.MultipleLemmas.{le-fold}

pub none_above : (a : ℕ) (ns : List ℕ) → list_all (is_between 1 SLOT_LIMIT) ns ≡ true → fold least_common_multiple a ns ≤ SLOT_LIMIT → first_multiple_above SLOT_LIMIT a ns ≡ None
none_above a [] all within = refl
none_above a (n ∷ ns) all within =
    let next = least_common_multiple a n in
    let (_, rest) = and_parts (is_between 1 SLOT_LIMIT n) (list_all (is_between 1 SLOT_LIMIT) ns) all in
    let low = le-fold next ns rest in
    let test : ltb SLOT_LIMIT next ≡ false = grind (arith, nat_tests) in
    rw test (none_above next ns rest within)
