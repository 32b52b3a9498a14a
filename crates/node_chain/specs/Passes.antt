-- Lifts side by side that are passed, the last first.
use Rattle.std.specs.Prelude.{ℕ, zero, suc, ◌+◌, ℤ, ◌+ℤ◌, ◌==◌, List, get_or, set, if◌then◌else◌}
use Rattle.std.specs.Int.{w64, int_wrap}
use Rattle.node_chain.specs.declared.marks.Lift.{Lift}
use Rattle.node_chain.specs.declared.marks.Mark.{Mark}
use Rattle.node_chain.specs.Laps.{blank_lift, blank_mark}

-- a lift with so much more: both sums wrap round
abbrev pub lift_raised : ℤ → Lift → Lift
lift_raised more lift = record {
  high = int_wrap w64 (lift.high +ℤ more);
  add = int_wrap w64 (lift.add +ℤ more);
}

-- the lifts, where the one at an index has so much more, if a span ends in its pages
abbrev pub lift_passed : ℤ → List Mark → ℕ → List Lift → List Lift
lift_passed more marks j lifts =
    if (get_or marks j blank_mark).count == 0 then lifts
    else set lifts j (lift_raised more (get_or lifts j blank_lift))

-- the lifts, where so many from an index on are passed, the last first
abbrev pub lifts_passed : ℤ → List Mark → ℕ → ℕ → List Lift → List Lift
lifts_passed more marks low zero lifts = lifts
lifts_passed more marks low (suc n) lifts =
    lifts_passed more marks low n (lift_passed more marks (low + n) lifts)

-- how many spans end in the pages of so many marks from an index on
abbrev pub spans_ending : List Mark → ℕ → ℕ → ℕ
spans_ending marks low zero = 0
spans_ending marks low (suc n) =
    (get_or marks (low + n) blank_mark).count + spans_ending marks low n
