-- Slots that are free for soft work, and times that are tight.
use Rattle.std.proofs.Common.{◌≡◌, ℕ, ◌+◌, ◌-◌, ◌<◌, ◌≤◌, true, List, Some, not, inl, inr, subst, arith}
use Rattle.std.specs.List.{range_with_len}
use Rattle.std.proofs.lemmas.Bool.{cases_lt, ltb-false, ltb-true, not-true}
use Rattle.slot_core.specs.declared.jobs.Span.{Span}
use Rattle.slot_facts.proofs.Demand.OneSlot.{sporadic_demand-later}
use Rattle.slot_facts.proofs.Lists.Members.{Has-range_with_len, passes_from_list_all}
use Rattle.spare_capacity.specs.Laws.{work_until}
use Rattle.spare_capacity.specs.Recurrence.{last_end}
use Rattle.sporadic_reserve.specs.Reserves.{Reserved}
use Rattle.guarantee.specs.Offers.{first_short, is_short, need_until, soft_fits, LeavesSlots}
use Rattle.guarantee.proofs.Searches.{find-passes}
use Rattle.slot_exec.specs.Ahead.{AreFree, IsTightFor}
use Rattle.slot_exec.specs.declared.rooms.Remembered.{Remembered}

-- where soft work may run, the slot is free
pub free-one : (spans : List Span) (reserve : Reserved) (t : ℕ) → soft_fits spans reserve t ≡ true → AreFree spans reserve t 1
free-one spans reserve t fits = λ k x low after within needed.
    let none : k ≡ 0 = omega arith in
    let test = λ (y : ℕ). not (is_short spans reserve t (t + 1) 1 y) in
    let passes = passes_from_list_all test (range_with_len (t + 1) (last_end t spans - t)) x fits (Has-range_with_len (t + 1) (last_end t spans - t) x (omega arith) (omega arith)) in
    let room = ltb-false (x - t) (1 + need_until spans reserve (t + 1) x) (not-true (is_short spans reserve t (t + 1) 1 x) passes) in
    let from : t + 1 ≡ t + k + 1 = omega arith in
    let there = subst (λ r. 1 + need_until spans reserve r x ≤ x - t) from room in
    omega (arith, there)

-- and so are those that are left once some are taken
pub free-more : (spans : List Span) (reserve : Reserved) (t taken more n : ℕ) → AreFree spans reserve t taken → LeavesSlots spans reserve t taken more → n ≤ taken + more → AreFree spans reserve t n
free-more spans reserve t taken more n free leaves few = λ k x low after within needed.
    elim (cases_lt k taken) [
      | inl before ↦ free k x before after within needed
      | inr later ↦
          let fewer = sporadic_demand-later reserve.sporadics reserve.nexts (t + taken + 1) (t + k + 1) x (omega arith) in
          omega (arith, fewer, leaves x (omega arith) within (omega (arith, fewer)))
    ]

-- a time that a search finds is tight
pub tight-found : (spans : List Span) (reserve : Reserved) (t : ℕ) (room : Remembered) → first_short spans reserve t (t + 1) 1 (t + 1) ≡ Some room.tight → t < room.tight → room.tight ≤ last_end t spans → room.due ≡ work_until spans room.tight → IsTightFor spans reserve t 1 room
tight-found spans reserve t room found after within due =
    let (low, high, short) = find-passes (is_short spans reserve t (t + 1) 1) (t + 1) (last_end t spans + 1 - (t + 1)) room.tight found in
    record {
      after = after;
      within = within;
      due = due;
      short = omega (arith, due, ltb-true (room.tight - t) (1 + need_until spans reserve (t + 1) room.tight) short);
    }
