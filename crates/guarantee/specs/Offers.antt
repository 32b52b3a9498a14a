-- What spans and a reserve leave for an offer.
use Rattle.std.specs.Prelude.{ℕ, ◌+◌, ◌-◌, ◌≤◌, ◌<◌, Bool, true, false, not, List, find, Option, nat_lt}
use Rattle.std.specs.Option.{option_map_or}
use Rattle.std.specs.List.{list_all, range_with_len}
use Rattle.slot_core.specs.declared.jobs.Evidence.{Evidence}
use Rattle.slot_core.specs.declared.jobs.Span.{Span}
use Rattle.slot_core.specs.Feasibility.Sporadics.{sporadic_demand}
use Rattle.spare_capacity.specs.Recurrence.{last_end}
use Rattle.spare_capacity.specs.Laws.{work_until}
use Rattle.sporadic_reserve.specs.Reserves.{Reserved}
use Rattle.guarantee.specs.declared.Answer.{Answer}
use Rattle.guarantee.specs.declared.Answer.TheVariants.{Accept, Refuse}
use Rattle.guarantee.specs.declared.SoftRoom.{SoftRoom}
use Rattle.guarantee.specs.declared.SoftRoom.TheVariants.{Free, Short}

-- what is needed by x: the works of the spans that end by then, and the densest arrivals from r on
abbrev pub need_until : List Span → Reserved → ℕ → ℕ → ℕ
need_until spans reserve r x =
    work_until spans x + sporadic_demand reserve.sporadics reserve.nexts r x

-- with `slots` more, more is needed by x than there are slots from t on
abbrev pub is_short : List Span → Reserved → ℕ → ℕ → ℕ → ℕ → Bool
is_short spans reserve t r slots x = nat_lt (x - t) (slots + need_until spans reserve r x)

-- the first time from `from` to the last end by which more is needed than there are slots, or none
abbrev pub first_short : List Span → Reserved → ℕ → ℕ → ℕ → ℕ → Option ℕ
first_short spans reserve t r slots from =
    find (is_short spans reserve t r slots) (range_with_len from (last_end t spans + 1 - from))

-- the evidence of such a time: by then so much is needed, and there is so much room
abbrev pub evidence_at : List Span → Reserved → ℕ → ℕ → ℕ → ℕ → Evidence
evidence_at spans reserve t r slots x = record {
  until = x;
  need = slots + need_until spans reserve r x;
  room = x - t;
}

-- the answer to an offer of `slots` slots: refused with the first time from its deadline on that is
-- too short, else accepted
abbrev pub answer_to : List Span → Reserved → ℕ → ℕ → ℕ → Answer
answer_to spans reserve t slots deadline =
    option_map_or
    (λ x. Refuse (evidence_at spans reserve t t slots x))
    (first_short spans reserve t t slots deadline)
    Accept

-- soft work may take the slot t: with one slot more no later time is too short, where sporadic
-- tasks arrive after the slot
abbrev pub soft_fits : List Span → Reserved → ℕ → Bool
soft_fits spans reserve t =
    list_all
    (λ x. not (is_short spans reserve t (t + 1) 1 x))
    (range_with_len (t + 1) (last_end t spans - t))

-- the room lets soft work run
abbrev pub lets_run : SoftRoom → Bool
lets_run (Free free) = true
lets_run (Short until due) = false

-- so many slots from t on are free up to each later time by which something is needed
abbrev pub LeavesFree : List Span → Reserved → ℕ → ℕ → Type 0
LeavesFree spans reserve t free =
    (x : ℕ) → t < x → x ≤ last_end t spans → 1 ≤ need_until spans reserve (t + 1) x
    → free + need_until spans reserve (t + 1) x ≤ x - t

-- once so many slots from t on are taken, so many more are free up to each later time by which
-- something is needed, where sporadic tasks arrive after the slots taken
abbrev pub LeavesSlots : List Span → Reserved → ℕ → ℕ → ℕ → Type 0
LeavesSlots spans reserve t taken more =
    (x : ℕ) → t + taken < x → x ≤ last_end t spans
    → 1 ≤ need_until spans reserve (t + taken + 1) x
    → taken + more + need_until spans reserve (t + taken + 1) x ≤ x - t

-- once so many slots are taken, up to a later time no other is free
abbrev pub IsShortAfter : List Span → Reserved → ℕ → ℕ → Type 0
IsShortAfter spans reserve t taken =
    (x : ℕ) × (t + taken < x) × (x ≤ last_end t spans)
    × (x - t ≤ taken + need_until spans reserve (t + taken + 1) x)
