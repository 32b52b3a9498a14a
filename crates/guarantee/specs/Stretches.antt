-- A stretch of times in which the same work is due.
use Rattle.std.specs.Prelude.{◌≡◌, ℕ, ◌+◌, ◌-◌, ◌≤◌, ◌<◌, Bool, List, nat_lt}
use Rattle.slot_core.specs.declared.jobs.Evidence.{Evidence}
use Rattle.slot_core.specs.declared.jobs.Span.{Span}
use Rattle.slot_core.specs.Feasibility.Sporadics.{sporadic_demand}
use Rattle.spare_capacity.specs.Recurrence.{last_end}
use Rattle.sporadic_reserve.specs.Reserves.{demand_limit, Reserved}
use Rattle.guarantee.specs.declared.search.Ask.{Ask}
use Rattle.guarantee.specs.declared.search.Level.{Level}
use Rattle.guarantee.specs.Offers.{need_until}

-- with `needed` slots due, and the densest arrivals from r on, more is due by x than there are
-- slots from t on
abbrev pub exceeds : Reserved → ℕ → ℕ → ℕ → ℕ → Bool
exceeds reserve t r needed x =
    nat_lt (x - t) (needed + sporadic_demand reserve.sporadics reserve.nexts r x)

-- the evidence of that
abbrev pub evidence_of : Reserved → ℕ → ℕ → ℕ → ℕ → Evidence
evidence_of reserve t r needed x = record {
  until = x;
  need = needed + sporadic_demand reserve.sporadics reserve.nexts r x;
  room = x - t;
}

-- with arrivals from r on, no sporadic task may need anything by any time up to the last
abbrev pub NeedsNone : Reserved → ℕ → ℕ → Type 0
NeedsNone reserve r last =
    (x : ℕ) → x ≤ last → sporadic_demand reserve.sporadics reserve.nexts r x ≡ 0

-- from a time on, and before it ends, a level is the demand of the densest arrivals from r on, and
-- before that no more is needed
pub record IsLevelFrom (reserve : Reserved) (r from : ℕ) (level : Level) : Type 0 where
  pub flat : (x : ℕ) → from ≤ x → x < level.until
      → sporadic_demand reserve.sporadics reserve.nexts r x ≡ level.demand
  pub bound : (x : ℕ) → x < level.until
      → sporadic_demand reserve.sporadics reserve.nexts r x ≤ level.demand
  pub small : level.demand ≤ demand_limit

-- at each time from a to before b by which something is needed, so many slots are left beside that
-- and `slots` more
pub record Leaves (need : ℕ → ℕ) (t slots left a b : ℕ) : Type 0 where
  pub at : (x : ℕ) → a ≤ x → x < b → 1 ≤ need x → left + slots + need x ≤ x - t

-- at each time from a to before b so many slots are left beside what is needed and `slots` more
pub record LeavesAll (need : ℕ → ℕ) (t slots left a b : ℕ) : Type 0 where
  pub at : (x : ℕ) → a ≤ x → x < b → left + slots + need x ≤ x - t

-- so many are left beside what is asked, where so much is due, and the densest arrivals
abbrev pub LeavesBetween : Reserved → Ask → ℕ → ℕ → ℕ → ℕ → Type 0
LeavesBetween reserve ask due left a b =
    Leaves
    (λ x. due + sporadic_demand reserve.sporadics reserve.nexts ask.arrivals x)
    ask.now
    ask.slots
    left
    a
    b

-- the same, also at the times by which nothing is needed
abbrev pub LeavesAllBetween : Reserved → Ask → ℕ → ℕ → ℕ → ℕ → Type 0
LeavesAllBetween reserve ask due left a b =
    LeavesAll
    (λ x. due + sporadic_demand reserve.sporadics reserve.nexts ask.arrivals x)
    ask.now
    ask.slots
    left
    a
    b

-- so many are left beside `slots` slots and what is needed, from a time to the last end
abbrev pub LeavesFrom : List Span → Reserved → ℕ → ℕ → ℕ → ℕ → ℕ → Type 0
LeavesFrom spans reserve t r slots left from =
    Leaves (need_until spans reserve r) t slots left from (last_end t spans + 1)

-- `left` is the most: no number up to `most` that is left at each time from a to before b by which
-- something is needed is greater
abbrev pub MostBetween : Reserved → Ask → ℕ → ℕ → ℕ → ℕ → ℕ → Type 0
MostBetween reserve ask due most left a b =
    (more : ℕ) → more ≤ most → LeavesBetween reserve ask due more a b → more ≤ left

-- `left` is the most: no number up to `most` that is left from a time to the last end is greater
abbrev pub MostFrom : List Span → Reserved → ℕ → ℕ → ℕ → ℕ → ℕ → ℕ → Type 0
MostFrom spans reserve t r slots most left from =
    (more : ℕ) → more ≤ most → LeavesFrom spans reserve t r slots more from → more ≤ left
