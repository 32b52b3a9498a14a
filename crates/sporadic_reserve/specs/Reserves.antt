-- What a reserve keeps of sporadic tasks, and where their demand rises.
use Rattle.std.specs.Prelude.{◌≡◌, ℕ, ◌+◌, ◌*◌, ◌/◌, ◌-◌, ◌≤◌, ◌<◌, List, []}
use Rattle.slot_core.specs.declared.TheConstants.{HORIZON_LIMIT, SLOT_LIMIT, SPORADIC_LIMIT}
use Rattle.slot_core.specs.declared.tasks.Sporadic.{Sporadic}
use Rattle.slot_core.specs.Feasibility.Sporadics.{sporadic_demand}
use Rattle.sporadic_reserve.specs.declared.rates.Growth.{Growth}
use Rattle.sporadic_reserve.specs.declared.rates.TheConstants.{INVERSE_SCALE}

-- sporadic tasks, and the next legal arrival of each
pub record Reserved : Type 0 where
  pub sporadics : List Sporadic
  pub nexts : List ℕ

-- the task without its name, which no demand asks for
abbrev pub without_name : Sporadic → Sporadic
without_name s = record s { name = [] }

-- the most that sporadic tasks within their limits may need before the furthest horizon, one
-- arrival a slot of each
abbrev pub demand_limit : ℕ
demand_limit = SPORADIC_LIMIT * (SLOT_LIMIT * HORIZON_LIMIT)

-- y is the first time after x at which the demand rises: it is more there than a slot before, and
-- from x up to there it stays
pub record IsNextRise (demand : ℕ → ℕ) (x y : ℕ) : Type 0 where
  pub after : x < y
  pub rises : demand (y - 1) < demand y
  pub stays : (z : ℕ) → x ≤ z → z < y → demand z ≡ demand x

-- the most of what a demand within its limits grows in a slot, scaled, and at once
abbrev pub growth_limit : ℕ
growth_limit = SPORADIC_LIMIT * (SLOT_LIMIT * INVERSE_SCALE)

abbrev pub burst_limit : ℕ
burst_limit = SPORADIC_LIMIT * SLOT_LIMIT

-- the most by which a demand that grows so rises within so many slots
abbrev pub most_within : Growth → ℕ → ℕ
most_within growth slots = slots * growth.scaled / INVERSE_SCALE + growth.burst

-- how fast a demand grows: from a time to a later one it rises by no more than this tells,
-- from whatever time on tasks may arrive
pub record IsGrowth (reserve : Reserved) (growth : Growth) : Type 0 where
  pub most : (r x y slots : ℕ) → x ≤ y → y ≤ x + slots
      → sporadic_demand reserve.sporadics reserve.nexts r y
      ≤ sporadic_demand reserve.sporadics reserve.nexts r x + most_within growth slots
  pub scaled : growth.scaled ≤ growth_limit
  pub burst : growth.burst ≤ burst_limit
