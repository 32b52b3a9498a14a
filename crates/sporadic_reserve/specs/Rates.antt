-- The rates of a reserve: the numbers of a sporadic task and its next legal arrival.
use Rattle.std.specs.Prelude.{◌≡◌, ◌≤◌, List, [], map}
use Rattle.std.specs.Int.{div_ceil}
use Rattle.std.specs.List.{AllByRecursion}
use Rattle.slot_core.specs.declared.TheConstants.{HORIZON_LIMIT, SLOT_LIMIT}
use Rattle.slot_core.specs.declared.tasks.Sporadic.{Sporadic}
use Rattle.sporadic_reserve.specs.declared.rates.Rate.{Rate}
use Rattle.sporadic_reserve.specs.declared.rates.TheConstants.{INVERSE_SCALE}
use Rattle.sporadic_reserve.specs.Reserves.{Reserved}

-- the task of a rate, without a name
abbrev pub task_of : Rate → Sporadic
task_of rate = record {
  name = [];
  wcet = rate.wcet;
  separation = rate.separation;
  deadline = rate.deadline;
}

-- the rate of a task that may arrive from slot 0 on
abbrev pub first_rate : Sporadic → Rate
first_rate s = record {
  wcet = s.wcet;
  separation = s.separation;
  deadline = s.deadline;
  inverse = div_ceil INVERSE_SCALE s.separation;
  next = 0;
}

-- what rates stand for
abbrev pub reserved : List Rate → Reserved
reserved rates = record {
  sporadics = map task_of rates;
  nexts = map (λ (rate : Rate). rate.next) rates;
}

-- the numbers of a rate are in their ranges, and its inverse is that of its separation
pub record IsRate (rate : Rate) : Type 0 where
  pub some : 1 ≤ rate.wcet
  pub short : rate.wcet ≤ SLOT_LIMIT
  pub apart : 1 ≤ rate.separation
  pub near : rate.separation ≤ SLOT_LIMIT
  pub within : rate.deadline ≤ rate.separation
  pub soon : rate.next ≤ HORIZON_LIMIT
  pub inverse : rate.inverse ≡ div_ceil INVERSE_SCALE rate.separation

-- so are those of each rate
abbrev pub AreSporadicRates : List Rate → Type 0
AreSporadicRates rates = AllByRecursion IsRate rates
