use Rattle.std.proofs.Common.{◌≡◌, ◌+◌, ◌-◌, ◌<◌, ◌≤◌, [], length, max, min}
use Rattle.slot_core.specs.declared.TheConstants.{HORIZON_LIMIT}
use Rattle.spare_capacity.specs.Recurrence.{last_end}
use Rattle.guarantee.specs.Offers.{first_short, need_until}
use Rattle.guarantee.specs.Places.{IsPlace}
use Rattle.guarantee.specs.Stretches.{IsLevelFrom, Leaves, MostFrom}
use Rattle.guarantee.proofs.search.short_or_left_on.Given as goal

-- from the span on the search gives the same, and the level holds there; before it so much is left,
-- and no greater number is up to the last end; without sporadic tasks a search that is to tell none
-- stays at the first span
abbrev pub invariant-loop-evidence : goal.invariant-loop-evidence
invariant-loop-evidence g l =
    let t = g.T.SpareTable.time l.table in
    let spans = g.T.SpareTable.spans l.table in
    record {
      place : IsPlace spans l.place;
      passed : l.initial.place.index ≤ l.place.index;
      reached : l.from ≤ l.place.span.end;
      same : first_short spans l.reserve t l.ask.arrivals l.ask.slots l.from ≡ first_short spans l.reserve t l.ask.arrivals l.ask.slots (max l.from l.place.span.start);
      level : IsLevelFrom l.reserve l.ask.arrivals (max l.from l.place.span.start) l.tried.level;
      left : Leaves (need_until spans l.reserve l.ask.arrivals) t l.ask.slots l.tried.left l.from (max l.from l.place.span.start);
      greatest : MostFrom spans l.reserve t l.ask.arrivals l.ask.slots (min l.told (last_end t spans - t - l.ask.slots)) l.tried.left l.from;
      small : l.tried.left < HORIZON_LIMIT;
      told : l.tried.left ≤ min l.told (last_end t spans - t - l.ask.slots);
      stays : l.told ≡ 0 → l.reserve.sporadics ≡ [] → l.place.index ≡ l.initial.place.index;
      rose : l.initial.steps ≤ l.steps;
      steps : l.steps + l.initial.place.index ≤ l.initial.steps + l.place.index;
    }

abbrev pub decreases-loop-evidence : goal.decreases-loop-evidence
decreases-loop-evidence g l = length (g.T.SpareTable.spans l.table) - l.place.index
