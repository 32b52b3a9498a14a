-- A worked case: the definitions compute to numbers that are counted by hand.
use Rattle.std.specs.Prelude.{◌≡◌, false, true, [], ◌∷◌, Ok, Err, codes, refl}
use Rattle.slot_core.specs.declared.faults.Part.TheVariants.{Graph as GraphPart, Sporadic as SporadicPart}
use Rattle.slot_core.specs.declared.faults.Field.TheVariants.{Period, Deadline}
use Rattle.clock_units.specs.declared.sets.PhysicalGraph.{PhysicalGraph}
use Rattle.clock_units.specs.declared.sets.PhysicalSporadic.{PhysicalSporadic}
use Rattle.clock_units.specs.declared.sets.PhysicalSet.{PhysicalSet}
use Rattle.clock_units.specs.declared.faults.UnitFault.TheVariants.{NotWhole, OutOfRange}
use Rattle.clock_units.specs.Derived.{derived_set, graph_of, sporadic_of, place_at}

-- an alarm at most once in 20.5 ms, that takes 0.8 ms and is due within 12 ms
abbrev alarm : PhysicalSporadic
alarm =
    record {
      name = codes "alarm";
      wcet = 800000;
      separation = 20500000;
      planned = 20500000;
      deadline = 12000000;
      at_boundaries = false;
    }

-- every 20 ms, released at 1.5 ms and due 10.2 ms later, at 11.7 ms: a task of 2.8 ms, and one of
-- 0.9 ms after it
abbrev control : PhysicalGraph
control =
    record {
      name = codes "control";
      period = 20000000;
      offset = 1500000;
      deadline = 10200000;
      tasks =
          record { name = codes "first"; wcet = 2800000; after = [] }
          ∷ record { name = codes "second"; wcet = 900000; after = 0 ∷ [] }
          ∷ [];
    }

-- both, in slots of 1 ms of which 0.1 ms is lost
abbrev both : PhysicalSet
both =
    record {
      slot = 1000000;
      overhead = 100000;
      soft_limit = 4;
      graphs = control ∷ [];
      sporadics = alarm ∷ [];
    }

-- from slot 2 to slot 11; four slots of 0.9 ms reach 2.8 ms, and one 0.9 ms
pub both_in_slots :
    derived_set both
    ≡ Ok (record {
      soft_limit = 4;
      graphs =
          record {
            name = codes "control";
            period = 20;
            offset = 2;
            deadline = 9;
            tasks =
                record { name = codes "first"; wcet = 4; after = [] }
                ∷ record { name = codes "second"; wcet = 1; after = 0 ∷ [] }
                ∷ [];
          }
          ∷ [];
      sporadics =
          record { name = codes "alarm"; wcet = 1; separation = 20; deadline = 11 } ∷ [];
    })
both_in_slots = refl

-- where it comes at boundaries alone it does not wait
pub polled_alarm :
    sporadic_of 1000000 900000 0 (record alarm { at_boundaries = true })
    ≡ Ok (record { name = codes "alarm"; wcet = 1; separation = 20; deadline = 12 })
polled_alarm = refl

-- a deadline of less than two slots leaves none
pub short_alarm :
    sporadic_of 1000000 900000 0 (record alarm { deadline = 1999999 })
    ≡ Err (OutOfRange (place_at (SporadicPart 0) Deadline) 0)
short_alarm = refl

-- a period is a whole number of slots
pub odd_period :
    graph_of 1000000 900000 0 (record control { period = 20500000 })
    ≡ Err (NotWhole (place_at (GraphPart 0) Period))
odd_period = refl
