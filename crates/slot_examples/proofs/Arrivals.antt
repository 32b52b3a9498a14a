-- Arrivals that fit a set and so many slots: each holds by computing the definitions.
use Rattle.std.specs.Prelude.{◌≡◌, true, false, [], ◌∷◌, refl}
use Rattle.slot_core.specs.declared.jobs.Key.TheVariants.{Offline}
use Rattle.slot_core.specs.declared.events.Event.TheVariants.{Soft, Firm, Sporadic, Done, Withdraw}
use Rattle.slot_core.specs.Runs.Arrivals.{are_fitting}
use Rattle.sample_sets.specs.Sets.{pair_set, alarm_set}
use Rattle.slot_examples.specs.Lines.{arrival}

-- an early end may name a job that never was, and a withdrawal a row that gave none
pub fitting :
    are_fitting
    alarm_set
    5
    (arrival 1 0 (Sporadic 0)
    ∷ arrival 2 0 (Firm 5 8)
    ∷ arrival 3 3 (Done (Offline 0 1 7))
    ∷ arrival 4 4 (Withdraw 9)
    ∷ [])
    ≡ true
fitting = refl

-- a slot past the end, rows out of order, and slots that fall
pub past_the_end : are_fitting pair_set 4 (arrival 1 4 (Soft 1) ∷ []) ≡ false
past_the_end = refl

pub rows_out_of_order :
    are_fitting pair_set 4 (arrival 1 0 (Soft 1) ∷ arrival 3 0 (Soft 1) ∷ []) ≡ false
rows_out_of_order = refl

pub falling_slots :
    are_fitting pair_set 4 (arrival 1 2 (Soft 1) ∷ arrival 2 1 (Soft 1) ∷ []) ≡ false
falling_slots = refl

-- no slot of soft work, an alarm that the set does not have, a task that it does not have, and row 0
pub no_slot : are_fitting pair_set 4 (arrival 1 0 (Soft 0) ∷ []) ≡ false
no_slot = refl

pub no_such_alarm : are_fitting pair_set 4 (arrival 1 0 (Sporadic 0) ∷ []) ≡ false
no_such_alarm = refl

pub no_such_task : are_fitting pair_set 4 (arrival 1 0 (Done (Offline 0 2 0)) ∷ []) ≡ false
no_such_task = refl

pub no_such_row : are_fitting pair_set 4 (arrival 1 0 (Withdraw 0) ∷ []) ≡ false
no_such_row = refl
