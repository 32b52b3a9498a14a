-- Traces with soft work, early ends and sporadic tasks: each holds by computing the definitions.
use Rattle.std.specs.Prelude.{◌≡◌, [], ◌∷◌, codes, refl}
use Rattle.std.specs.Fmt.{digits}
use Rattle.slot_core.specs.declared.jobs.Key.TheVariants.{Offline}
use Rattle.slot_core.specs.declared.events.Event.TheVariants.{Soft, Firm, Sporadic, Done}
use Rattle.slot_core.specs.Output.Texts.{trace_text}
use Rattle.slot_core.specs.Runs.Traces.{trace}
use Rattle.sample_sets.specs.Sets.{pair_set, one_soft_set, alarm_set}
use Rattle.slot_examples.specs.Lines.{arrival, lines, lines_at, runs_from}

-- after an early end the derived start of the successor stays
pub derived_start_stays :
    lines_at pair_set (arrival 1 1 (Done (Offline 0 0 0)) ∷ []) 3 (3 ∷ 4 ∷ [])
    ≡ lines
    (codes "1 idle | 2-7:5 7-8:0 8-15:5 15-16:0 16-23:5 23-24:0"
    ∷ codes "2 run g.b#0 | 3-7:4 7-8:1 8-15:5 15-16:0 16-23:5 23-24:0"
    ∷ [])
unfolding digits
derived_start_stays = refl

-- soft work runs while there is room, and no more of it waits than the limit
pub soft_limit :
    trace_text
    one_soft_set
    (trace one_soft_set (arrival 1 0 (Soft 3) ∷ arrival 2 0 (Soft 1) ∷ []) 4)
    ≡ lines
    (codes "0 start | 0-7:5 7-8:0 8-15:5 15-16:0 16-23:5 23-24:0"
    ∷ codes "0 soft 1 3 taken | 0-7:5 7-8:0 8-15:5 15-16:0 16-23:5 23-24:0"
    ∷ codes "0 soft 2 1 full 1 | 0-7:5 7-8:0 8-15:5 15-16:0 16-23:5 23-24:0"
    ∷ codes "0 run soft:1 | 1-7:4 7-8:0 8-15:5 15-16:0 16-23:5 23-24:0"
    ∷ codes "1 run soft:1 | 2-7:3 7-8:0 8-15:5 15-16:0 16-23:5 23-24:0"
    ∷ codes "2 run soft:1 | 3-7:2 7-8:0 8-15:5 15-16:0 16-23:5 23-24:0"
    ∷ codes "3 run g.a#0 | 4-7:2 7-8:0 8-15:5 15-16:0 16-23:5 23-24:0"
    ∷ codes "4 end"
    ∷ [])
unfolding digits
soft_limit = refl

-- soft work waits where the room is taken
pub soft_work_held_back :
    runs_from 0 pair_set (arrival 1 0 (Firm 5 8) ∷ arrival 2 0 (Soft 1) ∷ []) 9
    ≡ codes "g.a#0"
    ∷ codes "g.a#0"
    ∷ codes "g.b#0"
    ∷ codes "firm:1"
    ∷ codes "firm:1"
    ∷ codes "firm:1"
    ∷ codes "firm:1"
    ∷ codes "firm:1"
    ∷ codes "soft:2"
    ∷ []
unfolding digits
soft_work_held_back = refl

-- and its spans
pub lines_of_soft_work_held_back :
    lines_at pair_set (arrival 1 0 (Firm 5 8) ∷ arrival 2 0 (Soft 1) ∷ []) 9 (5 ∷ 11 ∷ [])
    ≡ lines
    (codes "2 run g.b#0 | 3-7:0 7-8:-4 8-15:5 15-16:0 16-23:5 23-24:0"
    ∷ codes "8 run soft:2 | 9-15:4 15-16:0 16-23:5 23-24:0 24-31:5 31-32:0"
    ∷ [])
unfolding digits
lines_of_soft_work_held_back = refl

-- an arrival that may still come in this slot is counted
pub arrival_that_may_still_come :
    trace_text
    alarm_set
    (trace alarm_set (arrival 1 0 (Firm 5 7) ∷ arrival 2 0 (Firm 4 7) ∷ []) 1)
    ≡ lines
    (codes "0 start | 0-7:5 7-8:0 8-15:5 15-16:0 16-23:5 23-24:0"
    ∷ codes "0 firm 1 5 7 noroom 7 8 7 | 0-7:5 7-8:0 8-15:5 15-16:0 16-23:5 23-24:0"
    ∷ codes "0 firm 2 4 7 accepted | 0-7:1 7-8:0 8-15:5 15-16:0 16-23:5 23-24:0"
    ∷ codes "0 run g.a#0 | 1-7:1 7-8:0 8-15:5 15-16:0 16-23:5 23-24:0"
    ∷ codes "1 end"
    ∷ [])
unfolding digits
arrival_that_may_still_come = refl

-- a sporadic job, and an arrival before its separation is over
pub sporadic_arrivals :
    trace_text
    alarm_set
    (trace
    alarm_set
    (arrival 1 0 (Sporadic 0) ∷ arrival 2 0 (Firm 4 7) ∷ arrival 3 3 (Sporadic 0) ∷ [])
    4)
    ≡ lines
    (codes "0 start | 0-7:5 7-8:0 8-15:5 15-16:0 16-23:5 23-24:0"
    ∷ codes "0 sporadic 1 alarm taken 2 | 0-2:1 2-7:3 7-8:0 8-15:5 15-16:0 16-23:5 23-24:0"
    ∷ codes "0 firm 2 4 7 accepted | 0-2:0 2-7:-1 7-8:0 8-15:5 15-16:0 16-23:5 23-24:0"
    ∷ codes "0 run alarm@1 | 1-2:0 2-7:-1 7-8:0 8-15:5 15-16:0 16-23:5 23-24:0"
    ∷ codes "1 run g.a#0 | 2-7:0 7-8:0 8-15:5 15-16:0 16-23:5 23-24:0"
    ∷ codes "2 run g.a#0 | 3-7:0 7-8:0 8-15:5 15-16:0 16-23:5 23-24:0"
    ∷ codes "3 sporadic 3 alarm soon 8 | 3-7:0 7-8:0 8-15:5 15-16:0 16-23:5 23-24:0"
    ∷ codes "3 run firm:2 | 4-7:0 7-8:0 8-15:5 15-16:0 16-23:5 23-24:0"
    ∷ codes "4 end"
    ∷ [])
unfolding digits
sporadic_arrivals = refl
