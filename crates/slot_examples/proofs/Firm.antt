-- Traces with firm tasks: each holds by computing the definitions.
use Rattle.std.specs.Prelude.{◌≡◌, [], ◌∷◌, codes, refl}
use Rattle.std.specs.Fmt.{digits}
use Rattle.slot_core.specs.declared.jobs.Key.TheVariants.{Offline}
use Rattle.slot_core.specs.declared.events.Event.TheVariants.{Firm, Done}
use Rattle.slot_core.specs.Output.Texts.{trace_text}
use Rattle.slot_core.specs.Runs.Traces.{trace}
use Rattle.sample_sets.specs.Sets.{borrowing_set, pair_set}
use Rattle.slot_examples.specs.Lines.{arrival, lines, lines_at}

-- an offer splits the current span
pub split_of_the_current_span :
    trace_text borrowing_set (trace borrowing_set (arrival 1 0 (Firm 1 2) ∷ []) 1)
    ≡ lines
    (codes "0 start | 0-4:1 4-10:-2 10-14:1 14-20:-2 20-24:1 24-30:-2"
    ∷ codes "0 firm 1 1 2 accepted | 0-2:0 2-4:-1 4-10:-2 10-14:1 14-20:-2 20-24:1 24-30:-2"
    ∷ codes "0 run firm:1 | 1-2:0 2-4:-1 4-10:-2 10-14:1 14-20:-2 20-24:1 24-30:-2"
    ∷ codes "1 end"
    ∷ [])
unfolding digits
split_of_the_current_span = refl

-- an exact fit at a point that is there; the tie goes to the offline job
pub exact_fit :
    trace_text pair_set (trace pair_set (arrival 1 0 (Firm 5 7) ∷ []) 1)
    ≡ lines
    (codes "0 start | 0-7:5 7-8:0 8-15:5 15-16:0 16-23:5 23-24:0"
    ∷ codes "0 firm 1 5 7 accepted | 0-7:0 7-8:0 8-15:5 15-16:0 16-23:5 23-24:0"
    ∷ codes "0 run g.a#0 | 1-7:0 7-8:0 8-15:5 15-16:0 16-23:5 23-24:0"
    ∷ codes "1 end"
    ∷ [])
unfolding digits
exact_fit = refl

-- one slot too many, with its evidence
pub one_slot_too_many :
    trace_text pair_set (trace pair_set (arrival 1 0 (Firm 6 7) ∷ []) 1)
    ≡ lines
    (codes "0 start | 0-7:5 7-8:0 8-15:5 15-16:0 16-23:5 23-24:0"
    ∷ codes "0 firm 1 6 7 noroom 7 8 7 | 0-7:5 7-8:0 8-15:5 15-16:0 16-23:5 23-24:0"
    ∷ codes "0 run g.a#0 | 1-7:5 7-8:0 8-15:5 15-16:0 16-23:5 23-24:0"
    ∷ codes "1 end"
    ∷ [])
unfolding digits
one_slot_too_many = refl

-- the last slot of the reach, past it, and a deadline that is now
pub ends_of_the_reach :
    trace_text
    pair_set
    (trace
    pair_set
    (arrival 1 0 (Firm 5 8)
    ∷ arrival 2 0 (Firm 6 8)
    ∷ arrival 3 0 (Firm 1 9)
    ∷ arrival 4 0 (Firm 1 0)
    ∷ [])
    1)
    ≡ lines
    (codes "0 start | 0-7:5 7-8:0 8-15:5 15-16:0 16-23:5 23-24:0"
    ∷ codes "0 firm 1 5 8 accepted | 0-7:0 7-8:-5 8-15:5 15-16:0 16-23:5 23-24:0"
    ∷ codes "0 firm 2 6 8 noroom 8 14 8 | 0-7:0 7-8:-5 8-15:5 15-16:0 16-23:5 23-24:0"
    ∷ codes "0 firm 3 1 9 far | 0-7:0 7-8:-5 8-15:5 15-16:0 16-23:5 23-24:0"
    ∷ codes "0 firm 4 1 0 late | 0-7:0 7-8:-5 8-15:5 15-16:0 16-23:5 23-24:0"
    ∷ codes "0 run g.a#0 | 1-7:0 7-8:-5 8-15:5 15-16:0 16-23:5 23-24:0"
    ∷ codes "1 end"
    ∷ [])
unfolding digits
ends_of_the_reach = refl

-- an early end, and a firm task that takes the freed slot
pub early_end_and_its_use :
    trace_text
    pair_set
    (trace
    pair_set
    (arrival 1 1 (Done (Offline 0 0 0))
    ∷ arrival 2 1 (Done (Offline 0 0 0))
    ∷ arrival 3 1 (Firm 6 6)
    ∷ [])
    2)
    ≡ lines
    (codes "0 start | 0-7:5 7-8:0 8-15:5 15-16:0 16-23:5 23-24:0"
    ∷ codes "0 run g.a#0 | 1-7:5 7-8:0 8-15:5 15-16:0 16-23:5 23-24:0"
    ∷ codes "1 done 1 g.a#0 freed 1 | 1-7:6 7-8:0 8-15:5 15-16:0 16-23:5 23-24:0"
    ∷ codes "1 done 2 g.a#0 notrunning | 1-7:6 7-8:0 8-15:5 15-16:0 16-23:5 23-24:0"
    ∷ codes "1 firm 3 6 6 accepted | 1-7:0 7-8:0 8-15:5 15-16:0 16-23:5 23-24:0"
    ∷ codes "1 run firm:3 | 2-7:0 7-8:0 8-15:5 15-16:0 16-23:5 23-24:0"
    ∷ codes "2 end"
    ∷ [])
unfolding digits
early_end_and_its_use = refl

-- a deadline in the next cycle: borrowing across the turn, and repayment
pub deadline_in_the_next_cycle :
    lines_at pair_set (arrival 1 4 (Firm 5 8) ∷ []) 5 (4 ∷ 5 ∷ 6 ∷ [])
    ≡ lines
    (codes "3 idle | 4-7:3 7-8:1 8-15:5 15-16:0 16-23:5 23-24:0"
    ∷ codes "4 firm 1 5 8 accepted | 4-7:3 7-8:0 8-12:-1 12-15:1 15-16:0 16-23:5 23-24:0"
    ∷ codes "4 run firm:1 | 5-7:2 7-8:1 8-12:0 12-15:1 15-16:0 16-23:5 23-24:0"
    ∷ [])
unfolding digits
deadline_in_the_next_cycle = refl
