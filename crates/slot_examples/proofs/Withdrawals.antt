-- Traces with withdrawals: each holds by computing the definitions.
use Rattle.std.specs.Prelude.{◌≡◌, [], ◌∷◌, codes, refl}
use Rattle.std.specs.Fmt.{digits}
use Rattle.slot_core.specs.declared.events.Event.TheVariants.{Firm, Withdraw}
use Rattle.slot_core.specs.Output.Texts.{trace_text}
use Rattle.slot_core.specs.Runs.Traces.{trace}
use Rattle.sample_sets.specs.Sets.{pair_set}
use Rattle.slot_examples.specs.Lines.{arrival, lines, lines_at}

-- a job that has not started is taken back, and then is none
pub withdrawn_before_its_start :
    trace_text
    pair_set
    (trace
    pair_set
    (arrival 1 0 (Firm 5 7) ∷ arrival 2 0 (Withdraw 1) ∷ arrival 3 0 (Withdraw 1) ∷ [])
    1)
    ≡ lines
    (codes "0 start | 0-7:5 7-8:0 8-15:5 15-16:0 16-23:5 23-24:0"
    ∷ codes "0 firm 1 5 7 accepted | 0-7:0 7-8:0 8-15:5 15-16:0 16-23:5 23-24:0"
    ∷ codes "0 withdraw 2 firm:1 freed 5 | 0-7:5 7-8:0 8-15:5 15-16:0 16-23:5 23-24:0"
    ∷ codes "0 withdraw 3 firm:1 nojob | 0-7:5 7-8:0 8-15:5 15-16:0 16-23:5 23-24:0"
    ∷ codes "0 run g.a#0 | 1-7:5 7-8:0 8-15:5 15-16:0 16-23:5 23-24:0"
    ∷ codes "1 end"
    ∷ [])
unfolding digits
withdrawn_before_its_start = refl

-- one that has run a slot is taken back: the others are free
pub withdrawn_after_a_slot :
    lines_at pair_set (arrival 1 0 (Firm 5 8) ∷ arrival 2 4 (Withdraw 1) ∷ []) 5 (5 ∷ 6 ∷ 7 ∷ [])
    ≡ lines
    (codes "3 run firm:1 | 4-7:0 7-8:-3 8-15:5 15-16:0 16-23:5 23-24:0"
    ∷ codes "4 withdraw 2 firm:1 freed 4 | 4-7:3 7-8:1 8-15:5 15-16:0 16-23:5 23-24:0"
    ∷ codes "4 idle | 5-7:2 7-8:1 8-15:5 15-16:0 16-23:5 23-24:0"
    ∷ [])
unfolding digits
withdrawn_after_a_slot = refl
