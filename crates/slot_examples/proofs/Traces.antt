-- Traces of offline jobs: each holds by computing the definitions.
use Rattle.std.specs.Prelude.{◌≡◌, [], ◌∷◌, codes, refl}
use Rattle.std.specs.Fmt.{digits}
use Rattle.slot_core.specs.Output.Texts.{trace_text}
use Rattle.slot_core.specs.Runs.Traces.{trace}
use Rattle.sample_sets.specs.Sets.{borrowing_set, offset_set, pair_set}
use Rattle.slot_examples.specs.Lines.{lines, lines_at}

-- a span that borrows from the one before, and is repaid when its own job runs
pub borrowing :
    trace_text borrowing_set (trace borrowing_set [] 2)
    ≡ lines
    (codes "0 start | 0-4:1 4-10:-2 10-14:1 14-20:-2 20-24:1 24-30:-2"
    ∷ codes "0 run p.w#0 | 1-4:1 4-10:-2 10-14:1 14-20:-2 20-24:1 24-30:-2"
    ∷ codes "1 run q.w#0 | 2-4:1 4-10:-1 10-14:1 14-20:-2 20-24:1 24-30:-2"
    ∷ codes "2 end"
    ∷ [])
unfolding digits
borrowing = refl

-- spans without jobs, and one that is not shown
pub stretches_without_jobs :
    trace_text offset_set (trace offset_set [] 1)
    ≡ lines
    (codes "0 start | 0-2:2 2-5:1 5-6:1 6-8:2 8-11:1 11-12:1 12-14:2 14-17:1 +1"
    ∷ codes "0 idle | 1-2:1 2-5:1 5-6:1 6-8:2 8-11:1 11-12:1 12-14:2 14-17:1 +1"
    ∷ codes "1 end"
    ∷ [])
unfolding digits
stretches_without_jobs = refl

-- two tasks in a row: the derived deadline of the first is 7
pub pair :
    trace_text pair_set (trace pair_set [] 1)
    ≡ lines
    (codes "0 start | 0-7:5 7-8:0 8-15:5 15-16:0 16-23:5 23-24:0"
    ∷ codes "0 run g.a#0 | 1-7:5 7-8:0 8-15:5 15-16:0 16-23:5 23-24:0"
    ∷ codes "1 end"
    ∷ [])
unfolding digits
pair = refl

-- the third slot, an idle one and the first of later cycles
pub pair_for_two_cycles :
    lines_at pair_set [] 17 (3 ∷ 8 ∷ 9 ∷ 17 ∷ 18 ∷ [])
    ≡ lines
    (codes "2 run g.b#0 | 3-7:4 7-8:1 8-15:5 15-16:0 16-23:5 23-24:0"
    ∷ codes "7 idle | 8-15:5 15-16:0 16-23:5 23-24:0 24-31:5 31-32:0"
    ∷ codes "8 run g.a#1 | 9-15:5 15-16:0 16-23:5 23-24:0 24-31:5 31-32:0"
    ∷ codes "16 run g.a#2 | 17-23:5 23-24:0 24-31:5 31-32:0 32-39:5 39-40:0"
    ∷ codes "17 end"
    ∷ [])
unfolding digits
pair_for_two_cycles = refl
