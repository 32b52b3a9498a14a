-- A chart, and tallies of small traces: each holds by computing the definitions.
use Rattle.std.specs.Prelude.{◌≡◌, [], ◌∷◌, codes, refl}
use Rattle.std.specs.Fmt.{digits}
use Rattle.slot_core.specs.declared.events.Event.TheVariants.{Soft, Firm, Sporadic}
use Rattle.slot_core.specs.Output.Charts.{chart_text, tally_text}
use Rattle.slot_core.specs.Runs.Traces.{trace}
use Rattle.sample_sets.specs.Sets.{pair_set, one_soft_set, alarm_set}
use Rattle.slot_examples.specs.Lines.{arrival, lines}

-- the pair without arrivals
pub chart_of_the_pair :
    chart_text pair_set 4 (trace pair_set [] 4)
    ≡ lines
    (codes "gantt 4"
    ∷ codes "g.a  ##.."
    ∷ codes "g.b  ..#."
    ∷ codes "firm ...."
    ∷ codes "soft ...."
    ∷ [])
unfolding digits
chart_of_the_pair = refl

-- one soft job taken and one not, three slots of it and one of the pair
pub tally_of_soft_work :
    tally_text 7 4 (trace one_soft_set (arrival 1 0 (Soft 3) ∷ arrival 2 0 (Soft 1) ∷ []) 4)
    ≡ codes "selfrun 7 slots 4 soft 1 1 firm 0 0 0 0 sporadic 0 0 run 1 0 0 3 idle 0\n"
unfolding digits
tally_of_soft_work = refl

-- an alarm taken and one too soon, an offer of each answer, and a slot of each kind of job but soft
pub tally_of_each_answer :
    tally_text
    7
    4
    (trace
    alarm_set
    (arrival 1 0 (Sporadic 0)
    ∷ arrival 2 0 (Firm 4 7)
    ∷ arrival 3 0 (Firm 4 7)
    ∷ arrival 4 0 (Firm 1 0)
    ∷ arrival 5 0 (Firm 1 9)
    ∷ arrival 6 3 (Sporadic 0)
    ∷ [])
    4)
    ≡ codes "selfrun 7 slots 4 soft 0 0 firm 1 1 1 1 sporadic 1 1 run 2 1 1 0 idle 0\n"
unfolding digits
tally_of_each_answer = refl
