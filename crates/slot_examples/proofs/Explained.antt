-- Offers that are refused, and what stands against them.
use Rattle.std.specs.Prelude.{◌≡◌, [], ◌∷◌, codes, refl}
use Rattle.std.specs.Fmt.{digits}
use Rattle.slot_core.specs.declared.events.Firm.TheVariants.{NoRoom}
use Rattle.slot_core.specs.Runs.Answers.{firm_answer}
use Rattle.slot_core.specs.Runs.Scenes.{Scene, scene_of}
use Rattle.slot_core.specs.Runs.Traces.{started}
use Rattle.future_check.specs.Explanations.{explanation, in_time_order, shown_slots}
use Rattle.slot_examples.specs.Lines.{lines}
use Rattle.sample_sets.specs.Sets.{alarm_set, flight_set}

-- the alarm's set before its first slot
abbrev alarm_scene : Scene
alarm_scene = scene_of alarm_set 8 started

-- eight slots are needed of seven
pub refused_beside_the_alarm :
    firm_answer alarm_set.sporadics 8 alarm_scene 5 7
    ≡ NoRoom (record { until = 7; need = 8; room = 7 })
refused_beside_the_alarm = refl

-- those of the first task, of the alarm and of the offer
pub shown_beside_the_alarm :
    explanation alarm_set alarm_scene 5 7 7
    ≡ codes "job g.a#0 2 7\narrival alarm 0\noffer 5 7\n"
unfolding digits
shown_beside_the_alarm = refl

pub shown_slots_beside_the_alarm : shown_slots alarm_set alarm_scene 7 ≡ 3
shown_slots_beside_the_alarm = refl

-- a slot earlier no job is due, and the alarm is
pub shown_a_slot_earlier :
    explanation alarm_set alarm_scene 5 6 6 ≡ codes "arrival alarm 0\noffer 5 6\n"
unfolding digits
shown_a_slot_earlier = refl

-- arrivals are shown by time, and of one time by task
pub by_time_then_task :
    in_time_order ((1, 4) ∷ (0, 9) ∷ (0, 4) ∷ (1, 0) ∷ [])
    ≡ (1, 0) ∷ (0, 4) ∷ (1, 4) ∷ (0, 9) ∷ []
by_time_then_task = refl

-- against an offer of ten slots to the flight controller
pub shown_in_flight :
    explanation flight_set (scene_of flight_set 40 started) 10 20 20
    ≡ lines
    (codes "job imu.read#0 1 8"
    ∷ codes "job imu.fuse#0 1 9"
    ∷ codes "job imu.ctl#0 1 10"
    ∷ codes "job gps.read#0 1 17"
    ∷ codes "job imu.read#1 1 18"
    ∷ codes "job imu.fuse#1 1 19"
    ∷ codes "job gps.fix#0 2 19"
    ∷ codes "job imu.ctl#1 1 20"
    ∷ codes "job gps.nav#0 1 20"
    ∷ codes "arrival rc 0"
    ∷ codes "offer 10 20"
    ∷ [])
unfolding digits
shown_in_flight = refl

-- with the offer they add up to 21 slots of 20
pub shown_slots_in_flight : shown_slots flight_set (scene_of flight_set 40 started) 20 ≡ 11
shown_slots_in_flight = refl
