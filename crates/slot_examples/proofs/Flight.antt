-- The trace of the flight controller: each holds by computing the definitions.
use Rattle.std.specs.Prelude.{◌≡◌, ℕ, List, [], ◌∷◌, ◌++◌, codes, refl}
use Rattle.std.specs.Fmt.{digits}
use Rattle.slot_core.specs.declared.events.Arrival.{Arrival}
use Rattle.slot_core.specs.declared.events.Event.TheVariants.{Soft, Firm, Sporadic}
use Rattle.slot_core.specs.declared.events.What.TheVariants.{Run}
use Rattle.slot_core.specs.declared.jobs.Key.TheVariants.{Soft as SoftKey}
use Rattle.slot_core.specs.Runs.Histories.{History}
use Rattle.slot_core.specs.Output.Texts.{entry_line}
use Rattle.slot_core.specs.Runs.Traces.{started, occurrences_of, history_after, shown_entry}
use Rattle.sample_sets.specs.Sets.{flight_set}
use Rattle.slot_examples.specs.Lines.{arrival, lines, lines_at, runs_from}

-- two offers, soft work, and the remote control
abbrev pub flight_arrivals : List Arrival
flight_arrivals =
    arrival 1 0 (Firm 10 20)
    ∷ arrival 2 0 (Firm 9 20)
    ∷ arrival 3 0 (Soft 2)
    ∷ arrival 4 1 (Sporadic 0)
    ∷ []

-- the history of so many slots
abbrev flight_history : ℕ → History
flight_history n = history_after flight_set 40 started (occurrences_of flight_arrivals n)

-- its first nine lines, of a trace of 80 slots cut after four
pub flight_begins :
    lines_at flight_set flight_arrivals 4 (0 ∷ 1 ∷ 2 ∷ 3 ∷ 4 ∷ 5 ∷ 6 ∷ 7 ∷ 8 ∷ [])
    ≡ lines
    ((codes "0 start | "
    ++ codes "0-8:7 8-9:0 9-10:0 10-17:3 17-18:-3 18-19:-3 19-20:-1 20-28:4 +37")
    ∷ (codes "0 firm 1 10 20 noroom 20 21 20 | "
    ++ codes "0-8:7 8-9:0 9-10:0 10-17:3 17-18:-3 18-19:-3 19-20:-1 20-28:4 +37")
    ∷ (codes "0 firm 2 9 20 accepted | "
    ++ codes "0-8:1 8-9:-6 9-10:-6 10-17:-6 17-18:-12 18-19:-12 19-20:-10 20-28:4 +37")
    ∷ (codes "0 soft 3 2 taken | "
    ++ codes "0-8:1 8-9:-6 9-10:-6 10-17:-6 17-18:-12 18-19:-12 19-20:-10 20-28:4 +37")
    ∷ (codes "0 run imu.read#0 | "
    ++ codes "1-8:1 8-9:-6 9-10:-6 10-17:-6 17-18:-12 18-19:-12 19-20:-10 20-28:4 +37")
    ∷ (codes "1 sporadic 4 rc taken 11 | "
    ++ codes "1-8:0 8-9:-7 9-10:-7 10-11:-7 11-17:-7 17-18:-12 18-19:-12 19-20:-10 +38")
    ∷ (codes "1 run imu.fuse#0 | "
    ++ codes "2-8:0 8-9:-6 9-10:-7 10-11:-7 11-17:-7 17-18:-12 18-19:-12 19-20:-10 +38")
    ∷ (codes "2 run imu.ctl#0 | "
    ++ codes "3-8:0 8-9:-5 9-10:-6 10-11:-7 11-17:-7 17-18:-12 18-19:-12 19-20:-10 +38")
    ∷ (codes "3 run rc@4 | "
    ++ codes "4-8:0 8-9:-4 9-10:-5 10-11:-6 11-17:-7 17-18:-12 18-19:-12 19-20:-10 +38")
    ∷ [])
unfolding digits
flight_begins = refl

-- what runs in slots 4 to 21
pub flight_runs :
    runs_from 4 flight_set flight_arrivals 22
    ≡ codes "gps.read#0"
    ∷ codes "gps.fix#0"
    ∷ codes "gps.fix#0"
    ∷ codes "gps.nav#0"
    ∷ codes "firm:2"
    ∷ codes "firm:2"
    ∷ codes "imu.read#1"
    ∷ codes "imu.fuse#1"
    ∷ codes "imu.ctl#1"
    ∷ codes "firm:2"
    ∷ codes "firm:2"
    ∷ codes "firm:2"
    ∷ codes "firm:2"
    ∷ codes "firm:2"
    ∷ codes "firm:2"
    ∷ codes "firm:2"
    ∷ codes "soft:3"
    ∷ codes "soft:3"
    ∷ []
unfolding digits
flight_runs = refl

-- after the soft work has run in slot 21
pub flight_after_soft_work :
    entry_line
    flight_set
    (shown_entry flight_set 40 21 (Run (SoftKey 3)) (flight_history 22))
    ≡ codes "21 run soft:3 | "
    ++ codes "22-28:2 28-29:-3 29-30:-3 30-36:-3 36-37:-7 37-38:-7 38-39:-7 39-40:-2 +30\n"
unfolding digits
flight_after_soft_work = refl
