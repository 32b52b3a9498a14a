-- A processor that gives each slot no more than it has to: such ones exist, and rounding is the
-- best for them.
use Rattle.std.specs.Prelude.{◌≡◌, ℕ, ◌-◌, ◌*◌, ◌/◌, ◌%◌, ◌≤◌, ◌<◌, ◌==◌, [], ◌∷◌, nat_lt, if◌then◌else◌, Option, Some, None}
use Rattle.slot_core.specs.declared.jobs.Key.{Key}
use Rattle.slot_core.specs.declared.events.What.TheVariants.{Run}
use Rattle.slot_core.specs.Runs.Histories.{History, time_of, executed}
use Rattle.clock_units.specs.Rounding.{up}
use Rattle.clock_laws.specs.Processor.{Processor, nanos_in, Carries}

-- which job ran in a slot
abbrev pub ran_in : History → ℕ → Option Key
ran_in [] s = None
ran_in (Run key ∷ h) s = if s == time_of h then Some key else ran_in h s
ran_in (_ ∷ h) s = ran_in h s

-- each slot begins with its overhead, and then has its job
abbrev pub sparing : ℕ → ℕ → History → Processor
sparing slot overhead h =
    λ t. if nat_lt (t % slot) overhead then None else ran_in h (t / slot)

-- some processor carries each history
abbrev pub EveryHistoryIsCarried : Type 0
EveryHistoryIsCarried =
    (slot overhead : ℕ) (h : History)
    → 0 < slot → overhead ≤ slot → Carries slot overhead (sparing slot overhead h) h

-- it gives a job no less and no more than its slots are worth
abbrev pub SparingIsExact : Type 0
SparingIsExact =
    (slot overhead : ℕ) (h : History) (key : Key)
    → 0 < slot → overhead ≤ slot
    → nanos_in (sparing slot overhead h) key 0 (time_of h * slot)
    ≡ executed key h * (slot - overhead)

-- so a job that has had fewer slots than its worst case up has had too little
abbrev pub FewerSlotsAreTooFew : Type 0
FewerSlotsAreTooFew =
    (slot overhead wcet : ℕ) (h : History) (key : Key)
    → overhead < slot → executed key h < up (slot - overhead) wcet
    → nanos_in (sparing slot overhead h) key 0 (time_of h * slot) < wcet
