-- The answers to arrivals in numbers. An answer has a number among those of its call, from 0.
use Rattle.std.specs.Prelude.{ℕ}
use Rattle.slot_core.specs.declared.events.What.{What}
use Rattle.slot_core.specs.declared.events.What.TheVariants.{Soft, Firm, Sporadic, Done, Withdraw}
use Rattle.slot_core.specs.declared.events.Soft.{Soft as SoftAnswer}
use Rattle.slot_core.specs.declared.events.Soft.TheVariants.{Taken as SoftTaken, Full}
use Rattle.slot_core.specs.declared.events.Firm.{Firm as FirmAnswer}
use Rattle.slot_core.specs.declared.events.Firm.TheVariants.{Accepted, Late, Far, NoRoom}
use Rattle.slot_core.specs.declared.events.Spo.{Spo}
use Rattle.slot_core.specs.declared.events.Spo.TheVariants.{Taken as SporadicTaken, Soon}
use Rattle.slot_core.specs.declared.events.Done.{Done as DoneAnswer}
use Rattle.slot_core.specs.declared.events.Done.TheVariants.{Freed, NotRunning}
use Rattle.slot_core.specs.declared.events.Gone.{Gone}
use Rattle.slot_core.specs.declared.events.Gone.TheVariants.{Freed as GoneFreed, NoJob}
use Rattle.slot_port.specs.declared.numbers.Told.{Told}

-- an answer with three numbers
abbrev pub three_numbers : ℕ → ℕ → ℕ → ℕ → Told
three_numbers answer first second third =
    record { answer = answer; first = first; second = second; third = third }

-- an answer with one number
abbrev pub one_number : ℕ → ℕ → Told
one_number answer first = three_numbers answer first 0 0

-- to soft work: taken, or full with the limit
abbrev pub soft_numbers : SoftAnswer → Told
soft_numbers SoftTaken = one_number 0 0
soft_numbers (Full limit) = one_number 1 limit

-- to a firm task: accepted, late, far, or no room with the time, the need and the room
abbrev pub firm_numbers : FirmAnswer → Told
firm_numbers Accepted = one_number 0 0
firm_numbers Late = one_number 1 0
firm_numbers Far = one_number 2 0
firm_numbers (NoRoom e) = three_numbers 3 e.until e.need e.room

-- to a sporadic arrival: taken with its deadline, or too soon with its next legal arrival
abbrev pub sporadic_numbers : Spo → Told
sporadic_numbers (SporadicTaken deadline) = one_number 0 deadline
sporadic_numbers (Soon next) = one_number 1 next

-- to an early end: freed with the slots, or not running
abbrev pub done_numbers : DoneAnswer → Told
done_numbers (Freed slots) = one_number 0 slots
done_numbers NotRunning = one_number 1 0

-- to a withdrawal: freed with the slots, or no job
abbrev pub gone_numbers : Gone → Told
gone_numbers (GoneFreed slots) = one_number 0 slots
gone_numbers NoJob = one_number 1 0

-- the answer that the entry of an arrival tells
abbrev pub answer_numbers : What → Told
answer_numbers (Soft row slots answer) = soft_numbers answer
answer_numbers (Firm row slots within answer) = firm_numbers answer
answer_numbers (Sporadic row index answer) = sporadic_numbers answer
answer_numbers (Done row key answer) = done_numbers answer
answer_numbers (Withdraw row firm answer) = gone_numbers answer
answer_numbers _ = one_number 0 0
