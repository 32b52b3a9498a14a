-- The order of the work: at which stage it is refused.
use Rattle.std.specs.Prelude.{ℕ, Ok, Err}
use Rattle.command_line.specs.declared.file.File.TheVariants.{Tasks, Table, Second, Arrivals, Trace}
use Rattle.command_line.specs.declared.refusal.Refusal.{Refusal}
use Rattle.command_line.specs.declared.refusal.Refusal.TheVariants.{Usage, Unreadable, TooLarge, BadTasks, Infeasible, BadTable, BadArrivals, NotVerified, BadSecond, SecondInfeasible, NoRow, NotCycleEnd, NoChange, WriteFault, Memory}
use Rattle.command_line.specs.Refusals.{Outcome}

-- the stage of the work at which a refusal comes: the words, the plan, the second plan, the
-- arrivals, what is asked of them, and the writing
abbrev pub stage_of : Refusal → ℕ
stage_of Usage = 0
stage_of (Unreadable Tasks) = 1
stage_of (Unreadable Table) = 1
stage_of (TooLarge Tasks) = 2
stage_of (TooLarge Table) = 2
stage_of (BadTasks fault) = 3
stage_of (BadTable fault) = 3
stage_of (Infeasible window) = 4
stage_of (Unreadable Second) = 5
stage_of (TooLarge Second) = 6
stage_of (BadSecond fault) = 7
stage_of (SecondInfeasible window) = 8
stage_of (Unreadable Arrivals) = 9
stage_of (TooLarge Arrivals) = 10
stage_of (BadArrivals fault) = 11
stage_of (Unreadable Trace) = 12
stage_of (TooLarge Trace) = 13
stage_of (NotVerified reason) = 14
stage_of (NoRow row) = 14
stage_of (NotCycleEnd cycle) = 14
stage_of WriteFault = 15
stage_of (NoChange evidence) = 15
stage_of Memory = 16

-- the stage at which what is due comes: what is due is written where it is no refusal
abbrev pub stage_due : {X : Type 0} → Outcome X → ℕ
stage_due (Ok x) = 15
stage_due (Err refusal) = stage_of refusal
