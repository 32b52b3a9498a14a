-- A refusal that has the status of a failed write is one.
use Rattle.std.proofs.Common.{◌≡◌, refl}
use Rattle.command_line.specs.declared.status.Status.{Status}
use Rattle.timed_arrivals.specs.declared.form.Form.TheVariants.{Arrivals, Trace}
use Rattle.units_run.specs.Runs.{refusal_status}
use Rattle.units_run.specs.declared.refusal.UnitsRefusal.{UnitsRefusal}
use Rattle.units_run.specs.declared.refusal.UnitsRefusal.TheVariants.{Unreadable, TooLarge, UnreadableRows, TooLargeRows, BadRows, BadUnits, NoSlots, BadTasks, ReadsOtherwise, WriteFault, Memory}

pub write-by_status : (e : UnitsRefusal) → refusal_status e ≡ Status.WriteFault → e ≡ WriteFault
write-by_status WriteFault is = refl
write-by_status Unreadable is = cc
write-by_status TooLarge is = cc
write-by_status UnreadableRows is = cc
write-by_status (TooLargeRows form) is = cc
write-by_status (BadRows Arrivals fault) is = cc
write-by_status (BadRows Trace fault) is = cc
write-by_status (BadUnits fault) is = cc
write-by_status (NoSlots fault) is = cc
write-by_status (BadTasks fault) is = cc
write-by_status ReadsOtherwise is = cc
write-by_status Memory is = cc
