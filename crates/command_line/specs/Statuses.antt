-- The numbers of the statuses.
use Rattle.std.specs.Prelude.{ℕ}
use Rattle.command_line.specs.declared.status.Status.{Status}
use Rattle.command_line.specs.declared.status.Status.TheVariants.{Done, Usage, FileFault, TooLarge, BadTasks, Infeasible, BadArrivals, WriteFault, Memory, BadTable, NotVerified, NoRow, SwitchRefused}

-- the exit status of the program
abbrev pub exit_number : Status → ℕ
exit_number Done = 0
exit_number Usage = 1
exit_number FileFault = 2
exit_number TooLarge = 3
exit_number BadTasks = 4
exit_number Infeasible = 5
exit_number BadArrivals = 6
exit_number WriteFault = 7
exit_number Memory = 8
exit_number BadTable = 9
exit_number NotVerified = 10
exit_number NoRow = 11
exit_number SwitchRefused = 12
