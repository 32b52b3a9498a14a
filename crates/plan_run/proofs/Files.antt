-- The file of a plan.
use Rattle.std.proofs.Common.{◌≡◌, true, refl}
use Rattle.command_line.specs.declared.file.File.{File}
use Rattle.command_line.specs.declared.file.File.TheVariants.{Tasks as TaskFile, Table, Second, Arrivals, Trace}
use Rattle.command_line.specs.declared.commands.Source.TheVariants.{Tasks}
use Rattle.command_line.specs.Commands.{is_file_of}
use Rattle.command_line.specs.Refusals.{same_file}

-- the file of the plan is the task file
pub file-tasks : (file : File) → is_file_of Tasks file ≡ true → same_file TaskFile file ≡ true
file-tasks TaskFile is = refl
file-tasks Table is = is
file-tasks Second is = is
file-tasks Arrivals is = is
file-tasks Trace is = is
