-- The texts of the faults of a table.
use Rattle.std.specs.Prelude.{ℕ, List, [], ◌++◌, codes, decimal}
use Rattle.std.specs.Fmt.{signed_decimal}
use Rattle.slot_core.specs.declared.jobs.Key.{Key}
use Rattle.slot_core.specs.declared.jobs.Key.TheVariants.{Offline}
use Rattle.slot_core.specs.declared.jobs.Job.{Job}
use Rattle.slot_core.specs.declared.jobs.Span.{Span}
use Rattle.slot_core.specs.Output.FaultTexts.{infeasible_text, task_fault_text}
use Rattle.slot_core.specs.Output.Texts.{worded}
use Rattle.faults.specs.declared.table_fault.TableFault.{TableFault}
use Rattle.faults.specs.declared.table_fault.TableFault.TheVariants.{Memory, Short, BadMagic, BadVersion, BadSource, Infeasible, WrongJobCount, WrongJob, WrongSpanCount, WrongSpan, Trailing}

-- graph, task and instance, with a space after each (a plan has no other keys)
abbrev pub key_front : Key → List ℕ
key_front (Offline graph task instance) =
    worded (worded (decimal graph) task) instance ++ codes " "
key_front _ = []

-- the numbers of a job: graph, task and instance, derived start and deadline, declared slots
abbrev pub job_text : Job → List ℕ
job_text job = key_front job.key ++ worded (worded (decimal job.est) job.dl) job.declared

-- the numbers of a span: start, end, work, and the capacity
abbrev pub span_text : Span → List ℕ
span_text s = worded (worded (decimal s.start) s.end) s.work ++ codes " " ++ signed_decimal s.spare

-- what is wrong with a table
abbrev pub table_fault_text : TableFault → List ℕ
table_fault_text Memory = codes "out of memory"
table_fault_text (Short at) = worded (codes "short") at
table_fault_text BadMagic = codes "bad magic"
table_fault_text (BadVersion version) = worded (codes "bad version") version
table_fault_text (BadSource fault) = codes "source " ++ task_fault_text fault
table_fault_text (Infeasible window) = infeasible_text window
table_fault_text (WrongJobCount stored computed) =
    worded (worded (codes "wrong job count") stored) computed
table_fault_text (WrongJob place stored computed) =
    worded (codes "wrong job") place
    ++ codes " " ++ job_text stored
    ++ codes " " ++ job_text computed
table_fault_text (WrongSpanCount stored computed) =
    worded (worded (codes "wrong span count") stored) computed
table_fault_text (WrongSpan place stored computed) =
    worded (codes "wrong span") place
    ++ codes " " ++ span_text stored
    ++ codes " " ++ span_text computed
table_fault_text (Trailing at) = worded (codes "trailing") at
