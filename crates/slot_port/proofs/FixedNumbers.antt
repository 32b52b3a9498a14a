-- The numbers that other languages see, which stay. Each list holds by computing the definitions.
use Rattle.std.specs.Prelude.{◌≡◌, ℕ, ◌^◌, [], ◌∷◌, map, refl}
use Rattle.slot_core.specs.declared.TheConstants.{OFFER_LIMIT, NUMBER_LIMIT, TIME_LIMIT}
use Rattle.slot_core.specs.declared.events.Soft.{Soft}
use Rattle.slot_core.specs.declared.events.Soft.TheVariants.{Taken as SoftTaken, Full}
use Rattle.slot_core.specs.declared.events.Firm.{Firm}
use Rattle.slot_core.specs.declared.events.Firm.TheVariants.{Accepted, Late, Far, NoRoom}
use Rattle.slot_core.specs.declared.events.Spo.{Spo}
use Rattle.slot_core.specs.declared.events.Spo.TheVariants.{Taken as SporadicTaken, Soon}
use Rattle.slot_core.specs.declared.events.Done.{Done}
use Rattle.slot_core.specs.declared.events.Done.TheVariants.{Freed, NotRunning}
use Rattle.slot_core.specs.declared.events.Gone.{Gone}
use Rattle.slot_core.specs.declared.events.Gone.TheVariants.{Freed as GoneFreed, NoJob}
use Rattle.slot_core.specs.declared.faults.TaskFault.{TaskFault}
use Rattle.slot_core.specs.declared.jobs.Evidence.{Evidence}
use Rattle.slot_core.specs.declared.jobs.Job.{Job}
use Rattle.slot_core.specs.declared.jobs.Span.{Span}
use Rattle.slot_core.specs.declared.jobs.Window.{Window}
use Rattle.faults.specs.declared.table_fault.TableFault.{TableFault}
use Rattle.faults.specs.declared.table_fault.TableFault.TheVariants.{Memory as NoMemory, Short, BadMagic, BadVersion, BadSource, Infeasible, WrongJobCount, WrongJob, WrongSpanCount, WrongSpan, Trailing}
use Rattle.slot_port.specs.declared.TheConstants.{INDEX_LIMIT, SPORADIC_INDEX_LIMIT, KEY_TEXT_LIMIT}
use Rattle.slot_port.specs.declared.changes.TheConstants.{DROP, STARTED, GRAPHS}
use Rattle.slot_port.specs.declared.numbers.TheConstants.{NO_JOB, OFFLINE, SPORADIC, FIRM, SOFT}
use Rattle.slot_port.specs.declared.status.TheConstants.{OK, MEMORY, BAD_TABLE, BAD_ROW, BAD_NUMBER, AT_END, CLOSED, STILL_OPEN, REFUSED, NOT_FRESH}
use Rattle.slot_port.specs.Answers.{soft_numbers, firm_numbers, sporadic_numbers, done_numbers, gone_numbers}
use Rattle.slot_port.specs.Faults.{fault_numbers}

-- how a call ended
pub statuses :
    OK ∷ MEMORY ∷ BAD_TABLE ∷ BAD_ROW ∷ BAD_NUMBER ∷ AT_END ∷ CLOSED ∷ STILL_OPEN ∷ REFUSED
    ∷ NOT_FRESH ∷ []
    ≡ 0 ∷ 1 ∷ 2 ∷ 3 ∷ 4 ∷ 5 ∷ 6 ∷ 7 ∷ 8 ∷ 9 ∷ []
statuses = refl

-- the kinds of keys
pub kinds : NO_JOB ∷ OFFLINE ∷ SPORADIC ∷ FIRM ∷ SOFT ∷ [] ≡ 0 ∷ 1 ∷ 2 ∷ 3 ∷ 4 ∷ []
kinds = refl

-- which offline jobs go on at a change of plan
pub keeps : DROP ∷ STARTED ∷ GRAPHS ∷ [] ≡ 0 ∷ 1 ∷ 2 ∷ []
keeps = refl

-- the answers to soft work
pub soft_answers :
    (limit : ℕ)
    → map (λ (a : Soft). (soft_numbers a).answer) (SoftTaken ∷ Full limit ∷ []) ≡ 0 ∷ 1 ∷ []
soft_answers limit = refl

-- to a firm task
pub firm_answers :
    (e : Evidence)
    → map (λ (a : Firm). (firm_numbers a).answer) (Accepted ∷ Late ∷ Far ∷ NoRoom e ∷ [])
    ≡ 0 ∷ 1 ∷ 2 ∷ 3 ∷ []
firm_answers e = refl

-- to a sporadic arrival
pub sporadic_answers :
    (deadline next : ℕ)
    → map (λ (a : Spo). (sporadic_numbers a).answer) (SporadicTaken deadline ∷ Soon next ∷ [])
    ≡ 0 ∷ 1 ∷ []
sporadic_answers deadline next = refl

-- to an early end
pub done_answers :
    (slots : ℕ)
    → map (λ (a : Done). (done_numbers a).answer) (Freed slots ∷ NotRunning ∷ []) ≡ 0 ∷ 1 ∷ []
done_answers slots = refl

-- to a withdrawal
pub gone_answers :
    (slots : ℕ)
    → map (λ (a : Gone). (gone_numbers a).answer) (GoneFreed slots ∷ NoJob ∷ []) ≡ 0 ∷ 1 ∷ []
gone_answers slots = refl

-- the faults of a table
pub table_faults :
    (n : ℕ) (source : TaskFault) (window : Window) (job : Job) (span : Span)
    → map
    (λ (f : TableFault). (fault_numbers f).answer)
    (NoMemory
    ∷ Short n
    ∷ BadMagic
    ∷ BadVersion n
    ∷ BadSource source
    ∷ Infeasible window
    ∷ WrongJobCount n n
    ∷ WrongJob n job job
    ∷ WrongSpanCount n n
    ∷ WrongSpan n span span
    ∷ Trailing n
    ∷ [])
    ≡ 1 ∷ 2 ∷ 3 ∷ 4 ∷ 5 ∷ 6 ∷ 7 ∷ 8 ∷ 9 ∷ 10 ∷ 11 ∷ []
table_faults n source window job span = refl

-- the limits: of soft and firm work and of deadlines, of the text of a key, of an index, of the
-- index of a sporadic task, of a row, and of time
pub limits :
    OFFER_LIMIT ∷ KEY_TEXT_LIMIT ∷ INDEX_LIMIT ∷ SPORADIC_INDEX_LIMIT ∷ NUMBER_LIMIT ∷ TIME_LIMIT
    ∷ []
    ≡ 65535 ∷ 70 ∷ 65535 ∷ 255 ∷ 4294967295 ∷ 17592186044416 ∷ []
limits = refl

-- the limit of time is a power of two
pub time_limit : TIME_LIMIT ≡ 2 ^ 44
time_limit = refl
