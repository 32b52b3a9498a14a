-- The keys of jobs in numbers.
use Rattle.std.specs.Prelude.{Bool, ◌&&◌, ◌==◌, nat_le, if◌then◌else◌, Option, Some, None}
use Rattle.slot_core.specs.declared.TheConstants.{NUMBER_LIMIT}
use Rattle.slot_core.specs.declared.jobs.Key.{Key}
use Rattle.slot_core.specs.declared.jobs.Key.TheVariants.{Offline, Sporadic, Firm, Soft}
use Rattle.slot_core.specs.declared.events.Ran.{Ran}
use Rattle.slot_core.specs.declared.events.Ran.TheVariants.{Idle as RanIdle, Key as RanKey}
use Rattle.slot_port.specs.declared.TheConstants.{INDEX_LIMIT, SPORADIC_INDEX_LIMIT}
use Rattle.slot_port.specs.declared.numbers.TheConstants.{NO_JOB, OFFLINE, SPORADIC, FIRM, SOFT}
use Rattle.slot_port.specs.declared.numbers.KeyNumbers.{KeyNumbers}

-- graph, task and instance; the index of a sporadic task and a row; a row
abbrev pub key_numbers : Key → KeyNumbers
key_numbers (Offline graph task instance) =
    record { kind = OFFLINE; group = graph; task = task; number = instance }
key_numbers (Sporadic index row) =
    record { kind = SPORADIC; group = index; task = 0; number = row }
key_numbers (Firm row) = record { kind = FIRM; group = 0; task = 0; number = row }
key_numbers (Soft row) = record { kind = SOFT; group = 0; task = 0; number = row }

-- what ran: a key, or no job
abbrev pub ran_numbers : Ran → KeyNumbers
ran_numbers RanIdle = record { kind = NO_JOB; group = 0; task = 0; number = 0 }
ran_numbers (RanKey key) = key_numbers key

-- the number is a row, and no task is told
abbrev pub row_fits : KeyNumbers → Bool
row_fits k = k.task == 0 && nat_le k.number NUMBER_LIMIT

-- the key of an offline job, where the indexes are in range
abbrev pub offline_key : KeyNumbers → Option Key
offline_key k =
    if nat_le k.group INDEX_LIMIT && nat_le k.task INDEX_LIMIT
    then Some (Offline k.group k.task k.number)
    else None

-- of a sporadic job
abbrev pub sporadic_key : KeyNumbers → Option Key
sporadic_key k =
    if row_fits k && nat_le k.group SPORADIC_INDEX_LIMIT
    then Some (Sporadic k.group k.number)
    else None

-- of a firm job
abbrev pub firm_key : KeyNumbers → Option Key
firm_key k = if row_fits k && k.group == 0 then Some (Firm k.number) else None

-- of a soft job
abbrev pub soft_key : KeyNumbers → Option Key
soft_key k = if row_fits k && k.group == 0 then Some (Soft k.number) else None

-- the key that numbers name, where they name one
abbrev pub key_named : KeyNumbers → Option Key
key_named k =
    if k.kind == OFFLINE then offline_key k
    else if k.kind == SPORADIC then sporadic_key k
    else if k.kind == FIRM then firm_key k
    else if k.kind == SOFT then soft_key k
    else None
