-- A slot of a soft job.
use Rattle.std.specs.Prelude.{◌-◌, if◌then◌else◌}
use Rattle.slot_core.specs.declared.jobs.Key.{Key}
use Rattle.slot_core.specs.declared.jobs.Key.TheVariants.{Soft as SoftKey}
use Rattle.slot_core.specs.declared.jobs.SoftJob.{SoftJob}
use Rattle.slot_core.specs.Offline.Keys.{same_key}

-- the soft job with a slot less, where it has this key
abbrev pub one_less : Key → SoftJob → SoftJob
one_less key s = if same_key (SoftKey s.row) key then record s { left = s.left - 1 } else s
