-- Jobs near the start, which many cycles later are still far from an overflow.
use Rattle.std.specs.Prelude.{ℕ, ◌≤◌}
use Rattle.slot_core.specs.declared.TheConstants.{SLOT_LIMIT}
use Rattle.slot_core.specs.declared.jobs.Key.{Key}
use Rattle.slot_core.specs.declared.jobs.Key.TheVariants.{Offline}
use Rattle.slot_core.specs.declared.jobs.Job.{Job}

-- the instance that an offline key names, else 0
abbrev pub instance_of : Key → ℕ
instance_of (Offline graph task instance) = instance
instance_of _ = 0

-- start, deadline and instance are at most the longest cycle
abbrev pub IsNear : Job → Type 0
IsNear job = (job.est ≤ SLOT_LIMIT) × (job.dl ≤ SLOT_LIMIT) × (instance_of job.key ≤ SLOT_LIMIT)
