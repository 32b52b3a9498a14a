-- Numbers that have room in the fields of a table.
use Rattle.std.specs.Prelude.{ℕ, ◌<◌, ◌^◌, FitsSigned}
use Rattle.slot_core.specs.declared.jobs.Key.{Key}
use Rattle.slot_core.specs.declared.jobs.Key.TheVariants.{Offline}
use Rattle.slot_core.specs.declared.jobs.Job.{Job}
use Rattle.slot_core.specs.declared.jobs.Span.{Span}
use Rattle.table_codec.specs.declared.layout.Layout.{Layout}
use Rattle.table_codec.specs.declared.layout.NumberWidth.{NumberWidth}
use Rattle.table_codec.specs.declared.layout.NumberWidth.TheVariants.{Two, Four}
use Rattle.table_codec.specs.Grammar.{spare_width}

-- the first number that has no room in the field of a length or time
abbrev pub number_bound : NumberWidth → ℕ
number_bound Two = 2 ^ 16
number_bound Four = 2 ^ 32

-- the number has room in the field of a length or time
abbrev pub Fits : Layout → ℕ → Type 0
Fits layout n = n < number_bound layout.number

-- an offline key, whose numbers have room
abbrev pub FitsKey : Layout → Key → Type 0
FitsKey layout (Offline graph task instance) =
    (graph < 2 ^ 16) × (task < 2 ^ 16) × Fits layout instance
FitsKey layout _ = ⊥

-- an offline job, whose numbers have room
pub record FitsJob (layout : Layout) (job : Job) : Type 0 where
  pub key : FitsKey layout job.key
  pub est : Fits layout job.est
  pub dl : Fits layout job.dl
  pub declared : Fits layout job.declared

-- a span, whose numbers and capacity have room
pub record FitsSpan (layout : Layout) (span : Span) : Type 0 where
  pub start : Fits layout span.start
  pub end : Fits layout span.end
  pub work : Fits layout span.work
  pub spare : FitsSigned (spare_width layout.spare) span.spare
