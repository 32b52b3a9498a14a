-- Spans before their capacities are set.
use Rattle.std.specs.Prelude.{ℕ, pos, List, [], ◌∷◌}
use Rattle.slot_core.specs.declared.jobs.Job.{Job}
use Rattle.slot_core.specs.declared.jobs.Span.{Span}
use Rattle.slot_core.specs.Runs.Demand.{work_between}

-- the spans between neighbouring points, the first from s, each with the work due in it
abbrev pub rows_between : List Job → ℕ → List ℕ → List Span
rows_between jobs s [] = []
rows_between jobs s (e ∷ points) =
    record { start = s; end = e; work = work_between jobs s e; spare = pos 0 }
    ∷ rows_between jobs e points
