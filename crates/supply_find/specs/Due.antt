-- What is due by each time of three cycles, counted by the jobs of the first.
use Rattle.std.specs.Prelude.{ℕ, ◌+◌, ◌*◌, ◌&&◌, List, sum_by, nat_le, if◌then◌else◌}
use Rattle.slot_core.specs.declared.jobs.Job.{Job}

-- the declared slots of the jobs that are due by b
abbrev pub due_by : List Job → ℕ → ℕ
due_by jobs b = sum_by (λ (j : Job). if nat_le j.dl b then j.declared else 0) jobs

-- of the jobs that start at or after a
abbrev pub due_from : List Job → ℕ → ℕ → ℕ
due_from jobs a b =
    sum_by (λ (j : Job). if nat_le a j.est && nat_le j.dl b then j.declared else 0) jobs

-- of the same jobs this shift later
abbrev pub due_later : List Job → ℕ → ℕ → ℕ
due_later jobs shift b =
    sum_by (λ (j : Job). if nat_le (j.dl + shift) b then j.declared else 0) jobs

-- of the jobs of the second cycle and of the third
abbrev pub later_by : List Job → ℕ → ℕ → ℕ
later_by jobs cycle b = due_later jobs cycle b + due_later jobs (2 * cycle) b

-- of all jobs of three cycles that start at or after a time a of the first
abbrev pub inside : List Job → ℕ → ℕ → ℕ → ℕ
inside jobs cycle a b = due_from jobs a b + later_by jobs cycle b
