-- The plan's points: where its intervals start and end (Fohler 1995).
use Rattle.std.specs.Prelude.{ℕ, ◌-◌, ◌%◌, max, min, Bool, ◌||◌, ◌&&◌, ◌==◌, List, [], ◌∷◌, ◌++◌, map, filter, fold, nat_le, nat_lt}
use Rattle.std.specs.List.{list_any}
use Rattle.slot_core.specs.declared.jobs.Job.{Job}

-- the latest deadline of a job before this one, or 0
abbrev pub end_before : List Job → ℕ → ℕ
end_before jobs end =
    fold max 0 (map (λ (j : Job). j.dl) (filter (λ (j : Job). nat_lt j.dl end) jobs))

-- the least derived start of the jobs with this deadline, at most `most`
abbrev pub least_start : List Job → ℕ → ℕ → ℕ
least_start jobs most end =
    fold min most (map (λ (j : Job). j.est) (filter (λ (j : Job). j.dl == end) jobs))

-- where the interval of the job's deadline starts: at the least start of the jobs with that
-- deadline, or at the end of the interval before it where that is later
abbrev pub interval_start : List Job → Job → ℕ
interval_start jobs job = max (least_start jobs job.est job.dl) (end_before jobs job.dl)

-- the plan's points of a cycle: the ends of its intervals, their starts above 0, and the cycle
abbrev pub plan_points : ℕ → List Job → List ℕ
plan_points cycle jobs =
    map (λ (j : Job). j.dl) jobs ++ filter (nat_lt 0) (map (interval_start jobs) jobs) ++ cycle ∷ []

-- p is a plan's point plus a multiple of the cycle, or one of the other points
abbrev pub is_point : ℕ → List ℕ → List ℕ → ℕ → Bool
is_point cycle planned own p =
    list_any (λ q. nat_le q p && (p - q) % cycle == 0) planned || list_any (λ q. q == p) own
