-- Work that is due (processor demand, after Baruah, Rosier and Howell 1990).
use Rattle.std.specs.Prelude.{ℕ, ◌+◌, ◌-◌, ◌≤◌, Bool, ◌&&◌, List, sum_by, nat_le, nat_lt, if◌then◌else◌}
use Rattle.slot_core.specs.declared.jobs.Job.{Job}
use Rattle.slot_core.specs.declared.tasks.Sporadic.{Sporadic}
use Rattle.slot_core.specs.Runs.Scenes.{Scene, horizon}
use Rattle.slot_core.specs.Feasibility.Sporadics.{sporadic_demand}

-- the slots left of the jobs that are due by x
abbrev pub work_by : List Job → ℕ → ℕ
work_by jobs x = sum_by (λ (j : Job). if nat_le j.dl x then j.left else 0) jobs

-- the slots left of the jobs that are due after s and by x
abbrev pub work_between : List Job → ℕ → ℕ → ℕ
work_between jobs s x =
    sum_by (λ (j : Job). if nat_lt s j.dl && nat_le j.dl x then j.left else 0) jobs

-- the slots left of the jobs that start at or after a and are due by x
abbrev pub work_from : List Job → ℕ → ℕ → ℕ
work_from jobs a x =
    sum_by (λ (j : Job). if nat_le a j.est && nat_le j.dl x then j.left else 0) jobs

-- what is needed by x: the remaining jobs due by x, and the densest sporadic arrivals from r on
abbrev pub need_by : List Sporadic → Scene → ℕ → ℕ → ℕ
need_by sporadics scene r x = work_by scene.jobs x + sporadic_demand sporadics scene.nexts r x

-- with `slots` more, more is needed by x than there are slots
abbrev pub is_overloaded : List Sporadic → Scene → ℕ → ℕ → ℕ → Bool
is_overloaded sporadics scene slots r x =
    nat_lt (x - scene.time) (slots + need_by sporadics scene r x)

-- room for an offer of `slots` slots within `within`: at no time from its deadline to the horizon
-- is more needed than there are slots
abbrev pub HasRoom : List Sporadic → ℕ → Scene → ℕ → ℕ → Type 0
HasRoom sporadics cycle scene slots within =
    (x : ℕ) → scene.time + within ≤ x → x ≤ horizon cycle scene.time
    → slots + need_by sporadics scene scene.time x ≤ x - scene.time
