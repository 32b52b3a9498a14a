-- Rows and points after others, and those of a later cycle.
use Rattle.std.proofs.Common.{◌≡◌, ℕ, suc, ◌+◌, ◌*◌, ◌<◌, ◌≤◌, ◌⊎◌, cond, ltb, leb, ◌&&◌, List, [], ◌∷◌, ◌++◌, map, refl, sym, ap, ap₂, ◌∙◌, inl, inr, arith}
use Rattle.std.specs.List.{AllByRecursion}
use Rattle.std.proofs.lemmas.Bool.Decides.{nat_tests}
use Rattle.std.proofs.lemmas.List.{map-append}
use Rattle.slot_core.specs.declared.jobs.Job.{Job}
use Rattle.slot_core.specs.declared.jobs.Span.{Span}
use Rattle.slot_core.specs.declared.tasks.TaskSet.{TaskSet}
use Rattle.slot_core.specs.Runs.Demand.{work_between}
use Rattle.slot_core.specs.Offline.OfflineJobs.{later_job}
use Rattle.slot_core.specs.Runs.Rising.{AreRising, last_point}
use Rattle.slot_facts.proofs.Lists.Maps.{map-map}
use Rattle.slot_facts.proofs.Lists.Members.{AllByRecursion-weaker}
use Rattle.spare_capacity.specs.Recurrence.{last_end}
use Rattle.interval_build.specs.Rows.{rows_between}
use Rattle.interval_build.proofs.Capacities.{no_work}
use Rattle.interval_build.proofs.Due.{work_of_first, work_between-cons}
use Rattle.interval_build.proofs.SpansOfCycle.{last_end-between}
use Rattle.interval_row.specs.Changes.{appended}
use Rattle.scene_steps.specs.Rows.{spans}
use Rattle.scene_steps.proofs.Rows.Bare.{bare, cleared, same_row}
use Rattle.scene_steps.proofs.Rows.JobWorks.{work_between-append}
use Rattle.scene_steps.proofs.Rows.Works.{rows_between-same}

-- points and others that rise from the last of them rise
pub AreRising-append : (s : ℕ) (points later : List ℕ) → AreRising s points → AreRising (last_point s points) later → AreRising s (points ++ later)
AreRising-append s [] later rising next = next
AreRising-append s (e ∷ points) later rising next = (rising.0, AreRising-append e points later rising.1 next)

-- the last of both is the last of the others
pub last_point-append : (s : ℕ) (points later : List ℕ) → last_point s (points ++ later) ≡ last_point (last_point s points) later
last_point-append s [] later = refl
last_point-append s (e ∷ points) later = last_point-append e points later

-- the last of points to which a number is added is the last and that number
pub last_point-plus : (by s at : ℕ) (points : List ℕ) → at ≡ s + by → last_point at (map (λ e. e + by) points) ≡ last_point s points + by
last_point-plus by s at [] same = same
last_point-plus by s at (e ∷ points) same = last_point-plus by e (e + by) points refl

-- the last end of spans between points is the last point from any start, where there is a point
pub last_end-from_any : (jobs : List Job) (low s : ℕ) (points : List ℕ) → s < last_point s points → last_end low (spans jobs s points) ≡ last_point s points
last_end-from_any jobs low s [] some = absurd (omega arith)
last_end-from_any jobs low s (e ∷ points) some = last_end-between jobs (last_point e points) e points

-- the rows between points and between those after them
pub rows_between-append : (jobs : List Job) (s : ℕ) (points later : List ℕ) → rows_between jobs s (points ++ later) ≡ rows_between jobs s points ++ rows_between jobs (last_point s points) later
rows_between-append jobs s [] later = refl
rows_between-append jobs s (e ∷ points) later =
    same_row s e _ _ _ _ refl (rows_between-append jobs e points later)

-- where jobs are due by the last of some points, and others after it, the rows of both are those of each
pub rows_between-both : (jobs others : List Job) (s : ℕ) (points later : List ℕ) → AreRising s points → AreRising (last_point s points) later → AllByRecursion (λ (j : Job). j.dl ≤ last_point s points) jobs → AllByRecursion (λ (j : Job). last_point s points < j.dl) others → rows_between (jobs ++ others) s (points ++ later) ≡ rows_between jobs s points ++ rows_between others (last_point s points) later
rows_between-both jobs others s points later rising next early late =
    let last = last_point s points in
    rows_between-append (jobs ++ others) s points later
    ∙ ap₂ (λ xs ys. xs ++ ys)
    (rows_between-same (jobs ++ others) jobs s points rising (λ from e low high.
    let none = no_work others from e (suc e) (omega arith) (AllByRecursion-weaker _ (λ (j : Job). (j.dl ≤ from) ⊎ (suc e ≤ j.dl)) others (λ j h. inr (omega arith)) late) in
    omega (arith, work_between-append jobs others from e)))
    (rows_between-same (jobs ++ others) others last later next (λ from e low high.
    let none = no_work jobs from e (suc e) (omega arith) (AllByRecursion-weaker _ (λ (j : Job). (j.dl ≤ from) ⊎ (suc e ≤ j.dl)) jobs (λ j h. inl (omega arith)) early) in
    omega (arith, work_between-append jobs others from e)))

-- one job that comes so much later counts as it did
first_later : (left dl s e by : ℕ) → cond (ltb (s + by) (dl + by) && leb (dl + by) (e + by)) left 0 ≡ cond (ltb s dl && leb dl e) left 0
first_later left dl s e by = grind (arith, nat_tests)

-- jobs that come some cycles later have the work that is due so much later
work_between-later : (set : TaskSet) (cycle n : ℕ) (jobs : List Job) (s e : ℕ) → work_between (map (later_job set cycle n) jobs) (s + n * cycle) (e + n * cycle) ≡ work_between jobs s e
work_between-later set cycle n [] s e = refl
work_between-later set cycle n (j ∷ jobs) s e =
    let first : work_of_first (s + n * cycle) (e + n * cycle) (later_job set cycle n j) ≡ work_of_first s e j = first_later j.left j.dl s e (n * cycle) in
    omega (arith, work_between-cons (s + n * cycle) (e + n * cycle) (later_job set cycle n j) (map (later_job set cycle n) jobs), work_between-cons s e j jobs, work_between-later set cycle n jobs s e)

-- and the rows, so much later
rows_between-later : (set : TaskSet) (cycle n : ℕ) (jobs : List Job) (s at : ℕ) (points : List ℕ) → at ≡ s + n * cycle → rows_between (map (later_job set cycle n) jobs) at (map (λ e. e + n * cycle) points) ≡ map (λ (r : Span). record r { start = r.start + n * cycle; end = r.end + n * cycle }) (rows_between jobs s points)
rows_between-later set cycle n jobs s at [] same = refl
rows_between-later set cycle n jobs s at (e ∷ points) same =
    let work : work_between (map (later_job set cycle n) jobs) at (e + n * cycle) ≡ work_between jobs s e = rw same (work_between-later set cycle n jobs s e) in
    rw same (same_row (s + n * cycle) (e + n * cycle) _ _ _ _ (rw same at work) (rows_between-later set cycle n jobs e (e + n * cycle) points refl))

-- rows to which the rows of a cycle's jobs are appended go on with those of the later cycle
pub appended-rows_between : (set : TaskSet) (cycle n : ℕ) (jobs : List Job) (points : List ℕ) (rows : List Span) → last_end 0 rows ≡ n * cycle → appended (rows_between jobs 0 points) rows ≡ rows ++ rows_between (map (later_job set cycle n) jobs) (n * cycle) (map (λ e. e + n * cycle) points)
appended-rows_between set cycle n jobs points rows last =
    rw last (ap (λ xs. rows ++ xs) (sym (rows_between-later set cycle n jobs 0 (n * cycle) points (omega arith))))

-- the last end does not depend on the capacities
pub last_end-bare : (s : ℕ) (rows : List Span) → last_end s (bare rows) ≡ last_end s rows
last_end-bare s [] = refl
last_end-bare s (r ∷ rows) = last_end-bare r.end rows

-- to append is the same before and after the capacities are cleared
pub bare-appended : (more rows : List Span) → bare (appended more rows) ≡ appended (bare more) (bare rows)
bare-appended more rows =
    rw (last_end-bare 0 rows)
    (map-append cleared rows _ ∙ ap (λ xs. bare rows ++ xs) (map-map cleared _ more ∙ sym (map-map _ cleared more)))
