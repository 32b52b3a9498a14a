-- An executive shows what each history shows for which it stands.
use Rattle.std.proofs.Common.{◌≡◌, ℕ, ◌+◌, ◌-◌, ◌<◌, ◌≤◌, true, cond, List, length, sym, ap₂, ◌∙◌, subst, arith}
use Rattle.std.specs.Prelude.{All}
use Rattle.std.proofs.lemmas.List.Sorted.{All-permutation}
use Rattle.slot_core.specs.declared.tasks.TaskSet.{TaskSet}
use Rattle.slot_core.specs.Claims.Futures.{LeavesNone, densest_until}
use Rattle.slot_core.specs.Feasibility.Feasible.{IsFeasible}
use Rattle.slot_core.specs.Runs.Arrivals.{key_in_set}
use Rattle.slot_core.specs.Runs.Demand.{need_by}
use Rattle.slot_core.specs.Runs.Matches.{HaveSameItems}
use Rattle.slot_core.specs.Runs.Traces.{IsLegal}
use Rattle.slot_facts.proofs.Patterns.Densest.{densest_pattern-legal}
use Rattle.slot_facts.proofs.Replays.Named.{remaining-named}
use Rattle.slot_core.specs.declared.jobs.Job.{Job}
use Rattle.slot_core.specs.Feasibility.Sporadics.{densest_pattern}
use Rattle.slot_core.specs.Keeping.Executives.{Executive, IsKept, StandsFor, StandsForSome}
use Rattle.slot_core.specs.Keeping.Kept.{AreApart}
use Rattle.slot_core.specs.Offline.Keys.{same_key}
use Rattle.slot_core.specs.Runs.Histories.{History, time_of}
use Rattle.slot_core.specs.Runs.Scenes.{horizon, remaining, scene_of}
use Rattle.future_check.specs.Explanations.{explanation, in_time_order, lines_of, shown_arrivals, shown_jobs, shown_slots}
use Rattle.future_check.proofs.ArrivalOrder.{IsPermutation-in_time_order}
use Rattle.future_check.proofs.Needs.{shown_slots_are_needed, shown_futures_refuse}
use Rattle.future_check.proofs.ShownJobs.{All-shown, shown-same}

-- its text is that of each history
explanation-same : (exec : Executive) (h : History) (slots dl until : ℕ) → AreApart exec.scene.jobs → StandsFor exec h → explanation exec.plan.tasks exec.scene slots dl until ≡ explanation exec.plan.tasks (scene_of exec.plan.tasks exec.plan.cycle h) slots dl until
explanation-same exec h slots dl until apart stands =
    let set = exec.plan.tasks in
    let other = scene_of set exec.plan.cycle h in
    let same = stands.same in
    let apart_other : AreApart other.jobs = λ key. omega (arith, same.jobs (λ (j : Job). cond (same_key j.key key) 1 0), apart key) in
    let jobs = shown-same exec.scene.jobs other.jobs until apart apart_other same.jobs in
    let pattern = ap₂ (λ nexts time. in_time_order (densest_pattern 0 set.sporadics nexts time until)) same.nexts same.time in
    ap₂ (λ js coming. lines_of set js coming slots dl) jobs pattern

-- so the lines of its jobs and arrivals are that text
pub lines-told : (exec : Executive) (h : History) (tasks : TaskSet) (jobs : List Job) (arrivals : List (ℕ × ℕ)) (slots dl until : ℕ) → AreApart exec.scene.jobs → StandsFor exec h → tasks ≡ exec.plan.tasks → jobs ≡ shown_jobs exec.scene until → arrivals ≡ shown_arrivals exec.plan.tasks exec.scene until → lines_of tasks jobs arrivals slots dl ≡ explanation exec.plan.tasks (scene_of exec.plan.tasks exec.plan.cycle h) slots dl until
lines-told exec h tasks jobs arrivals slots dl until apart stands set_is jobs_are arrivals_are =
    (λ i. lines_of (set_is i) (jobs_are i) (arrivals_are i) slots dl) ∙ explanation-same exec h slots dl until apart stands

-- the keys of the shown jobs lie in the set
pub keys-named : (exec : Executive) (tasks : TaskSet) (jobs : List Job) (until : ℕ) → IsKept exec → StandsForSome exec → tasks ≡ exec.plan.tasks → jobs ≡ shown_jobs exec.scene until → All (λ (j : Job). key_in_set tasks j.key ≡ true) jobs
keys-named exec tasks jobs until kept (h, stands) set_is jobs_are =
    let set = exec.plan.tasks in
    let cycle = kept.plan.cycle in
    let legal = subst (λ c. IsLegal set c h) cycle stands.legal in
    let same = subst (λ c. HaveSameItems exec.scene.jobs (remaining set c h)) cycle stands.same.jobs in
    let all = All-shown (λ (j : Job). key_in_set set j.key ≡ true) exec.scene.jobs until (λ j at. remaining-named set h exec.scene.jobs j legal same at) in
    subst (λ js. All (λ (j : Job). key_in_set tasks j.key ≡ true) js) (sym jobs_are) (subst (λ (t : TaskSet). All (λ (j : Job). key_in_set t j.key ≡ true) (shown_jobs exec.scene until)) (sym set_is) all)

-- and so do the tasks of the shown arrivals
pub arrivals-named : (exec : Executive) (tasks : TaskSet) (arrivals : List (ℕ × ℕ)) (until : ℕ) → tasks ≡ exec.plan.tasks → arrivals ≡ shown_arrivals exec.plan.tasks exec.scene until → All (λ (a : ℕ × ℕ). a.0 < length tasks.sporadics) arrivals
arrivals-named exec tasks arrivals until set_is arrivals_are =
    let set = exec.plan.tasks in
    let pattern = densest_until set exec.scene until in
    let named = (densest_pattern-legal set.sporadics exec.scene.nexts exec.scene.time until).named in
    let all = All-permutation (λ (a : ℕ × ℕ). a.0 < length set.sporadics) pattern (in_time_order pattern) (IsPermutation-in_time_order pattern) named in
    subst (λ xs. All (λ (a : ℕ × ℕ). a.0 < length tasks.sporadics) xs) (sym arrivals_are) (subst (λ (t : TaskSet). All (λ (a : ℕ × ℕ). a.0 < length t.sporadics) (shown_arrivals set exec.scene until)) (sym set_is) all)

-- what is shown at a history adds up to what is needed
pub sum-at : (exec : Executive) (h : History) (until : ℕ) → shown_slots exec.plan.tasks (scene_of exec.plan.tasks exec.plan.cycle h) until ≡ need_by exec.plan.tasks.sporadics (scene_of exec.plan.tasks exec.plan.cycle h) (time_of h) until
sum-at exec h until =
    shown_slots_are_needed exec.plan.tasks (scene_of exec.plan.tasks exec.plan.cycle h) until

-- where that is too much, the shown arrivals leave no schedule
pub none-at : (exec : Executive) (h : History) (slots dl until : ℕ) → IsKept exec → StandsFor exec h → exec.scene.time < dl → dl ≤ until → until ≤ horizon exec.plan.cycle exec.scene.time → 1 ≤ slots → until - time_of h < slots + shown_slots exec.plan.tasks (scene_of exec.plan.tasks exec.plan.cycle h) until → LeavesNone exec.plan.tasks exec.plan.cycle h slots (dl - time_of h) (densest_until exec.plan.tasks (scene_of exec.plan.tasks exec.plan.cycle h) until)
none-at exec h slots dl until kept stands later due near some short =
    let set = exec.plan.tasks in
    let cycle = kept.plan.cycle in
    let now = stands.same.time in
    let feasible = subst (λ c. IsFeasible set c) cycle kept.plan.feasible in
    let legal = subst (λ c. IsLegal set c h) cycle stands.legal in
    let reach = subst (λ c. until ≤ horizon c (time_of h)) cycle (subst (λ t. until ≤ horizon exec.plan.cycle t) now near) in
    let over = subst (λ c. until - time_of h < slots + shown_slots set (scene_of set c h) until) cycle short in
    subst
    (λ c. LeavesNone set c h slots (dl - time_of h) (densest_until set (scene_of set c h) until))
    (sym cycle)
    (shown_futures_refuse set h slots (dl - time_of h) until kept.plan.sound feasible legal some (omega (arith, now)) reach over)
