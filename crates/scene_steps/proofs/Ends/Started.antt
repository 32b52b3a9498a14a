-- Which job of a key ends early: the one that has started, since a job that has started is ready.
use Rattle.std.proofs.Common.{◌≡◌, ℕ, ◌<◌, ◌≤◌, Bool, true, false, ◌&&◌, cond, List, [], ◌∷◌, Option, Some, None, filter, refl, sym, ap, ◌∙◌, subst, inl, inr, arith}
use Rattle.std.specs.Prelude.{find, nat_le, nat_lt}
use Rattle.std.proofs.lemmas.Bool.{cases_Bool, cases_lt, both_ways, false_from_ne_true, le-leb, ltb-true}
use Rattle.slot_core.specs.declared.jobs.Key.{Key}
use Rattle.slot_core.specs.declared.jobs.Key.TheVariants.{Soft as SoftKey}
use Rattle.slot_core.specs.declared.jobs.Job.{Job}
use Rattle.slot_core.specs.declared.jobs.SoftJob.{SoftJob}
use Rattle.slot_core.specs.declared.tasks.TaskSet.{TaskSet}
use Rattle.slot_core.specs.Runs.Choice.{ready}
use Rattle.slot_core.specs.Keeping.Kept.{KeepsBounds}
use Rattle.slot_core.specs.Offline.Keys.{is_offline, same_key}
use Rattle.slot_core.specs.Runs.Scenes.{Scene}
use Rattle.slot_facts.proofs.Choice.Earliest.{same_from_key}
use Rattle.slot_facts.proofs.Lists.ApartKeys.{IsApart-from_count, same_member-from_apart}
use Rattle.slot_facts.proofs.Lists.Members.{Has, Has-from_Contains, Contains-from_Has, Has-filter, Has-filter_passes}
use Rattle.slot_facts.proofs.Lists.Tests.{find-Some}
use Rattle.slot_facts.proofs.Offline.DistinctKeys.{IsApart}
use Rattle.slot_facts.proofs.Sets.Faults.{find-None}
use Rattle.scene_steps.specs.Ends.{started_of, ending_job, ending_soft}

-- a job that has started is ready: an offline one that starts later is whole, and any other has come
pub ready-from_started : (set : TaskSet) (cycle cycles : ℕ) (scene : Scene) (job : Job) → KeepsBounds set cycle cycles scene → Has scene.jobs job → job.left < job.declared → job.est ≤ scene.time
ready-from_started set cycle cycles scene job bounds at started =
    let listed = Contains-from_Has scene.jobs job at in
    let whole : Job = record job { left = job.declared } in
    elim (cases_Bool (is_offline job.key)) [
      | inl offline ↦ elim (cases_lt scene.time job.est) [
        | inl late ↦
            let remains = bounds.untouched whole (bounds.planned job listed offline) late in
            let same = same_member-from_apart (λ (j : Job). j.key) scene.jobs job whole (IsApart-from_count scene.jobs bounds.apart) at (Has-from_Contains scene.jobs whole remains) refl in
            absurd (omega (arith, ap (λ (j : Job). j.left) same))
        | inr come ↦ come
      ]
      | inr other ↦ (bounds.come job listed other).1
    ]

-- the test whether a job has started
abbrev pub has_run : Job → Bool
has_run job = nat_lt job.left job.declared

-- of the jobs that have started, the one of a key is the one that ends early
pub ending_job-started : (time : ℕ) (key : Key) (jobs : List Job) → IsApart (λ (j : Job). j.key) jobs → ((job : Job) → Has jobs job → job.left < job.declared → job.est ≤ time) → find (λ (j : Job). same_key j.key key) (filter has_run jobs) ≡ ending_job time key jobs
ending_job-started time key jobs apart come =
    let test = λ (j : Job). same_key j.key key in
    by_found (find test (filter has_run jobs)) (find test (ready time jobs)) refl refl
  where
    ready_too : (job : Job) → find (λ (j : Job). same_key j.key key) (filter has_run jobs) ≡ Some job → Has (ready time jobs) job × (same_key job.key key ≡ true) × (has_run job ≡ true)
    ready_too job e =
        let is = find-Some (λ (j : Job). same_key j.key key) (filter has_run jobs) job e in
        let at = Has-filter_passes has_run jobs job is.0 in
        let now = le-leb job.est time (come job at.0 (ltb-true job.left job.declared at.1)) in
        (Has-filter (λ (j : Job). nat_le j.est time) jobs job at.0 now, is.1, at.1)

    by_found : (started found : Option Job) → find (λ (j : Job). same_key j.key key) (filter has_run jobs) ≡ started → find (λ (j : Job). same_key j.key key) (ready time jobs) ≡ found → started ≡ started_of found
    by_found None None e f = refl
    by_found None (Some job) e f =
        let test = λ (j : Job). same_key j.key key in
        let found = find-Some test (ready time jobs) job f in
        let at = (Has-filter_passes (λ (j : Job). nat_le j.est time) jobs job found.0).0 in
        let rests = false_from_ne_true (has_run job) (λ ran. both_ways (test job) (find-None test (filter has_run jobs) job e (Has-filter has_run jobs job at ran)) found.1) in
        rw rests refl
    by_found (Some job) None e f =
        let test = λ (j : Job). same_key j.key key in
        let now = ready_too job e in
        absurd (both_ways (test job) (find-None test (ready time jobs) job f now.0) now.1)
    by_found (Some job) (Some other) e f =
        let test = λ (j : Job). same_key j.key key in
        let is = ready_too job e in
        let found = find-Some test (ready time jobs) other f in
        let at = Has-filter_passes (λ (j : Job). nat_le j.est time) jobs job is.0 in
        let at_other = Has-filter_passes (λ (j : Job). nat_le j.est time) jobs other found.0 in
        let one = same_member-from_apart (λ (j : Job). j.key) jobs other job apart at_other.0 at.0 (same_from_key other.key key found.1 ∙ sym (same_from_key job.key key is.1)) in
        let ran = is.2 in
        subst (λ (o : Job). Some job ≡ started_of (Some o)) (sym one) (rw ran refl)

-- the guaranteed job that ends early is one of the jobs, is ready and has started, and has the key that is named
pub ending_job-listed : (time : ℕ) (key : Key) (jobs : List Job) (job : Job) → ending_job time key jobs ≡ Some job → Has jobs job × (job.key ≡ key)
ending_job-listed time key jobs job e = by_found (find (λ (j : Job). same_key j.key key) (ready time jobs)) refl e
  where
    by_found : (found : Option Job) → find (λ (j : Job). same_key j.key key) (ready time jobs) ≡ found → started_of found ≡ Some job → Has jobs job × (job.key ≡ key)
    by_found None f e = absurd (cc e)
    by_found (Some other) f e = by_test (nat_lt other.left other.declared) e
      where
        by_test : (ran : Bool) → cond ran (Some other) None ≡ Some job → Has jobs job × (job.key ≡ key)
        by_test true e =
            let is : other ≡ job = cc e in
            let found = find-Some (λ (j : Job). same_key j.key key) (ready time jobs) other f in
            let at = (Has-filter_passes (λ (j : Job). nat_le j.est time) jobs other found.0).0 in
            subst (λ (o : Job). Has jobs o × (o.key ≡ key)) is (at, same_from_key other.key key found.1)
        by_test false e = absurd (cc e)

-- the soft job that ends early is the first, and its key is the one that is named
pub ending_soft-first : (key : Key) (soft : List SoftJob) (job : SoftJob) → ending_soft key soft ≡ Some job → (rest : List SoftJob) × (soft ≡ job ∷ rest) × (SoftKey job.row ≡ key)
ending_soft-first key [] job e = absurd (cc e)
ending_soft-first key (s ∷ soft) job e = by_tests (same_key (SoftKey s.row) key) (nat_lt s.left s.declared) refl e
  where
    by_tests : (same ran : Bool) → same_key (SoftKey s.row) key ≡ same → cond (same && ran) (Some s) None ≡ Some job → (rest : List SoftJob) × (s ∷ soft ≡ job ∷ rest) × (SoftKey job.row ≡ key)
    by_tests true true f e =
        let is : s ≡ job = cc e in
        (soft, ap (λ (o : SoftJob). o ∷ soft) is, ap (λ (o : SoftJob). SoftKey o.row) (sym is) ∙ same_from_key (SoftKey s.row) key f)
    by_tests true false f e = absurd (cc e)
    by_tests false ran f e = absurd (cc e)
