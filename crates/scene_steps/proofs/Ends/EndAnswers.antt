-- What is answered to an early end: the slots that the job of its key has left, where it has started.
use Rattle.std.proofs.Common.{◌≡◌, ℕ, ◌+◌, ◌/◌, ◌<◌, ◌≤◌, Bool, true, false, cond, List, [], ◌∷◌, Option, Some, None, map, filter, refl, sym, ap, ◌∙◌, subst, arith}
use Rattle.std.specs.Prelude.{find, nat_lt, option_map}
use Rattle.std.specs.List.{AllByRecursion}
use Rattle.std.specs.Option.{option_map_or, option_or}
use Rattle.std.proofs.lemmas.Bool.{both_ways, false_from_ne_true, le-ltb}
use Rattle.std.proofs.lemmas.List.Elements.{recursion_from_All}
use Rattle.std.proofs.lemmas.List.Folds.{find-append}
use Rattle.slot_core.specs.declared.jobs.Key.{Key}
use Rattle.slot_core.specs.declared.jobs.Key.TheVariants.{Soft as SoftKey}
use Rattle.slot_core.specs.declared.jobs.Job.{Job}
use Rattle.slot_core.specs.declared.jobs.SoftJob.{SoftJob}
use Rattle.slot_core.specs.declared.events.Done.{Done as DoneAnswer}
use Rattle.slot_core.specs.declared.events.Done.TheVariants.{Freed, NotRunning}
use Rattle.slot_core.specs.Runs.Answers.{done_answer}
use Rattle.slot_core.specs.Keeping.Executives.{Executive, StandsForSome}
use Rattle.slot_core.specs.Keeping.Kept.{KeepsSoftOrder}
use Rattle.slot_core.specs.Offline.Keys.{is_soft, same_key}
use Rattle.slot_core.specs.Keeping.Plans.{IsPlan}
use Rattle.slot_core.specs.Runs.Scenes.{Scene}
use Rattle.slot_facts.proofs.Choice.Earliest.{same_from_key}
use Rattle.slot_facts.proofs.Legal.Executives.{every_executive_is_kept}
use Rattle.slot_facts.proofs.Lists.ApartKeys.{IsApart-from_count}
use Rattle.slot_facts.proofs.Lists.Members.{Has, Contains-from_Has, Has-filter_passes}
use Rattle.slot_facts.proofs.Lists.Tests.{None-from_fails}
use Rattle.scene_steps.specs.Ends.{ending_job, ending_soft, freed}
use Rattle.scene_steps.proofs.Ends.Started.{has_run, ready-from_started, ending_job-listed, ending_job-started, ending_soft-first}
use Rattle.scene_steps.proofs.Facts.SoftRuns.{soft-have_left}
use Rattle.scene_steps.proofs.Same.SameSearches.{find-map}
use Rattle.scene_steps.proofs.Slots.Chosen.{listed-not_soft}

-- the test whether a soft job has started
abbrev pub soft_has_run : SoftJob → Bool
soft_has_run s = nat_lt s.left s.declared

-- the answer where this guaranteed job ends, or none does
abbrev pub freed_of : Option Job → DoneAnswer
freed_of job = option_map_or (λ (j : Job). Freed j.left) job NotRunning

-- the answer where this soft job ends, or none does
abbrev pub freed_of_soft : Option SoftJob → DoneAnswer
freed_of_soft job = option_map_or (λ (s : SoftJob). Freed s.left) job NotRunning

-- the answer is that of the guaranteed job of the key that has started, else that of the soft job
done_answer-parts : (scene : Scene) (key : Key) → done_answer scene key ≡ option_map_or (λ (j : Key × ℕ). Freed j.1) (option_or (option_map (λ (j : Job). (j.key, j.left)) (find (λ (j : Job). same_key j.key key) (filter has_run scene.jobs))) (option_map (λ (s : SoftJob). (SoftKey s.row, s.left)) (find (λ (s : SoftJob). same_key (SoftKey s.row) key) (filter soft_has_run scene.soft)))) NotRunning
done_answer-parts scene key =
    let has_key = λ (j : Key × ℕ). same_key j.0 key in
    let shown : Job → Key × ℕ = λ (j : Job). (j.key, j.left) in
    let shown_soft : SoftJob → Key × ℕ = λ (s : SoftJob). (SoftKey s.row, s.left) in
    let jobs = find-map has_key shown (filter has_run scene.jobs) in
    let soft = find-map has_key shown_soft (filter soft_has_run scene.soft) in
    let both = find-append has_key (map shown (filter has_run scene.jobs)) (map shown_soft (filter soft_has_run scene.soft)) in
    ap (λ o. option_map_or (λ (j : Key × ℕ). Freed j.1) o NotRunning) (both ∙ (λ i. option_or (jobs i) (soft i)))

-- no soft job has a key that is not soft
no_soft_job : (key : Key) (soft : List SoftJob) → is_soft key ≡ false → find (λ (s : SoftJob). same_key (SoftKey s.row) key) soft ≡ None
no_soft_job key soft hard =
    None-from_fails (λ (s : SoftJob). same_key (SoftKey s.row) key) soft
    (λ s at. false_from_ne_true (same_key (SoftKey s.row) key) (λ same. both_ways (is_soft key) hard (ap is_soft (sym (same_from_key (SoftKey s.row) key same)))))

-- so for such a key it is the answer of the guaranteed job
done_answer-guaranteed : (scene : Scene) (key : Key) → is_soft key ≡ false → done_answer scene key ≡ freed_of (find (λ (j : Job). same_key j.key key) (filter has_run scene.jobs))
done_answer-guaranteed scene key hard =
    let none = no_soft_job key (filter soft_has_run scene.soft) hard in
    done_answer-parts scene key
    ∙ ap (λ o. option_map_or (λ (j : Key × ℕ). Freed j.1) (option_or (option_map (λ (j : Job). (j.key, j.left)) (find (λ (j : Job). same_key j.key key) (filter has_run scene.jobs))) (option_map (λ (s : SoftJob). (SoftKey s.row, s.left)) o)) NotRunning) none
    ∙ by_job (find (λ (j : Job). same_key j.key key) (filter has_run scene.jobs))
  where
    by_job : (o : Option Job) → option_map_or (λ (j : Key × ℕ). Freed j.1) (option_or (option_map (λ (j : Job). (j.key, j.left)) o) None) NotRunning ≡ freed_of o
    by_job None = refl
    by_job (Some j) = refl

-- no guaranteed job has a soft key
no_guaranteed_job : (key : Key) (jobs : List Job) → is_soft key ≡ true → ((job : Job) → Has jobs job → is_soft job.key ≡ false) → find (λ (j : Job). same_key j.key key) jobs ≡ None
no_guaranteed_job key jobs soft hard =
    None-from_fails (λ (j : Job). same_key j.key key) jobs
    (λ j at. false_from_ne_true (same_key j.key key) (λ same. both_ways (is_soft j.key) (hard j at) (ap is_soft (same_from_key j.key key same) ∙ soft)))

-- so for such a key it is the answer of the soft job
done_answer-soft : (scene : Scene) (key : Key) → is_soft key ≡ true → ((job : Job) → Has scene.jobs job → is_soft job.key ≡ false) → done_answer scene key ≡ freed_of_soft (find (λ (s : SoftJob). same_key (SoftKey s.row) key) (filter soft_has_run scene.soft))
done_answer-soft scene key soft hard =
    let none = no_guaranteed_job key (filter has_run scene.jobs) soft (λ j at. hard j (Has-filter_passes has_run scene.jobs j at).0) in
    done_answer-parts scene key
    ∙ ap (λ o. option_map_or (λ (j : Key × ℕ). Freed j.1) (option_or (option_map (λ (j : Job). (j.key, j.left)) o) (option_map (λ (s : SoftJob). (SoftKey s.row, s.left)) (find (λ (s : SoftJob). same_key (SoftKey s.row) key) (filter soft_has_run scene.soft)))) NotRunning) none
    ∙ by_job (find (λ (s : SoftJob). same_key (SoftKey s.row) key) (filter soft_has_run scene.soft))
  where
    by_job : (o : Option SoftJob) → option_map_or (λ (j : Key × ℕ). Freed j.1) (option_or None (option_map (λ (s : SoftJob). (SoftKey s.row, s.left)) o)) NotRunning ≡ freed_of_soft o
    by_job None = refl
    by_job (Some s) = refl

-- of whole soft jobs none has started
none_has_run : (soft : List SoftJob) → AllByRecursion (λ (s : SoftJob). s.left ≡ s.declared) soft → filter soft_has_run soft ≡ []
none_has_run [] whole = refl
none_has_run (s ∷ soft) whole =
    let rests : nat_lt s.left s.declared ≡ false = le-ltb s.left s.declared (omega (arith, whole.0)) in
    rw rests (none_has_run soft whole.1)

-- where only the first soft job may have started, the one of a key that has started is the one that ends early
ending_soft-started : (limit : ℕ) (key : Key) (soft : List SoftJob) → KeepsSoftOrder limit soft → find (λ (s : SoftJob). same_key (SoftKey s.row) key) (filter soft_has_run soft) ≡ ending_soft key soft
ending_soft-started limit key [] kept = refl
ending_soft-started limit key (s ∷ soft) kept =
    let rest = none_has_run soft (recursion_from_All (λ (s : SoftJob). s.left ≡ s.declared) soft kept.whole) in
    by_tests (soft_has_run s) (same_key (SoftKey s.row) key) refl refl rest
  where
    by_tests : (ran same : Bool) → soft_has_run s ≡ ran → same_key (SoftKey s.row) key ≡ same → filter soft_has_run soft ≡ [] → find (λ (s : SoftJob). same_key (SoftKey s.row) key) (filter soft_has_run (s ∷ soft)) ≡ ending_soft key (s ∷ soft)
    by_tests true true e f rest = rw (e, f) refl
    by_tests true false e f rest = rw (e, f, rest) refl
    by_tests false true e f rest = rw (e, f, rest) refl
    by_tests false false e f rest = rw (e, f, rest) refl

-- an executive answers what an early end frees
pub done_answer-freed : (exec : Executive) (key : Key) → IsPlan exec.plan → StandsForSome exec → done_answer exec.scene key ≡ freed exec.scene.time key exec.scene.jobs exec.scene.soft
done_answer-freed exec key plan stands = by_kind (is_soft key) refl
  where
    by_kind : (soft : Bool) → is_soft key ≡ soft → done_answer exec.scene key ≡ cond soft (freed_of_soft (ending_soft key exec.scene.soft)) (freed_of (ending_job exec.scene.time key exec.scene.jobs))
    by_kind true soft =
        let set = exec.plan.tasks in
        let scene = exec.scene in
        let kept = every_executive_is_kept exec plan stands in
        done_answer-soft scene key soft (λ job at. listed-not_soft exec job plan stands at) ∙ ap freed_of_soft (ending_soft-started set.soft_limit key scene.soft kept.soft)
    by_kind false hard =
        let set = exec.plan.tasks in
        let scene = exec.scene in
        let bounds = (every_executive_is_kept exec plan stands).bounds in
        let come = λ (job : Job) (at : Has scene.jobs job) (started : job.left < job.declared). ready-from_started set exec.plan.cycle (scene.time / exec.plan.cycle + 3) scene job bounds at started in
        done_answer-guaranteed scene key hard ∙ ap freed_of (ending_job-started scene.time key scene.jobs (IsApart-from_count scene.jobs bounds.apart) come)

-- where a job that ends has a slot left, at least one is freed
freed_of-some : (o : Option Job) (n : ℕ) → ((job : Job) → o ≡ Some job → 1 ≤ job.left) → freed_of o ≡ Freed n → 1 ≤ n
freed_of-some None n some e = absurd (cc e)
freed_of-some (Some job) n some e =
    let is : job.left ≡ n = cc e in
    subst (λ k. 1 ≤ k) is (some job refl)

-- and where a soft job that ends has one
freed_of_soft-some : (o : Option SoftJob) (n : ℕ) → ((job : SoftJob) → o ≡ Some job → 1 ≤ job.left) → freed_of_soft o ≡ Freed n → 1 ≤ n
freed_of_soft-some None n some e = absurd (cc e)
freed_of_soft-some (Some job) n some e =
    let is : job.left ≡ n = cc e in
    subst (λ k. 1 ≤ k) is (some job refl)

-- so an early end frees at least one slot
pub freed-some : (exec : Executive) (key : Key) (n : ℕ) → IsPlan exec.plan → StandsForSome exec → freed exec.scene.time key exec.scene.jobs exec.scene.soft ≡ Freed n → 1 ≤ n
freed-some exec key n plan stands = by_kind (is_soft key)
  where
    by_kind : (soft : Bool) → cond soft (freed_of_soft (ending_soft key exec.scene.soft)) (freed_of (ending_job exec.scene.time key exec.scene.jobs)) ≡ Freed n → 1 ≤ n
    by_kind true =
        let kept = every_executive_is_kept exec plan stands in
        freed_of_soft-some (ending_soft key exec.scene.soft) n (λ job e.
        let first = ending_soft-first key exec.scene.soft job e in
        let some = recursion_from_All (λ (s : SoftJob). 1 ≤ s.left) exec.scene.soft (soft-have_left exec.plan.tasks.soft_limit exec.scene.soft kept.soft) in
        (subst (λ ss. AllByRecursion (λ (s : SoftJob). 1 ≤ s.left) ss) first.1 some).0)
    by_kind false =
        let kept = every_executive_is_kept exec plan stands in
        freed_of-some (ending_job exec.scene.time key exec.scene.jobs) n (λ job e.
        let at = (ending_job-listed exec.scene.time key exec.scene.jobs job e).0 in
        (kept.bounds.left job (Contains-from_Has exec.scene.jobs job at)).1)
