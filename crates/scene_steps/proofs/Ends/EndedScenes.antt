-- The scene after an early end: what is left of the parts is the scene without the job of its key.
use Rattle.std.proofs.Common.{◌≡◌, ℕ, Bool, true, false, not, cond, List, [], ◌∷◌, Option, Some, None, map, filter, drop, refl, sym, ap, ◌∙◌, subst, inl, inr, arith}
use Rattle.std.specs.Option.{option_map_or}
use Rattle.std.proofs.lemmas.Bool.{both_ways, false_from_ne_true, not_from_false}
use Rattle.slot_core.specs.declared.jobs.Key.{Key}
use Rattle.slot_core.specs.declared.jobs.Key.TheVariants.{Soft as SoftKey}
use Rattle.slot_core.specs.declared.jobs.Job.{Job}
use Rattle.slot_core.specs.declared.jobs.SoftJob.{SoftJob}
use Rattle.slot_core.specs.declared.tasks.TaskSet.{TaskSet}
use Rattle.slot_core.specs.declared.events.What.TheVariants.{Done}
use Rattle.slot_core.specs.Offline.Keys.{is_soft, row_of, same_key}
use Rattle.slot_core.specs.Runs.Rising.{AreRising}
use Rattle.slot_core.specs.Runs.Scenes.{Scene}
use Rattle.slot_facts.proofs.Choice.Earliest.{same_from_key}
use Rattle.slot_facts.proofs.Lists.Apart.{above-from_rising}
use Rattle.slot_facts.proofs.Lists.ApartKeys.{same_key-itself}
use Rattle.slot_facts.proofs.Lists.Members.{Has, Has-map}
use Rattle.scene_steps.specs.Ends.{ending_job, ending_soft, freed, jobs_left, soft_left}
use Rattle.scene_steps.specs.Steps.{scene_after}
use Rattle.scene_steps.proofs.Ends.EndAnswers.{freed_of, freed_of_soft}
use Rattle.scene_steps.proofs.Ends.Started.{ending_soft-first}

-- what an early end leaves of a scene
abbrev pub ended : Key → Scene → Scene
ended key scene = record scene {
  jobs = cond (is_soft key) scene.jobs (jobs_left scene.time key scene.jobs);
  soft = cond (is_soft key) (soft_left key scene.soft) scene.soft;
}

-- a filter that all pass leaves the list
pub filter_passed : {X : Type 0} (p : X → Bool) (xs : List X) → ((x : X) → Has xs x → p x ≡ true) → filter p xs ≡ xs
filter_passed p [] passes = refl
filter_passed p (x ∷ xs) passes =
    rw (passes x (inl refl)) (ap (λ ys. x ∷ ys) (filter_passed p xs (λ y at. passes y (inr at))))

-- without a soft key all guaranteed jobs stay
jobs-without_soft : (key : Key) (jobs : List Job) → is_soft key ≡ true → ((job : Job) → Has jobs job → is_soft job.key ≡ false) → filter (λ (j : Job). not (same_key j.key key)) jobs ≡ jobs
jobs-without_soft key jobs soft hard =
    filter_passed (λ (j : Job). not (same_key j.key key)) jobs
    (λ j at. not_from_false (same_key j.key key) (false_from_ne_true (same_key j.key key) (λ same. both_ways (is_soft j.key) (hard j at) (ap is_soft (same_from_key j.key key same) ∙ soft))))

-- without a key that is not soft all soft jobs stay
pub soft-without_guaranteed : (key : Key) (soft : List SoftJob) → is_soft key ≡ false → filter (λ (s : SoftJob). not (same_key (SoftKey s.row) key)) soft ≡ soft
soft-without_guaranteed key soft hard =
    filter_passed (λ (s : SoftJob). not (same_key (SoftKey s.row) key)) soft
    (λ s at. not_from_false (same_key (SoftKey s.row) key) (false_from_ne_true (same_key (SoftKey s.row) key) (λ same. both_ways (is_soft key) hard (ap is_soft (sym (same_from_key (SoftKey s.row) key same))))))

-- without the first of soft jobs in order of rows, the others stay
soft-without_first : (first : SoftJob) (rest : List SoftJob) → AreRising 0 (map (λ (s : SoftJob). s.row) (first ∷ rest)) → filter (λ (s : SoftJob). not (same_key (SoftKey s.row) (SoftKey first.row))) (first ∷ rest) ≡ rest
soft-without_first first rest rising =
    let itself = same_key-itself (SoftKey first.row) (SoftKey first.row) refl in
    let above = λ (s : SoftJob) (at : Has rest s).
    above-from_rising first.row (map (λ (s : SoftJob). s.row) rest) s.row rising.1 (Has-map (λ (s : SoftJob). s.row) rest s at) in
    let others = filter_passed (λ (s : SoftJob). not (same_key (SoftKey s.row) (SoftKey first.row))) rest (λ s at.
    not_from_false (same_key (SoftKey s.row) (SoftKey first.row)) (false_from_ne_true (same_key (SoftKey s.row) (SoftKey first.row)) (λ same. absurd (omega (arith, above s at, ap row_of (same_from_key (SoftKey s.row) (SoftKey first.row) same)))))) in
    rw itself others

-- without it the soft jobs are those after the first
soft-without_ended : (key : Key) (soft : List SoftJob) (job : SoftJob) → AreRising 0 (map (λ (s : SoftJob). s.row) soft) → ending_soft key soft ≡ Some job → filter (λ (s : SoftJob). not (same_key (SoftKey s.row) key)) soft ≡ drop 1 soft
soft-without_ended key soft job rising e =
    let first = ending_soft-first key soft job e in
    let rises = subst (λ ss. AreRising 0 (map (λ (s : SoftJob). s.row) ss)) first.1 rising in
    subst
    (λ ss. filter (λ (s : SoftJob). not (same_key (SoftKey s.row) key)) ss ≡ drop 1 ss)
    (sym first.1)
    (subst
    (λ k. filter (λ (s : SoftJob). not (same_key (SoftKey s.row) k)) (job ∷ first.0) ≡ first.0)
    first.2
    (soft-without_first job first.0 rises))

-- where the keys are apart, the step after an early end leaves what the end leaves
pub scene_after-ended : (set : TaskSet) (cycle row : ℕ) (key : Key) (scene : Scene) → AreRising 0 (map (λ (s : SoftJob). s.row) scene.soft) → ((job : Job) → Has scene.jobs job → is_soft job.key ≡ false) → scene_after set cycle (Done row key (freed scene.time key scene.jobs scene.soft)) scene ≡ ended key scene
scene_after-ended set cycle row key scene rising hard = by_kind (is_soft key) refl
  where
    by_soft : (o : Option SoftJob) → is_soft key ≡ true → ending_soft key scene.soft ≡ o → scene_after set cycle (Done row key (freed_of_soft o)) scene ≡ record scene { soft = option_map_or (λ (s : SoftJob). drop 1 scene.soft) o scene.soft }
    by_soft None soft e = refl
    by_soft (Some s) soft e =
        let jobs = jobs-without_soft key scene.jobs soft hard in
        let left = soft-without_ended key scene.soft s rising e in
        λ i. record scene { jobs = jobs i; soft = left i }

    by_job : (o : Option Job) → is_soft key ≡ false → scene_after set cycle (Done row key (freed_of o)) scene ≡ record scene { jobs = option_map_or (λ (ended : Job). filter (λ (j : Job). not (same_key j.key key)) scene.jobs) o scene.jobs }
    by_job None hard_key = refl
    by_job (Some j) hard_key =
        let soft = soft-without_guaranteed key scene.soft hard_key in
        λ i. record scene { jobs = filter (λ (j : Job). not (same_key j.key key)) scene.jobs; soft = soft i }

    by_kind : (soft : Bool) → is_soft key ≡ soft → scene_after set cycle (Done row key (cond soft (freed_of_soft (ending_soft key scene.soft)) (freed_of (ending_job scene.time key scene.jobs)))) scene ≡ record scene { jobs = cond soft scene.jobs (jobs_left scene.time key scene.jobs); soft = cond soft (soft_left key scene.soft) scene.soft }
    by_kind true soft = by_soft (ending_soft key scene.soft) soft refl
    by_kind false hard_key = by_job (ending_job scene.time key scene.jobs) hard_key
