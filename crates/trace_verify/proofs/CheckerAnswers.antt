-- The answers of a checker, which keeps the sporadic tasks without their names.
use Rattle.std.proofs.Common.{◌≡◌, ℕ, ◌+◌, ◌-◌, Bool, true, false, ◌&&◌, cond, ◌==◌, List, [], ◌∷◌, map, filter, Option, Some, None, refl, sym, ap, ap₂, ◌∙◌}
use Rattle.std.specs.Prelude.{find, nat_lt, option_map}
use Rattle.std.specs.List.{range_with_len}
use Rattle.std.specs.Option.{option_map_or, option_or}
use Rattle.std.proofs.lemmas.List.Folds.{find-append}
use Rattle.slot_core.specs.declared.jobs.Key.{Key}
use Rattle.slot_core.specs.declared.jobs.Key.TheVariants.{Soft as SoftKey}
use Rattle.slot_core.specs.declared.jobs.Job.{Job}
use Rattle.slot_core.specs.declared.jobs.SoftJob.{SoftJob}
use Rattle.slot_core.specs.declared.tasks.Sporadic.{Sporadic}
use Rattle.slot_core.specs.declared.tasks.TaskSet.{TaskSet}
use Rattle.slot_core.specs.declared.events.Firm.{Firm as FirmAnswer}
use Rattle.slot_core.specs.declared.events.Firm.TheVariants.{Accepted, Late, Far, NoRoom}
use Rattle.slot_core.specs.declared.events.What.TheVariants.{Firm as FirmEntry}
use Rattle.slot_core.specs.Feasibility.Sporadics.{sporadic_demand}
use Rattle.slot_core.specs.Offline.Keys.{same_key}
use Rattle.slot_core.specs.Runs.Answers.{firm_answer, started_jobs}
use Rattle.slot_core.specs.Runs.Demand.{work_by}
use Rattle.slot_core.specs.Runs.Matches.{IsSameScene}
use Rattle.slot_core.specs.Runs.Scenes.{Scene, horizon}
use Rattle.sporadic_reserve.specs.Reserves.{without_name}
use Rattle.sporadic_reserve.proofs.Demands.{sporadic_demand-without_name}
use Rattle.scene_steps.specs.Steps.{scene_after}
use Rattle.scene_steps.proofs.Same.SameScenes.{same_scene-refl}
use Rattle.scene_steps.proofs.Same.SameSearches.{find-map}
use Rattle.trace_verify.specs.Checked.{Checked}
use Rattle.trace_verify.specs.Offers.{offer_scene}

-- the answer to a firm offer, by what sporadic arrivals need
abbrev answer_by : ℕ → Scene → ℕ → ℕ → (ℕ → ℕ) → FirmAnswer
answer_by cycle scene slots within demand =
    cond (within == 0) Late (cond (nat_lt cycle within) Far (option_map_or (λ x. NoRoom (record { until = x; need = slots + (work_by scene.jobs x + demand x); room = x - scene.time })) (find (λ x. nat_lt (x - scene.time) (slots + (work_by scene.jobs x + demand x))) (range_with_len (scene.time + within) (horizon cycle scene.time + 1 - (scene.time + within)))) Accepted))

-- no name counts in it
pub firm_answer-without_name : (sporadics : List Sporadic) (cycle : ℕ) (scene : Scene) (slots within : ℕ) → firm_answer (map without_name sporadics) cycle scene slots within ≡ firm_answer sporadics cycle scene slots within
firm_answer-without_name sporadics cycle scene slots within =
    let same : sporadic_demand (map without_name sporadics) scene.nexts scene.time ≡ sporadic_demand sporadics scene.nexts scene.time = λ i x. sporadic_demand-without_name sporadics scene.nexts scene.time x i in
    ap (answer_by cycle scene slots within) same

-- a search among those that pass a test
find-filter : {X : Type 0} (p test : X → Bool) (xs : List X) → find p (filter test xs) ≡ find (λ x. test x && p x) xs
find-filter p test [] = refl
find-filter {X} p test (x ∷ xs) = by_test (test x) (find-filter p test xs)
  where
    by_test : (b : Bool) → find p (filter test xs) ≡ find (λ x. test x && p x) xs → find p (cond b (x ∷ filter test xs) (filter test xs)) ≡ cond (b && p x) (Some x) (find (λ x. test x && p x) xs)
    by_test true rest = ap (λ (o : Option X). cond (p x) (Some x) o) rest
    by_test false rest = rest

-- what a value of a pair that was found is
second : {X Y Z : Type 0} (f : X → Y × Z) (o : Option X) → option_map (λ (y : Y × Z). y.1) (option_map f o) ≡ option_map (λ x. (f x).1) o
second f None = refl
second f (Some x) = refl

-- the second of the pairs of those that pass a test, by the test and one of the pair
found-second : {X : Type 0} (f : X → Key × ℕ) (test : X → Bool) (p : Key × ℕ → Bool) (xs : List X) → option_map (λ (y : Key × ℕ). y.1) (find p (map f (filter test xs))) ≡ option_map (λ x. (f x).1) (find (λ x. test x && p (f x)) xs)
found-second f test p xs =
    ap (option_map (λ (y : Key × ℕ). y.1)) (find-map p f (filter test xs) ∙ ap (option_map f) (find-filter (λ x. p (f x)) test xs))
    ∙ second f (find (λ x. test x && p (f x)) xs)

-- the slots left of the job of this key that has started
abbrev started_job : Key → List Job → Option ℕ
started_job key jobs =
    option_map (λ (j : Job). j.left) (find (λ (j : Job). nat_lt j.left j.declared && same_key j.key key) jobs)

abbrev started_soft : Key → List SoftJob → Option ℕ
started_soft key soft =
    option_map (λ (s : SoftJob). s.left) (find (λ (s : SoftJob). nat_lt s.left s.declared && same_key (SoftKey s.row) key) soft)

-- they are those of a guaranteed job, or else of a soft one
pub started-either : (key : Key) (scene : Scene) → option_map (λ (j : Key × ℕ). j.1) (find (λ (j : Key × ℕ). same_key j.0 key) (started_jobs scene)) ≡ option_or (started_job key scene.jobs) (started_soft key scene.soft)
started-either key scene =
    let test = λ (j : Key × ℕ). same_key j.0 key in
    let jobs = map (λ (j : Job). (j.key, j.left)) (filter (λ (j : Job). nat_lt j.left j.declared) scene.jobs) in
    let soft = map (λ (s : SoftJob). (SoftKey s.row, s.left)) (filter (λ (s : SoftJob). nat_lt s.left s.declared) scene.soft) in
    ap (option_map (λ (j : Key × ℕ). j.1)) (find-append test jobs soft)
    ∙ map-or (find test jobs) (find test soft)
    ∙ ap₂ option_or
    (found-second (λ (j : Job). (j.key, j.left)) (λ (j : Job). nat_lt j.left j.declared) test scene.jobs)
    (found-second (λ (s : SoftJob). (SoftKey s.row, s.left)) (λ (s : SoftJob). nat_lt s.left s.declared) test scene.soft)
  where
    map-or : (a b : Option (Key × ℕ)) → option_map (λ (j : Key × ℕ). j.1) (option_or a b) ≡ option_or (option_map (λ (j : Key × ℕ). j.1) a) (option_map (λ (j : Key × ℕ). j.1) b)
    map-or None b = refl
    map-or (Some j) b = refl

-- so what is told of an offer in the parts of a checker is its answer
pub offer-told : (sporadics : List Sporadic) (now own : Checked) (jobs : List Job) (cycle whole slots within : ℕ) (told : FirmAnswer) → now ≡ own → jobs ≡ own.scene.jobs → cycle ≡ whole → now.sporadics ≡ map without_name sporadics → told ≡ firm_answer own.sporadics cycle (offer_scene own.scene.time jobs own.scene.nexts) slots within → told ≡ firm_answer sporadics whole now.scene slots within
offer-told sporadics now own jobs cycle whole slots within told is listed of_plan tasks answered =
    let named = ap (λ (k : Checked). k.sporadics) (sym is) ∙ tasks in
    answered
    ∙ ap (λ (js : List Job). firm_answer own.sporadics cycle (offer_scene own.scene.time js own.scene.nexts) slots within) listed
    ∙ ap (λ (ss : List Sporadic). firm_answer ss cycle own.scene slots within) named
    ∙ firm_answer-without_name sporadics cycle own.scene slots within
    ∙ ap₂ (λ (n : ℕ) (k : Checked). firm_answer sporadics n k.scene slots within) of_plan (sym is)

-- an offer that is not accepted leaves the scene
pub firm-stays : (set : TaskSet) (cycle row slots within : ℕ) (told : FirmAnswer) (scene : Scene) → (told ≡ Accepted → ⊥) → IsSameScene scene (scene_after set cycle (FirmEntry row slots within told) scene)
firm-stays set cycle row slots within Accepted scene other = absurd (other refl)
firm-stays set cycle row slots within Late scene other = same_scene-refl scene
firm-stays set cycle row slots within Far scene other = same_scene-refl scene
firm-stays set cycle row slots within (NoRoom evidence) scene other = same_scene-refl scene

-- the slots left of a guaranteed job that has started are those that are asked for
pub started-found : (key : Key) (now own : Checked) (jobs : List Job) (found : Option ℕ) (left : ℕ) → now ≡ own → jobs ≡ own.scene.jobs → found ≡ started_job key jobs → found ≡ Some left → ◌≡◌ {A = Option ℕ} (Some left) (option_map (λ (j : Key × ℕ). j.1) (find (λ (j : Key × ℕ). same_key j.0 key) (started_jobs now.scene)))
started-found key now own jobs found left is listed searched some =
    let here = ap (started_job key) (ap (λ (k : Checked). k.scene.jobs) is ∙ sym listed) ∙ sym searched ∙ some in
    sym (started-either key now.scene ∙ ap (λ (o : Option ℕ). option_or o (started_soft key now.scene.soft)) here)

-- and where there is none, those of a soft one
pub started-other : (key : Key) (now own : Checked) (jobs : List Job) (soft : List SoftJob) (found result : Option ℕ) → now ≡ own → jobs ≡ own.scene.jobs → soft ≡ own.scene.soft → found ≡ started_job key jobs → found ≡ None → result ≡ started_soft key soft → result ≡ option_map (λ (j : Key × ℕ). j.1) (find (λ (j : Key × ℕ). same_key j.0 key) (started_jobs now.scene))
started-other key now own jobs soft found result is listed waiting searched none told =
    let here = ap (started_job key) (ap (λ (k : Checked). k.scene.jobs) is ∙ sym listed) ∙ sym searched ∙ none in
    let own_soft = waiting ∙ sym (ap (λ (k : Checked). k.scene.soft) is) in
    told ∙ ap (started_soft key) own_soft ∙ sym (started-either key now.scene ∙ ap (λ (o : Option ℕ). option_or o (started_soft key now.scene.soft)) here)
