-- In scenes that are the same, and whose keys are apart, arrivals are answered in the same way.
use Rattle.std.proofs.Common.{◌≡◌, ℕ, ◌+◌, ◌==◌, cond, List, map, filter, length, ap, sym, ◌∙◌}
use Rattle.std.specs.Prelude.{find, nat_lt, slice_index, option_map}
use Rattle.std.specs.Option.{option_map_or, option_or}
use Rattle.std.proofs.lemmas.List.Folds.{find-append}
use Rattle.slot_core.specs.declared.jobs.Key.{Key}
use Rattle.slot_core.specs.declared.jobs.Key.TheVariants.{Soft as SoftKey, Firm as FirmKey}
use Rattle.slot_core.specs.declared.jobs.Job.{Job}
use Rattle.slot_core.specs.declared.jobs.SoftJob.{SoftJob}
use Rattle.slot_core.specs.declared.tasks.Sporadic.{Sporadic}
use Rattle.slot_core.specs.declared.tasks.TaskSet.{TaskSet}
use Rattle.slot_core.specs.declared.events.Event.{Event}
use Rattle.slot_core.specs.declared.events.Event.TheVariants.{Soft, Firm, Sporadic as SporadicEvent, Done, Withdraw}
use Rattle.slot_core.specs.declared.events.What.TheVariants.{Soft as SoftEntry, Firm as FirmEntry, Sporadic as SporadicEntry, Done as DoneEntry, Withdraw as WithdrawEntry}
use Rattle.slot_core.specs.declared.events.Soft.TheVariants.{Taken as SoftTaken, Full}
use Rattle.slot_core.specs.declared.events.Firm.TheVariants.{Accepted, Late, Far, NoRoom}
use Rattle.slot_core.specs.declared.events.Spo.TheVariants.{Taken as SporadicTaken, Soon}
use Rattle.slot_core.specs.declared.events.Done.TheVariants.{Freed, NotRunning}
use Rattle.slot_core.specs.declared.events.Gone.TheVariants.{Freed as GoneFreed, NoJob}
use Rattle.slot_core.specs.Runs.Answers.{soft_answer, firm_answer, relative_deadline, sporadic_answer, started_jobs, done_answer, withdraw_answer, answer}
use Rattle.slot_core.specs.Keeping.Kept.{AreApart}
use Rattle.slot_core.specs.Offline.Keys.{same_key}
use Rattle.slot_core.specs.Runs.Matches.{HaveSameItems, IsSameScene}
use Rattle.slot_core.specs.Runs.Scenes.{Scene}
use Rattle.slot_facts.proofs.Lists.Apart.{IsApart-filter}
use Rattle.slot_facts.proofs.Lists.ApartKeys.{IsApart-from_count}
use Rattle.slot_facts.proofs.Lists.SameItems.{same-filter}
use Rattle.scene_steps.proofs.Same.SameNeeds.{first_overload-same, evidence_at-same}
use Rattle.scene_steps.proofs.Same.SameSearches.{find-key, find-map}

-- soft work
soft_answer-same : (limit : ℕ) (a b : Scene) → IsSameScene a b → soft_answer limit a ≡ soft_answer limit b
soft_answer-same limit a b same =
    ap (λ (soft : List SoftJob). cond (length soft == limit) (Full limit) SoftTaken) same.soft

-- a firm offer
firm_answer-same : (sporadics : List Sporadic) (cycle : ℕ) (a b : Scene) (slots within : ℕ) → IsSameScene a b → firm_answer sporadics cycle a slots within ≡ firm_answer sporadics cycle b slots within
firm_answer-same sporadics cycle a b slots within same =
    let over = first_overload-same sporadics cycle a b slots within same in
    let evidence = λ (x : ℕ). evidence_at-same sporadics a b slots x same in
    λ i. cond (within == 0) Late (cond (nat_lt cycle within) Far (option_map_or (λ x. NoRoom (evidence x i)) (over i) Accepted))

-- a sporadic arrival
sporadic_answer-same : (sporadics : List Sporadic) (a b : Scene) (index : ℕ) → IsSameScene a b → sporadic_answer sporadics a index ≡ sporadic_answer sporadics b index
sporadic_answer-same sporadics a b index same =
    λ i. cond (nat_lt (same.time i) (slice_index (same.nexts i) index)) (Soon (slice_index (same.nexts i) index)) (SporadicTaken (same.time i + relative_deadline sporadics index))

-- the guaranteed job of a key that has started
started_job-same : (xs ys : List Job) (key : Key) → AreApart xs → HaveSameItems xs ys → find (λ (j : Key × ℕ). same_key j.0 key) (map (λ (j : Job). (j.key, j.left)) (filter (λ (j : Job). nat_lt j.left j.declared) xs)) ≡ find (λ (j : Key × ℕ). same_key j.0 key) (map (λ (j : Job). (j.key, j.left)) (filter (λ (j : Job). nat_lt j.left j.declared) ys))
started_job-same xs ys key apart same =
    let shown : Job → Key × ℕ = λ (j : Job). (j.key, j.left) in
    let has_key = λ (j : Key × ℕ). same_key j.0 key in
    let started = λ (j : Job). nat_lt j.left j.declared in
    let found = find-key key (filter started xs) (filter started ys) (IsApart-filter (λ (j : Job). j.key) started xs (IsApart-from_count xs apart)) (same-filter started xs ys same) in
    find-map has_key shown (filter started xs) ∙ (ap (option_map shown) found ∙ sym (find-map has_key shown (filter started ys)))

-- an early end
done_answer-same : (a b : Scene) (key : Key) → AreApart a.jobs → IsSameScene a b → done_answer a key ≡ done_answer b key
done_answer-same a b key apart same =
    let has_key = λ (j : Key × ℕ). same_key j.0 key in
    let jobs : List Job → List (Key × ℕ) = λ xs. map (λ (j : Job). (j.key, j.left)) (filter (λ (j : Job). nat_lt j.left j.declared) xs) in
    let soft : List SoftJob → List (Key × ℕ) = λ xs. map (λ (s : SoftJob). (SoftKey s.row, s.left)) (filter (λ (s : SoftJob). nat_lt s.left s.declared) xs) in
    let first = started_job-same a.jobs b.jobs key apart same.jobs in
    let whole : find has_key (started_jobs a) ≡ find has_key (started_jobs b) = find-append has_key (jobs a.jobs) (soft a.soft) ∙ ((λ i. option_or (first i) (find has_key (soft (same.soft i)))) ∙ sym (find-append has_key (jobs b.jobs) (soft b.soft))) in
    ap (λ o. option_map_or (λ (j : Key × ℕ). Freed j.1) o NotRunning) whole

-- a withdrawal
withdraw_answer-same : (a b : Scene) (firm : ℕ) → AreApart a.jobs → IsSameScene a b → withdraw_answer a firm ≡ withdraw_answer b firm
withdraw_answer-same a b firm apart same =
    ap (λ o. option_map_or (λ (j : Job). GoneFreed j.left) o NoJob) (find-key (FirmKey firm) a.jobs b.jobs (IsApart-from_count a.jobs apart) same.jobs)

-- an arrival is answered in the same way
pub answer-same : (set : TaskSet) (cycle : ℕ) (a b : Scene) (row : ℕ) (event : Event) → AreApart a.jobs → IsSameScene a b → answer set cycle a row event ≡ answer set cycle b row event
answer-same set cycle a b row (Soft slots) apart same =
    ap (SoftEntry row slots) (soft_answer-same set.soft_limit a b same)
answer-same set cycle a b row (Firm slots within) apart same =
    ap (FirmEntry row slots within) (firm_answer-same set.sporadics cycle a b slots within same)
answer-same set cycle a b row (SporadicEvent index) apart same =
    ap (SporadicEntry row index) (sporadic_answer-same set.sporadics a b index same)
answer-same set cycle a b row (Done key) apart same =
    ap (DoneEntry row key) (done_answer-same a b key apart same)
answer-same set cycle a b row (Withdraw firm) apart same =
    ap (WithdrawEntry row firm) (withdraw_answer-same a b firm apart same)
