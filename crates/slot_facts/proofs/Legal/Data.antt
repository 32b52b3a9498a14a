-- Histories as data: one form for each kind of entry and of answer, with what the laws ask of it. Legal and lawful
-- histories differ in what their slots ask for.
use Rattle.std.proofs.Common.{◌≡◌, ℕ, ◌+◌, ◌-◌, ◌<◌, ◌≤◌, Bool, true, false, cond, ◌==◌, ◌⊎◌, [], ◌∷◌, List, length, map, filter, fold, Option, Some, None, refl, sym, ap, ◌∙◌, subst, inl, inr, arith}
use Rattle.std.specs.Prelude.{nat_lt, find, slice_get, slice_index, nat_le}
use Rattle.std.specs.Option.{option_map_or}
use Rattle.std.specs.List.{range_with_len}
use Rattle.std.proofs.lemmas.Bool.{and_parts, eqb-false, ltb-true, ltb-false}
use Rattle.slot_core.specs.declared.TheConstants.{OFFER_LIMIT}
use Rattle.slot_core.specs.declared.jobs.Key.{Key}
use Rattle.slot_core.specs.declared.jobs.Key.TheVariants.{Soft as SoftKey, Firm as FirmKey}
use Rattle.slot_core.specs.declared.jobs.Job.{Job}
use Rattle.slot_core.specs.declared.jobs.SoftJob.{SoftJob}
use Rattle.slot_core.specs.declared.jobs.Evidence.{Evidence}
use Rattle.slot_core.specs.declared.tasks.Sporadic.{Sporadic}
use Rattle.slot_core.specs.declared.tasks.TaskSet.{TaskSet}
use Rattle.slot_core.specs.declared.events.Event.TheVariants.{Soft as SoftEvent, Firm as FirmEvent, Sporadic as SporadicEvent, Done as DoneEvent, Withdraw as WithdrawEvent}
use Rattle.slot_core.specs.declared.events.Event.{Event}
use Rattle.slot_core.specs.declared.events.Ran.{Ran}
use Rattle.slot_core.specs.declared.events.Ran.TheVariants.{Idle as RanIdle, Key as RanKey}
use Rattle.slot_core.specs.declared.events.What.{What}
use Rattle.slot_core.specs.declared.events.What.TheVariants.{Start, Soft, Firm, Sporadic as SporadicEntry, Done, Withdraw, Run, Idle, End}
use Rattle.slot_core.specs.declared.events.Soft.TheVariants.{Taken as SoftTaken, Full}
use Rattle.slot_core.specs.declared.events.Firm.TheVariants.{Accepted, Late, Far, NoRoom}
use Rattle.slot_core.specs.declared.events.Spo.TheVariants.{Taken as SporadicTaken, Soon}
use Rattle.slot_core.specs.declared.events.Done.TheVariants.{Freed, NotRunning}
use Rattle.slot_core.specs.declared.events.Gone.TheVariants.{Freed as GoneFreed, NoJob}
use Rattle.slot_core.specs.Offline.Keys.{same_key}
use Rattle.slot_core.specs.Runs.Histories.{History, time_of, last_row}
use Rattle.slot_core.specs.Runs.Scenes.{Scene, horizon, remaining, waiting_soft, next_arrivals, scene_of}
use Rattle.slot_core.specs.Runs.Demand.{need_by, is_overloaded, HasRoom}
use Rattle.slot_core.specs.Runs.Choice.{ready, earliest, lower_of, first_soft, soft_may_run, earliest_ready, choice}
use Rattle.slot_core.specs.Runs.Answers.{soft_answer, first_overload, evidence_at, firm_answer, sporadic_answer, started_jobs, done_answer, withdraw_answer}
use Rattle.slot_core.specs.Runs.Arrivals.{event_may_come}
use Rattle.slot_core.specs.Sets.Ranges.{is_between}
use Rattle.slot_core.specs.Runs.Traces.{Occurrence, arrive, slot, told_of_slot, told_of, MayCome, IsDue, IsLegal}
use Rattle.slot_facts.proofs.Choice.Earliest.{IsEarliest-from_earliest}
use Rattle.slot_facts.proofs.Lists.Members.{Has, Has-append_cases, Has-map_cases, Has-filter_passes, Has-range_with_len}
use Rattle.slot_facts.proofs.Lists.Tests.{find-Some}
use Rattle.slot_facts.proofs.Sets.Faults.{find-None}
use Rattle.slot_facts.proofs.Sets.Ranges.{bounds}

-- a remaining job has this key
pub record IsOfRemaining (set : TaskSet) (cycle : ℕ) (h : History) (key : Key) : Type 0 where
  pub job : Job
  pub among : Has (remaining set cycle h) job
  pub keyed : key ≡ job.key

-- a soft job that waits has this key
pub record IsOfWaiting (h : History) (key : Key) : Type 0 where
  pub soft : SoftJob
  pub among : Has (waiting_soft h) soft
  pub keyed : key ≡ SoftKey soft.row

-- a job that has not ended has this key
abbrev pub IsOfUnended : TaskSet → ℕ → History → Key → Type 0
IsOfUnended set cycle h key = IsOfRemaining set cycle h key ⊎ IsOfWaiting h key

-- what may be asked of a slot: of what runs in it after a history
abbrev pub Slots : Type 1
Slots = History → Ran → Type 0

-- the slot runs the soft job of this key: it is the first one, and soft work may run
pub record RunsSoft (set : TaskSet) (cycle : ℕ) (h : History) (key : Key) : Type 0 where
  pub soft : SoftJob
  pub first : first_soft (waiting_soft h) ≡ Some soft
  pub may : soft_may_run set.sporadics cycle (scene_of set cycle h) ≡ true
  pub keyed : key ≡ SoftKey soft.row

-- the slot runs the guaranteed job of this key: it is the earliest of those that are ready
pub record RunsJob (set : TaskSet) (cycle : ℕ) (h : History) (key : Key) : Type 0 where
  pub job : Job
  pub first : earliest (ready (time_of h) (remaining set cycle h)) ≡ Some job
  pub keyed : key ≡ job.key

-- what runs in the slot is its choice
abbrev pub IsChosen : TaskSet → ℕ → History → Ran → Type 0
IsChosen set cycle h RanIdle = earliest (ready (time_of h) (remaining set cycle h)) ≡ None
IsChosen set cycle h (RanKey key) = RunsSoft set cycle h key ⊎ RunsJob set cycle h key

-- soft work is taken: it asks for a slot, and fewer soft jobs wait than the limit allows
pub record TakesSoft (set : TaskSet) (h : History) (row slots : ℕ) : Type 0 where
  pub above : last_row h < row
  pub some : 1 ≤ slots
  pub few : length (waiting_soft h) ≡ set.soft_limit → ⊥

-- a firm offer is accepted: it asks for slots in range, and has room
pub record Accepts (set : TaskSet) (cycle : ℕ) (h : History) (row slots within : ℕ) : Type 0 where
  pub above : last_row h < row
  pub some : 1 ≤ slots
  pub few : slots ≤ OFFER_LIMIT
  pub later : 1 ≤ within
  pub near : within ≤ cycle
  pub room : HasRoom set.sporadics cycle (scene_of set cycle h) slots within

-- a sporadic arrival is taken: its next legal arrival is not later than now
pub record TakesSporadic (set : TaskSet) (h : History) (row index due : ℕ) : Type 0 where
  pub above : last_row h < row
  pub named : index < length set.sporadics
  pub not_soon : slice_index (next_arrivals set.sporadics h) index ≤ time_of h

-- the guaranteed job of this key remains and has so many slots left
pub record Remains (set : TaskSet) (cycle : ℕ) (h : History) (key : Key) (n : ℕ) : Type 0 where
  pub job : Job
  pub among : Has (remaining set cycle h) job
  pub keyed : same_key job.key key ≡ true
  pub slots : n ≡ job.left

-- the soft job of this key has started and not ended, and has so many slots left
pub record RunningSoft (h : History) (key : Key) (n : ℕ) : Type 0 where
  pub soft : SoftJob
  pub among : Has (waiting_soft h) soft
  pub started : soft.left < soft.declared
  pub keyed : same_key (SoftKey soft.row) key ≡ true
  pub slots : n ≡ soft.left

-- the entries of a history, each arrival with its answer, each slot as is asked of slots
pub data Entries (S : Slots) (set : TaskSet) (cycle : ℕ) : History → Type 0 where
  empty : Entries S set cycle []
  at_start : {h : History} → Entries S set cycle h → Entries S set cycle (Start ∷ h)
  at_end : {h : History} → Entries S set cycle h → Entries S set cycle (End ∷ h)
  -- a slot
  slot_runs : {h : History} {key : Key} → IsOfUnended set cycle h key → S h (RanKey key) → Entries S set cycle h → Entries S set cycle (Run key ∷ h)
  idles : {h : History} → S h RanIdle → Entries S set cycle h → Entries S set cycle (Idle ∷ h)
  -- soft work
  soft_taken : {h : History} {row slots : ℕ} → TakesSoft set h row slots → Entries S set cycle h → Entries S set cycle (Soft row slots SoftTaken ∷ h)
  soft_full : {h : History} {row slots n : ℕ} → last_row h < row → Entries S set cycle h → Entries S set cycle (Soft row slots (Full n) ∷ h)
  -- a firm offer
  accepted : {h : History} {row slots within : ℕ} → Accepts set cycle h row slots within → Entries S set cycle h → Entries S set cycle (Firm row slots within Accepted ∷ h)
  late : {h : History} {row slots within : ℕ} → last_row h < row → Entries S set cycle h → Entries S set cycle (Firm row slots within Late ∷ h)
  far : {h : History} {row slots within : ℕ} → last_row h < row → Entries S set cycle h → Entries S set cycle (Firm row slots within Far ∷ h)
  no_room : {h : History} {row slots within : ℕ} {evidence : Evidence} → last_row h < row → Entries S set cycle h → Entries S set cycle (Firm row slots within (NoRoom evidence) ∷ h)
  -- a sporadic arrival
  sporadic_taken : {h : History} {row index due : ℕ} → TakesSporadic set h row index due → Entries S set cycle h → Entries S set cycle (SporadicEntry row index (SporadicTaken due) ∷ h)
  soon : {h : History} {row index next : ℕ} → last_row h < row → Entries S set cycle h → Entries S set cycle (SporadicEntry row index (Soon next) ∷ h)
  -- an early end
  job_freed : {h : History} {row n : ℕ} {key : Key} → last_row h ≤ row → (j : Remains set cycle h key n) → j.job.left < j.job.declared → Entries S set cycle h → Entries S set cycle (Done row key (Freed n) ∷ h)
  soft_freed : {h : History} {row n : ℕ} {key : Key} → last_row h ≤ row → RunningSoft h key n → Entries S set cycle h → Entries S set cycle (Done row key (Freed n) ∷ h)
  not_running : {h : History} {row : ℕ} {key : Key} → last_row h ≤ row → Entries S set cycle h → Entries S set cycle (Done row key NotRunning ∷ h)
  -- a withdrawal
  withdrawn : {h : History} {row firm n : ℕ} → last_row h ≤ row → Remains set cycle h (FirmKey firm) n → Entries S set cycle h → Entries S set cycle (Withdraw row firm (GoneFreed n) ∷ h)
  no_job : {h : History} {row firm : ℕ} → last_row h ≤ row → Entries S set cycle h → Entries S set cycle (Withdraw row firm NoJob ∷ h)

-- the entries are those that ask less of their slots
pub entries-weaker : {S T : Slots} {set : TaskSet} {cycle : ℕ} {h : History} → ((h : History) (ran : Ran) → S h ran → T h ran) → Entries S set cycle h → Entries T set cycle h
entries-weaker gives empty = empty
entries-weaker gives (at_start l) = at_start (entries-weaker gives l)
entries-weaker gives (at_end l) = at_end (entries-weaker gives l)
entries-weaker gives (slot_runs {h = h} {key = key} r s l) = slot_runs r (gives h (RanKey key) s) (entries-weaker gives l)
entries-weaker gives (idles {h = h} s l) = idles (gives h RanIdle s) (entries-weaker gives l)
entries-weaker gives (soft_taken r l) = soft_taken r (entries-weaker gives l)
entries-weaker gives (soft_full above l) = soft_full above (entries-weaker gives l)
entries-weaker gives (accepted r l) = accepted r (entries-weaker gives l)
entries-weaker gives (late above l) = late above (entries-weaker gives l)
entries-weaker gives (far above l) = far above (entries-weaker gives l)
entries-weaker gives (no_room above l) = no_room above (entries-weaker gives l)
entries-weaker gives (sporadic_taken r l) = sporadic_taken r (entries-weaker gives l)
entries-weaker gives (soon above l) = soon above (entries-weaker gives l)
entries-weaker gives (job_freed above j started l) = job_freed above j started (entries-weaker gives l)
entries-weaker gives (soft_freed above r l) = soft_freed above r (entries-weaker gives l)
entries-weaker gives (not_running above l) = not_running above (entries-weaker gives l)
entries-weaker gives (withdrawn above j l) = withdrawn above j (entries-weaker gives l)
entries-weaker gives (no_job above l) = no_job above (entries-weaker gives l)

-- the entries of a legal history: each slot runs what is chosen
abbrev pub LegalEntries : TaskSet → ℕ → History → Type 0
LegalEntries set cycle = Entries (IsChosen set cycle) set cycle

module _ {S : Slots} (set : TaskSet) (cycle : ℕ) (h : History) (before : Entries S set cycle h) where
  abbrev scene : Scene
  scene = scene_of set cycle h

  abbrev Stays : What → Type 0
  Stays what = Entries S set cycle (what ∷ h)

  -- soft work
  data-soft : (row slots : ℕ) → last_row h < row → event_may_come set (SoftEvent slots) ≡ true → Stays (Soft row slots (soft_answer set.soft_limit scene))
  data-soft row slots above may = by_test (length scene.soft == set.soft_limit) refl
    where
      by_test : (b : Bool) → (length scene.soft == set.soft_limit) ≡ b → Stays (Soft row slots (cond b (Full set.soft_limit) SoftTaken))
      by_test true e = soft_full above before
      by_test false e =
          soft_taken (record { above = above; some = (bounds 1 OFFER_LIMIT slots may).0; few = eqb-false (length scene.soft) set.soft_limit e }) before

  -- a firm offer that is not overloaded has room
  room-from_none : (slots within : ℕ) → first_overload set.sporadics cycle scene slots (scene.time + within) ≡ None → HasRoom set.sporadics cycle scene slots within
  room-from_none slots within none x low high =
      let from = scene.time + within in
      let at = Has-range_with_len from (horizon cycle scene.time + 1 - from) x low (omega arith) in
      ltb-false (x - scene.time) (slots + need_by set.sporadics scene scene.time x) (find-None (is_overloaded set.sporadics scene slots scene.time) (range_with_len from (horizon cycle scene.time + 1 - from)) x none at)

  data-firm : (row slots within : ℕ) → last_row h < row → event_may_come set (FirmEvent slots within) ≡ true → Stays (Firm row slots within (firm_answer set.sporadics cycle scene slots within))
  data-firm row slots within above may =
      by_tests (within == 0) (nat_lt cycle within) (first_overload set.sporadics cycle scene slots (scene.time + within)) refl refl refl
    where
      by_tests : (b c : Bool) (o : Option ℕ) → (within == 0) ≡ b → nat_lt cycle within ≡ c → first_overload set.sporadics cycle scene slots (scene.time + within) ≡ o → Stays (Firm row slots within (cond b Late (cond c Far (option_map_or (λ x. NoRoom (evidence_at set.sporadics scene slots x)) o Accepted))))
      by_tests true c o e f g = late above before
      by_tests false true o e f g = far above before
      by_tests false false (Some x) e f g = no_room above before
      by_tests false false None e f g =
          let other = eqb-false within 0 e in
          let range = bounds 1 OFFER_LIMIT slots (and_parts (is_between 1 OFFER_LIMIT slots) (nat_le within OFFER_LIMIT) may).0 in
          accepted
          (record {
            above = above;
            some = range.0;
            few = range.1;
            later = omega arith;
            near = ltb-false cycle within f;
            room = room-from_none slots within g;
          })
          before

  -- a sporadic arrival
  data-sporadic : (row index : ℕ) → last_row h < row → event_may_come set (SporadicEvent index) ≡ true → Stays (SporadicEntry row index (sporadic_answer set.sporadics scene index))
  data-sporadic row index above may = by_test (nat_lt scene.time (slice_index scene.nexts index)) (scene.time + option_map_or (λ (s : Sporadic). s.deadline) (slice_get set.sporadics index) 0) refl
    where
      by_test : (b : Bool) (due : ℕ) → nat_lt scene.time (slice_index scene.nexts index) ≡ b → Stays (SporadicEntry row index (cond b (Soon (slice_index scene.nexts index)) (SporadicTaken due)))
      by_test true due e = soon above before
      by_test false due e =
          sporadic_taken (record { above = above; named = ltb-true index (length set.sporadics) may; not_soon = ltb-false scene.time (slice_index scene.nexts index) e }) before

  -- an early end
  data-freed : (row : ℕ) (key : Key) (j : Key × ℕ) → last_row h ≤ row → Has (started_jobs scene) j → same_key j.0 key ≡ true → Stays (Done row key (Freed j.1))
  data-freed row key j above at same =
      let jobs = filter (λ (j : Job). nat_lt j.left j.declared) scene.jobs in
      let softs = filter (λ (s : SoftJob). nat_lt s.left s.declared) scene.soft in
      elim (Has-append_cases (map (λ (j : Job). (j.key, j.left)) jobs) (map (λ (s : SoftJob). (SoftKey s.row, s.left)) softs) j at) [
        | inl a ↦
            let m = Has-map_cases (λ (j : Job). (j.key, j.left)) jobs j a in
            let f = Has-filter_passes (λ (j : Job). nat_lt j.left j.declared) scene.jobs m.0 m.1 in
            let key_is : m.0.key ≡ j.0 = ap (λ (p : Key × ℕ). p.0) m.2 in
            let left_is : m.0.left ≡ j.1 = ap (λ (p : Key × ℕ). p.1) m.2 in
            job_freed above (record { job = m.0; among = f.0; keyed = ap (λ k. same_key k key) key_is ∙ same; slots = sym left_is }) (ltb-true m.0.left m.0.declared f.1) before
        | inr b ↦
            let m = Has-map_cases (λ (s : SoftJob). (SoftKey s.row, s.left)) softs j b in
            let f = Has-filter_passes (λ (s : SoftJob). nat_lt s.left s.declared) scene.soft m.0 m.1 in
            let key_is : SoftKey m.0.row ≡ j.0 = ap (λ (p : Key × ℕ). p.0) m.2 in
            let left_is : m.0.left ≡ j.1 = ap (λ (p : Key × ℕ). p.1) m.2 in
            soft_freed above (record { soft = m.0; among = f.0; started = ltb-true m.0.left m.0.declared f.1; keyed = ap (λ k. same_key k key) key_is ∙ same; slots = sym left_is }) before
      ]

  data-done : (row : ℕ) (key : Key) → last_row h ≤ row → Stays (Done row key (done_answer scene key))
  data-done row key above = by_found (find (λ (j : Key × ℕ). same_key j.0 key) (started_jobs scene)) refl
    where
      by_found : (o : Option (Key × ℕ)) → find (λ (j : Key × ℕ). same_key j.0 key) (started_jobs scene) ≡ o → Stays (Done row key (option_map_or (λ (j : Key × ℕ). Freed j.1) o NotRunning))
      by_found None e = not_running above before
      by_found (Some j) e =
          let found = find-Some (λ (j : Key × ℕ). same_key j.0 key) (started_jobs scene) j e in
          data-freed row key j above found.0 found.1

  -- a withdrawal
  data-withdraw : (row firm : ℕ) → last_row h ≤ row → Stays (Withdraw row firm (withdraw_answer scene firm))
  data-withdraw row firm above = by_found (find (λ (j : Job). same_key j.key (FirmKey firm)) scene.jobs) refl
    where
      by_found : (o : Option Job) → find (λ (j : Job). same_key j.key (FirmKey firm)) scene.jobs ≡ o → Stays (Withdraw row firm (option_map_or (λ (j : Job). GoneFreed j.left) o NoJob))
      by_found None e = no_job above before
      by_found (Some j) e =
          let found = find-Some (λ (j : Job). same_key j.key (FirmKey firm)) scene.jobs j e in
          withdrawn above (record { job = j; among = found.0; keyed = found.1; slots = refl }) before

  -- the answer to an arrival that may come
  pub data-answer : (row : ℕ) (event : Event) → MayCome set h (arrive row event) → Stays (told_of set cycle h (arrive row event))
  data-answer row (SoftEvent slots) may = data-soft row slots may.0 may.1
  data-answer row (FirmEvent slots within) may = data-firm row slots within may.0 may.1
  data-answer row (SporadicEvent index) may = data-sporadic row index may.0 may.1
  data-answer row (DoneEvent key) may = data-done row key may.0
  data-answer row (WithdrawEvent firm) may = data-withdraw row firm may.0

-- the first soft job is one of them
first_soft-among : (best : Option SoftJob) (jobs : List SoftJob) (s : SoftJob) → fold lower_of best jobs ≡ Some s → (best ≡ Some s) ⊎ Has jobs s
first_soft-among best [] s e = inl e
first_soft-among best (j ∷ jobs) s e =
    elim (first_soft-among (lower_of best j) jobs s e) [ inl two ↦ of_two best two | inr at ↦ inr (inr at) ]
  where
    by_test : (b : Bool) (other : SoftJob) → cond b (Some j) (Some other) ≡ Some s → (Some other ≡ Some s) ⊎ ((j ≡ s) ⊎ Has jobs s)
    by_test true other e = inr (inl cc)
    by_test false other e = inl e

    of_two : (o : Option SoftJob) → lower_of o j ≡ Some s → (o ≡ Some s) ⊎ ((j ≡ s) ⊎ Has jobs s)
    of_two None e = inr (inl cc)
    of_two (Some other) e = by_test (nat_lt j.row other.row) other e

pub first_soft-listed : (jobs : List SoftJob) (s : SoftJob) → first_soft jobs ≡ Some s → Has jobs s
first_soft-listed jobs s e = elim (first_soft-among None jobs s e) [ inl none ↦ absurd (cc none) | inr at ↦ at ]

-- what a slot runs has not ended
soft-unended : (set : TaskSet) (cycle : ℕ) (h : History) (key : Key) → RunsSoft set cycle h key → IsOfUnended set cycle h key
soft-unended set cycle h key r =
    inr (record { soft = r.soft; among = first_soft-listed (waiting_soft h) r.soft r.first; keyed = r.keyed })

job-unended : (set : TaskSet) (cycle : ℕ) (h : History) (key : Key) → RunsJob set cycle h key → IsOfUnended set cycle h key
job-unended set cycle h key r =
    let jobs = remaining set cycle h in
    let first = IsEarliest-from_earliest (ready (time_of h) jobs) r.job r.first in
    let among = Has-filter_passes (λ (j : Job). nat_le j.est (time_of h)) jobs r.job first.among in
    inl (record { job = r.job; among = among.0; keyed = r.keyed })

module _ (set : TaskSet) (cycle : ℕ) (h : History) (before : LegalEntries set cycle h) where
  -- the scene before the slot
  abbrev now : Scene
  now = scene_of set cycle h

  abbrev Runs : What → Type 0
  Runs what = LegalEntries set cycle (what ∷ h)

  -- a slot
  run-soft : (key : Key) → RunsSoft set cycle h key → Runs (Run key)
  run-soft key r = slot_runs (soft-unended set cycle h key r) (inl r) before

  run-job : (key : Key) → RunsJob set cycle h key → Runs (Run key)
  run-job key r = slot_runs (job-unended set cycle h key r) (inr r) before

  data-earliest : Runs (told_of_slot (earliest_ready now))
  data-earliest = by_first (earliest (ready now.time now.jobs)) refl
    where
      by_first : (o : Option Job) → earliest (ready now.time now.jobs) ≡ o → Runs (told_of_slot (option_map_or (λ (j : Job). RanKey j.key) o RanIdle))
      by_first None e = idles e before
      by_first (Some j) e = run-job j.key (record { job = j; first = e; keyed = refl })

  data-slot : Runs (told_of_slot (choice set.sporadics cycle now))
  data-slot = by_first (first_soft now.soft) (soft_may_run set.sporadics cycle now) refl refl
    where
      by_first : (o : Option SoftJob) (b : Bool) → first_soft now.soft ≡ o → soft_may_run set.sporadics cycle now ≡ b → Runs (told_of_slot (option_map_or (λ (s : SoftJob). cond b (RanKey (SoftKey s.row)) (earliest_ready now)) o (earliest_ready now)))
      by_first None b e f = data-earliest
      by_first (Some s) true e f = run-soft (SoftKey s.row) (record { soft = s; first = e; may = f; keyed = refl })
      by_first (Some s) false e f = data-earliest

  -- what is told of an occurrence that may come
  data-told : (next : Occurrence) → MayCome set h next → Runs (told_of set cycle h next)
  data-told (arrive row event) may = data-answer set cycle h before row event may
  data-told slot may = data-slot

-- and an entry that is due
data-due : (set : TaskSet) (cycle : ℕ) (h : History) (what : What) → IsDue set cycle h what → LegalEntries set cycle h → LegalEntries set cycle (what ∷ h)
data-due set cycle h what due before =
    subst (λ w. LegalEntries set cycle (w ∷ h)) (sym due.2) (data-told set cycle h before due.0 due.1)

-- so a legal history is legal entry by entry
pub legal-as_data : (set : TaskSet) (cycle : ℕ) (h : History) → IsLegal set cycle h → LegalEntries set cycle h
legal-as_data set cycle [] legal = empty
legal-as_data set cycle (Start ∷ h) legal = at_start (legal-as_data set cycle h legal)
legal-as_data set cycle (End ∷ h) legal = at_end (legal-as_data set cycle h legal)
legal-as_data set cycle (what ∷ h) legal = data-due set cycle h what legal.0 (legal-as_data set cycle h legal.1)
