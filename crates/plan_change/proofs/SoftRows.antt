-- The soft jobs that wait may come one after the other at another executive, and none of them stands in the row of an
-- offer.
use Rattle.std.proofs.Common.{◌≡◌, ℕ, zero, suc, ◌+◌, ◌/◌, ◌<◌, ◌≤◌, true, false, List, [], ◌∷◌, ◌++◌, drop, length, map, min, Some, take, refl, sym, ap, ◌∙◌, subst, inl, inr, arith}
use Rattle.std.specs.Prelude.{slice_get}
use Rattle.std.proofs.lemmas.Bool.{cases_Bool, cases_lt, false≢true}
use Rattle.std.proofs.lemmas.List.{drop_more, length-drop, length-take, take_all}
use Rattle.std.proofs.lemmas.Option.{get_or_from_slice_get, slice_get_within}
use Rattle.slot_core.specs.declared.TheConstants.{OFFER_LIMIT}
use Rattle.slot_core.specs.declared.jobs.Job.{Job}
use Rattle.slot_core.specs.declared.jobs.SoftJob.{SoftJob}
use Rattle.slot_core.specs.declared.tasks.TaskSet.{TaskSet}
use Rattle.slot_core.specs.declared.events.Event.TheVariants.{Soft as SoftEvent, Firm as FirmEvent, Sporadic as SporadicEvent, Done as DoneEvent, Withdraw as WithdrawEvent}
use Rattle.slot_core.specs.declared.events.Firm.TheVariants.{Accepted}
use Rattle.slot_core.specs.declared.events.Ran.{Ran}
use Rattle.slot_core.specs.declared.events.Ran.TheVariants.{Idle as RanIdle, Key as RanKey}
use Rattle.slot_core.specs.declared.events.Soft.{Soft as SoftAnswer}
use Rattle.slot_core.specs.declared.events.Soft.TheVariants.{Taken}
use Rattle.slot_core.specs.declared.events.Spo.TheVariants.{Taken as SporadicTaken}
use Rattle.slot_core.specs.declared.events.What.{What}
use Rattle.slot_core.specs.declared.events.What.TheVariants.{Start, End, Soft, Firm, Sporadic as SporadicEntry}
use Rattle.slot_core.specs.Keeping.Executives.{Executive, IsKept, StandsFor}
use Rattle.slot_core.specs.Offline.Keys.{is_offline, row_of}
use Rattle.slot_core.specs.Offline.OfflineJobs.{offline_jobs}
use Rattle.slot_core.specs.Sets.Cycles.{cycle_of}
use Rattle.slot_core.specs.Sets.Ranges.{is_sound}
use Rattle.slot_core.specs.Runs.Choice.{choice}
use Rattle.slot_core.specs.Runs.Histories.{firm_jobs, History, soft_jobs, sporadic_jobs, time_of}
use Rattle.slot_core.specs.Runs.Matches.{MatchesHistory}
use Rattle.slot_core.specs.Runs.Rising.{AreRising}
use Rattle.slot_core.specs.Runs.Scenes.{guaranteed, remaining, scene_of}
use Rattle.slot_core.specs.Runs.Traces.{arrive, IsDue, IsLegal, slot, told_of_slot}
use Rattle.slot_facts.proofs.Histories.Unended.{unended_own}
use Rattle.slot_facts.proofs.Legal.Data.{Entries, legal-as_data, Slots}
use Rattle.slot_facts.proofs.Legal.Jobs.{offline-key, soft-come}
use Rattle.slot_facts.proofs.Legal.Rows.{accepted-says, entries-before, firm-come, soft_taken-says, sporadic-come, sporadic_taken-says}
use Rattle.slot_facts.proofs.Legal.Steps.{waiting_own}
use Rattle.slot_facts.proofs.Lists.Members.{AllByRecursion-at_Has, Has, Has-append_cases, Has-from_Contains}
use Rattle.slot_facts.proofs.Lists.Permuted.{Has-permuted}
use Rattle.slot_facts.proofs.Lists.SameItems.{jobs-same_items}
use Rattle.slot_facts.proofs.Sets.Ranges.{bounds}
use Rattle.std.proofs.lemmas.List.Elements.{recursion_from_All}
use Rattle.plan_change.specs.declared.keep.Keep.{Keep}
use Rattle.plan_change.specs.declared.keep.Keep.TheVariants.{Drop, Graphs, Started}
use Rattle.plan_change.specs.declared.offers.Offer.{Offer}
use Rattle.plan_change.specs.Carrying.{carried_from, next_row, offers_from, offers_of, row_in}
use Rattle.plan_change.specs.SoftWork.{MayWait, RowsAreApart}
use Rattle.plan_change.proofs.CarriedOrder.{next-row}
use Rattle.plan_change.proofs.CarriedRows.{carried-one, none-dropped}

-- soft work of a legal history asks for slots in range
not_a_slot : (ran : Ran) (row slots : ℕ) (answer : SoftAnswer) → Soft row slots answer ≡ told_of_slot ran → ⊥
not_a_slot RanIdle row slots answer e = cc e
not_a_slot (RanKey key) row slots answer e = cc e

soft-due : (set : TaskSet) (cycle : ℕ) (h : History) (row slots : ℕ) (answer : SoftAnswer) → IsDue set cycle h (Soft row slots answer) → slots ≤ OFFER_LIMIT
soft-due set cycle h row slots answer (arrive r (SoftEvent c), may, same) =
    let own : slots ≡ c = cc same in
    omega (arith, own, (bounds 1 OFFER_LIMIT c may.1).1)
soft-due set cycle h row slots answer (arrive r (FirmEvent c d), may, same) = absurd (cc same)
soft-due set cycle h row slots answer (arrive r (SporadicEvent i), may, same) = absurd (cc same)
soft-due set cycle h row slots answer (arrive r (DoneEvent k), may, same) = absurd (cc same)
soft-due set cycle h row slots answer (arrive r (WithdrawEvent f), may, same) = absurd (cc same)
soft-due set cycle h row slots answer (slot, may, same) =
    absurd (not_a_slot (choice set.sporadics cycle (scene_of set cycle h)) row slots answer same)

legal-before : (set : TaskSet) (cycle : ℕ) (what : What) (h : History) → IsLegal set cycle (what ∷ h) → IsLegal set cycle h
legal-before set cycle Start h legal = legal
legal-before set cycle End h legal = legal
legal-before set cycle _ h legal = legal.1

soft-few : (set : TaskSet) (cycle : ℕ) (h : History) (job : SoftJob) → IsLegal set cycle h → Has (soft_jobs h) job → job.declared ≤ OFFER_LIMIT
soft-few set cycle [] job legal at = absurd at
soft-few set cycle (Soft row slots Taken ∷ h) job legal at =
    let own : SoftJob = record { row = row; left = slots; declared = slots } in
    elim (Has-append_cases (soft_jobs h) (own ∷ []) job at) [
      | inl old ↦ soft-few set cycle h job legal.1 old
      | inr new ↦ elim new [
        | inl e ↦ omega (arith, ap (λ (s : SoftJob). s.declared) e, soft-due set cycle h row slots Taken legal.0)
        | inr none ↦ absurd none
      ]
    ]
soft-few set cycle (what ∷ h) job legal at = soft-few set cycle h job (legal-before set cycle what h legal) at

-- no firm job stands in the row of a soft one
firm-apart : {S : Slots} (set : TaskSet) (h : History) (soft : SoftJob) (job : Job) → Entries S set (cycle_of set) h → Has (soft_jobs h) soft → Has (firm_jobs h) job → row_of job.key ≡ soft.row → ⊥
firm-apart set [] soft job l at_s at_j same = absurd at_s
firm-apart set (Soft row slots Taken ∷ h) soft job l at_s at_j same =
    let own : SoftJob = record { row = row; left = slots; declared = slots } in
    elim (Has-append_cases (soft_jobs h) (own ∷ []) soft at_s) [
      | inl old ↦ firm-apart set h soft job (entries-before l) old at_j same
      | inr new ↦ elim new [
        | inl e ↦
            let come = firm-come set (cycle_of set) h job (entries-before l) at_j in
            omega (arith, ap (λ (s : SoftJob). s.row) e, same, come.row_at_most, (soft_taken-says l).above)
        | inr none ↦ absurd none
      ]
    ]
firm-apart set (Firm row slots within Accepted ∷ h) soft job l at_s (inl e) same =
    let come = soft-come set (cycle_of set) h soft (entries-before l) at_s in
    omega (arith, ap (λ (j : Job). row_of j.key) e, same, come.row_at_most, (accepted-says l).above)
firm-apart set (Firm row slots within Accepted ∷ h) soft job l at_s (inr at) same =
    firm-apart set h soft job (entries-before l) at_s at same
firm-apart set (what ∷ h) soft job l at_s at_j same =
    firm-apart set h soft job (entries-before l) at_s at_j same

-- nor does a sporadic one
sporadic-apart : {S : Slots} (set : TaskSet) (h : History) (soft : SoftJob) (job : Job) → is_sound set ≡ true → Entries S set (cycle_of set) h → Has (soft_jobs h) soft → Has (sporadic_jobs set.sporadics h) job → row_of job.key ≡ soft.row → ⊥
sporadic-apart set [] soft job sound l at_s at_j same = absurd at_s
sporadic-apart set (Soft row slots Taken ∷ h) soft job sound l at_s at_j same =
    let own : SoftJob = record { row = row; left = slots; declared = slots } in
    elim (Has-append_cases (soft_jobs h) (own ∷ []) soft at_s) [
      | inl old ↦ sporadic-apart set h soft job sound (entries-before l) old at_j same
      | inr new ↦ elim new [
        | inl e ↦
            let come = sporadic-come set h job sound (entries-before l) at_j in
            omega (arith, ap (λ (s : SoftJob). s.row) e, same, come.row_at_most, (soft_taken-says l).above)
        | inr none ↦ absurd none
      ]
    ]
sporadic-apart set (SporadicEntry row index (SporadicTaken due) ∷ h) soft job sound l at_s (inl e) same =
    let come = soft-come set (cycle_of set) h soft (entries-before l) at_s in
    omega (arith, ap (λ (j : Job). row_of j.key) e, same, come.row_at_most, (sporadic_taken-says l).above)
sporadic-apart set (SporadicEntry row index (SporadicTaken due) ∷ h) soft job sound l at_s (inr at) same =
    sporadic-apart set h soft job sound (entries-before l) at_s at same
sporadic-apart set (what ∷ h) soft job sound l at_s at_j same =
    sporadic-apart set h soft job sound (entries-before l) at_s at_j same

-- the first of them
pub Has-take : {X : Type 0} (n : ℕ) (xs : List X) (x : X) → Has (take n xs) x → Has xs x
Has-take zero xs x at = absurd at
Has-take (suc n) [] x at = absurd at
Has-take (suc n) (y ∷ xs) x (inl e) = inl e
Has-take (suc n) (y ∷ xs) x (inr at) = inr (Has-take n xs x at)

-- soft jobs in rising rows, each with slots in range, may come one after the other
may-wait : (n row : ℕ) (jobs : List SoftJob) → AreRising row (map (λ (s : SoftJob). s.row) jobs) → ((job : SoftJob) → Has jobs job → (1 ≤ job.left) × (job.left ≤ OFFER_LIMIT)) → MayWait row (take n jobs)
may-wait zero row jobs rising each = tt
may-wait (suc n) row [] rising each = tt
may-wait (suc n) row (job ∷ jobs) rising each =
    let own = each job (inl refl) in
    (rising.0, own.0, own.1, may-wait n job.row jobs rising.1 (λ j at. each j (inr at)))

-- an offer has the row of a job, or one from the first for offline jobs on
offers-apart : (c cycle next : ℕ) (jobs : List Job) (soft : SoftJob) (offer : Offer) → ((job : Job) → Has jobs job → is_offline job.key ≡ false → row_of job.key ≡ soft.row → ⊥) → ((job : Job) → Has jobs job → is_offline job.key ≡ true → soft.row < next) → Has (offers_of c cycle next jobs) offer → offer.row ≡ soft.row → ⊥
offers-apart c cycle next [] soft offer own later at same = absurd at
offers-apart c cycle next (job ∷ jobs) soft offer own later (inl e) same =
    let here : row_in next job ≡ offer.row = ap (λ (o : Offer). o.row) e in
    elim (cases_Bool (is_offline job.key)) [
      | inl offline ↦
          let row : row_in next job ≡ next = rw offline refl in
          omega (arith, here, row, same, later job (inl refl) offline)
      | inr hard ↦
          let row : row_in next job ≡ row_of job.key = rw hard refl in
          own job (inl refl) hard (sym row ∙ here ∙ same)
    ]
offers-apart c cycle next (job ∷ jobs) soft offer own later (inr at) same =
    offers-apart c cycle (next_row next job) jobs soft offer
    (λ j in_jobs. own j (inr in_jobs))
    (λ j in_jobs offline. omega (arith, later j (inr in_jobs) offline, next-row next job))
    at same

module _ (exec : Executive) (kept : IsKept exec) (h : History) (stands : StandsFor exec h) where
  soft-own : (soft : SoftJob) → Has exec.scene.soft soft → (own : SoftJob) × Has (soft_jobs h) own × (soft.row ≡ own.row) × (soft.left ≤ own.declared)
  soft-own soft at =
      let waits = subst (λ (js : List SoftJob). Has js soft) stands.same.soft at in
      let (own, is) = waiting_own h soft waits in
      (own, is.listed, ap (λ (s : SoftJob). s.row) is.same, omega (arith, ap (λ (s : SoftJob). s.left) is.same))

  -- they may wait at another executive
  pub soft-may : (n : ℕ) → MayWait 0 (take n exec.scene.soft)
  soft-may n =
      let jobs = exec.scene.soft in
      let left = recursion_from_All (λ (s : SoftJob). (1 ≤ s.left) × (s.left ≤ s.declared)) jobs kept.soft.left in
      may-wait n 0 jobs kept.soft.rows λ soft at.
      let (own, listed, row, few) = soft-own soft at in
      let whole = soft-few exec.plan.tasks exec.plan.cycle h own stands.legal listed in
      ((AllByRecursion-at_Has (λ (s : SoftJob). (1 ≤ s.left) × (s.left ≤ s.declared)) jobs soft left at).0, omega (arith, few, whole))

  -- none stands in the row of a firm or sporadic job
  rows-apart : (soft : SoftJob) (job : Job) → Has exec.scene.soft soft → Has exec.scene.jobs job → is_offline job.key ≡ false → row_of job.key ≡ soft.row → ⊥
  rows-apart soft job at_s at_j hard same =
      let set = exec.plan.tasks in
      let Apart : ℕ → Type 0 = λ n. MatchesHistory set n exec.scene exec.last_row h → ⊥ in
      let (mine, mine_listed, mine_row, few) = soft-own soft at_s in
      subst Apart (sym kept.plan.cycle) (λ m.
      let cycles = time_of h / cycle_of set + 3 in
      let planned = offline_jobs set (cycle_of set) cycles in
      let told = legal-as_data set (cycle_of set) h m.legal in
      let listed = Has-permuted exec.scene.jobs (remaining set (cycle_of set) h) job ((jobs-same_items exec.scene.jobs (remaining set (cycle_of set) h)).0 m.same.jobs) at_j in
      let (own, is) = unended_own h (guaranteed set (cycle_of set) h) job listed in
      let key : job.key ≡ own.key = ap (λ (j : Job). j.key) is.same in
      let row : row_of own.key ≡ mine.row = sym (ap row_of key) ∙ same ∙ mine_row in
      elim (Has-append_cases (planned ++ firm_jobs h) (sporadic_jobs set.sporadics h) own is.listed) [
        | inl a ↦ elim (Has-append_cases planned (firm_jobs h) own a) [
          | inl p ↦ false≢true (sym hard ∙ ap is_offline key ∙ offline-key set (cycle_of set) cycles own p)
          | inr f ↦ firm-apart set h mine own told mine_listed f row
        ]
        | inr s ↦ sporadic-apart set h mine own kept.plan.sound told mine_listed s row
      ]) stands

  soft-row : (soft : SoftJob) → Has exec.scene.soft soft → soft.row ≤ exec.last_row
  soft-row soft at =
      AllByRecursion-at_Has (λ (s : SoftJob). s.row ≤ exec.last_row) exec.scene.soft soft (recursion_from_All (λ (s : SoftJob). s.row ≤ exec.last_row) exec.scene.soft kept.rows.soft) at

  -- rows for offline jobs lie above all
  first-above : (keep : Keep) (first : ℕ) (job : Job) → ((keep ≡ Drop → ⊥) → exec.last_row < first) → Has (carried_from keep exec) job → is_offline job.key ≡ true → exec.last_row < first
  first-above Drop first job above at offline = absurd (false≢true (sym (none-dropped exec kept job at) ∙ offline))
  first-above Started first job above at offline = above (λ e. absurd (cc e))
  first-above Graphs first job above at offline = above (λ e. absurd (cc e))

  -- so no offer stands in the row of a soft job
  pub soft-apart : (keep : Keep) (cycle first n : ℕ) → ((keep ≡ Drop → ⊥) → exec.last_row < first) → RowsAreApart (offers_from keep exec cycle first) (take n exec.scene.soft)
  soft-apart keep cycle first n above = λ offer soft at_o at_s same.
      let listed = Has-take n exec.scene.soft soft (Has-from_Contains (take n exec.scene.soft) soft at_s) in
      let jobs = carried_from keep exec in
      offers-apart exec.scene.time cycle first jobs soft offer
      (λ job at hard. rows-apart soft job listed (carried-one exec kept keep job at).0 hard)
      (λ job at offline. omega (arith, soft-row soft listed, first-above keep first job above at offline))
      (Has-from_Contains (offers_from keep exec cycle first) offer at_o) same

-- what is left of the first n soft jobs has the next one first
slice-take : {X : Type 0} (n i : ℕ) (xs : List X) → i < n → slice_get (take n xs) i ≡ slice_get xs i
slice-take zero i xs low = absurd (omega (arith, low))
slice-take (suc n) i [] low = refl
slice-take (suc n) zero (x ∷ xs) low = refl
slice-take (suc n) (suc i) (x ∷ xs) low = slice-take n i xs (omega (arith, low))

pub waits-next : (n i : ℕ) (jobs : List SoftJob) (job : SoftJob) → i < n → slice_get jobs i ≡ Some job → drop i (take n jobs) ≡ job ∷ drop (i + 1) (take n jobs)
waits-next n i jobs job low at =
    let some = take n jobs in
    let here = slice-take n i jobs low ∙ at in
    drop_more some i job (slice_get_within some i job here)
    ∙ ap (λ (j : SoftJob). j ∷ drop (i + 1) some) (get_or_from_slice_get some i job job here)

-- that many are left
pub waits-length : (n i : ℕ) (jobs : List SoftJob) → n ≤ length jobs → i ≤ n → i + length (drop i (take n jobs)) ≡ n
waits-length n i jobs few low = omega (arith, length-drop i (take n jobs), length-take n jobs)

-- as many as there are, or as the limit allows
pub take-most : {X : Type 0} (n limit : ℕ) (xs : List X) → n ≡ min (length xs) limit → take n xs ≡ take limit xs
take-most n limit xs most =
    elim (cases_lt (length xs) limit) [
      | inl fewer ↦
          let all : length xs ≤ n = omega (arith, most, fewer) in
          let every : length xs ≤ limit = omega (arith, fewer) in
          take_all n xs all ∙ sym (take_all limit xs every)
      | inr more ↦
          let same : n ≡ limit = omega (arith, most, more) in
          ap (λ (k : ℕ). take k xs) same
    ]
