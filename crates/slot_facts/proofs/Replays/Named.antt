-- What the entries of a history name lies in the set.
use Rattle.std.proofs.Common.{◌≡◌, ℕ, ◌+◌, ◌/◌, true, List, [], ◌∷◌, ◌++◌, refl, sym, ap, ◌∙◌, inl, inr, lt-ltb}
use Rattle.std.specs.Prelude.{length}
use Rattle.std.proofs.lemmas.Bool.{and_parts}
use Rattle.slot_core.specs.declared.jobs.Key.{Key}
use Rattle.slot_core.specs.declared.jobs.Job.{Job}
use Rattle.slot_core.specs.declared.tasks.TaskSet.{TaskSet}
use Rattle.slot_core.specs.declared.events.Event.TheVariants.{Soft as SoftEvent, Firm as FirmEvent, Sporadic as SporadicEvent, Done as DoneEvent, Withdraw as WithdrawEvent}
use Rattle.slot_core.specs.declared.events.Ran.{Ran}
use Rattle.slot_core.specs.declared.events.Ran.TheVariants.{Idle as RanIdle, Key as RanKey}
use Rattle.slot_core.specs.declared.events.Spo.TheVariants.{Taken as SporadicTaken}
use Rattle.slot_core.specs.declared.events.What.TheVariants.{Sporadic as SporadicEntry, Run}
use Rattle.slot_core.specs.Runs.Arrivals.{key_in_set, key_in_range, what_in_set, event_may_come, event_names_known}
use Rattle.slot_core.specs.Runs.Choice.{choice}
use Rattle.slot_core.specs.Sets.Cycles.{cycle_of}
use Rattle.slot_core.specs.Runs.Histories.{History, time_of, firm_jobs, sporadic_jobs}
use Rattle.slot_core.specs.Offline.OfflineJobs.{offline_jobs}
use Rattle.slot_core.specs.Runs.Matches.{HaveSameItems}
use Rattle.slot_core.specs.Runs.Scenes.{guaranteed_in, guaranteed, unended, remaining, scene_of}
use Rattle.slot_core.specs.Runs.Traces.{Occurrence, arrive, slot, told_of_slot, told_of, IsLegal}
use Rattle.slot_facts.proofs.Histories.Unended.{unended_own}
use Rattle.slot_facts.proofs.Legal.Data.{Slots, Entries, slot_runs, legal-as_data}
use Rattle.slot_facts.proofs.Legal.Jobs.{firm-key}
use Rattle.slot_facts.proofs.Legal.Rows.{entries-before, sporadic_taken-says}
use Rattle.slot_facts.proofs.Legal.Traces.{legal-due}
use Rattle.slot_facts.proofs.Lists.Members.{Has, Has-append_cases, Contains-from_Has}
use Rattle.slot_facts.proofs.Lists.SameItems.{same-sym, all-same}
use Rattle.slot_facts.proofs.Offline.Jobs.{offline_from_cycles, offline-named}

-- an occurrence names what the set has: an arrival may come and names what is known
abbrev pub IsNamed : TaskSet → Occurrence → Type 0
IsNamed set (arrive row event) =
    (event_may_come set event ≡ true) × (event_names_known set event ≡ true)
IsNamed set slot = Unit {0}

-- the key of a sporadic job lies in the set
sporadic-named : {S : Slots} (set : TaskSet) (h : History) (job : Job) → Entries S set (cycle_of set) h → Has (sporadic_jobs set.sporadics h) job → key_in_set set job.key ≡ true
sporadic-named set [] job l at = absurd at
sporadic-named set (SporadicEntry row index (SporadicTaken due) ∷ h) job l (inl e) =
    ap (λ (j : Job). key_in_set set j.key) (sym e) ∙ lt-ltb index (length set.sporadics) (sporadic_taken-says l).named
sporadic-named set (SporadicEntry row index (SporadicTaken due) ∷ h) job l (inr at) =
    sporadic-named set h job (entries-before l) at
sporadic-named set (what ∷ h) job l at = sporadic-named set h job (entries-before l) at

-- so does that of each guaranteed job
pub guaranteed-named : {S : Slots} (set : TaskSet) (cycles : ℕ) (h : History) (job : Job) → Entries S set (cycle_of set) h → Has (guaranteed_in set (cycle_of set) cycles h) job → key_in_set set job.key ≡ true
guaranteed-named set cycles h job l at =
    let planned = offline_jobs set (cycle_of set) cycles in
    elim (Has-append_cases (planned ++ firm_jobs h) (sporadic_jobs set.sporadics h) job at) [
      | inl a ↦ elim (Has-append_cases planned (firm_jobs h) job a) [
        | inl b ↦ offline-named set cycles job (offline_from_cycles set (cycle_of set) cycles job (Contains-from_Has planned job b))
        | inr b ↦ ap (key_in_set set) (firm-key h job b)
      ]
      | inr a ↦ sporadic-named set h job l a
    ]

-- so does that of each job of a list that holds the remaining jobs in any order
pub remaining-named : (set : TaskSet) (h : History) (jobs : List Job) (job : Job) → IsLegal set (cycle_of set) h → HaveSameItems jobs (remaining set (cycle_of set) h) → Has jobs job → key_in_set set job.key ≡ true
remaining-named set h jobs job legal same at =
    let all = guaranteed set (cycle_of set) h in
    let entries = legal-as_data set (cycle_of set) h legal in
    let each = λ (j : Job) (listed : Has (unended h all) j).
    let own = unended_own h all j listed in
    ap (λ (j : Job). key_in_set set j.key) own.1.same ∙ guaranteed-named set (time_of h / cycle_of set + 3) h own.0 entries own.1.listed in
    all-same (λ (j : Job). key_in_set set j.key) (unended h all) jobs (same-sym jobs (unended h all) same) each job at

-- so does the key of each run
pub run-named : {S : Slots} {set : TaskSet} {key : Key} {h : History} → Entries S set (cycle_of set) (Run key ∷ h) → key_in_set set key ≡ true
run-named {set = set} (slot_runs (inr r) s l) = ap (key_in_set set) r.keyed
run-named {set = set} {h = h} (slot_runs (inl r) s l) =
    let cycles = time_of h / cycle_of set + 3 in
    let own = unended_own h (guaranteed_in set (cycle_of set) cycles h) r.job r.among in
    let keyed = r.keyed ∙ ap (λ (j : Job). j.key) own.1.same in
    ap (key_in_set set) keyed ∙ guaranteed-named set cycles h own.0 l own.1.listed

-- so does what is told of a slot
ran-named : {S : Slots} (set : TaskSet) (ran : Ran) (h : History) → Entries S set (cycle_of set) (told_of_slot ran ∷ h) → what_in_set set (told_of_slot ran) ≡ true
ran-named set RanIdle h l = refl
ran-named set (RanKey key) h l = run-named l

-- what is told of an occurrence that names what the set has lies in the set
pub told-named : (set : TaskSet) (h : History) (next : Occurrence) → IsLegal set (cycle_of set) h → IsNamed set next → what_in_set set (told_of set (cycle_of set) h next) ≡ true
told-named set h (arrive row (SoftEvent slots)) legal named = refl
told-named set h (arrive row (FirmEvent slots within)) legal named = refl
told-named set h (arrive row (SporadicEvent index)) legal named = named.0
told-named set h (arrive row (DoneEvent key)) legal named =
    (and_parts (key_in_set set key) (key_in_range key) named.1).0
told-named set h (arrive row (WithdrawEvent firm)) legal named = refl
told-named set h slot legal named =
    let cycle = cycle_of set in
    let ran = choice set.sporadics cycle (scene_of set cycle h) in
    let longer = legal-due set cycle h (told_of_slot ran) legal (slot, tt, refl) in
    ran-named set ran h (legal-as_data set cycle (told_of_slot ran ∷ h) longer)
