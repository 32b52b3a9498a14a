-- The keys that the faults of a recorded trace name lie in the set.
use Rattle.std.proofs.Common.{◌≡◌, ℕ, ◌+◌, ◌/◌, Bool, true, false, cond, List, [], ◌∷◌, ◌++◌, Option, Some, None, Ok, Err, refl, sym, ap, ◌∙◌, subst, ◌⊎◌, inl, inr}
use Rattle.std.specs.Prelude.{length, nat_lt, nat_le, filter, map, ◌==◌, ⊤}
use Rattle.std.specs.List.{range_with_len}
use Rattle.std.specs.Option.{option_map_or}
use Rattle.std.specs.Str.{bytes_eq}
use Rattle.std.proofs.lemmas.Bool.{and_parts}
use Rattle.slot_core.specs.declared.TheConstants.{ARRIVAL_LIMIT}
use Rattle.slot_core.specs.declared.jobs.Job.{Job}
use Rattle.slot_core.specs.declared.tasks.TaskSet.{TaskSet}
use Rattle.slot_core.specs.declared.events.Arrival.{Arrival}
use Rattle.slot_core.specs.declared.events.Entry.{Entry}
use Rattle.slot_core.specs.declared.events.Event.TheVariants.{Soft as SoftEvent, Firm as FirmEvent, Sporadic as SporadicEvent, Done as DoneEvent, Withdraw as WithdrawEvent}
use Rattle.slot_core.specs.declared.events.Ran.{Ran}
use Rattle.slot_core.specs.declared.events.Ran.TheVariants.{Idle as RanIdle, Key as RanKey}
use Rattle.slot_core.specs.declared.events.Spo.TheVariants.{Taken as SporadicTaken, Soon}
use Rattle.slot_core.specs.declared.events.What.{What}
use Rattle.slot_core.specs.declared.events.What.TheVariants.{Start, Run, Sporadic as SporadicEntry}
use Rattle.slot_core.specs.Calls.Results.{◌>>=◌}
use Rattle.slot_core.specs.Claims.Lawful.{may_run}
use Rattle.slot_core.specs.Keeping.Plans.{PlanParts, IsPlan}
use Rattle.slot_core.specs.Offline.OfflineJobs.{offline_jobs}
use Rattle.slot_core.specs.Output.Texts.{entry_line}
use Rattle.slot_core.specs.Runs.Arrivals.{are_fitting, arrivals_follow, event_may_come, key_in_set, key_in_range}
use Rattle.slot_core.specs.Runs.Histories.{History, time_of, firm_jobs, sporadic_jobs}
use Rattle.slot_core.specs.Runs.Scenes.{Scene, guaranteed, remaining, scene_of}
use Rattle.slot_core.specs.Runs.Traces.{Occurrence, arrive, slot, end_entry, occurrences_in, occurrences_of, shown_entry, started, told_of_slot}
use Rattle.slot_core.specs.Sets.Cycles.{cycle_of}
use Rattle.slot_facts.proofs.Choice.Earliest.{IsEarliest-from_earliest}
use Rattle.slot_facts.proofs.Histories.Unended.{unended_own}
use Rattle.slot_facts.proofs.Legal.Jobs.{firm-key}
use Rattle.slot_facts.proofs.Legal.Traces.{BeginsWith-from}
use Rattle.slot_facts.proofs.Lists.Members.{Has, Has-append_cases, Has-filter_passes, Has-flat_map_cases, Has-map_cases, Contains-from_Has}
use Rattle.slot_facts.proofs.Offline.Jobs.{offline_from_cycles, offline-named}
use Rattle.trace_text.specs.RunLines.{is_known, run_of_line}
use Rattle.trace_text.proofs.ReadRuns.{TellsRun-from_run}
use Rattle.key_texts.specs.KeyTexts.{cut_at}
use Rattle.trace_verify.specs.Verdicts.{Checking, needed_line, told_where_ready, told_by, same_line, first_late, in_time, entry_in, line_told, no_more, last_line, lines_told, first_line, verdict}
use Rattle.trace_verify.proofs.SameVerdicts.{rest_told}
use Rattle.trace_verify.proofs.ToldLines.{passed, ran-told, rest-told}
use Rattle.faults.specs.VerifyTexts.{names_known}
use Rattle.faults.specs.declared.verify_fault.VerifyFault.{VerifyFault}
use Rattle.faults.specs.declared.verify_fault.VerifyFault.TheVariants.{Short, NoRun, NotReady, Differs, Late, Trailing}

-- each sporadic arrival of the history is of a task of the set
abbrev AreNamed : TaskSet → History → Type 0
AreNamed set [] = ⊤
AreNamed set (SporadicEntry row index a ∷ h) =
    (nat_lt index (length set.sporadics) ≡ true) × AreNamed set h
AreNamed set (what ∷ h) = AreNamed set h

-- so the key of each sporadic job lies in the set
sporadic-named : (set : TaskSet) (h : History) (job : Job) → AreNamed set h → Has (sporadic_jobs set.sporadics h) job → key_in_set set job.key ≡ true
sporadic-named set [] job named at = absurd at
sporadic-named set (SporadicEntry row index (SporadicTaken due) ∷ h) job named (inl e) =
    ap (λ (j : Job). key_in_set set j.key) (sym e) ∙ named.0
sporadic-named set (SporadicEntry row index (SporadicTaken due) ∷ h) job named (inr at) =
    sporadic-named set h job named.1 at
sporadic-named set (SporadicEntry row index (Soon next) ∷ h) job named at = sporadic-named set h job named.1 at
sporadic-named set (what ∷ h) job named at = sporadic-named set h job named at

-- and that of each remaining job
remaining-named : (set : TaskSet) (h : History) (job : Job) → AreNamed set h → Has (remaining set (cycle_of set) h) job → key_in_set set job.key ≡ true
remaining-named set h job named at =
    let cycles = time_of h / cycle_of set + 3 in
    let planned = offline_jobs set (cycle_of set) cycles in
    let own = unended_own h (guaranteed set (cycle_of set) h) job at in
    let listed : key_in_set set own.0.key ≡ true = elim (Has-append_cases (planned ++ firm_jobs h) (sporadic_jobs set.sporadics h) own.0 own.1.listed) [
      | inl a ↦ elim (Has-append_cases planned (firm_jobs h) own.0 a) [
        | inl b ↦ offline-named set cycles own.0 (offline_from_cycles set (cycle_of set) cycles own.0 (Contains-from_Has planned own.0 b))
        | inr b ↦ ap (key_in_set set) (firm-key h own.0 b)
      ]
      | inr a ↦ sporadic-named set h own.0 named a
    ] in
    ap (λ (j : Job). key_in_set set j.key) own.1.same ∙ listed

-- where two steps have a fault it is that of the first, or of the second from what the first gives
failed : {X Y : Type 0} (r : Checking X) (f : X → Checking Y) (e : VerifyFault) → (r >>= f) ≡ Err e → (r ≡ Err e) ⊎ ((x : X) × (r ≡ Ok x) × (f x ≡ Err e))
failed (Ok x) f e is = inr (x, refl, is)
failed (Err other) f e is = let same : other ≡ e = cc in inl (ap Err same)

-- the fault names what the set has
abbrev IsKnown : TaskSet → VerifyFault → Type 0
IsKnown set e = names_known set e ≡ true

known-same : (set : TaskSet) (a e : VerifyFault) → IsKnown set a → a ≡ e → IsKnown set e
known-same set a e known same = subst (IsKnown set) same known

-- a line that is not there
needed-known : (set : TaskSet) (n : ℕ) (text : List ℕ) (e : VerifyFault) → needed_line n text ≡ Err e → IsKnown set e
needed-known set n text e is = by_cut (cut_at 10 text) is
  where
    by_cut : (o : Option (List ℕ × List ℕ)) → option_map_or (λ (parts : List ℕ × List ℕ). let c : Checking (List ℕ × List ℕ) = Ok parts in c) o (Err (Short n)) ≡ Err e → IsKnown set e
    by_cut None none = known-same set (Short n) e refl (let same : Short n ≡ e = cc in same)
    by_cut (Some parts) got = cc

-- a line that differs
same-known : (set : TaskSet) (entry : Entry) (n : ℕ) (line : List ℕ) (e : VerifyFault) → same_line set entry n line ≡ Err e → IsKnown set e
same-known set entry n line e is = by_test (bytes_eq (line ++ 10 ∷ []) (entry_line set entry)) is
  where
    by_test : (b : Bool) → (let c : Checking ⊤ = cond b (Ok tt) (Err (Differs n)) in c) ≡ Err e → IsKnown set e
    by_test true got = cc
    by_test false none = known-same set (Differs n) e refl (let same : Differs n ≡ e = cc in same)

-- a key that may not run
ready-known : (set : TaskSet) (scene : Scene) (n : ℕ) (ran : Ran) (e : VerifyFault) → is_known set ran ≡ true → told_where_ready set scene n ran ≡ Err e → IsKnown set e
ready-known set scene n RanIdle e known is = cc
ready-known set scene n (RanKey key) e known is = by_test (may_run set scene (RanKey key)) is
  where
    by_test : (b : Bool) → (let c : Checking What = cond b (Ok (Run key)) (Err (NotReady n key)) in c) ≡ Err e → IsKnown set e
    by_test true got = cc
    by_test false none = known-same set (NotReady n key) e (and_parts (key_in_set set key) (key_in_range key) known).0 (let same : NotReady n key ≡ e = cc in same)

-- so what a line tells
told-known : (set : TaskSet) (cycle : ℕ) (scene : Scene) (n : ℕ) (next : Occurrence) (line : List ℕ) (e : VerifyFault) → told_by set cycle scene n next line ≡ Err e → IsKnown set e
told-known set cycle scene n (arrive row event) line e is = cc
told-known set cycle scene n slot line e is = by_run (run_of_line set line) refl is
  where
    by_run : (o : Option Ran) → run_of_line set line ≡ o → option_map_or (told_where_ready set scene n) o (Err (NoRun n)) ≡ Err e → IsKnown set e
    by_run None read none = known-same set (NoRun n) e refl (let same : NoRun n ≡ e = cc in same)
    by_run (Some ran) read got = ready-known set scene n ran e (TellsRun-from_run set line ran read).known got

-- a job that is late
late-known : (set : TaskSet) (h : History) (n : ℕ) (next : Occurrence) (e : VerifyFault) → AreNamed set h → in_time (scene_of set (cycle_of set) h) n next ≡ Err e → IsKnown set e
late-known set h n (arrive row event) e named is = cc
late-known set h n slot e named is = by_first (first_late scene) refl is
  where
    scene : Scene
    scene = scene_of set (cycle_of set) h

    by_first : (o : Option Job) → first_late scene ≡ o → option_map_or (λ (j : Job). let c : Checking ⊤ = Err (Late n j.key) in c) o (Ok tt) ≡ Err e → IsKnown set e
    by_first None none got = cc
    by_first (Some job) found late =
        let past : Job → Bool = λ j. nat_le j.dl scene.time in
        let among = (IsEarliest-from_earliest (filter past scene.jobs) job found).among in
        let kept = Has-filter_passes past scene.jobs job among in
        known-same set (Late n job.key) e (remaining-named set h job named kept.0) (let same : Late n job.key ≡ e = cc in same)

-- an arrival may come
abbrev MayArrive : TaskSet → Occurrence → Type 0
MayArrive set (arrive row event) = event_may_come set event ≡ true
MayArrive set slot = ⊤

-- what is told of it names what the set has
ran-named : (set : TaskSet) (h : History) (ran : Ran) → AreNamed set h → AreNamed set (told_of_slot ran ∷ h)
ran-named set h RanIdle named = named
ran-named set h (RanKey key) named = named

Ok_same : {X : Type 0} (a b : X) → (let c : Checking X = Ok a in c) ≡ Ok b → a ≡ b
Ok_same a b is = cc

told-named : (set : TaskSet) (h : History) (scene : Scene) (n : ℕ) (next : Occurrence) (line : List ℕ) (what : What) → AreNamed set h → MayArrive set next → told_by set (cycle_of set) scene n next line ≡ Ok what → AreNamed set (what ∷ h)
told-named set h scene n (arrive row (SoftEvent slots)) line what named may told = subst (λ w. AreNamed set (w ∷ h)) (Ok_same _ what told) named
told-named set h scene n (arrive row (FirmEvent slots within)) line what named may told = subst (λ w. AreNamed set (w ∷ h)) (Ok_same _ what told) named
told-named set h scene n (arrive row (SporadicEvent index)) line what named may told = subst (λ w. AreNamed set (w ∷ h)) (Ok_same _ what told) (may, named)
told-named set h scene n (arrive row (DoneEvent key)) line what named may told = subst (λ w. AreNamed set (w ∷ h)) (Ok_same _ what told) named
told-named set h scene n (arrive row (WithdrawEvent firm)) line what named may told = subst (λ w. AreNamed set (w ∷ h)) (Ok_same _ what told) named
told-named set h scene n slot line what named may told =
    let (ran, is, ready) = ran-told set scene n (run_of_line set line) what told in
    subst (λ w. AreNamed set (w ∷ h)) (sym is) (ran-named set h ran named)

-- so a line
line-known : (set : TaskSet) (h : History) (n : ℕ) (next : Occurrence) (line : List ℕ) (e : VerifyFault) → AreNamed set h → MayArrive set next → line_told set (cycle_of set) (scene_of set (cycle_of set) h) (λ what. scene_of set (cycle_of set) (what ∷ h)) n next line ≡ Err e → IsKnown set e
line-known set h n next line e named may is =
    let cycle = cycle_of set in
    let scene = scene_of set cycle h in
    elim (failed (told_by set cycle scene n next line) (λ what. rest_told set cycle scene (scene_of set cycle (what ∷ h)) n next line what) e is) [
      | inl untold ↦ told-known set cycle scene n next line e untold
      | inr (what, told, rest) ↦
          let after = scene_of set cycle (what ∷ h) in
          elim (failed (same_line set (entry_in cycle scene what after) n line) (λ same. in_time after n next >>= λ timely. let c : Checking What = Ok what in c) e rest) [
            | inl differs ↦ same-known set (entry_in cycle scene what after) n line e differs
            | inr (same, is_same, late) ↦ elim (failed (in_time after n next) (λ timely. let c : Checking What = Ok what in c) e late) [
              | inl is_late ↦ late-known set (what ∷ h) n next e (told-named set h scene n next line what named may told) is_late
              | inr (timely, is_timely, none) ↦ cc
            ]
          ]
    ]

-- what a line tells names what the set has
line-named : (set : TaskSet) (h : History) (n : ℕ) (next : Occurrence) (line : List ℕ) (what : What) → AreNamed set h → MayArrive set next → line_told set (cycle_of set) (scene_of set (cycle_of set) h) (λ what. scene_of set (cycle_of set) (what ∷ h)) n next line ≡ Ok what → AreNamed set (what ∷ h)
line-named set h n next line what named may is =
    let cycle = cycle_of set in
    let scene = scene_of set cycle h in
    let first = passed (told_by set cycle scene n next line) (λ w. rest_told set cycle scene (scene_of set cycle (w ∷ h)) n next line w) what is in
    let same = (rest-told set cycle scene (scene_of set cycle (first.0 ∷ h)) n next line first.0 what first.2).0 in
    subst (λ w. AreNamed set (w ∷ h)) same (told-named set h scene n next line first.0 named may first.1)

-- the line of the end, and what follows it
more-known : (set : TaskSet) (n : ℕ) (text : List ℕ) (e : VerifyFault) → no_more n text ≡ Err e → IsKnown set e
more-known set n [] e is = cc
more-known set n (byte ∷ text) e is = known-same set (Trailing n) e refl (let same : Trailing n ≡ e = cc in same)

last-known : (set : TaskSet) (slots n : ℕ) (text : List ℕ) (e : VerifyFault) → last_line set slots n text ≡ Err e → IsKnown set e
last-known set slots n text e is =
    elim (failed (needed_line n text) (λ parts. same_line set (end_entry slots) n parts.0 >>= λ same. no_more (n + 1) parts.1) e is) [
      | inl short ↦ needed-known set n text e short
      | inr (parts, got, rest) ↦ elim (failed (same_line set (end_entry slots) n parts.0) (λ same. no_more (n + 1) parts.1) e rest) [
        | inl differs ↦ same-known set (end_entry slots) n parts.0 e differs
        | inr (same, is_same, more) ↦ more-known set (n + 1) parts.1 e more
      ]
    ]

-- all that happens may come
abbrev AllMayArrive : TaskSet → List Occurrence → Type 0
AllMayArrive set [] = ⊤
AllMayArrive set (next ∷ later) = MayArrive set next × AllMayArrive set later

AllMayArrive-from_Has : (set : TaskSet) (all : List Occurrence) → ((next : Occurrence) → Has all next → MayArrive set next) → AllMayArrive set all
AllMayArrive-from_Has set [] each = tt
AllMayArrive-from_Has set (next ∷ later) each = (each next (inl refl), AllMayArrive-from_Has set later (λ other at. each other (inr at)))

-- the lines of what happens
lines-known : (set : TaskSet) (slots : ℕ) (h : History) (n : ℕ) (all : List Occurrence) (text : List ℕ) (e : VerifyFault) → AreNamed set h → AllMayArrive set all → lines_told set (cycle_of set) slots h n all text ≡ Err e → IsKnown set e
lines-known set slots h n [] text e named may is = last-known set slots n text e is
lines-known set slots h n (next ∷ later) text e named may is =
    let cycle = cycle_of set in
    let told = λ (parts : List ℕ × List ℕ). line_told set cycle (scene_of set cycle h) (λ what. scene_of set cycle (what ∷ h)) n next parts.0 in
    let rest = λ (parts : List ℕ × List ℕ) (what : What). lines_told set cycle slots (what ∷ h) (n + 1) later parts.1 in
    elim (failed (needed_line n text) (λ parts. told parts >>= rest parts) e is) [
      | inl short ↦ needed-known set n text e short
      | inr (parts, got, more) ↦ elim (failed (told parts) (rest parts) e more) [
        | inl fails ↦ line-known set h n next parts.0 e named may.0 fails
        | inr (what, tells, after) ↦
            lines-known set slots (what ∷ h) (n + 1) later parts.1 e (line-named set h n next parts.0 what named may.0 tells) may.1 after
      ]
    ]

-- arrivals that fit may come
follow-may : (set : TaskSet) (n row from : ℕ) (arrivals : List Arrival) (a : Arrival) → arrivals_follow set n row from arrivals ≡ true → Has arrivals a → event_may_come set a.event ≡ true
follow-may set n row from [] a follow at = absurd at
follow-may set n row from (b ∷ arrivals) a follow (inl e) =
    subst (λ (x : Arrival). event_may_come set x.event ≡ true) e (BeginsWith-from set n row from b arrivals follow).may
follow-may set n row from (b ∷ arrivals) a follow (inr at) =
    follow-may set n (row + 1) b.slot arrivals a (BeginsWith-from set n row from b arrivals follow).rest at

happens-may : (set : TaskSet) (slots : ℕ) (arrivals : List Arrival) (next : Occurrence) → are_fitting set slots arrivals ≡ true → Has (occurrences_of arrivals slots) next → MayArrive set next
happens-may set slots arrivals next fits at =
    let (time, in_range, here) = Has-flat_map_cases (occurrences_in arrivals) (range_with_len 0 slots) next at in
    let due = λ (a : Arrival). a.slot == time in
    let come = λ (a : Arrival). arrive a.row a.event in
    elim (Has-append_cases (map come (filter due arrivals)) (slot ∷ []) next here) [
      | inl arrives ↦
          let (a, among, same) = Has-map_cases come (filter due arrivals) next arrives in
          let listed = Has-filter_passes due arrivals a among in
          let follow = and_parts (nat_le (length arrivals) ARRIVAL_LIMIT) (arrivals_follow set slots 1 0 arrivals) fits in
          subst (MayArrive set) same (follow-may set slots 1 0 arrivals a follow.1 listed.0)
      | inr passes ↦ elim passes [ inl same ↦ subst (MayArrive set) same tt | inr none ↦ absurd none ]
    ]

verdict-known : (set : TaskSet) (arrivals : List Arrival) (slots : ℕ) (text : List ℕ) (e : VerifyFault) → are_fitting set slots arrivals ≡ true → verdict set (cycle_of set) arrivals slots text ≡ Err e → IsKnown set e
verdict-known set arrivals slots text e fits is =
    let cycle = cycle_of set in
    let all = occurrences_of arrivals slots in
    let first = shown_entry set cycle 0 Start started in
    let may = AllMayArrive-from_Has set all (λ next. happens-may set slots arrivals next fits) in
    elim (failed (first_line set cycle text) (λ rest. lines_told set cycle slots started 2 all rest) e is) [
      | inl fails ↦ elim (failed (needed_line 1 text) (λ parts. same_line set first 1 parts.0 >>= λ same. let c : Checking (List ℕ) = Ok parts.1 in c) e fails) [
        | inl short ↦ needed-known set 1 text e short
        | inr (parts, got, rest) ↦ elim (failed (same_line set first 1 parts.0) (λ same. let c : Checking (List ℕ) = Ok parts.1 in c) e rest) [
          | inl differs ↦ same-known set first 1 parts.0 e differs
          | inr (same, is_same, none) ↦ cc
        ]
      ]
      | inr (rest, got, fails) ↦ lines-known set slots started 2 all rest e tt may fails
    ]

-- the fault of a trace of a plan names what its set has
pub names_known-verdict : (plan : PlanParts) (arrivals : List Arrival) (slots : ℕ) (text : List ℕ) (e : VerifyFault) → IsPlan plan → are_fitting plan.tasks slots arrivals ≡ true → verdict plan.tasks plan.cycle arrivals slots text ≡ Err e → names_known plan.tasks e ≡ true
names_known-verdict plan arrivals slots text e p fits is =
    verdict-known plan.tasks arrivals slots text e fits (subst (λ k. verdict plan.tasks k arrivals slots text ≡ Err e) p.cycle is)
