-- What a line tells may be told.
use Rattle.std.proofs.Common.{◌≡◌, ℕ, Bool, true, false, cond, List, ◌∷◌, Option, Some, None, Result, Ok, Err, refl, sym, ◌∙◌, subst, inl, inr}
use Rattle.std.specs.Prelude.{filter, nat_le, nat_lt, ⊤}
use Rattle.std.specs.Option.{option_map_or}
use Rattle.std.proofs.lemmas.Bool.{le-leb, lt-ltb, cases_lt}
use Rattle.slot_core.specs.declared.jobs.Job.{Job}
use Rattle.slot_core.specs.declared.tasks.TaskSet.{TaskSet}
use Rattle.slot_core.specs.declared.events.Ran.{Ran}
use Rattle.slot_core.specs.declared.events.Ran.TheVariants.{Idle as RanIdle, Key as RanKey}
use Rattle.slot_core.specs.declared.events.What.{What}
use Rattle.slot_core.specs.declared.events.What.TheVariants.{Run}
use Rattle.slot_core.specs.Calls.Results.{◌>>=◌}
use Rattle.slot_core.specs.Claims.Lawful.{may_run, is_in_time, MayTell}
use Rattle.slot_core.specs.Runs.Choice.{earliest}
use Rattle.slot_core.specs.Runs.Histories.{History}
use Rattle.slot_core.specs.Runs.Scenes.{Scene, scene_of}
use Rattle.slot_core.specs.Runs.Traces.{Occurrence, arrive, slot, told_of, told_of_slot}
use Rattle.slot_facts.proofs.Choice.SameEarliest.{earliest_of}
use Rattle.slot_facts.proofs.Lists.Members.{Has, Has-filter}
use Rattle.slot_facts.proofs.Lists.Tests.{list_all-from_Has}
use Rattle.trace_text.specs.RunLines.{run_of_line}
use Rattle.trace_verify.specs.Verdicts.{Checking, told_where_ready, told_by, same_line, in_time, entry_in, line_told}
use Rattle.trace_verify.proofs.SameVerdicts.{rest_told}
use Rattle.faults.specs.declared.verify_fault.VerifyFault.TheVariants.{NoRun, NotReady, Late}

-- where two steps give a value, the first gives one, and the second gives it from that
pub passed : {X Y E : Type 0} (r : Result X E) (f : X → Result Y E) (y : Y) → (r >>= f) ≡ Ok y → (x : X) × (r ≡ Ok x) × (f x ≡ Ok y)
passed (Ok x) f y gives = (x, refl, gives)
passed (Err e) f y gives = cc

-- the job is past its deadline then
abbrev is_past : ℕ → Job → Bool
is_past time job = nat_le job.dl time

-- the first job that is late, if any, is the fault
abbrev late_of : ℕ → Option Job → Checking ⊤
late_of n late = option_map_or (λ (j : Job). Err (Late n j.key)) late (Ok tt)

-- where no job is past its deadline, all are in time
none_late : (scene : Scene) (n : ℕ) → in_time scene n slot ≡ Ok tt → is_in_time scene ≡ true
none_late scene n timely = by_first (earliest (filter (is_past scene.time) scene.jobs)) refl timely
  where
    each : earliest (filter (is_past scene.time) scene.jobs) ≡ None → (job : Job) → Has scene.jobs job → nat_lt scene.time job.dl ≡ true
    each none job at =
        elim (cases_lt scene.time job.dl) [
          | inl later ↦ lt-ltb scene.time job.dl later
          | inr late ↦ absurd (earliest_of (filter (is_past scene.time) scene.jobs) job (Has-filter (is_past scene.time) scene.jobs job at (le-leb job.dl scene.time late)) none)
        ]

    by_first : (o : Option Job) → earliest (filter (is_past scene.time) scene.jobs) ≡ o → late_of n o ≡ Ok tt → is_in_time scene ≡ true
    by_first None none e =
        list_all-from_Has (λ (j : Job). nat_lt scene.time j.dl) scene.jobs (each none)
    by_first (Some job) found e = cc

-- what is told where this ran is told of it, and it may run
ready-told : (set : TaskSet) (scene : Scene) (n : ℕ) (ran : Ran) (what : What) → told_where_ready set scene n ran ≡ Ok what → (what ≡ told_of_slot ran) × (may_run set scene ran ≡ true)
ready-told set scene n RanIdle what told = (cc, refl)
ready-told set scene n (RanKey key) what told = by_test (may_run set scene (RanKey key)) refl told
  where
    by_test : (b : Bool) → may_run set scene (RanKey key) ≡ b → cond b (Ok (Run key)) (Err (NotReady n key)) ≡ Ok what → (what ≡ Run key) × (may_run set scene (RanKey key) ≡ true)
    by_test true on e = (cc, on)
    by_test false on e = cc

-- so something ran
pub ran-told : (set : TaskSet) (scene : Scene) (n : ℕ) (ran : Option Ran) (what : What) → option_map_or (told_where_ready set scene n) ran (Err (NoRun n)) ≡ Ok what → (r : Ran) × (what ≡ told_of_slot r) × (may_run set scene r ≡ true)
ran-told set scene n None what told = cc
ran-told set scene n (Some ran) what told =
    let ready = ready-told set scene n ran what told in
    (ran, ready.0, ready.1)

-- what the rest gives is what was told, and all are in time
pub rest-told : (set : TaskSet) (cycle : ℕ) (scene after : Scene) (n : ℕ) (next : Occurrence) (line : List ℕ) (what given : What) → rest_told set cycle scene after n next line what ≡ Ok given → (what ≡ given) × (in_time after n next ≡ Ok tt)
rest-told set cycle scene after n next line what given told =
    let same = passed (same_line set (entry_in cycle scene what after) n line) (λ s. in_time after n next >>= λ timely. Ok what) given told in
    let timely = passed (in_time after n next) (λ t. Ok what) given same.2 in
    (cc, timely.1)

-- what a line tells may be told
pub told-may : (set : TaskSet) (cycle : ℕ) (h : History) (n : ℕ) (next : Occurrence) (line : List ℕ) (what : What) → line_told set cycle (scene_of set cycle h) (λ w. scene_of set cycle (w ∷ h)) n next line ≡ Ok what → MayTell set cycle h next what
told-may set cycle h n (arrive row event) line what told =
    sym (rest-told set cycle (scene_of set cycle h) (scene_of set cycle (told_of set cycle h (arrive row event) ∷ h)) n (arrive row event) line (told_of set cycle h (arrive row event)) what told).0
told-may set cycle h n slot line what told =
    let scene = scene_of set cycle h in
    let first = passed (told_by set cycle scene n slot line) (λ w. rest_told set cycle scene (scene_of set cycle (w ∷ h)) n slot line w) what told in
    let own = first.0 in
    let rest = rest-told set cycle scene (scene_of set cycle (own ∷ h)) n slot line own what first.2 in
    let (ran, is, may) = ran-told set scene n (run_of_line set line) own first.1 in
    let timely = none_late (scene_of set cycle (own ∷ h)) n rest.1 in
    (ran, sym rest.0 ∙ is, may, subst (λ w. is_in_time (scene_of set cycle (w ∷ h)) ≡ true) rest.0 timely)
