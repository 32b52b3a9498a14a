-- What a status says of the files.
use Rattle.std.proofs.Common.{◌≡◌, ◌⊎◌, ℕ, Bool, true, false, List, Option, None, Some, IfSome, Result, Ok, Err, refl, sym, ap, subst, ◌∙◌, inl, inr}
use Rattle.std.proofs.lemmas.Option.{IfSome_then}
use Rattle.faults.specs.declared.arrival_fault.ArrivalFault.{ArrivalFault}
use Rattle.slot_core.specs.declared.faults.TaskFault.{TaskFault}
use Rattle.slot_core.specs.declared.jobs.Evidence.{Evidence}
use Rattle.slot_core.specs.declared.jobs.Window.{Window}
use Rattle.std.specs.Io.KnownBytes.{Appends}
use Rattle.slot_core.specs.Calls.Results.{◌>>=◌}
use Rattle.slot_io.specs.Files.{Held}
use Rattle.faults.specs.declared.table_fault.TableFault.{TableFault}
use Rattle.command_line.specs.declared.status.Status.{Status}
use Rattle.command_line.specs.declared.file.File.{File}
use Rattle.command_line.specs.declared.refusal.Refusal.{Refusal}
use Rattle.command_line.specs.declared.refusal.Refusal.TheVariants.{Usage, Unreadable, TooLarge, BadTasks, Infeasible, BadTable, BadArrivals, NotVerified, BadSecond, SecondInfeasible, NoRow, NotCycleEnd, NoChange, WriteFault, Memory}
use Rattle.command_line.specs.Refusals.{Outcome, refusal_status, has_fixed_line, is_found}
use Rattle.command_line.specs.Writings.{Writing, IsPut, all_after, all_of, leaves_output, whole_of}
use Rattle.command_line.specs.Commands.{command_of}
use Rattle.command_line.specs.declared.commands.Command.{Command}
use Rattle.slot_cli.specs.Due.{expected, writing_due}
use Rattle.slot_cli.specs.Runs.{IsHostFault, IsAnswerTo, HasFrontAtMost, IsRefusedChange, leaves_output_at}

-- what a status tells of its refusal
abbrev pub Tells : Status → Refusal → Type 0
Tells Status.Usage e = e ≡ Usage
Tells Status.FileFault e = (file : File) × (e ≡ Unreadable file)
Tells Status.TooLarge e = (file : File) × (e ≡ TooLarge file)
Tells Status.BadTasks e = (fault : TaskFault) × ((e ≡ BadTasks fault) ⊎ (e ≡ BadSecond fault))
Tells Status.Infeasible e = (window : Window) × ((e ≡ Infeasible window) ⊎ (e ≡ SecondInfeasible window))
Tells Status.BadArrivals e = (fault : ArrivalFault) × (e ≡ BadArrivals fault)
Tells Status.WriteFault e = e ≡ WriteFault
Tells Status.Memory e = e ≡ Memory
Tells Status.Done e = ⊥
Tells Status.BadTable e = (fault : TableFault) × (e ≡ BadTable fault)
Tells Status.NotVerified e = (reason : List ℕ) × (e ≡ NotVerified reason)
Tells Status.NoRow e = (row : ℕ) × (e ≡ NoRow row)
Tells Status.SwitchRefused e = ((cycle : ℕ) × (e ≡ NotCycleEnd cycle)) ⊎ ((evidence : Evidence) × (e ≡ NoChange evidence))

tells : (e : Refusal) → Tells (refusal_status e) e
tells Usage = refl
tells (Unreadable file) = (file, refl)
tells (TooLarge file) = (file, refl)
tells (BadTasks fault) = (fault, inl refl)
tells (Infeasible window) = (window, inl refl)
tells (BadTable fault) = (fault, refl)
tells (BadArrivals fault) = (fault, refl)
tells (NotVerified reason) = (reason, refl)
tells (BadSecond fault) = (fault, inr refl)
tells (SecondInfeasible window) = (window, inr refl)
tells (NoRow row) = (row, refl)
tells (NotCycleEnd cycle) = inl (cycle, refl)
tells (NoChange evidence) = inr (evidence, refl)
tells WriteFault = refl
tells Memory = refl

pub status-tells : (status other : Status) (e : Refusal) → status ≡ refusal_status e → status ≡ other → Tells other e
status-tells status other e is same =
    let P : Status → Type 0 = λ s. Tells s e in subst P (sym is ∙ same) (tells e)

-- how a refusal is kept in its report
abbrev pub IsKept : Refusal → Refusal → Type 0
IsKept e reported = (reported ≡ e) ⊎ ((reported ≡ Memory) × (has_fixed_line e ≡ false))

-- a reported refusal other than want of memory is that of the work
pub reported-same : (e reported other : Refusal) → (other ≡ Memory → ⊥) → IsKept e reported → reported ≡ other → e ≡ other
reported-same e reported other apart (inl same) is = sym same ∙ is
reported-same e reported other apart (inr (memory, line)) is = absurd (apart (sym is ∙ memory))

-- one without values is reported as it is
pub fixed-reported : (e reported : Refusal) → has_fixed_line e ≡ true → IsKept e reported → reported ≡ e
fixed-reported e reported fixed (inl same) = same
fixed-reported e reported fixed (inr (memory, line)) = cc

not_memory : (e : Refusal) → is_found e ≡ true → e ≡ Memory → ⊥
not_memory e found is = let same : is_found e ≡ false = ap is_found is in cc

not_host : (command : Option Command) (e : Refusal) → is_found e ≡ true → IsHostFault command e → ⊥
not_host None (TooLarge file) found host = host
not_host None (BadTasks fault) found host = host
not_host None (Infeasible window) found host = host
not_host None (BadTable fault) found host = host
not_host None (BadArrivals fault) found host = host
not_host None (NotVerified reason) found host = host
not_host None (BadSecond fault) found host = host
not_host None (SecondInfeasible window) found host = host
not_host None (NoRow row) found host = host
not_host None (NotCycleEnd cycle) found host = host
not_host (Some command) (TooLarge file) found host = host
not_host (Some command) (BadTasks fault) found host = host
not_host (Some command) (Infeasible window) found host = host
not_host (Some command) (BadTable fault) found host = host
not_host (Some command) (BadArrivals fault) found host = host
not_host (Some command) (NotVerified reason) found host = host
not_host (Some command) (BadSecond fault) found host = host
not_host (Some command) (SecondInfeasible window) found host = host
not_host (Some command) (NoRow row) found host = host
not_host (Some command) (NotCycleEnd cycle) found host = host
not_host command Usage found host = cc
not_host command (Unreadable file) found host = cc
not_host command WriteFault found host = cc
not_host command (NoChange evidence) found host = cc
not_host command Memory found host = cc

-- a refusal that is found in the files is due
found-due : (command : Option Command) (due : Outcome (List ℕ)) (e : Refusal) → is_found e ≡ true → IsAnswerTo {X = Unit {0}} command due (Err e) → due ≡ Err e
found-due command due e found (inl is) = is
found-due command due e found (inr (inl memory)) = absurd (not_memory e found memory)
found-due command due e found (inr (inr (host, stage))) = absurd (not_host command e found host)

pub IfSome-from_each : {X : Type 0} (o : Option X) (P : X → Type 0) → ((x : X) → o ≡ Some x → P x) → IfSome o P
IfSome-from_each None P h = tt
IfSome-from_each (Some x) P h = h x refl

-- so is one that is reported
pub reported-due : (held : Option Held) (command : Option Command) (due : Held → Outcome (List ℕ)) (e reported : Refusal) → is_found reported ≡ true → IsKept e reported → ((files : Held) → held ≡ Some files → IsAnswerTo {X = Unit {0}} command (due files) (Err e)) → IfSome held (λ files. due files ≡ Err reported)
reported-due held command due e reported found kept answers =
    let same = reported-same e reported reported (not_memory reported found) kept refl in
    let P : Refusal → Type 0 = λ r. is_found r ≡ true in
    IfSome-from_each held (λ files. due files ≡ Err reported) (λ files told. found-due command (due files) e (subst P (sym same) found) (answers files told) ∙ ap Err same)

-- so what a status tells of it is due
pub told-due : {X : Type 0} (refusal : X → Refusal) (x : X) (held : Option Held) (command : Option Command) (due : Held → Outcome (List ℕ)) (e reported : Refusal) → is_found (refusal x) ≡ true → reported ≡ refusal x → IsKept e reported → ((files : Held) → held ≡ Some files → IsAnswerTo {X = Unit {0}} command (due files) (Err e)) → IfSome held (λ files. (y : X) × (due files ≡ Err (refusal y)))
told-due refusal x held command due e reported found is kept answers =
    IfSome_then held (reported-due held command due e reported (ap is_found is ∙ found) kept answers) (λ files same. (x, same ∙ ap Err is))

-- what is reported answers as what is refused does
pub reported-answers : (command : Option Command) (due : Outcome (List ℕ)) (e reported : Refusal) → IsKept e reported → IsAnswerTo {X = Unit {0}} command due (Err e) → IsAnswerTo {X = Unit {0}} command due (Err reported)
reported-answers command due e reported (inl same) answers =
    let P : Refusal → Type 0 = λ r. IsAnswerTo {X = Unit {0}} command due (Err r) in subst P (sym same) answers
reported-answers command due e reported (inr (memory, line)) answers = inr (inl memory)

-- a file that is reported to be unreadable is one that the work could not read
pub reported-unreadable : (e reported : Refusal) (file : File) → IsKept e reported → (let o : Outcome (Unit {0}) = Err reported in o) ≡ Err (Unreadable file) → e ≡ Unreadable file
reported-unreadable e reported file kept is =
    let same : reported ≡ Unreadable file = cc in reported-same e reported (Unreadable file) (λ is_memory. cc) kept same

-- and one that is reported to be too large is one that the work found so
pub reported-large : (e reported : Refusal) (file : File) → IsKept e reported → (let o : Outcome (Unit {0}) = Err reported in o) ≡ Err (TooLarge file) → e ≡ TooLarge file
reported-large e reported file kept is =
    let same : reported ≡ TooLarge file = cc in reported-same e reported (TooLarge file) (λ is_memory. cc) kept same

-- so is one of two kinds
pub told-either : {X : Type 0} (a b : X → Refusal) (x : X) (held : Option Held) (command : Option Command) (due : Held → Outcome (List ℕ)) (e reported : Refusal) → is_found (a x) ≡ true → is_found (b x) ≡ true → (reported ≡ a x) ⊎ (reported ≡ b x) → IsKept e reported → ((files : Held) → held ≡ Some files → IsAnswerTo {X = Unit {0}} command (due files) (Err e)) → IfSome held (λ files. (y : X) × ((due files ≡ Err (a y)) ⊎ (due files ≡ Err (b y))))
told-either a b x held command due e reported found found_too (inl is) kept answers =
    IfSome_then held (reported-due held command due e reported (ap is_found is ∙ found) kept answers) (λ files same. (x, inl (same ∙ ap Err is)))
told-either a b x held command due e reported found found_too (inr is) kept answers =
    IfSome_then held (reported-due held command due e reported (ap is_found is ∙ found_too) kept answers) (λ files same. (x, inr (same ∙ ap Err is)))

-- a change that has no room is refused by what is due
no_change-due : (command : Option Command) (due : Outcome (List ℕ)) (evidence : Evidence) → IsAnswerTo {X = Unit {0}} command due (Err (NoChange evidence)) → due ≡ Err (NoChange evidence)
no_change-due command due evidence (inl is) = is
no_change-due command due evidence (inr (inl memory)) = cc
no_change-due None due evidence (inr (inr (host, stage))) = absurd host
no_change-due (Some command) due evidence (inr (inr (host, stage))) = absurd host

-- ---- what is written

-- the text of a run that is done
rest-text : (front : List ℕ) (rest : Result (List ℕ) Evidence) (text : List ℕ) → whole_of (record { front = front; rest = rest }) ≡ Ok text → all_after front rest ≡ text
rest-text front (Ok rest) text is = cc
rest-text front (Err e) text is = cc

pub done-text : (due : Outcome Writing) (text : List ℕ) (before after : Option (List ℕ)) → (due >>= whole_of) ≡ Ok text → ((w : Writing) → due ≡ Ok w → Appends before after (all_of w)) → Appends before after text
done-text (Ok w) text before after is puts = subst (λ t. Appends before after t) (rest-text w.front w.rest text is) (puts w refl)
done-text (Err e) text before after is puts = cc

-- a refusal with values leaves nothing or the front
front-of_valued : (e : Refusal) (w : Writing) (before after : Option (List ℕ)) → has_fixed_line e ≡ false → IsPut {X = Unit {0}} (Err e) w before after → (after ≡ before) ⊎ Appends before after w.front
front-of_valued Usage w before after line put = cc
front-of_valued (Unreadable file) w before after line put = inl put
front-of_valued (TooLarge file) w before after line put = inl put
front-of_valued (BadTasks fault) w before after line put = inl put
front-of_valued (Infeasible window) w before after line put = inl put
front-of_valued (BadTable fault) w before after line put = inl put
front-of_valued (BadArrivals fault) w before after line put = inl put
front-of_valued (NotVerified reason) w before after line put = inl put
front-of_valued (BadSecond fault) w before after line put = inl put
front-of_valued (SecondInfeasible window) w before after line put = inl put
front-of_valued (NoRow row) w before after line put = inl put
front-of_valued (NotCycleEnd cycle) w before after line put = inl put
front-of_valued (NoChange evidence) w before after line put = inr put
front-of_valued WriteFault w before after line put = cc
front-of_valued Memory w before after line put = cc

-- what is reported has written what is refused has
pub reported-put : (e reported : Refusal) (w : Writing) (before after : Option (List ℕ)) → IsKept e reported → IsPut {X = Unit {0}} (Err e) w before after → IsPut {X = Unit {0}} (Err reported) w before after
reported-put e reported w before after (inl same) put =
    let P : Refusal → Type 0 = λ r. IsPut {X = Unit {0}} (Err r) w before after in subst P (sym same) put
reported-put e reported w before after (inr (memory, line)) put =
    let P : Refusal → Type 0 = λ r. IsPut {X = Unit {0}} (Err r) w before after in subst P (sym memory) (front-of_valued e w before after line put)

-- but for a failed write, that is nothing or the front
front-of_put : (e : Refusal) (w : Writing) (before after : Option (List ℕ)) → (e ≡ WriteFault → ⊥) → IsPut {X = Unit {0}} (Err e) w before after → (after ≡ before) ⊎ Appends before after w.front
front-of_put Usage w before after apart put = inl put
front-of_put (Unreadable file) w before after apart put = inl put
front-of_put (TooLarge file) w before after apart put = inl put
front-of_put (BadTasks fault) w before after apart put = inl put
front-of_put (Infeasible window) w before after apart put = inl put
front-of_put (BadTable fault) w before after apart put = inl put
front-of_put (BadArrivals fault) w before after apart put = inl put
front-of_put (NotVerified reason) w before after apart put = inl put
front-of_put (BadSecond fault) w before after apart put = inl put
front-of_put (SecondInfeasible window) w before after apart put = inl put
front-of_put (NoRow row) w before after apart put = inl put
front-of_put (NotCycleEnd cycle) w before after apart put = inl put
front-of_put (NoChange evidence) w before after apart put = inr put
front-of_put WriteFault w before after apart put = absurd (apart refl)
front-of_put Memory w before after apart put = put

pub front-at_most : (due : Outcome Writing) (e : Refusal) (before after : Option (List ℕ)) → (e ≡ WriteFault → ⊥) → ((w : Writing) → due ≡ Ok w → IsPut {X = Unit {0}} (Err e) w before after) → ((other : Refusal) → due ≡ Err other → after ≡ before) → HasFrontAtMost due before after
front-at_most (Ok w) e before after apart puts early = front-of_put e w before after apart (puts w refl)
front-at_most (Err other) e before after apart puts early = early other refl

-- a failed write has its status
pub write_apart : (e reported : Refusal) (status : Status) → IsKept e reported → status ≡ refusal_status reported → (status ≡ Status.WriteFault → ⊥) → e ≡ WriteFault → ⊥
write_apart e reported status kept is apart same =
    let fixed : reported ≡ e = fixed-reported e reported (ap has_fixed_line same) kept in
    apart (is ∙ ap refusal_status (fixed ∙ same))

-- a refusal leaves the output as it was where its status does
leaves-status : (parts : Bool) (e : Refusal) → leaves_output_at parts (refusal_status e) ≡ true → leaves_output parts e ≡ true
leaves-status parts Usage leaves = refl
leaves-status parts (Unreadable file) leaves = refl
leaves-status parts (TooLarge file) leaves = refl
leaves-status parts (BadTasks fault) leaves = refl
leaves-status parts (Infeasible window) leaves = refl
leaves-status parts (BadTable fault) leaves = refl
leaves-status parts (BadArrivals fault) leaves = refl
leaves-status parts (NotVerified reason) leaves = refl
leaves-status parts (BadSecond fault) leaves = refl
leaves-status parts (SecondInfeasible window) leaves = refl
leaves-status parts (NoRow row) leaves = refl
leaves-status parts (NotCycleEnd cycle) leaves = refl
leaves-status parts (NoChange evidence) leaves = leaves
leaves-status parts WriteFault leaves = cc
leaves-status parts Memory leaves = leaves

leaves-valued : (parts : Bool) (e : Refusal) → has_fixed_line e ≡ false → leaves_output_at parts Status.Memory ≡ true → leaves_output parts e ≡ true
leaves-valued parts Usage line leaves = cc
leaves-valued parts (Unreadable file) line leaves = refl
leaves-valued parts (TooLarge file) line leaves = refl
leaves-valued parts (BadTasks fault) line leaves = refl
leaves-valued parts (Infeasible window) line leaves = refl
leaves-valued parts (BadTable fault) line leaves = refl
leaves-valued parts (BadArrivals fault) line leaves = refl
leaves-valued parts (NotVerified reason) line leaves = refl
leaves-valued parts (BadSecond fault) line leaves = refl
leaves-valued parts (SecondInfeasible window) line leaves = refl
leaves-valued parts (NoRow row) line leaves = refl
leaves-valued parts (NotCycleEnd cycle) line leaves = refl
leaves-valued parts (NoChange evidence) line leaves = leaves
leaves-valued parts WriteFault line leaves = cc
leaves-valued parts Memory line leaves = cc

pub leaves-reported : (parts : Bool) (e reported : Refusal) (status : Status) → IsKept e reported → status ≡ refusal_status reported → leaves_output_at parts status ≡ true → leaves_output parts e ≡ true
leaves-reported parts e reported status (inl same) is leaves =
    leaves-status parts e (sym (ap (leaves_output_at parts) (is ∙ ap refusal_status same)) ∙ leaves)
leaves-reported parts e reported status (inr (memory, line)) is leaves =
    leaves-valued parts e line (sym (ap (leaves_output_at parts) (is ∙ ap refusal_status memory)) ∙ leaves)

-- the refusal of an outcome
pub err_same : (e other : Refusal) → (let o : Outcome (Unit {0}) = Err e in o) ≡ Err other → e ≡ other
err_same e other is = cc

-- a reported refusal that leaves the output leaves it as that of the work does
pub reported-untouched : {X : Type 0} (parts : Bool) (e reported other : Refusal) (written : X → Option (List ℕ)) (before after : X) → IsKept e reported → (leaves_output parts e ≡ true → after ≡ before) → reported ≡ other → leaves_output parts other ≡ true → written after ≡ written before
reported-untouched parts e reported other written before after (inl same) output is leaves =
    let here : leaves_output parts e ≡ true = sym (ap (leaves_output parts) (sym is ∙ same)) ∙ leaves in
    ap written (output here)
reported-untouched parts e reported other written before after (inr (memory, line)) output is leaves =
    let here : leaves_output parts Memory ≡ true = sym (ap (leaves_output parts) (sym is ∙ memory)) ∙ leaves in
    ap written (output (leaves-valued parts e line here))

-- how a refused change ends
pub refused-change : (words : List (List ℕ)) (held : Held) (before after : Option (List ℕ)) (e reported : Refusal) → IsKept e reported → IsAnswerTo {X = Unit {0}} (command_of words) (expected held words) (Err e) → ((w : Writing) → writing_due held words ≡ Ok w → IsPut {X = Unit {0}} (Err e) w before after) → ((cycle : ℕ) → e ≡ NotCycleEnd cycle → after ≡ before) → ((cycle : ℕ) × (reported ≡ NotCycleEnd cycle)) ⊎ ((evidence : Evidence) × (reported ≡ NoChange evidence)) → IsRefusedChange words held before after
refused-change words held before after e reported kept answers puts stays (inl (cycle, is)) =
    let same = reported-same e reported (NotCycleEnd cycle) (λ memory. cc) kept is in
    let due = found-due (command_of words) (expected held words) e (ap is_found same) answers in
    inl (cycle, due ∙ ap Err same, stays cycle same)
refused-change words held before after e reported kept answers puts stays (inr (evidence, is)) =
    let same = reported-same e reported (NoChange evidence) (λ memory. cc) kept is in
    let P : Refusal → Type 0 = λ r. IsAnswerTo {X = Unit {0}} (command_of words) (expected held words) (Err r) in
    inr (evidence, no_change-due (command_of words) (expected held words) evidence (subst P same answers), λ w due. let Q : Refusal → Type 0 = λ r. IsPut {X = Unit {0}} (Err r) w before after in subst Q same (puts w due))
