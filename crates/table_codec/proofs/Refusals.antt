-- Why a table is refused: a fault of its bytes or its set, or the counterexample to its set.
use Rattle.std.proofs.Common.{◌≡◌, ◌≢◌, ◌⊎◌, inl, inr, ℕ, zero, suc, ◌+◌, ◌-◌, ◌++◌, Bool, true, false, cond, pos, List, [], ◌∷◌, length, Option, Some, None, Ok, Err, refl, ap, subst, ◌∙◌, append_assoc}
use Rattle.std.specs.Prelude.{nat_lt, nat_le, ◌==◌, codes, ⊤}
use Rattle.std.specs.Int.{Width, w16, w32, byte_len}
use Rattle.std.specs.Option.{option_map_or}
use Rattle.std.specs.Str.{bytes_eq}
use Rattle.std.proofs.lemmas.Bool.{eqb-false}
use Rattle.slot_core.specs.declared.TheConstants.{GRAPH_LIMIT, TASK_LIMIT, AFTER_LIMIT, SPORADIC_LIMIT, SLOT_LIMIT, SOFT_LIMIT, NAME_LIMIT}
use Rattle.slot_core.specs.declared.jobs.Window.{Window}
use Rattle.slot_core.specs.declared.jobs.Job.{Job}
use Rattle.slot_core.specs.declared.jobs.Span.{Span}
use Rattle.slot_core.specs.declared.tasks.TaskSet.{TaskSet}
use Rattle.slot_core.specs.declared.faults.Part.{Part}
use Rattle.slot_core.specs.declared.faults.Part.TheVariants.{Top, Graph as GraphPart, Task as TaskPart, Sporadic as SporadicPart}
use Rattle.slot_core.specs.declared.faults.Field.{Field}
use Rattle.slot_core.specs.declared.faults.Field.TheVariants.{Soft, Graph as GraphKey, Sporadic as SporadicKey, Period, Offset, Deadline, Task as TaskKey, Wcet, After, Separation}
use Rattle.slot_core.specs.declared.faults.TaskFault.{TaskFault}
use Rattle.slot_core.specs.declared.faults.TaskFault.TheVariants.{OutOfRange, TooMany, Missing}
use Rattle.slot_core.specs.Sets.Cycles.{cycle_of}
use Rattle.slot_core.specs.Sets.Faults.{set_fault}
use Rattle.slot_core.specs.Feasibility.Feasible.{counterexample}
use Rattle.slot_core.specs.Sets.Names.{is_name}
use Rattle.slot_core.specs.Keeping.Plans.{PlanParts, planned}
use Rattle.slot_core.specs.Sets.Ranges.{is_between, is_sound}
use Rattle.table_codec.specs.declared.layout.Layout.{Layout}
use Rattle.table_codec.specs.Faults.{IsOfSet, NamesUnknown}
use Rattle.faults.specs.declared.table_fault.TableFault.{TableFault}
use Rattle.faults.specs.declared.table_fault.TableFault.TheVariants.{Short, BadMagic, BadVersion, BadSource, Infeasible, WrongJobCount, WrongJob, WrongSpanCount, WrongSpan, Trailing}
use Rattle.table_codec.specs.Readers.{Unread, Read, Reader, go_on, settled, bytes_at, end_at, each_at, same_at, value_of}
use Rattle.table_codec.specs.Forms.{Form, bytes_form, byte_form, number_form, tested, stored, each, up_to, one_up_to, same_count, bad_name, text_form, name_form}
use Rattle.table_codec.specs.Grammar.{number_width, spare_width, layout_1, layout_2, layout_of, head_form, slots_form, range_form, index_form, task_form, graph_form, sporadic_form, set_form, sound_set, source_form, plan_of, key_form, job_form, spare_form, span_form, is_same_job, is_same_span, jobs_form, spans_form, stored_form, plan_form, table_form, reading_of_table}
use Rattle.table_codec.proofs.FieldLaws.{index_whole}
use Rattle.table_codec.proofs.FormLaws.{IsBytes, Takes, Takes-then, at}
use Rattle.table_codec.proofs.SourceFaults.{IsOfSets, set_fault-of_set}
use Rattle.table_codec.proofs.TableLaws.{magic_form, slot_whole, source_whole}

-- ---- readers that never refuse a set as infeasible

-- a fault that is neither of the version nor a counterexample: if it is one of the set, then none
-- that only a text has
abbrev IsPlain : TableFault → Type 0
IsPlain (BadVersion version) = ⊥
IsPlain (BadSource fault) = IsOfSet fault
IsPlain (Infeasible window) = ⊥
IsPlain _ = ⊤

abbrev TellsPlain : {X : Type 0} → Reader X → Type 0
TellsPlain r = (input : Unread) (fault : TableFault) → r input ≡ Err fault → IsPlain fault

-- a fault of two readings is that of the first, or of the second after it
fails : {X Y P : Type 0} (r : Read X) {f : X → Reader Y} (fault : TableFault) → go_on r f ≡ Err fault → (r ≡ Err fault → P) → ((x : X) (rest : Unread) → r ≡ Ok (x, rest) → f x rest ≡ Err fault → P) → P
fails (Ok x) fault h first later = later x.0 x.1 refl h
fails (Err other) fault h first later = let same : other ≡ fault = cc in first (ap Err same)

then_plain : {X Y : Type 0} (r : Reader X) (f : X → Reader Y) → TellsPlain r → ((x : X) → TellsPlain (f x)) → TellsPlain (λ input. go_on (r input) f)
then_plain r f first later input fault h =
    fails (r input) {f = f} fault h (first input fault) (λ x rest _. later x rest fault)

done_plain : {X : Type 0} (x : X) → TellsPlain (settled (Ok x))
done_plain x input fault h = cc

if_plain : {X : Type 0} (b : Bool) (r : Reader X) (other : TableFault) → TellsPlain r → IsPlain other → TellsPlain (λ input. cond b (r input) (Err other))
if_plain true r other told plain = told
if_plain false r other told plain = λ input fault h. let same : other ≡ fault = cc in subst IsPlain same plain

test_plain : {X : Type 0} (b : Bool) (x : X) (other : TableFault) → IsPlain other → TellsPlain (settled (cond b (Ok x) (Err other)))
test_plain true x other plain input fault h = cc
test_plain false x other plain input fault h = let same : other ≡ fault = cc in subst IsPlain same plain

bytes_plain : (n : ℕ) → TellsPlain (bytes_at n)
bytes_plain n input fault h = by_test (nat_lt (length input.left) n) _ h
  where
    by_test : (b : Bool) (x : List ℕ × Unread) → cond b (Err (Short input.whole)) (Ok x) ≡ Err fault → IsPlain fault
    by_test true x h = let same : Short input.whole ≡ fault = cc in subst IsPlain same tt
    by_test false x h = cc

number_plain : (w : Width) → TellsPlain (number_form w).read
number_plain w = then_plain (bytes_at (byte_len w)) _ (bytes_plain (byte_len w)) (λ bytes. done_plain _)

slots_plain : (layout : Layout) → TellsPlain (slots_form layout).read
slots_plain layout = number_plain (number_width layout.number)

range_plain : (layout : Layout) (part : Part) (field : Field) (low high : ℕ) → TellsPlain (range_form layout part field low high).read
range_plain layout part field low high =
    then_plain (slots_form layout).read _ (slots_plain layout) (λ n.
    test_plain (is_between low high n) n (BadSource (OutOfRange (record { part = part; field = field }) (pos n))) tt)

up_to_plain : (part : Part) (field : Field) (limit : ℕ) → TellsPlain (up_to part field limit).read
up_to_plain part field limit =
    then_plain index_form.read _ (number_plain w16) (λ n.
    test_plain (nat_le n limit) n (BadSource (TooMany (record { part = part; field = field }) n)) tt)

one_up_to_plain : (part : Part) (field : Field) (limit : ℕ) → TellsPlain (one_up_to part field limit).read
one_up_to_plain part field limit =
    then_plain (up_to part field limit).read _ (up_to_plain part field limit) (λ n.
    test_plain (nat_le 1 n) n (BadSource (Missing (record { part = part; field = field }))) tt)

name_plain : (part : Part) → TellsPlain (name_form part).read
name_plain part =
    let byte : TellsPlain byte_form.read = then_plain (bytes_at 1) _ (bytes_plain 1) (λ bytes. done_plain _) in
    let size : TellsPlain (tested byte_form (is_between 1 NAME_LIMIT) (λ _. bad_name part)).read = then_plain byte_form.read _ byte (λ n. test_plain (is_between 1 NAME_LIMIT n) n (bad_name part) tt) in
    then_plain (tested byte_form (is_between 1 NAME_LIMIT) (λ _. bad_name part)).read (λ n. (text_form part n).read) size (λ n.
    then_plain (bytes_at n) _ (bytes_plain n) (λ text. test_plain (is_name text) text (bad_name part) tt))

each_plain : {X : Type 0} (f : ℕ → Reader X) → ((i : ℕ) → TellsPlain (f i)) → (i n : ℕ) → TellsPlain (each_at f i n)
each_plain f one i zero = λ input fault h. cc
each_plain f one i (suc n) =
    then_plain (f i) _ (one i) (λ x. then_plain (each_at f (i + 1) n) _ (each_plain f one (i + 1) n) (λ xs input fault h. cc))

-- ---- the set

task_plain : (layout : Layout) (g t : ℕ) → TellsPlain (task_form layout g t).read
task_plain layout g t =
    let place = TaskPart g t in
    then_plain (name_form place).read _ (name_plain place) (λ name.
    then_plain (range_form layout place Wcet 1 SLOT_LIMIT).read _ (range_plain layout place Wcet 1 SLOT_LIMIT) (λ wcet.
    then_plain (up_to place After AFTER_LIMIT).read _ (up_to_plain place After AFTER_LIMIT) (λ count.
    then_plain (each (λ _. index_form) count).read _ (each_plain (λ _. index_form.read) (λ i. number_plain w16) 0 count) (λ after.
    done_plain _))))

graph_plain : (layout : Layout) (g : ℕ) → TellsPlain (graph_form layout g).read
graph_plain layout g =
    let place = GraphPart g in
    then_plain (name_form place).read _ (name_plain place) (λ name.
    then_plain (range_form layout place Period 1 SLOT_LIMIT).read _ (range_plain layout place Period 1 SLOT_LIMIT) (λ period.
    then_plain (range_form layout place Offset 0 (period - 1)).read _ (range_plain layout place Offset 0 (period - 1)) (λ offset.
    then_plain (range_form layout place Deadline 1 (period - offset)).read _ (range_plain layout place Deadline 1 (period - offset)) (λ deadline.
    then_plain (one_up_to place TaskKey TASK_LIMIT).read _ (one_up_to_plain place TaskKey TASK_LIMIT) (λ count.
    then_plain (each (task_form layout g) count).read _ (each_plain (λ t. (task_form layout g t).read) (task_plain layout g) 0 count) (λ tasks.
    done_plain _))))))

sporadic_plain : (layout : Layout) (s : ℕ) → TellsPlain (sporadic_form layout s).read
sporadic_plain layout s =
    let place = SporadicPart s in
    then_plain (name_form place).read _ (name_plain place) (λ name.
    then_plain (range_form layout place Wcet 1 SLOT_LIMIT).read _ (range_plain layout place Wcet 1 SLOT_LIMIT) (λ wcet.
    then_plain (range_form layout place Separation 1 SLOT_LIMIT).read _ (range_plain layout place Separation 1 SLOT_LIMIT) (λ separation.
    then_plain (range_form layout place Deadline 1 separation).read _ (range_plain layout place Deadline 1 separation) (λ deadline.
    done_plain _))))

set_plain : (layout : Layout) → TellsPlain (set_form layout).read
set_plain layout =
    then_plain (range_form layout Top Soft 1 SOFT_LIMIT).read _ (range_plain layout Top Soft 1 SOFT_LIMIT) (λ soft.
    then_plain (one_up_to Top GraphKey GRAPH_LIMIT).read _ (one_up_to_plain Top GraphKey GRAPH_LIMIT) (λ graph_count.
    then_plain (each (graph_form layout) graph_count).read _ (each_plain (λ g. (graph_form layout g).read) (graph_plain layout) 0 graph_count) (λ graphs.
    then_plain (up_to Top SporadicKey SPORADIC_LIMIT).read _ (up_to_plain Top SporadicKey SPORADIC_LIMIT) (λ sporadic_count.
    then_plain (each (sporadic_form layout) sporadic_count).read _ (each_plain (λ s. (sporadic_form layout s).read) (sporadic_plain layout) 0 sporadic_count) (λ sporadics.
    done_plain _)))))

sound_plain : (set : TaskSet) → TellsPlain (settled (sound_set set))
sound_plain set input fault h = by_fault (set_fault set) (set_fault-of_set set) h
  where
    by_fault : (o : Option TaskFault) → IsOfSets o → settled (option_map_or (λ g. Err (BadSource g)) o (Ok set)) input ≡ Err fault → IsPlain fault
    by_fault None of_set h = cc
    by_fault (Some g) of_set h = let same : BadSource g ≡ fault = cc in subst IsPlain same (of_set g refl)

source_plain : (layout : Layout) → TellsPlain (source_form layout).read
source_plain layout =
    then_plain (set_form layout).read (λ set. settled (sound_set set)) (set_plain layout) sound_plain

-- ---- what is stored, the head and the end

same_plain : {X : Type 0} (read : Reader X) (is_same : X → X → Bool) (wrong : ℕ → X → X → TableFault) → TellsPlain read → ((i : ℕ) (a b : X) → IsPlain (wrong i a b)) → (i : ℕ) (xs : List X) → TellsPlain (same_at read is_same wrong i xs)
same_plain read is_same wrong one plain i [] = λ input fault h. cc
same_plain read is_same wrong one plain i (x ∷ xs) =
    then_plain read _ one (λ y.
    if_plain (is_same y x) (same_at read is_same wrong (i + 1) xs) (wrong i y x) (same_plain read is_same wrong one plain (i + 1) xs) (plain i y x))

stored_plain : {X : Type 0} (f : Form X X) (is_same : X → X → Bool) (wrong : ℕ → X → X → TableFault) → TellsPlain f.read → ((i : ℕ) (a b : X) → IsPlain (wrong i a b)) → (xs : List X) → TellsPlain (stored f is_same wrong xs).read
stored_plain f is_same wrong one plain xs =
    then_plain (same_at f.read is_same wrong 0 xs) _ (same_plain f.read is_same wrong one plain 0 xs) (λ u. done_plain xs)

same_count_plain : (wrong : ℕ → ℕ → TableFault) → ((a b : ℕ) → IsPlain (wrong a b)) → (n : ℕ) → TellsPlain (same_count wrong n).read
same_count_plain wrong plain n =
    then_plain (number_form w32).read _ (number_plain w32) (λ m. test_plain (m == n) m (wrong m n) (plain m n))

key_plain : (layout : Layout) → TellsPlain (key_form layout).read
key_plain layout =
    then_plain index_form.read _ (number_plain w16) (λ graph.
    then_plain index_form.read _ (number_plain w16) (λ task.
    then_plain (slots_form layout).read _ (slots_plain layout) (λ instance. done_plain _)))

job_plain : (layout : Layout) → TellsPlain (job_form layout).read
job_plain layout =
    then_plain (key_form layout).read _ (key_plain layout) (λ key.
    then_plain (slots_form layout).read _ (slots_plain layout) (λ est.
    then_plain (slots_form layout).read _ (slots_plain layout) (λ dl.
    then_plain (slots_form layout).read _ (slots_plain layout) (λ declared. done_plain _))))

spare_plain : (layout : Layout) → TellsPlain (spare_form layout).read
spare_plain layout =
    then_plain (number_form (spare_width layout.spare)).read _ (number_plain (spare_width layout.spare)) (λ bits. done_plain _)

span_plain : (layout : Layout) → TellsPlain (span_form layout).read
span_plain layout =
    then_plain (slots_form layout).read _ (slots_plain layout) (λ start.
    then_plain (slots_form layout).read _ (slots_plain layout) (λ end.
    then_plain (slots_form layout).read _ (slots_plain layout) (λ work.
    then_plain (spare_form layout).read _ (spare_plain layout) (λ spare. done_plain _))))

jobs_plain : (layout : Layout) (jobs : List Job) → TellsPlain (jobs_form layout jobs).read
jobs_plain layout jobs =
    then_plain (same_count WrongJobCount (length jobs)).read _ (same_count_plain WrongJobCount (λ a b. tt) (length jobs)) (λ n.
    stored_plain (job_form layout) is_same_job WrongJob (job_plain layout) (λ i a b. tt) jobs)

spans_plain : (layout : Layout) (spans : List Span) → TellsPlain (spans_form layout spans).read
spans_plain layout spans =
    then_plain (same_count WrongSpanCount (length spans)).read _ (same_count_plain WrongSpanCount (λ a b. tt) (length spans)) (λ n.
    stored_plain (span_form layout) is_same_span WrongSpan (span_plain layout) (λ i a b. tt) spans)

stored_plan_plain : (layout : Layout) (plan : PlanParts) → TellsPlain (stored_form layout plan).read
stored_plan_plain layout plan =
    then_plain (jobs_form layout plan.jobs).read _ (jobs_plain layout plan.jobs) (λ jobs.
    then_plain (spans_form layout plan.spans).read _ (spans_plain layout plan.spans) (λ spans. done_plain plan))

end_plain : TellsPlain end_at
end_plain input fault h = by_test (length input.left == 0) _ h
  where
    by_test : (b : Bool) (x : ⊤ × Unread) → cond b (Ok x) (Err (Trailing (input.whole - length input.left))) ≡ Err fault → IsPlain fault
    by_test true x h = cc
    by_test false x h =
        let same : Trailing (input.whole - length input.left) ≡ fault = cc in subst IsPlain same tt

-- ---- the whole

-- what is said of a table whose version is refused
abbrev IsOfVersion : List ℕ → TableFault → Type 0
IsOfVersion bytes fault = (version : ℕ) × (BadVersion version ≡ fault) × (IsBytes bytes → NamesUnknown bytes version)

-- a version without a layout is neither of the two
unknown_layout : (version : ℕ) (input : Unread) (fault : TableFault) → settled (layout_of version) input ≡ Err fault → (BadVersion version ≡ fault) × (version ≢ 1) × (version ≢ 2)
unknown_layout version input fault h =
    by_tests (version == 1) (version == 2) refl refl h
  where
    by_tests : (first second : Bool) → (version == 1) ≡ first → (version == 2) ≡ second → settled (cond first (Ok layout_1) (cond second (Ok layout_2) (Err (BadVersion version)))) input ≡ Err fault → (BadVersion version ≡ fault) × (version ≢ 1) × (version ≢ 2)
    by_tests true second one two h = cc
    by_tests false true one two h = cc
    by_tests false false one two h =
        (cc, (λ is. eqb-false version 1 one is), (λ is. eqb-false version 2 two is))

-- why a head is refused
head_refused : (bytes : List ℕ) (fault : TableFault) → head_form.read (at (length bytes) bytes) ≡ Err fault → IsPlain fault ⊎ IsOfVersion bytes fault
head_refused bytes fault h =
    let input = at (length bytes) bytes in
    let letters : TellsPlain magic_form.read = then_plain (bytes_at 4) _ (bytes_plain 4) (λ text. test_plain (bytes_eq text (codes "SLOT")) text BadMagic tt) in
    fails {P = IsPlain fault ⊎ IsOfVersion bytes fault} (magic_form.read input) fault h (λ h. inl (letters input fault h)) (λ text i1 r1 h.
    fails {P = IsPlain fault ⊎ IsOfVersion bytes fault} (index_form.read i1) {f = λ version. settled (layout_of version)} fault h (λ h. inl (number_plain w16 i1 fault h)) (λ version i2 r2 h.
    let (same, one, two) = unknown_layout version i2 fault h in
    let (t1, slot) = slot_whole.of_read input text i1 r1 in
    let (t2, _) = index_whole.of_read i1 version i2 r2 in
    let t1 : Takes input (codes "SLOT") i1 = subst (λ t. Takes input t i1) slot t1 in
    inr (
      version,
      same,
      λ small. record {
        begins = (i2.left, (Takes-then t1 t2).parts small ∙ append_assoc (codes "SLOT") (index_form.written version) i2.left);
        not_first = one;
        not_second = two;
      },
    )))

-- what is said of a table that is refused as infeasible: a sound set at its front has this
-- counterexample
pub record IsTableSet (bytes : List ℕ) (window : Window) : Type 0 where
  pub set : TaskSet
  pub spelled : value_of (go_on (head_form.read (record { whole = length bytes; left = bytes })) (λ layout. (source_form layout).read)) ≡ Ok set
  pub sound : is_sound set ≡ true
  pub found : counterexample set (cycle_of set) ≡ Some window

-- a set without a plan is refused with its counterexample
refused-found : (set : TaskSet) (o : Option Window) (input : Unread) (fault : TableFault) → settled (option_map_or (λ (w : Window). Err (Infeasible w)) o (Ok (planned set))) input ≡ Err fault → (window : Window) × (Infeasible window ≡ fault) × (o ≡ Some window)
refused-found set None input fault h = cc
refused-found set (Some window) input fault h = let same : Infeasible window ≡ fault = cc in (window, same, refl)

value-refused : {X : Type 0} (r : Read X) (fault : TableFault) → value_of r ≡ Err fault → r ≡ Err fault
value-refused (Ok x) fault h = cc
value-refused (Err other) fault h = let same : other ≡ fault = cc in ap Err same

-- why a table is refused
abbrev IsReason : List ℕ → TableFault → Type 0
IsReason bytes fault =
    (IsPlain fault ⊎ IsOfVersion bytes fault) ⊎ ((window : Window) × (Infeasible window ≡ fault) × IsTableSet bytes window)

reason-from_reading : (bytes : List ℕ) (fault : TableFault) → reading_of_table bytes ≡ Err fault → IsReason bytes fault
reason-from_reading bytes fault is =
    let input = at (length bytes) bytes in
    let h = value-refused ((table_form layout_2).read input) fault is in
    fails {P = IsReason bytes fault} (head_form.read input) fault h (λ h. inl (head_refused bytes fault h)) (λ layout i1 head h.
    fails {P = IsReason bytes fault} ((plan_form layout).read i1) fault h (of_plan layout i1 head) (λ plan i2 _ h.
    inl (inl (then_plain end_at _ end_plain (λ u. done_plain plan) i2 fault h))))
  where
    of_plan : (layout : Layout) (i1 : Unread) → head_form.read (at (length bytes) bytes) ≡ Ok (layout, i1) → (plan_form layout).read i1 ≡ Err fault → IsReason bytes fault
    of_plan layout i1 head h =
        fails {P = IsReason bytes fault} ((source_form layout).read i1) fault h (λ h. inl (inl (source_plain layout i1 fault h))) (λ set i2 read h.
        fails {P = IsReason bytes fault} (settled (plan_of set) i2) fault h (λ h.
        let (window, same, found) = refused-found set (counterexample set (cycle_of set)) i2 fault h in
        inr (
          window,
          same,
          record {
            set = set;
            spelled = ap (λ (r : Read Layout). value_of (go_on r (λ l. (source_form l).read))) head ∙ ap value_of read;
            sound = ((source_whole layout).of_read i1 set i2 read).1;
            found = found;
          },
        )) (λ plan i3 _ h. inl (inl (stored_plan_plain layout plan i3 fault h))))

-- a fault of the set that a table tells is none that only a text has
pub source-of_set : (bytes : List ℕ) (fault : TaskFault) → reading_of_table bytes ≡ Err (BadSource fault) → IsOfSet fault
source-of_set bytes fault is =
    elim (reason-from_reading bytes (BadSource fault) is) [
      | inl (inl plain) ↦ plain
      | inl (inr other) ↦ let (version, same, names) = other in cc
      | inr counter ↦ let (window, same, set) = counter in cc
    ]

-- a version that is refused is neither of the two
pub unknown-from_reading : (bytes : List ℕ) (version : ℕ) → IsBytes bytes → reading_of_table bytes ≡ Err (BadVersion version) → NamesUnknown bytes version
unknown-from_reading bytes version small is =
    elim (reason-from_reading bytes (BadVersion version) is) [
      | inl (inl plain) ↦ absurd plain
      | inl (inr other) ↦ let (found, same, names) = other in by_version found same (names small)
      | inr counter ↦ let (window, same, set) = counter in cc
    ]
  where
    by_version : (found : ℕ) → BadVersion found ≡ BadVersion version → NamesUnknown bytes found → NamesUnknown bytes version
    by_version found h names = let same : found ≡ version = cc in subst (NamesUnknown bytes) same names

-- a table that is refused as infeasible has a sound set with this counterexample
pub IsTableSet-refused : (bytes : List ℕ) (window : Window) → reading_of_table bytes ≡ Err (Infeasible window) → IsTableSet bytes window
IsTableSet-refused bytes window is =
    elim (reason-from_reading bytes (Infeasible window) is) [
      | inl (inl plain) ↦ absurd plain
      | inl (inr other) ↦ let (version, same, names) = other in cc
      | inr counter ↦ let (found, same, set) = counter in by_window found same set
    ]
  where
    by_window : (found : Window) → Infeasible found ≡ Infeasible window → IsTableSet bytes found → IsTableSet bytes window
    by_window found h set = let same : found ≡ window = cc in subst (IsTableSet bytes) same set
