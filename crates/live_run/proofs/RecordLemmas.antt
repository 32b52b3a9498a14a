-- Which words ask for a record, and that a refused run is not done.
use Rattle.std.proofs.Common.{◌≡◌, ◌∙◌, ℕ, Bool, true, false, List, [], ◌∷◌, length, codes, Option, None, Some, inl, inr, refl, sym, ap, subst, arith}
use Rattle.std.specs.Prelude.{◌≢◌, ◌==◌, if◌then◌else◌}
use Rattle.std.specs.Str.{bytes_eq}
use Rattle.std.proofs.lemmas.Bool.{cases_Bool}
use Rattle.std.proofs.lemmas.Bool.Decides.{nat_tests}
use Rattle.std.proofs.lemmas.Slice.Eq.{bytes_eq-Decides}
use Rattle.command_line.specs.declared.commands.Source.TheVariants.{Tasks, Spelled}
use Rattle.command_line.specs.declared.refusal.Refusal.TheVariants.{Usage as UsageRefusal, Unreadable, TooLarge, BadTasks, Infeasible, BadTable, BadArrivals, NotVerified, BadSecond, SecondInfeasible, NoRow, NotCycleEnd, NoChange, WriteFault, Memory}
use Rattle.command_line.specs.declared.status.Status.{Status}
use Rattle.live_run.specs.declared.call.LiveCall.{LiveCall}
use Rattle.live_run.specs.declared.refusal.LiveRefusal.{LiveRefusal}
use Rattle.live_run.specs.declared.refusal.LiveRefusal.TheVariants.{Usage, Run, Unmade, Unrecorded, Unheard}
use Rattle.live_run.specs.Calls.{is_option, live_call_of, plan_name, record_name, record_names, AsksRecord}
use Rattle.live_run.specs.Refusals.{live_status}

-- a call that comes of two tests is the one behind them
beside : (no option : Bool) (made call : LiveCall) → (if no then None else (if option then None else Some made)) ≡ Some call → made ≡ call
beside true option made call is = cc is
beside false true made call is = cc is
beside false false made call is = cc is

-- the call of words that ask for a record has one, and names its file and that of the plan
pub asked-names : (words : List (List ℕ)) (plan name : List ℕ) (call : LiveCall) → AsksRecord words plan name → live_call_of words ≡ Some call → (call.is_recorded ≡ true) × (record_names words call ≡ (name, plan))
asked-names words plan name call (inl tasks) is =
    subst
    (λ words. (call.is_recorded ≡ true) × (record_names words call ≡ (name, plan)))
    (sym tasks)
    (subst
    (λ (c : LiveCall). (c.is_recorded ≡ true) × (record_names (plan ∷ codes "--record" ∷ name ∷ []) c ≡ (name, plan)))
    (beside (bytes_eq name plan) (is_option plan) (record { source = Tasks; is_recorded = true }) call (ap live_call_of (sym tasks) ∙ is))
    (refl, refl))
asked-names words plan name call (inr table) is =
    subst
    (λ words. (call.is_recorded ≡ true) × (record_names words call ≡ (name, plan)))
    (sym table)
    (subst
    (λ (c : LiveCall). (c.is_recorded ≡ true) × (record_names (codes "--table" ∷ plan ∷ codes "--record" ∷ name ∷ []) c ≡ (name, plan)))
    (beside (bytes_eq name plan) false (record { source = Spelled; is_recorded = true }) call (ap live_call_of (sym table) ∙ is))
    (refl, refl))

-- the same bytes, by the test
same : (a b : List ℕ) → bytes_eq a b ≡ true → a ≡ b
same a b = (bytes_eq-Decides a b).0

-- a task file before the record
of_tasks-asks : (a b c : List ℕ) (call : LiveCall) (no word option : Bool) → bytes_eq b (codes "--record") ≡ word → (if no then None else (if word then (if option then None else Some (record { source = Tasks; is_recorded = true })) else None)) ≡ Some call → AsksRecord (a ∷ b ∷ c ∷ []) (plan_name (a ∷ b ∷ c ∷ []) call) (record_name (a ∷ b ∷ c ∷ []))
of_tasks-asks a b c call true word option test is = cc is
of_tasks-asks a b c call false false option test is = cc is
of_tasks-asks a b c call false true true test is = cc is
of_tasks-asks a b c call false true false test is =
    let made : record { source = Tasks; is_recorded = true } ≡ call = cc is in
    subst (λ (d : LiveCall). AsksRecord (a ∷ b ∷ c ∷ []) (plan_name (a ∷ b ∷ c ∷ []) d) c) made (inl (ap (λ w. a ∷ w ∷ c ∷ []) (same b (codes "--record") test)))

-- a table file before the record
of_table-asks : (a b c d : List ℕ) (call : LiveCall) (no word option : Bool) → bytes_eq c (codes "--record") ≡ word → bytes_eq a (codes "--table") ≡ option → (if no then None else (if word then (if option then Some (record { source = Spelled; is_recorded = true }) else None) else None)) ≡ Some call → AsksRecord (a ∷ b ∷ c ∷ d ∷ []) (plan_name (a ∷ b ∷ c ∷ d ∷ []) call) (record_name (a ∷ b ∷ c ∷ d ∷ []))
of_table-asks a b c d call true word option test first is = cc is
of_table-asks a b c d call false false option test first is = cc is
of_table-asks a b c d call false true false test first is = cc is
of_table-asks a b c d call false true true test first is =
    let made : record { source = Spelled; is_recorded = true } ≡ call = cc is in
    subst
    (λ (e : LiveCall). AsksRecord (a ∷ b ∷ c ∷ d ∷ []) (plan_name (a ∷ b ∷ c ∷ d ∷ []) e) d)
    made
    (inr (ap (λ w. w ∷ b ∷ c ∷ d ∷ []) (same a (codes "--table") first) ∙ ap (λ w. codes "--table" ∷ b ∷ w ∷ d ∷ []) (same c (codes "--record") test)))

-- a call without a record
unrecorded : (no : Bool) (made call : LiveCall) {X : Type 0} → made.is_recorded ≡ false → (if no then None else Some made) ≡ Some call → call.is_recorded ≡ true → X
unrecorded true made call none is recorded = cc is
unrecorded false made call none is recorded =
    let same : made ≡ call = cc is in
    cc (sym none ∙ ap (λ (c : LiveCall). c.is_recorded) same ∙ recorded)

-- numbers that differ are not the same by the test
unequal : (m n : ℕ) → (m ≡ n → ⊥) → (m == n) ≡ false
unequal m n differ = elim (cases_Bool (m == n)) [
  | inl is ↦ (let same : m ≡ n = grind (arith, nat_tests, is) in absurd (differ same))
  | inr other ↦ other
]

-- past four tests there is no call
past : (first second third fourth : Bool) (w x y z : Option LiveCall) (call : LiveCall) → first ≡ false → second ≡ false → third ≡ false → fourth ≡ false → (if first then w else if second then x else if third then y else if fourth then z else None) ≡ Some call → None ≡ Some call
past true second third fourth w x y z call e f g h is = cc e
past false true third fourth w x y z call e f g h is = cc f
past false false true fourth w x y z call e f g h is = cc g
past false false false true w x y z call e f g h is = cc h
past false false false false w x y z call e f g h is = is

-- words whose call has a record ask for it, by its names
pub recorded-asks : (words : List (List ℕ)) (call : LiveCall) → live_call_of words ≡ Some call → call.is_recorded ≡ true → AsksRecord words (plan_name words call) (record_name words)
recorded-asks [] call is recorded = cc is
recorded-asks (a ∷ []) call is recorded =
    unrecorded (is_option a) (record { source = Tasks; is_recorded = false }) call refl is recorded
recorded-asks (a ∷ b ∷ []) call is recorded = elim (cases_Bool (bytes_eq a (codes "--table"))) [
  | inl table ↦ (let same : record { source = Spelled; is_recorded = false } ≡ call = cc (rw table at is) in cc (ap (λ (c : LiveCall). c.is_recorded) same ∙ recorded))
  | inr other ↦ cc (rw other at is)
]
recorded-asks (a ∷ b ∷ c ∷ []) call is recorded =
    of_tasks-asks a b c call (bytes_eq c a) (bytes_eq b (codes "--record")) (is_option a) refl is
recorded-asks (a ∷ b ∷ c ∷ d ∷ []) call is recorded =
    of_table-asks a b c d call (bytes_eq d b) (bytes_eq c (codes "--record")) (bytes_eq a (codes "--table")) refl refl is
recorded-asks (a ∷ b ∷ c ∷ d ∷ e ∷ more) call is recorded =
    let n = length (a ∷ b ∷ c ∷ d ∷ e ∷ more) in
    let none : None ≡ Some call = past (n == 1) (n == 2) (n == 3) (n == 4) _ _ _ _ call (unequal n 1 (λ same. cc same)) (unequal n 2 (λ same. cc same)) (unequal n 3 (λ same. cc same)) (unequal n 4 (λ same. cc same)) is in
    cc none

-- a refused run is not done
pub refused-undone : (refusal : LiveRefusal) → live_status refusal ≢ Status.Done
refused-undone Usage is = cc is
refused-undone (Run UsageRefusal) is = cc is
refused-undone (Run (Unreadable x)) is = cc is
refused-undone (Run (TooLarge x)) is = cc is
refused-undone (Run (BadTasks x)) is = cc is
refused-undone (Run (Infeasible x)) is = cc is
refused-undone (Run (BadTable x)) is = cc is
refused-undone (Run (BadArrivals x)) is = cc is
refused-undone (Run (NotVerified x)) is = cc is
refused-undone (Run (BadSecond x)) is = cc is
refused-undone (Run (SecondInfeasible x)) is = cc is
refused-undone (Run (NoRow x)) is = cc is
refused-undone (Run (NotCycleEnd x)) is = cc is
refused-undone (Run (NoChange x)) is = cc is
refused-undone (Run WriteFault) is = cc is
refused-undone (Run Memory) is = cc is
refused-undone Unmade is = cc is
refused-undone Unrecorded is = cc is
refused-undone Unheard is = cc is
