-- What a set without faults keeps: its `after` entries name tasks, no task is on a loop, and its cycle is short.
use Rattle.std.proofs.Common.{◌≡◌, ℕ, zero, suc, ◌+◌, ◌<◌, Bool, true, false, cond, ◌==◌, List, [], ◌∷◌, Option, Some, None, refl, sym, ap, ◌∙◌, inl, inr, arith}
use Rattle.std.specs.Prelude.{slice_get, find, is_none, nat_le, option_map}
use Rattle.std.specs.Option.{option_or}
use Rattle.std.specs.List.{list_any}
use Rattle.std.proofs.lemmas.Bool.{false≢true, leb-false}
use Rattle.slot_core.specs.declared.faults.Place.{Place}
use Rattle.slot_core.specs.declared.faults.TaskFault.{TaskFault}
use Rattle.slot_core.specs.declared.faults.TaskFault.TheVariants.{Doubled, NoSuchTask}
use Rattle.slot_core.specs.Sets.Faults.{fault_if, first_fault, entries_fault}
use Rattle.slot_facts.proofs.Lists.Members.{Has}

-- a test or a choice of options that gives none, by its parts
pub None-from_is_none : {X : Type 0} (o : Option X) → is_none o ≡ true → o ≡ None
None-from_is_none None h = refl
None-from_is_none (Some x) h = absurd (false≢true h)

pub option_or-None : {X : Type 0} (a b : Option X) → option_or a b ≡ None → (a ≡ None) × (b ≡ None)
option_or-None None b h = (refl, h)
option_or-None (Some x) b h = absurd (cc h)

pub option_map-None : {X Y : Type 0} (f : X → Y) (o : Option X) → option_map f o ≡ None → o ≡ None
option_map-None f None h = refl
option_map-None f (Some x) h = absurd (cc h)

pub fault_if-None : (test : Bool) (fault : TaskFault) → fault_if test fault ≡ None → test ≡ false
fault_if-None true fault h = absurd (cc h)
fault_if-None false fault h = refl

pub cond-None : {X : Type 0} (test : Bool) (x : X) (o : Option X) → cond test (Some x) o ≡ None → (test ≡ false) × (o ≡ None)
cond-None true x o h = absurd (cc h)
cond-None false x o h = (refl, h)

-- where nothing is found, each member fails the test
pub find-None : {X : Type 0} (p : X → Bool) (xs : List X) (x : X) → find p xs ≡ None → Has xs x → p x ≡ false
find-None p [] x none h = absurd h
find-None p (z ∷ xs) x none (inl e) = sym (ap p e) ∙ (cond-None (p z) z (find p xs) none).0
find-None p (z ∷ xs) x none (inr h) = find-None p xs x (cond-None (p z) z (find p xs) none).1 h

-- where no fault is found along a list, no item has one
pub first_fault-None : {X : Type 0} (f : ℕ → X → Option TaskFault) (n : ℕ) (xs : List X) (k i : ℕ) (x : X) → first_fault f n xs ≡ None → slice_get xs k ≡ Some x → n + k ≡ i → f i x ≡ None
first_fault-None f n [] k i x none at place = absurd (cc at)
first_fault-None f n (z ∷ xs) zero i x none at place =
    let same : z ≡ x = cc at in
    let here : n ≡ i = omega arith in
    let none_here = (option_or-None (f n z) (first_fault f (n + 1) xs) none).0 in
    cc
first_fault-None f n (z ∷ xs) (suc k) i x none at place =
    first_fault-None f (n + 1) xs k i x (option_or-None (f n z) (first_fault f (n + 1) xs) none).1 at (omega arith)

-- each entry of an `after` list without faults names a task
pub below-from_entries : (place : Place) (count : ℕ) (earlier entries : List ℕ) (a : ℕ) → entries_fault place count earlier entries ≡ None → Has entries a → a < count
below-from_entries place count earlier [] a none h = absurd h
below-from_entries place count earlier (b ∷ more) a none h =
    let rest = entries_fault place count (b ∷ earlier) more in
    let again = fault_if (list_any (λ e. b == e) earlier) (Doubled place) in
    let named = option_or-None (fault_if (nat_le count b) (NoSuchTask place)) (option_or again rest) none in
    let low = leb-false count b (fault_if-None (nat_le count b) (NoSuchTask place) named.0) in
    let later = below-from_entries place count (b ∷ earlier) more a (option_or-None again rest named.1).1 in
    elim h [ inl e ↦ omega arith | inr m ↦ later m ]
