-- Tests of lists and of histories, and what holds where they pass.
use Rattle.std.specs.Prelude.{◌≡◌, ℕ, zero, suc, ◌+◌, Bool, true, false, ◌&&◌, List, [], ◌∷◌, ◌++◌, slice_get, Some, if◌then◌else◌}
use Rattle.std.proofs.Common.{arith, sym}
use Rattle.std.proofs.lemmas.Bool.{and_parts, false≢true}
use Rattle.slot_core.specs.declared.events.What.{What}
use Rattle.slot_core.specs.Runs.Histories.{History, Follows}

-- where the first test holds, so does the second
abbrev pub implies : Bool → Bool → Bool
implies a b = if a then b else true

pub from_implies : (a b : Bool) → implies a b ≡ true → a ≡ true → b ≡ true
from_implies true b h e = h
from_implies false b h e = absurd (false≢true e)

-- each item of the list passes, where it is handed its place, from n on
abbrev pub each_place : {X : Type 0} → (ℕ → X → Bool) → ℕ → List X → Bool
each_place p n [] = true
each_place p n (x ∷ xs) = p n x && each_place p (n + 1) xs

-- so an item at a place passes
at_place_from :
    {X : Type 0} (p : ℕ → X → Bool) (xs : List X) (n i k : ℕ) (x : X) → n + i ≡ k
    → each_place p n xs ≡ true → slice_get xs i ≡ Some x → p k x ≡ true
at_place_from p [] n i k x sum all at = cc
at_place_from p (y ∷ ys) n zero k x sum all at =
    let here : y ≡ x = cc at in
    let place : n ≡ k = omega arith in
    rw (sym here, sym place) ((and_parts (p n y) (each_place p (n + 1) ys) all).0)
at_place_from p (y ∷ ys) n (suc i) k x sum all at =
    at_place_from p ys (n + 1) i k x (omega arith) ((and_parts (p n y) (each_place p (n + 1) ys) all).1) at

pub at_place :
    {X : Type 0} (p : ℕ → X → Bool) (xs : List X) (i : ℕ) (x : X) → each_place p 0 xs ≡ true
    → slice_get xs i ≡ Some x → p i x ≡ true
at_place p xs i x all at = at_place_from p xs 0 i i x (omega arith) all at

-- each entry of the history passes, where it is handed those before it
abbrev pub each_entry : (What → History → Bool) → History → Bool
each_entry p [] = true
each_entry p (what ∷ h) = p what h && each_entry p h

-- the history and each earlier one pass
abbrev pub each_history : (History → Bool) → History → Bool
each_history p [] = p []
each_history p (what ∷ h) = p (what ∷ h) && each_history p h

-- so one before some entries passes
pub at_history :
    (p : History → Bool) (later earlier : History) → each_history p (later ++ earlier) ≡ true
    → p earlier ≡ true
at_history p [] [] all = all
at_history p [] (what ∷ h) all = (and_parts (p (what ∷ h)) (each_history p h) all).0
at_history p (what ∷ later) earlier all =
    at_history p later earlier ((and_parts (p (what ∷ (later ++ earlier))) (each_history p (later ++ earlier)) all).1)

-- an entry with these before it passes
at_entry_after :
    (p : What → History → Bool) (h later : History) (what : What) (earlier : History)
    → each_entry p h ≡ true → h ≡ later ++ what ∷ earlier → p what earlier ≡ true
at_entry_after p [] [] what earlier all split = cc
at_entry_after p [] (_ ∷ later) what earlier all split = cc
at_entry_after p (w ∷ h) [] what earlier all split =
    let here : w ≡ what = cc split in
    let before : h ≡ earlier = cc split in
    rw (sym here, sym before) ((and_parts (p w h) (each_entry p h) all).0)
at_entry_after p (w ∷ h) (_ ∷ later) what earlier all split =
    let rest : h ≡ later ++ what ∷ earlier = cc split in
    at_entry_after p h later what earlier ((and_parts (p w h) (each_entry p h) all).1) rest

pub at_entry :
    (p : What → History → Bool) (h : History) (what : What) (earlier : History)
    → each_entry p h ≡ true → Follows h what earlier → p what earlier ≡ true
at_entry p h what earlier all follows = at_entry_after p h follows.0 what earlier all follows.1
