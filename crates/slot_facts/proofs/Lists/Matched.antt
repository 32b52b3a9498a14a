-- Sums over lists of which no two items have one key, and each has a match in another list.
use Rattle.std.proofs.Common.{◌≡◌, ℕ, ◌≤◌, List, [], ◌∷◌, ◌++◌, refl, sym, ap, ◌∙◌, subst, ◌⊎◌, inl, inr, arith}
use Rattle.std.specs.Prelude.{sum_by}
use Rattle.std.proofs.lemmas.List.Sums.{sum_by-cons, sum_by-append}
use Rattle.slot_facts.proofs.Lists.Members.{Has, Has-append_left, Has-append_right, Has-append_cases}
use Rattle.slot_facts.proofs.Lists.SameItems.{around}
use Rattle.slot_facts.proofs.Offline.DistinctKeys.{IsApart}

-- the item with the same key in another list, which counts no less
abbrev pub HasMatch : {X Y Z : Type 0} → (X → Z) → (Y → Z) → (X → ℕ) → (Y → ℕ) → List Y → X → Type 0
HasMatch {X} {Y} {Z} key tag f g ys x = (y : Y) × Has ys y × (key x ≡ tag y) × (f x ≤ g y)

-- without an item of another key the match stays
match_without : {X Y Z : Type 0} (key : X → Z) (tag : Y → Z) (f : X → ℕ) (g : Y → ℕ) (us vs : List Y) (y : Y) (x : X) → (key x ≡ tag y → ⊥) → HasMatch key tag f g (us ++ y ∷ vs) x → HasMatch key tag f g (us ++ vs) x
match_without key tag f g us vs y x other (z, at, same, le) =
    elim (Has-append_cases us (y ∷ vs) z at) [
      | inl left ↦ (z, Has-append_left us vs z left, same, le)
      | inr right ↦ elim right [
        | inl here ↦ absurd (other (same ∙ sym (ap tag here)))
        | inr past ↦ (z, Has-append_right us vs z past, same, le)
      ]
    ]

-- where no two items have one key and each that counts has a match, the sum is no more than that over the matches
pub sum_by-le_matched : {X Y Z : Type 0} (key : X → Z) (tag : Y → Z) (f : X → ℕ) (g : Y → ℕ) (xs : List X) (ys : List Y) → IsApart key xs → ((x : X) → Has xs x → (f x ≡ 0) ⊎ HasMatch key tag f g ys x) → sum_by f xs ≤ sum_by g ys
sum_by-le_matched key tag f g [] ys apart each = omega arith
sum_by-le_matched {X} {Y} key tag f g (x ∷ xs) ys apart each =
    let rest = λ (others : List Y). sum_by-le_matched key tag f g xs others apart.1 in
    elim (each x (inl refl)) [
      | inl none ↦ omega (arith, sum_by-cons f x xs, rest ys (λ z at. each z (inr at)))
      | inr here ↦ let (y, at, same, le) = here in
          let (us, vs, parts) = around ys y at in
          let others = λ (z : X) (listed : Has xs z).
          elim (each z (inr listed)) as (λ _. (f z ≡ 0) ⊎ HasMatch key tag f g (us ++ vs) z) [
            | inl none ↦ inl none
            | inr match ↦ inr (match_without key tag f g us vs y z (λ e. apart.0 z listed (same ∙ sym e)) (subst (λ w. HasMatch key tag f g w z) parts match))
          ] in
          omega (
            arith,
            sum_by-cons f x xs,
            rest (us ++ vs) others,
            ap (sum_by g) parts,
            sum_by-append g us (y ∷ vs),
            sum_by-cons g y vs,
            sum_by-append g us vs,
          )
    ]
