-- A text that is cut at the first byte of a kind.
use Rattle.std.proofs.Common.{◌≡◌, ℕ, zero, suc, ◌+◌, ◌==◌, Bool, true, false, List, [], ◌∷◌, ◌++◌, take, drop, Option, Some, None, refl, sym, ap, ◌∙◌, inl, inr, add-one}
use Rattle.std.specs.Prelude.{slice_get, position, option_map}
use Rattle.std.specs.List.{list_any, list_all}
use Rattle.std.proofs.lemmas.Bool.{cases_Bool, false≢true, eqb-true, eq-eqb}
use Rattle.std.proofs.Math.Seq.{take-append_seam, drop-append-add}
use Rattle.slot_facts.proofs.Lists.Members.{Has-from_list_any, passes_from_list_all}
use Rattle.key_texts.specs.KeyTexts.{cut_at}
use Rattle.key_texts.proofs.PlaceLemmas.{Some_same, position-Some, position-append, position-fails}

-- the byte stands nowhere in the text
abbrev pub Lacks : ℕ → List ℕ → Type 0
Lacks byte text = list_any (λ b. b == byte) text ≡ false

-- a text of bytes of a kind lacks each byte of another
pub Lacks-from_all : (p : ℕ → Bool) (byte : ℕ) (text : List ℕ) → list_all p text ≡ true → p byte ≡ false → Lacks byte text
Lacks-from_all p byte text all other =
    elim (cases_Bool (list_any (λ b. b == byte) text)) [
      | inl there ↦
          let (b, member, same) = Has-from_list_any (λ b. b == byte) text there in
          let is : b ≡ byte = eqb-true b byte same in
          absurd (false≢true (sym other ∙ ap p (sym is) ∙ passes_from_list_all p text b all member))
      | inr nowhere ↦ nowhere
    ]

-- a list around the item at a place
around_place : {X : Type 0} (xs : List X) (i : ℕ) (x : X) → slice_get xs i ≡ Some x → xs ≡ take i xs ++ x ∷ drop (suc i) xs
around_place [] i x at = absurd (cc at)
around_place (y ∷ xs) zero x at = let same : y ≡ x = cc at in ap (λ z. z ∷ xs) same
around_place (y ∷ xs) (suc i) x at = ap (λ zs. y ∷ zs) (around_place xs i x at)

-- the parts of a text that is cut stand around the byte
pub cut_at-Some : (byte : ℕ) (text : List ℕ) (parts : List ℕ × List ℕ) → cut_at byte text ≡ Some parts → text ≡ parts.0 ++ byte ∷ parts.1
cut_at-Some byte text parts cut = by_place (position (λ b. b == byte) text) refl cut
  where
    by_place : (o : Option ℕ) → position (λ b. b == byte) text ≡ o → option_map (λ at. (take at text, drop (at + 1) text)) o ≡ Some parts → text ≡ parts.0 ++ byte ∷ parts.1
    by_place None found cut = cc
    by_place (Some i) found cut =
        let (b, at, same) = position-Some (λ b. b == byte) text i found in
        let whole = around_place text i byte (at ∙ ap Some (eqb-true b byte same)) in
        let split : (take i text, drop (suc i) text) ≡ parts = ap (λ n. (take i text, drop n text)) (sym (add-one i)) ∙ Some_same cut in
        whole ∙ ap (λ (p : List ℕ × List ℕ). p.0 ++ byte ∷ p.1) split

-- a text is cut at the first such byte
pub cut_at-append : (byte : ℕ) (front rest : List ℕ) → Lacks byte front → cut_at byte (front ++ byte ∷ rest) ≡ Some (front, rest)
cut_at-append byte front rest lacks =
    let found = position-append (λ b. b == byte) front byte rest lacks (eq-eqb byte byte refl) in
    rw (found, take-append_seam, drop-append-add) refl

-- a text that lacks the byte is not cut
pub cut_at-lacks : (byte : ℕ) (text : List ℕ) → Lacks byte text → cut_at byte text ≡ None
cut_at-lacks byte text lacks = rw (position-fails (λ b. b == byte) text lacks) refl
