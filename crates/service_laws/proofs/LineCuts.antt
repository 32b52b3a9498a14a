-- Texts that are cut at the first byte that stops them.
use Rattle.std.proofs.Common.{◌≡◌, ℕ, ◌<◌, ◌^◌, ◌||◌, ◌==◌, Bool, true, false, List, [], ◌∷◌, ◌++◌, drop, refl, sym, ap, ◌∙◌}
use Rattle.std.specs.Prelude.{decimal}
use Rattle.std.specs.Char.{is_ascii_digit}
use Rattle.std.specs.List.{list_any, AllByRecursion}
use Rattle.std.proofs.lemmas.Bool.{or_parts, false≢true, eq-eqb}
use Rattle.std.proofs.lemmas.Fmt.{digits_decimal}
use Rattle.key_texts.proofs.CutLemmas.{Lacks, Lacks-from_all}
use Rattle.key_texts.proofs.DigitLemmas.{digits}

-- before the first bytes that stop two equal texts stands the same, and from them on too
pub same_cut : (stop : ℕ → Bool) (xs us : List ℕ) (b c : ℕ) (ys vs : List ℕ) → list_any stop xs ≡ false → list_any stop us ≡ false → stop b ≡ true → stop c ≡ true → xs ++ b ∷ ys ≡ us ++ c ∷ vs → (xs ≡ us) × (b ∷ ys ≡ c ∷ vs)
same_cut stop [] [] b c ys vs free_x free_u at_b at_c e = (refl, e)
same_cut stop [] (u ∷ us) b c ys vs free_x free_u at_b at_c e =
    let same : b ≡ u = cc e in
    absurd (false≢true (sym (or_parts (stop u) (list_any stop us) free_u).0 ∙ ap stop (sym same) ∙ at_b))
same_cut stop (x ∷ xs) [] b c ys vs free_x free_u at_b at_c e =
    let same : x ≡ c = cc e in
    absurd (false≢true (sym (or_parts (stop x) (list_any stop xs) free_x).0 ∙ ap stop same ∙ at_c))
same_cut stop (x ∷ xs) (u ∷ us) b c ys vs free_x free_u at_b at_c e =
    let same : x ≡ u = cc e in
    let rest = same_cut stop xs us b c ys vs (or_parts (stop x) (list_any stop xs) free_x).1 (or_parts (stop u) (list_any stop us) free_u).1 at_b at_c (ap (drop 1) e) in
    (ap (λ z. z ∷ xs) same ∙ ap (λ zs. u ∷ zs) rest.0, rest.1)

-- a text that lacks two bytes is stopped by neither
pub lacks_both : (a b : ℕ) (text : List ℕ) → Lacks a text → Lacks b text → list_any (λ x. x == a || x == b) text ≡ false
lacks_both a b [] first second = refl
lacks_both a b (x ∷ text) first second =
    let here = or_parts (x == a) (list_any (λ y. y == a) text) first in
    let also = or_parts (x == b) (list_any (λ y. y == b) text) second in
    rw (here.0, also.0, lacks_both a b text here.1 also.1) refl

-- a number lacks each byte that is no digit
pub number-lacks : (byte n : ℕ) → n < 2 ^ 64 → is_ascii_digit byte ≡ false → Lacks byte (decimal n)
number-lacks byte n below other = Lacks-from_all is_ascii_digit byte (decimal n) (digits_decimal digits n below) other

-- a word has neither a space nor a bar
pub record IsWord (word : List ℕ) : Type 0 where
  pub space : Lacks 32 word
  pub bar : Lacks 124 word

-- words with a space after each, and what follows
abbrev pub words_line : List (List ℕ) → List ℕ → List ℕ
words_line [] rest = rest
words_line (w ∷ ws) rest = w ++ 32 ∷ words_line ws rest

-- equal texts begin with the same byte
pub same_head : (b c : ℕ) (x y : List ℕ) → b ∷ x ≡ c ∷ y → b ≡ c
same_head b c x y e = cc e

-- so texts that begin with other bytes are not equal
pub other_head : (b c : ℕ) (x y : List ℕ) → (b == c) ≡ false → b ∷ x ≡ c ∷ y → ⊥
other_head b c x y other e = false≢true (sym other ∙ eq-eqb b c (same_head b c x y e))

-- no word begins with a bar
no_bar : (word rest x : List ℕ) → Lacks 124 word → 124 ∷ x ≡ word ++ 32 ∷ rest → ⊥
no_bar [] rest x lacks e = other_head 124 32 x rest refl e
no_bar (c ∷ word) rest x lacks e =
    let is = eq-eqb c 124 (sym (same_head 124 c x (word ++ 32 ∷ rest) e)) in
    false≢true (sym (or_parts (c == 124) (list_any (λ b. b == 124) word) lacks).0 ∙ is)

-- so words before a bar are told by their line, and so is what follows it
pub same_words : (ws vs : List (List ℕ)) (x y : List ℕ) → AllByRecursion IsWord ws → AllByRecursion IsWord vs → words_line ws (124 ∷ x) ≡ words_line vs (124 ∷ y) → (ws ≡ vs) × (x ≡ y)
same_words [] [] x y all_w all_v e = (refl, ap (drop 1) e)
same_words [] (v ∷ vs) x y all_w all_v e = absurd (no_bar v (words_line vs (124 ∷ y)) x all_v.0.bar e)
same_words (w ∷ ws) [] x y all_w all_v e = absurd (no_bar w (words_line ws (124 ∷ x)) y all_w.0.bar (sym e))
same_words (w ∷ ws) (v ∷ vs) x y all_w all_v e =
    let cut = same_cut (λ b. b == 32) w v 32 32 (words_line ws (124 ∷ x)) (words_line vs (124 ∷ y)) all_w.0.space all_v.0.space refl refl e in
    let rest = same_words ws vs x y all_w.1 all_v.1 (ap (drop 1) cut.1) in
    (ap (λ z. z ∷ ws) cut.0 ∙ ap (λ zs. v ∷ zs) rest.0, rest.1)
