-- The spans that a line shows are told by it, but for their works.
use Rattle.std.proofs.Common.{◌≡◌, ℕ, suc, ◌<◌, ◌≤◌, ◌^◌, ◌||◌, ◌==◌, Bool, true, false, cond, List, [], ◌∷◌, ◌++◌, map, drop, append_assoc, refl, sym, ap, ◌∙◌, inl, inr, arith}
use Rattle.std.specs.Prelude.{ℤ, pos, negsuc, codes, decimal, flat_map, nat_lt}
use Rattle.std.specs.Fmt.{signed_decimal}
use Rattle.std.specs.Int.Signed.{mag}
use Rattle.std.specs.Char.{is_ascii_digit}
use Rattle.std.specs.List.{list_all, AllByRecursion}
use Rattle.std.proofs.lemmas.Bool.{and_parts, cases_lt, lt-ltb, false≢true}
use Rattle.std.proofs.lemmas.Fmt.{decimal_injective, signed_decimal_injective, digits_decimal}
use Rattle.slot_core.specs.declared.jobs.Span.{Span}
use Rattle.slot_core.specs.Output.Texts.{span_text}
use Rattle.slot_facts.specs.Lines.{IsSpan64, without_work}
use Rattle.key_texts.proofs.CutLemmas.{Lacks}
use Rattle.key_texts.proofs.DigitLemmas.{digits}
use Rattle.service_laws.proofs.LineCuts.{same_cut, same_head, other_head, lacks_both, number-lacks}

-- a number with a sign lacks each byte that is neither a digit nor the sign
signed-lacks : (byte : ℕ) (z : ℤ) → mag z < 2 ^ 63 → is_ascii_digit byte ≡ false → (45 == byte) ≡ false → Lacks byte (signed_decimal z)
signed-lacks byte (pos n) below other sign = number-lacks byte n (omega (arith, below)) other
signed-lacks byte (negsuc n) below other sign = rw (sign, number-lacks byte (suc n) (omega (arith, below)) other) refl

-- a span's text, cut at its two separators
span_parts : (start end : ℕ) (spare rest : List ℕ) → decimal start ++ codes "-" ++ decimal end ++ codes ":" ++ spare ++ rest ≡ decimal start ++ 45 ∷ (decimal end ++ 58 ∷ (spare ++ rest))
span_parts start end spare rest = simp append_assoc

-- spans with the same ends and the same capacity
same_fields : (a b c d : ℕ) (y z : ℤ) → a ≡ b → c ≡ d → y ≡ z → ◌≡◌ {A = Span} (record { start = a; end = c; work = 0; spare = y }) (record { start = b; end = d; work = 0; spare = z })
same_fields a b c d y z first last own = rw (first, last, own) refl

-- a space or the end of a line
abbrev stops : ℕ → Bool
stops x = x == 32 || x == 10

-- the text of a span before such a byte tells the span but for its work, and what follows
same_span : (s u : Span) (b c : ℕ) (x y : List ℕ) → IsSpan64 s → IsSpan64 u → stops b ≡ true → stops c ≡ true → span_text s ++ b ∷ x ≡ span_text u ++ c ∷ y → (without_work s ≡ without_work u) × (b ∷ x ≡ c ∷ y)
same_span s u b c x y own other at_b at_c e =
    let parts = sym (span_parts s.start s.end (signed_decimal s.spare) (b ∷ x)) ∙ e ∙ span_parts u.start u.end (signed_decimal u.spare) (c ∷ y) in
    let starts = same_cut (λ b. b == 45) (decimal s.start) (decimal u.start) 45 45 (decimal s.end ++ 58 ∷ (signed_decimal s.spare ++ b ∷ x)) (decimal u.end ++ 58 ∷ (signed_decimal u.spare ++ c ∷ y)) (number-lacks 45 s.start own.start refl) (number-lacks 45 u.start other.start refl) refl refl parts in
    let ends = same_cut (λ b. b == 58) (decimal s.end) (decimal u.end) 58 58 (signed_decimal s.spare ++ b ∷ x) (signed_decimal u.spare ++ c ∷ y) (number-lacks 58 s.end own.end refl) (number-lacks 58 u.end other.end refl) refl refl (ap (drop 1) starts.1) in
    let free = λ (z : ℤ) (below : mag z < 2 ^ 63). lacks_both 32 10 (signed_decimal z) (signed-lacks 32 z below refl refl) (signed-lacks 10 z below refl refl) in
    let spares = same_cut stops (signed_decimal s.spare) (signed_decimal u.spare) b c x y (free s.spare own.spare) (free u.spare other.spare) at_b at_c (ap (drop 1) ends.1) in
    (same_fields s.start u.start s.end u.end s.spare u.spare (decimal_injective s.start u.start own.start other.start starts.0) (decimal_injective s.end u.end own.end other.end ends.0) (signed_decimal_injective s.spare u.spare own.spare other.spare spares.0), spares.1)

-- how many more spans there are, and the end of the line
abbrev more_line : ℕ → List ℕ
more_line more = cond (nat_lt 0 more) (codes " +" ++ decimal more) [] ++ 10 ∷ []

more_line-some : (more : ℕ) → 0 < more → more_line more ≡ 32 ∷ 43 ∷ (decimal more ++ 10 ∷ [])
more_line-some more some = rw (lt-ltb 0 more some) refl

more_line-none : (more : ℕ) → more ≤ 0 → more_line more ≡ 10 ∷ []
more_line-none more none =
    let same : more ≡ 0 = omega arith in
    rw same refl

-- the spans, and that
abbrev pub shown_line : List Span → ℕ → List ℕ
shown_line [] more = more_line more
shown_line (s ∷ ss) more = 32 ∷ (span_text s ++ shown_line ss more)

pub shown_line-is : (spans : List Span) (more : ℕ) → (flat_map (λ (s : Span). 32 ∷ span_text s) spans ++ cond (nat_lt 0 more) (codes " +" ++ decimal more) []) ++ 10 ∷ [] ≡ shown_line spans more
shown_line-is [] more = refl
shown_line-is (s ∷ ss) more =
    let first = 32 ∷ span_text s in
    let others = flat_map (λ (s : Span). 32 ∷ span_text s) ss in
    let last = cond (nat_lt 0 more) (codes " +" ++ decimal more) [] in
    ap (λ xs. xs ++ 10 ∷ []) (append_assoc first others last)
    ∙ append_assoc first (others ++ last) (10 ∷ [])
    ∙ ap (λ xs. first ++ xs) (shown_line-is ss more)

-- it begins with a space or is the end of the line
begins : (spans : List Span) (more : ℕ) → (b : ℕ) × (x : List ℕ) × (shown_line spans more ≡ b ∷ x) × (stops b ≡ true)
begins [] more =
    elim (cases_lt 0 more) [
      | inl some ↦ (32, 43 ∷ (decimal more ++ 10 ∷ []), more_line-some more some, refl)
      | inr none ↦ (10, [], more_line-none more none, refl)
    ]
begins (s ∷ ss) more = (32, span_text s ++ shown_line ss more, refl, refl)

-- no number begins with a plus
no_plus : (number rest x : List ℕ) → list_all is_ascii_digit number ≡ true → 43 ∷ x ≡ number ++ 45 ∷ rest → ⊥
no_plus [] rest x all e = other_head 43 45 x rest refl e
no_plus (c ∷ number) rest x all e =
    let same = same_head 43 c x (number ++ 45 ∷ rest) e in
    false≢true (ap is_ascii_digit same ∙ (and_parts (is_ascii_digit c) (list_all is_ascii_digit number) all).0)

-- so no number of further spans is read as a span
no_span : (more : ℕ) (s : Span) (rest : List ℕ) → IsSpan64 s → more_line more ≡ 32 ∷ (span_text s ++ rest) → ⊥
no_span more s rest own e =
    elim (cases_lt 0 more) [
      | inl some ↦
          let tail = ap (drop 1) (sym (more_line-some more some) ∙ e) ∙ span_parts s.start s.end (signed_decimal s.spare) rest in
          no_plus (decimal s.start) (decimal s.end ++ 58 ∷ (signed_decimal s.spare ++ rest)) (decimal more ++ 10 ∷ []) (digits_decimal digits s.start own.start) tail
      | inr none ↦ other_head 10 32 [] (span_text s ++ rest) refl (sym (more_line-none more none) ∙ e)
    ]

-- the number of further spans is told
same_more : (m n : ℕ) → m < 2 ^ 64 → n < 2 ^ 64 → more_line m ≡ more_line n → m ≡ n
same_more m n small below e =
    elim (cases_lt 0 m) [
      | inl some ↦ elim (cases_lt 0 n) [
        | inl also ↦
            let tail = ap (drop 2) (sym (more_line-some m some) ∙ e ∙ more_line-some n also) in
            let cut = same_cut (λ b. b == 10) (decimal m) (decimal n) 10 10 [] [] (number-lacks 10 m small refl) (number-lacks 10 n below refl) refl refl tail in
            decimal_injective m n small below cut.0
        | inr none ↦ absurd (other_head 32 10 (43 ∷ (decimal m ++ 10 ∷ [])) [] refl (sym (more_line-some m some) ∙ e ∙ more_line-none n none))
      ]
      | inr none ↦ elim (cases_lt 0 n) [
        | inl also ↦ absurd (other_head 10 32 [] (43 ∷ (decimal n ++ 10 ∷ [])) refl (sym (more_line-none m none) ∙ e ∙ more_line-some n also))
        | inr empty ↦ omega arith
      ]
    ]

-- the spans are told but for their works, and so is how many more there are
pub same_shown : (ss us : List Span) (m n : ℕ) → AllByRecursion IsSpan64 ss → AllByRecursion IsSpan64 us → m < 2 ^ 64 → n < 2 ^ 64 → shown_line ss m ≡ shown_line us n → (map without_work ss ≡ map without_work us) × (m ≡ n)
same_shown [] [] m n own other small below e = (refl, same_more m n small below e)
same_shown [] (u ∷ us) m n own other small below e = absurd (no_span m u (shown_line us n) other.0 e)
same_shown (s ∷ ss) [] m n own other small below e = absurd (no_span n s (shown_line ss m) own.0 (sym e))
same_shown (s ∷ ss) (u ∷ us) m n own other small below e =
    let (b, x, there, at_b) = begins ss m in
    let (c, y, also, at_c) = begins us n in
    let line = ap (λ r. span_text s ++ r) (sym there) ∙ ap (drop 1) e ∙ ap (λ r. span_text u ++ r) also in
    let first = same_span s u b c x y own.0 other.0 at_b at_c line in
    let rest = same_shown ss us m n own.1 other.1 small below (there ∙ first.1 ∙ sym also) in
    (ap (λ z. z ∷ map without_work ss) first.0 ∙ ap (λ zs. without_work u ∷ zs) rest.0, rest.1)
