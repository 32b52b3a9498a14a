-- Spans are read exactly from their texts.
use Rattle.std.proofs.Common.{◌≡◌, ℕ, zero, suc, ◌+◌, ◌-◌, ◌≤◌, ◌<◌, ◌==◌, true, ◌&&◌, List, [], ◌∷◌, ◌++◌, length, Option, Some, None, refl, sym, ap, ◌∙◌, inl, inr, arith, append_assoc}
use Rattle.std.specs.Prelude.{ℤ, pos, negsuc, decimal, option_map}
use Rattle.std.specs.Fmt.{signed_decimal}
use Rattle.std.specs.List.{list_all, list_any}
use Rattle.std.proofs.lemmas.Bool.{and_parts, and_from, cases_Bool, eqb-true, leb-true, le-leb, or_parts}
use Rattle.slot_core.specs.declared.TheConstants.{NUMBER_LIMIT, SHOWN_LIMIT}
use Rattle.slot_core.specs.Sets.Ranges.{is_between}
use Rattle.slot_facts.proofs.Sets.Ranges.{bounds}
use Rattle.key_texts.specs.KeyTexts.{cut_at}
use Rattle.key_texts.specs.Numbers.{number_between, number_of}
use Rattle.key_texts.specs.Options.{◌>>=◌}
use Rattle.key_texts.proofs.CutLemmas.{Lacks, Lacks-from_all, cut_at-Some, cut_at-append, cut_at-lacks}
use Rattle.key_texts.proofs.DigitLemmas.{number_between-decimal, decimal-number_between}
use Rattle.key_texts.proofs.KeyLemmas.{step, digits_lack, Lacks-append}
use Rattle.key_texts.proofs.PlaceLemmas.{Some_same}
use Rattle.trace_lines.specs.declared.line.ShownSpan.{ShownSpan}
use Rattle.trace_lines.specs.Ranges.{number_fits, signed_number_fits, span_fits}
use Rattle.trace_lines.specs.Readings.{signed_number, span_of, spans_cut, spans_within}
use Rattle.trace_lines.specs.Texts.{span_text, spans_text}
use Rattle.trace_lines.proofs.ByteLemmas.{all-append, decimal-keys, is_key_byte, is_word_byte, keys-words}
use Rattle.trace_lines.proofs.Choices.{all_three, by_map}
use Rattle.trace_lines.proofs.NumberReads.{IsExact, numbers}

-- a positive number that is one more than another
one_more : (n : ℕ) → 1 ≤ n → suc (n - 1) ≡ n
one_more n some = omega arith

-- a text that is read as a number with a sign
signed_number-from : (text : List ℕ) (z : ℤ) → signed_number text ≡ Some z → (signed_number_fits z ≡ true) × (text ≡ signed_decimal z)
signed_number-from [] z h = absurd (cc h)
signed_number-from (b ∷ digits) z h =
    elim (cases_Bool (b == 45)) [
      | inl minus ↦
          by_map (λ n. negsuc (n - 1)) (number_between 1 NUMBER_LIMIT digits) (rw minus at h) (λ n found is.
          let (range, digits_are) = number_between-decimal 1 NUMBER_LIMIT n digits (omega arith) found in
          let (low, high) = bounds 1 NUMBER_LIMIT n range in
          rw (← is) (rw (one_more n low) (le-leb n NUMBER_LIMIT high), rw (eqb-true b 45 minus, digits_are, one_more n low) refl))
      | inr plain ↦
          by_map pos (number_of (b ∷ digits)) (rw plain at h) (λ n found is.
          rw (← is) (numbers.from (b ∷ digits) n found))
    ]

-- the decimal text of a number begins with no minus
plain_front : (n : ℕ) (text : List ℕ) → number_fits n ≡ true → text ≡ decimal n → signed_number text ≡ option_map pos (number_of text)
plain_front n [] fits is = refl
plain_front n (b ∷ digits) fits is =
    let lacks : Lacks 45 (b ∷ digits) = ap (list_any (λ c. c == 45)) is ∙ digits_lack 45 n (leb-true n NUMBER_LIMIT fits) refl in
    let (plain, _) = or_parts (b == 45) (list_any (λ c. c == 45) digits) lacks in
    rw plain refl

signed_number-to : (z : ℤ) → signed_number_fits z ≡ true → signed_number (signed_decimal z) ≡ Some z
signed_number-to (pos n) fits = plain_front n (decimal n) fits refl ∙ rw (numbers.to n fits) refl
signed_number-to (negsuc n) fits =
    let range : is_between 1 NUMBER_LIMIT (suc n) ≡ true = and_from _ _ (le-leb 1 (suc n) (omega arith)) fits in
    let same : suc n - 1 ≡ n = omega arith in
    rw (decimal-number_between 1 NUMBER_LIMIT (suc n) (decimal (suc n)) (omega arith) range refl) (ap (λ k. Some (negsuc k)) same)

pub signed_numbers : IsExact signed_number signed_decimal signed_number_fits
signed_numbers = record { from = signed_number-from; to = signed_number-to }

-- a text that is read as a span
span_of-from : (text : List ℕ) (span : ShownSpan) → span_of text ≡ Some span → (span_fits span ≡ true) × (text ≡ span_text span)
span_of-from text span h =
    step (cut_at 58 text) h (λ parts cut h.
    step (cut_at 45 parts.0) h (λ ends inner h.
    step (number_of ends.0) h (λ start found h.
    step (number_of ends.1) h (λ end there h.
    step (signed_number parts.1) h (λ spare also h.
    let (one, start_is) = numbers.from ends.0 start found in
    let (two, end_is) = numbers.from ends.1 end there in
    let (three, spare_is) = signed_numbers.from parts.1 spare also in
    rw (← Some_same h) (all_three (number_fits start) (number_fits end) (signed_number_fits spare) one two three, rw (cut_at-Some 58 text parts cut, cut_at-Some 45 parts.0 ends inner, start_is, end_is, spare_is) refl))))))

span_of-to : (span : ShownSpan) → span_fits span ≡ true → span_of (span_text span) ≡ Some span
span_of-to span fits =
    let (front, three) = and_parts (number_fits span.start && number_fits span.end) (signed_number_fits span.spare) fits in
    let (one, two) = and_parts (number_fits span.start) (number_fits span.end) front in
    let small = leb-true span.start NUMBER_LIMIT one in
    let low = leb-true span.end NUMBER_LIMIT two in
    let lacks = Lacks-append 58 (decimal span.start) (45 ∷ decimal span.end) (digits_lack 58 span.start small refl) (digits_lack 58 span.end low refl) in
    let cut = cut_at-append 58 (decimal span.start ++ 45 ∷ decimal span.end) (signed_decimal span.spare) lacks in
    let inner = cut_at-append 45 (decimal span.start) (decimal span.end) (digits_lack 45 span.start small refl) in
    rw (cut, inner, numbers.to span.start one, numbers.to span.end two, signed_numbers.to span.spare three) refl

pub spans_of_one : IsExact span_of span_text span_fits
spans_of_one = record { from = span_of-from; to = span_of-to }

-- a number with a sign is of bytes of keys
signed-bytes : (z : ℤ) → signed_number_fits z ≡ true → list_all is_key_byte (signed_decimal z) ≡ true
signed-bytes (pos n) fits = decimal-keys n (leb-true n NUMBER_LIMIT fits)
signed-bytes (negsuc n) fits = decimal-keys (suc n) (leb-true (suc n) NUMBER_LIMIT fits)

-- so is a span
span_text-bytes : (span : ShownSpan) → span_fits span ≡ true → list_all is_key_byte (span_text span) ≡ true
span_text-bytes span fits =
    let (front, three) = and_parts (number_fits span.start && number_fits span.end) (signed_number_fits span.spare) fits in
    let (one, two) = and_parts (number_fits span.start) (number_fits span.end) front in
    all-append is_key_byte (decimal span.start ++ 45 ∷ decimal span.end) (58 ∷ signed_decimal span.spare)
    (all-append is_key_byte (decimal span.start) (45 ∷ decimal span.end) (decimal-keys span.start (leb-true span.start NUMBER_LIMIT one)) (decimal-keys span.end (leb-true span.end NUMBER_LIMIT two)))
    (signed-bytes span.spare three)

-- the text of a span has no space
span_text-lacks : (span : ShownSpan) → span_fits span ≡ true → Lacks 32 (span_text span)
span_text-lacks span fits = Lacks-from_all is_key_byte 32 (span_text span) (span_text-bytes span fits) refl

-- spans of bytes of words
pub spans_text-bytes : (spans : List ShownSpan) → list_all span_fits spans ≡ true → list_all is_word_byte (spans_text spans) ≡ true
spans_text-bytes [] fits = refl
spans_text-bytes (span ∷ []) fits =
    let (here, rest) = and_parts (span_fits span) true fits in
    keys-words (span_text span) (span_text-bytes span here)
spans_text-bytes (span ∷ next ∷ spans) fits =
    let (here, rest) = and_parts (span_fits span) (list_all span_fits (next ∷ spans)) fits in
    all-append is_word_byte (span_text span) (32 ∷ spans_text (next ∷ spans)) (keys-words (span_text span) (span_text-bytes span here)) (spans_text-bytes (next ∷ spans) rest)

-- from one span up to a limit
abbrev pub AreFew : ℕ → List ShownSpan → Type 0
AreFew limit spans = (list_all span_fits spans ≡ true) × (1 ≤ length spans) × (length spans ≤ limit)

-- a span before others
joined : (span : ShownSpan) (later : List ShownSpan) (front rest : List ℕ) → 1 ≤ length later → front ≡ span_text span → rest ≡ spans_text later → front ++ 32 ∷ rest ≡ spans_text (span ∷ later)
joined span [] front rest some first is = absurd (omega (arith, some))
joined span (next ∷ spans) front rest some first is = rw (first, is) refl

-- what a reader of fewer spans says
abbrev pub ReadsFew : ℕ → Type 0
ReadsFew limit = (text : List ℕ) (spans : List ShownSpan) → spans_within limit text ≡ Some spans → AreFew limit spans × (text ≡ spans_text spans)

-- one span more
spans_cut-from : (limit : ℕ) → ReadsFew limit → (text : List ℕ) (spans : List ShownSpan) (o : Option (List ℕ × List ℕ)) → cut_at 32 text ≡ o → spans_cut (spans_within limit) text o ≡ Some spans → AreFew (suc limit) spans × (text ≡ spans_text spans)
spans_cut-from limit fewer text spans None cut h =
    by_map (λ span. span ∷ []) (span_of text) h (λ span found is.
    (let (fits, same) = spans_of_one.from text span found in
    rw (← is) ((rw fits refl, omega arith, omega arith), same)))
spans_cut-from limit fewer text spans (Some parts) cut h =
    step (span_of parts.0) h (λ span found h.
    step (spans_within limit parts.1) h (λ later there h.
    let (fits, first) = spans_of_one.from parts.0 span found in
    let ((all, some, few), rest) = fewer parts.1 later there in
    rw (← Some_same h) ((and_from _ _ fits all, omega arith, omega (arith, few)), cut_at-Some 32 text parts cut ∙ joined span later parts.0 parts.1 some first rest)))

-- a text that is read as spans
pub spans_within-from : (limit : ℕ) → ReadsFew limit
unfolding spans_within
spans_within-from zero text spans h = absurd (cc h)
spans_within-from (suc limit) text spans h =
    spans_cut-from limit (spans_within-from limit) text spans (cut_at 32 text) refl h

-- the text of spans is read as them
pub spans_within-to : (limit : ℕ) (spans : List ShownSpan) → AreFew limit spans → spans_within limit (spans_text spans) ≡ Some spans
unfolding spans_within
spans_within-to limit [] (all, some, few) = absurd (omega (arith, some))
spans_within-to zero (span ∷ spans) (all, some, few) = absurd (omega (arith, few))
spans_within-to (suc limit) (span ∷ []) (all, some, few) =
    let (fits, rest) = and_parts (span_fits span) true all in
    rw (cut_at-lacks 32 (span_text span) (span_text-lacks span fits), spans_of_one.to span fits) refl
spans_within-to (suc limit) (span ∷ next ∷ spans) (all, some, few) =
    let (fits, rest) = and_parts (span_fits span) (list_all span_fits (next ∷ spans)) all in
    let later = spans_within-to limit (next ∷ spans) (rest, omega arith, omega (arith, few)) in
    rw (cut_at-append 32 (span_text span) (spans_text (next ∷ spans)) (span_text-lacks span fits), spans_of_one.to span fits, later) refl

-- no spans are read where none are allowed, and one more by the cut at the first space
pub spans_within-none : (rest : List ℕ) → spans_within 0 rest ≡ None
unfolding spans_within
spans_within-none rest = refl

spans_within-more : (n : ℕ) (rest : List ℕ) → spans_within (suc n) rest ≡ spans_cut (spans_within n) rest (cut_at 32 rest)
unfolding spans_within
spans_within-more n rest = refl

-- the spans that are read of a rest come behind those in front
abbrev pub behind : List ShownSpan → Option (List ShownSpan) → Option (List ShownSpan)
behind front o = option_map (λ more. front ++ more) o

-- behind none, all spans that are read are those of the text
pub behind-none : (o : Option (List ShownSpan)) → o ≡ behind [] o
behind-none None = refl
behind-none (Some spans) = refl

-- what is read at a step comes from the cut of the rest
at_step : (i : ℕ) (rest : List ℕ) (front : List ShownSpan) (o : Option (List ℕ × List ℕ)) → i < SHOWN_LIMIT → cut_at 32 rest ≡ o → behind front (spans_within (SHOWN_LIMIT - i) rest) ≡ behind front (spans_cut (spans_within (SHOWN_LIMIT - (i + 1))) rest o)
at_step i rest front o below cut =
    let left : SHOWN_LIMIT - i ≡ suc (SHOWN_LIMIT - (i + 1)) = omega (arith, below) in
    ap (λ n. behind front (spans_within n rest)) left
    ∙ ap (behind front) (spans_within-more (SHOWN_LIMIT - (i + 1)) rest ∙ ap (spans_cut (spans_within (SHOWN_LIMIT - (i + 1))) rest) cut)

-- a rest whose first span is none
pub first_is_none : (i : ℕ) (rest : List ℕ) (front : List ShownSpan) (parts : List ℕ × List ℕ) → i < SHOWN_LIMIT → cut_at 32 rest ≡ Some parts → span_of parts.0 ≡ None → behind front (spans_within (SHOWN_LIMIT - i) rest) ≡ None
first_is_none i rest front parts below cut none = at_step i rest front (Some parts) below cut ∙ rw none refl

-- a rest whose first span is one: it comes behind those before it
pub first_is_some : (i : ℕ) (rest : List ℕ) (front : List ShownSpan) (parts : List ℕ × List ℕ) (span : ShownSpan) → i < SHOWN_LIMIT → cut_at 32 rest ≡ Some parts → span_of parts.0 ≡ Some span → behind front (spans_within (SHOWN_LIMIT - i) rest) ≡ behind (front ++ span ∷ []) (spans_within (SHOWN_LIMIT - (i + 1)) parts.1)
first_is_some i rest front parts span below cut found =
    at_step i rest front (Some parts) below cut ∙ rw found (moved (spans_within (SHOWN_LIMIT - (i + 1)) parts.1))
  where
    moved : (o : Option (List ShownSpan)) → behind front (o >>= (λ spans. Some (span ∷ spans))) ≡ behind (front ++ span ∷ []) o
    moved None = refl
    moved (Some more) = ap Some (sym (append_assoc front (span ∷ []) more))

-- a rest that is the last span
pub last_is_none : (i : ℕ) (rest : List ℕ) (front : List ShownSpan) → i < SHOWN_LIMIT → cut_at 32 rest ≡ None → span_of rest ≡ None → behind front (spans_within (SHOWN_LIMIT - i) rest) ≡ None
last_is_none i rest front below cut none = at_step i rest front None below cut ∙ rw none refl

pub last_is_some : (i : ℕ) (rest : List ℕ) (front : List ShownSpan) (span : ShownSpan) → i < SHOWN_LIMIT → cut_at 32 rest ≡ None → span_of rest ≡ Some span → behind front (spans_within (SHOWN_LIMIT - i) rest) ≡ Some (front ++ span ∷ [])
last_is_some i rest front span below cut found = at_step i rest front None below cut ∙ rw found refl
