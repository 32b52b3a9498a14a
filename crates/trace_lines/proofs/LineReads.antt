-- A line is read exactly from its text.
use Rattle.std.proofs.Common.{◌≡◌, ◌≢◌, ℕ, zero, suc, ◌==◌, true, ◌&&◌, nat_lt, List, [], ◌∷◌, ◌++◌, length, Option, Some, None, refl, sym, ap, subst, ◌∙◌, inl, inr, arith}
use Rattle.std.specs.Prelude.{codes, decimal, option_map, if◌then◌else◌}
use Rattle.std.specs.Borrow.{Bor}
use Rattle.std.specs.List.{list_all}
use Rattle.std.specs.Option.{MatchOption}
use Rattle.std.proofs.lemmas.Bool.{and_parts, and_from, cases_Bool, eqb-true, leb-true, le-leb, lt-ltb, ltb-true}
use Rattle.std.proofs.lemmas.Bool.Decides.{nat_tests}
use Rattle.slot_core.specs.declared.TheConstants.{NUMBER_LIMIT, SHOWN_LIMIT}
use Rattle.slot_core.specs.Sets.Ranges.{is_between}
use Rattle.slot_facts.proofs.Sets.Ranges.{bounds}
use Rattle.key_texts.specs.KeyTexts.{cut_at}
use Rattle.key_texts.specs.Numbers.{number_between, number_of}
use Rattle.key_texts.proofs.CutLemmas.{Lacks, Lacks-from_all, cut_at-Some, cut_at-append, cut_at-lacks}
use Rattle.key_texts.proofs.DigitLemmas.{number_between-decimal, decimal-number_between}
use Rattle.key_texts.proofs.KeyLemmas.{step, digits_lack, Lacks-append}
use Rattle.key_texts.proofs.PlaceLemmas.{Some_same}
use Rattle.trace_lines.specs.declared.line.ShownSpan.{ShownSpan}
use Rattle.trace_lines.specs.declared.line.TraceLine.{TraceLine}
use Rattle.trace_lines.specs.declared.line.Words.{Words}
use Rattle.trace_lines.specs.declared.line.Words.TheVariants.{Start, Soft, Firm, Sporadic, Done, Withdraw, Run, Idle, End}
use Rattle.trace_lines.specs.Ranges.{number_fits, line_fits, span_fits, spans_fit, words_fit}
use Rattle.trace_lines.specs.Readings.{after_space, before_space, line_at, line_of, more_of, shown_and_more, shown_line, spans_within, told_and_shown, words_of}
use Rattle.trace_lines.specs.Texts.{line_text, shown_text, spaced, spans_text, told_text, words_text}
use Rattle.trace_lines.proofs.ByteLemmas.{is_word_byte}
use Rattle.trace_lines.proofs.Choices.{by_map, by_word}
use Rattle.trace_lines.proofs.NumberReads.{numbers, number-lacks}
use Rattle.trace_lines.proofs.SpanReads.{spans_text-bytes, spans_within-from, spans_within-to}
use Rattle.trace_lines.proofs.WordReads.{IsNoEnd, words_of-from, words_of-to, words_text-bytes}

-- what stands before a space at the end
pub before_space-from : (text front : List ℕ) → before_space text ≡ Some front → text ≡ front ++ 32 ∷ []
before_space-from [] front h = absurd (cc h)
before_space-from (b ∷ []) front h =
    elim (cases_Bool (b == 32)) [
      | inl is ↦ let same = rw is at h in rw (← Some_same same) (ap (λ c. c ∷ []) (eqb-true b 32 is))
      | inr other ↦ let none = rw other at h in cc
    ]
before_space-from (b ∷ c ∷ text) front h =
    by_map (λ f. b ∷ f) (before_space (c ∷ text)) h (λ f found is.
    rw (← is) (ap (λ t. b ∷ t) (before_space-from (c ∷ text) f found)))

pub before_space-to : (front : List ℕ) → before_space (front ++ 32 ∷ []) ≡ Some front
before_space-to [] = refl
before_space-to (b ∷ []) = refl
before_space-to (b ∷ c ∷ front) = ap (option_map (λ f. b ∷ f)) (before_space-to (c ∷ front))

-- where no text before such a space is, none is read
before_space-none : (text : List ℕ) → ((front : List ℕ) → text ≢ front ++ 32 ∷ []) → before_space text ≡ None
before_space-none text none = by_read (before_space text) refl
  where
    by_read : (o : Option (List ℕ)) → before_space text ≡ o → before_space text ≡ None
    by_read None is = is
    by_read (Some front) is = absurd (none front (before_space-from text front is))

-- what stands before the space, as a slice
pub before_space-reads : (text : List ℕ) (r : Option (Bor (List ℕ))) → MatchOption r ((front : List ℕ) → text ≢ front ++ 32 ∷ []) (λ x. text ≡ x.now ++ 32 ∷ []) → option_map (λ (x : Bor (List ℕ)). x.now) r ≡ before_space text
before_space-reads text None none = sym (before_space-none text none)
before_space-reads text (Some x) is = sym (ap before_space is ∙ before_space-to x.now)

-- what stands after a space at the front
after_space-from : (text rest : List ℕ) → after_space text ≡ Some rest → text ≡ 32 ∷ rest
after_space-from [] rest h = absurd (cc h)
after_space-from (b ∷ text) rest h =
    elim (cases_Bool (b == 32)) [
      | inl is ↦ let same = rw is at h in rw (eqb-true b 32 is) (ap (λ t. 32 ∷ t) (Some_same same))
      | inr other ↦ let none = rw other at h in cc
    ]

-- the spans and the number of the others that are read
shown_and_more-from : (text spans : List ℕ) (more : ℕ) → shown_and_more text ≡ Some (spans, more) → (number_fits more ≡ true) × (text ≡ (if nat_lt 0 more then (spans ++ 32 ∷ []) ++ 43 ∷ decimal more else spans))
shown_and_more-from text spans more h = by_cut (cut_at 43 text) refl h
  where
    by_cut : (o : Option (List ℕ × List ℕ)) → cut_at 43 text ≡ o → more_of text o ≡ Some (spans, more) → (number_fits more ≡ true) × (text ≡ (if nat_lt 0 more then (spans ++ 32 ∷ []) ++ 43 ∷ decimal more else spans))
    by_cut None cut h =
        let same : (text, 0) ≡ (spans, more) = Some_same h in
        let first : text ≡ spans = ap (λ (p : List ℕ × ℕ). p.0) same in
        let second : 0 ≡ more = ap (λ (p : List ℕ × ℕ). p.1) same in
        rw (← second) (refl, first)
    by_cut (Some parts) cut h =
        step (number_between 1 NUMBER_LIMIT parts.1) h (λ n found h.
        step (before_space parts.0) h (λ front there h.
        let same : (front, n) ≡ (spans, more) = Some_same h in
        let first : front ≡ spans = ap (λ (p : List ℕ × ℕ). p.0) same in
        let second : n ≡ more = ap (λ (p : List ℕ × ℕ). p.1) same in
        let (range, digits) = number_between-decimal 1 NUMBER_LIMIT n parts.1 (omega arith) found in
        let (low, high) = bounds 1 NUMBER_LIMIT n range in
        let some : nat_lt 0 n ≡ true = lt-ltb 0 n (omega (arith, low)) in
        rw (← second, ← first) (le-leb n NUMBER_LIMIT high, cut_at-Some 43 text parts cut ∙ rw (some, digits, before_space-from parts.0 front there) refl)))

-- the text of spans and of how many more there are is read as these
shown_and_more-to : (spans : List ShownSpan) (more : ℕ) → list_all span_fits spans ≡ true → number_fits more ≡ true → shown_and_more (shown_text spans more) ≡ Some (spans_text spans, more)
shown_and_more-to spans more fits small =
    let lacks = Lacks-from_all is_word_byte 43 (spans_text spans) (spans_text-bytes spans fits) refl in
    elim (cases_Bool (nat_lt 0 more)) [
      | inl some ↦
          let cut = cut_at-append 43 (spans_text spans ++ 32 ∷ []) (decimal more) (Lacks-append 43 (spans_text spans) (32 ∷ []) lacks refl) in
          let range : is_between 1 NUMBER_LIMIT more ≡ true = and_from _ _ (le-leb 1 more (ltb-true 0 more some)) small in
          let text : shown_text spans more ≡ (spans_text spans ++ 32 ∷ []) ++ 43 ∷ decimal more = rw some refl in
          ap shown_and_more text
          ∙ rw (cut, decimal-number_between 1 NUMBER_LIMIT more (decimal more) (omega arith) range refl, before_space-to (spans_text spans)) refl
      | inr none ↦
          let text : shown_text spans more ≡ spans_text spans = rw none refl in
          let zero_is : 0 ≡ more = grind (arith, nat_tests, none) in
          ap shown_and_more text ∙ rw (cut_at-lacks 43 (spans_text spans) lacks) (ap (λ n. Some (spans_text spans, n)) zero_is)
    ]

-- words that are read are not those of the end
no_end-from : (text : List ℕ) (words : Words) → words_of text ≡ Some words → IsNoEnd words
no_end-from text Start h = tt
no_end-from text (Soft row slots a) h = tt
no_end-from text (Firm row slots within a) h = tt
no_end-from text (Sporadic row name a) h = tt
no_end-from text (Done row key a) h = tt
no_end-from text (Withdraw row firm a) h = tt
no_end-from text (Run key) h = tt
no_end-from text Idle h = tt
no_end-from text End h =
    let read : words_of (codes "end") ≡ Some End = ap words_of (sym (words_of-from text End h).1) ∙ h in
    absurd (cc read)

-- what a line with such words looks like
record IsShown (words : Words) (spans : List ShownSpan) (more : ℕ) : Type 0 where
  told : told_text words spans more ≡ (words_text words ++ 32 ∷ []) ++ 124 ∷ 32 ∷ shown_text spans more
  fits : spans_fit words spans more ≡ (is_between 1 SHOWN_LIMIT (length spans) && list_all span_fits spans && number_fits more)

IsShown-from_words : (words : Words) (spans : List ShownSpan) (more : ℕ) → IsNoEnd words → IsShown words spans more
IsShown-from_words Start spans more other = record { told = refl; fits = refl }
IsShown-from_words (Soft row slots a) spans more other = record { told = refl; fits = refl }
IsShown-from_words (Firm row slots within a) spans more other = record { told = refl; fits = refl }
IsShown-from_words (Sporadic row name a) spans more other = record { told = refl; fits = refl }
IsShown-from_words (Done row key a) spans more other = record { told = refl; fits = refl }
IsShown-from_words (Withdraw row firm a) spans more other = record { told = refl; fits = refl }
IsShown-from_words (Run key) spans more other = record { told = refl; fits = refl }
IsShown-from_words Idle spans more other = record { told = refl; fits = refl }
IsShown-from_words End spans more other = absurd other

-- a text that is read as a line which shows spans
shown_line-from : (time : ℕ) (text : List ℕ) (line : TraceLine) → number_fits time ≡ true → shown_line time text ≡ Some line → (line_fits line ≡ true) × (spaced (decimal time) text ≡ line_text line)
shown_line-from time text line small h =
    step (told_and_shown text) h (λ parts found h.
    step (shown_and_more parts.1) h (λ shown there h.
    step (words_of parts.0) h (λ words told h.
    step (spans_within SHOWN_LIMIT shown.0) h (λ spans read h.
    let (fits, words_are) = words_of-from parts.0 words told in
    let (number, shown_is) = shown_and_more-from parts.1 shown.0 shown.1 there in
    let ((all, some, few), spans_are) = spans_within-from SHOWN_LIMIT shown.0 spans read in
    let form = IsShown-from_words words spans shown.1 (no_end-from parts.0 words told) in
    let range : is_between 1 SHOWN_LIMIT (length spans) ≡ true = and_from _ _ (le-leb 1 (length spans) some) (le-leb (length spans) SHOWN_LIMIT few) in
    let text_is = told_and_shown-from text parts found in
    rw (← Some_same h) (rw (small, fits, form.fits, range, all, number) refl, rw (text_is, words_are, shown_is, spans_are, form.told) refl)))))
  where
    told_and_shown-from : (text : List ℕ) (parts : List ℕ × List ℕ) → told_and_shown text ≡ Some parts → text ≡ (parts.0 ++ 32 ∷ []) ++ 124 ∷ 32 ∷ parts.1
    told_and_shown-from text parts h =
        step (cut_at 124 text) h (λ sides cut h.
        step (before_space sides.0) h (λ front found h.
        step (after_space sides.1) h (λ rest there h.
        rw (← Some_same h) (cut_at-Some 124 text sides cut ∙ rw (before_space-from sides.0 front found, after_space-from sides.1 rest there) refl))))

-- a text that is read as a line
pub line_of-from : (text : List ℕ) (line : TraceLine) → line_of text ≡ Some line → (line_fits line ≡ true) × (text ≡ line_text line)
unfolding line_of
line_of-from text line h =
    step (cut_at 32 text) h (λ parts cut h.
    step (number_of parts.0) h (λ time found h.
    let (small, time_is) = numbers.from parts.0 time found in
    let whole : text ≡ spaced (decimal time) parts.1 = cut_at-Some 32 text parts cut ∙ ap (λ t. spaced t parts.1) time_is in
    by_word parts.1 (codes "end") h
    (λ is same. rw (← Some_same same) (rw small refl, whole ∙ ap (spaced (decimal time)) is))
    (λ h. (let (fits, is) = shown_line-from time parts.1 line small h in (fits, whole ∙ is)))))

-- the text of a line with such words is read as that line
shown_line-to : (time : ℕ) (words : Words) (spans : List ShownSpan) (more : ℕ) → IsNoEnd words → words_fit words ≡ true → spans_fit words spans more ≡ true → shown_line time (told_text words spans more) ≡ Some (record { time = time; words = words; spans = spans; more = more })
shown_line-to time words spans more other fits shown =
    let form = IsShown-from_words words spans more other in
    let (front, number) = and_parts (is_between 1 SHOWN_LIMIT (length spans) && list_all span_fits spans) (number_fits more) (sym form.fits ∙ shown) in
    let (range, all) = and_parts (is_between 1 SHOWN_LIMIT (length spans)) (list_all span_fits spans) front in
    let (some, few) = bounds 1 SHOWN_LIMIT (length spans) range in
    let lacks = Lacks-from_all is_word_byte 124 (words_text words) (words_text-bytes words fits) refl in
    let cut = cut_at-append 124 (words_text words ++ 32 ∷ []) (32 ∷ shown_text spans more) (Lacks-append 124 (words_text words) (32 ∷ []) lacks refl) in
    ap (shown_line time) form.told
    ∙ rw (cut, before_space-to (words_text words), shown_and_more-to spans more all number, words_of-to words other fits, spans_within-to SHOWN_LIMIT spans (all, some, few)) refl

-- what is told of a line that is not the end is not the word of the end
line_at-to : (time : ℕ) (words : Words) (spans : List ShownSpan) (more : ℕ) → words_fit words ≡ true → spans_fit words spans more ≡ true → line_at time (told_text words spans more) ≡ Some (record { time = time; words = words; spans = spans; more = more })
line_at-to time End [] zero fits shown = refl
line_at-to time End [] (suc more) fits shown = absurd (omega (arith, eqb-true (suc more) 0 shown))
line_at-to time End (span ∷ spans) more fits shown =
    let (none, _) = and_parts (length (span ∷ spans) == 0) (more == 0) shown in
    absurd (omega (arith, eqb-true (length (span ∷ spans)) 0 none))
line_at-to time Start spans more fits shown = shown_line-to time Start spans more tt fits shown
line_at-to time (Soft row slots a) spans more fits shown = shown_line-to time (Soft row slots a) spans more tt fits shown
line_at-to time (Firm row slots within a) spans more fits shown = shown_line-to time (Firm row slots within a) spans more tt fits shown
line_at-to time (Sporadic row name a) spans more fits shown = shown_line-to time (Sporadic row name a) spans more tt fits shown
line_at-to time (Done row key a) spans more fits shown = shown_line-to time (Done row key a) spans more tt fits shown
line_at-to time (Withdraw row firm a) spans more fits shown = shown_line-to time (Withdraw row firm a) spans more tt fits shown
line_at-to time (Run key) spans more fits shown = shown_line-to time (Run key) spans more tt fits shown
line_at-to time Idle spans more fits shown = shown_line-to time Idle spans more tt fits shown

-- the text of a line that fits is read as that line
pub line_of-to : (line : TraceLine) → line_fits line ≡ true → line_of (line_text line) ≡ Some line
unfolding line_of
line_of-to line fits =
    let (front, shown) = and_parts (number_fits line.time && words_fit line.words) (spans_fit line.words line.spans line.more) fits in
    let (small, words) = and_parts (number_fits line.time) (words_fit line.words) front in
    rw (cut_at-append 32 (decimal line.time) (told_text line.words line.spans line.more) (number-lacks line.time small), numbers.to line.time small) (line_at-to line.time line.words line.spans line.more words shown)

-- the text of a line has no line feed
pub line_text-lacks : (line : TraceLine) → line_fits line ≡ true → Lacks 10 (line_text line)
line_text-lacks line fits =
    let (front, shown) = and_parts (number_fits line.time && words_fit line.words) (spans_fit line.words line.spans line.more) fits in
    let (small, words) = and_parts (number_fits line.time) (words_fit line.words) front in
    Lacks-append 10 (decimal line.time) (32 ∷ told_text line.words line.spans line.more)
    (digits_lack 10 line.time (leb-true line.time NUMBER_LIMIT small) refl)
    (told-lacks line.words line.spans line.more words shown)
  where
    shown-lacks : (spans : List ShownSpan) (more : ℕ) → list_all span_fits spans ≡ true → number_fits more ≡ true → Lacks 10 (shown_text spans more)
    shown-lacks spans more fits small =
        let all = Lacks-from_all is_word_byte 10 (spans_text spans) (spans_text-bytes spans fits) refl in
        elim (cases_Bool (nat_lt 0 more)) [
          | inl some ↦
              let text : shown_text spans more ≡ (spans_text spans ++ 32 ∷ []) ++ 43 ∷ decimal more = rw some refl in
              subst (Lacks 10) (sym text) (Lacks-append 10 (spans_text spans ++ 32 ∷ []) (43 ∷ decimal more) (Lacks-append 10 (spans_text spans) (32 ∷ []) all refl) (digits_lack 10 more (leb-true more NUMBER_LIMIT small) refl))
          | inr none ↦
              let text : shown_text spans more ≡ spans_text spans = rw none refl in
              subst (Lacks 10) (sym text) all
        ]

    words-lacks : (words : Words) (spans : List ShownSpan) (more : ℕ) → IsNoEnd words → words_fit words ≡ true → spans_fit words spans more ≡ true → Lacks 10 (told_text words spans more)
    words-lacks words spans more other fits shown =
        let form = IsShown-from_words words spans more other in
        let (front, number) = and_parts (is_between 1 SHOWN_LIMIT (length spans) && list_all span_fits spans) (number_fits more) (sym form.fits ∙ shown) in
        let (_, all) = and_parts (is_between 1 SHOWN_LIMIT (length spans)) (list_all span_fits spans) front in
        let lacks = Lacks-from_all is_word_byte 10 (words_text words) (words_text-bytes words fits) refl in
        subst (Lacks 10) (sym form.told) (Lacks-append 10 (words_text words ++ 32 ∷ []) (124 ∷ 32 ∷ shown_text spans more) (Lacks-append 10 (words_text words) (32 ∷ []) lacks refl) (shown-lacks spans more all number))

    told-lacks : (words : Words) (spans : List ShownSpan) (more : ℕ) → words_fit words ≡ true → spans_fit words spans more ≡ true → Lacks 10 (told_text words spans more)
    told-lacks End spans more fits shown = refl
    told-lacks Start spans more fits shown = words-lacks Start spans more tt fits shown
    told-lacks (Soft row slots a) spans more fits shown = words-lacks (Soft row slots a) spans more tt fits shown
    told-lacks (Firm row slots within a) spans more fits shown = words-lacks (Firm row slots within a) spans more tt fits shown
    told-lacks (Sporadic row name a) spans more fits shown = words-lacks (Sporadic row name a) spans more tt fits shown
    told-lacks (Done row key a) spans more fits shown = words-lacks (Done row key a) spans more tt fits shown
    told-lacks (Withdraw row firm a) spans more fits shown = words-lacks (Withdraw row firm a) spans more tt fits shown
    told-lacks (Run key) spans more fits shown = words-lacks (Run key) spans more tt fits shown
    told-lacks Idle spans more fits shown = words-lacks Idle spans more tt fits shown
