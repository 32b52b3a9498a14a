-- Lines tell entries, but for works and for what an end entry shows.
use Rattle.std.proofs.Common.{◌≡◌, ◌⊎◌, ℕ, ◌==◌, true, List, [], ◌∷◌, ◌++◌, drop, get_or, append_assoc, refl, sym, ap, ◌∙◌, inl, inr}
use Rattle.std.specs.Prelude.{codes, decimal}
use Rattle.std.specs.List.{list_any, AllByRecursion}
use Rattle.std.proofs.lemmas.Bool.{or_right, false≢true}
use Rattle.std.proofs.lemmas.Fmt.{decimal_injective}
use Rattle.std.proofs.lemmas.List.Folds.{list_any-append}
use Rattle.std.proofs.lemmas.List.Elements.{recursion_from_All}
use Rattle.slot_core.specs.declared.tasks.TaskSet.{TaskSet}
use Rattle.slot_core.specs.declared.events.Entry.{Entry}
use Rattle.slot_core.specs.declared.events.What.{What}
use Rattle.slot_core.specs.declared.events.What.TheVariants.{End}
use Rattle.slot_core.specs.Output.Texts.{what_text, shown_text, spans_text, entry_line}
use Rattle.slot_core.specs.Runs.ShownSpans.{ShownSpans}
use Rattle.slot_core.specs.Sets.Ranges.{is_sound}
use Rattle.slot_facts.specs.Lines.{IsWord64, IsSpan64, IsEntryOf, AgreeButWorks, LinesTellEntries, what_numbers}
use Rattle.key_texts.proofs.CutLemmas.{Lacks}
use Rattle.key_texts.proofs.KeyLemmas.{Lacks-append}
use Rattle.service_laws.proofs.LineCuts.{IsWord, words_line, same_words, same_cut, number-lacks}
use Rattle.service_laws.proofs.LineSpans.{shown_line, shown_line-is, same_shown}
use Rattle.service_laws.proofs.LineWords.{what_words, what_text-words, what_words-are, same_what}

-- an entry is the end, or another
end_or_other : (what : What) → (what ≡ End) ⊎ (what ≡ End → ⊥)
end_or_other End = inl refl
end_or_other what = inr (λ e. cc e)

-- before the spans of another entry stands a bar
spans_text-other : (what : What) (shown : ShownSpans) → (what ≡ End → ⊥) → spans_text what shown ≡ 32 ∷ 124 ∷ shown_text shown
spans_text-other End shown other = absurd (other refl)
spans_text-other what shown other = refl

-- its line: the time and its words, and after a bar the spans
line-other : (set : TaskSet) (e : Entry) → (e.what ≡ End → ⊥) → entry_line set e ≡ words_line (decimal e.time ∷ what_words set e.what) (124 ∷ shown_line e.shown.spans e.shown.more)
line-other set e other =
    let front = decimal e.time in
    let told = what_text set e.what in
    let bar = 32 ∷ 124 ∷ shown_text e.shown in
    ap (λ spans. front ++ 32 ∷ told ++ spans ++ 10 ∷ []) (spans_text-other e.what e.shown other)
    ∙ append_assoc (front ++ 32 ∷ told) bar (10 ∷ [])
    ∙ append_assoc front (32 ∷ told) (bar ++ 10 ∷ [])
    ∙ ap (λ rest. front ++ 32 ∷ (told ++ 32 ∷ 124 ∷ rest)) (shown_line-is e.shown.spans e.shown.more)
    ∙ ap (λ rest. front ++ 32 ∷ rest) (what_text-words set e.what (124 ∷ shown_line e.shown.spans e.shown.more))

-- the line of the end: its time and a word
line-end : (set : TaskSet) (e : Entry) → e.what ≡ End → entry_line set e ≡ decimal e.time ++ 32 ∷ codes "end\n"
line-end set e is =
    let front = decimal e.time in
    ap (λ what. front ++ 32 ∷ what_text set what ++ spans_text what e.shown ++ 10 ∷ []) is
    ∙ append_assoc (front ++ 32 ∷ codes "end") [] (10 ∷ [])
    ∙ append_assoc front (32 ∷ codes "end") (10 ∷ [])

-- the one has a bar, the other has none
bar-there : (words : List (List ℕ)) (rest : List ℕ) → list_any (λ b. b == 124) (words_line words (124 ∷ rest)) ≡ true
bar-there [] rest = refl
bar-there (w ∷ words) rest =
    let later = words_line words (124 ∷ rest) in
    list_any-append (λ b. b == 124) w (32 ∷ later)
    ∙ or_right (list_any (λ b. b == 124) w) (list_any (λ b. b == 124) later) (bar-there words rest)

no_bar-end : (set : TaskSet) (e : Entry) → IsEntryOf set e → Lacks 124 (decimal e.time ++ 32 ∷ codes "end\n")
no_bar-end set e own = Lacks-append 124 (decimal e.time) (32 ∷ codes "end\n") (number-lacks 124 e.time own.time refl) refl

-- so no line is that of the end and of another entry
end-alone : (set : TaskSet) (a b : Entry) → IsEntryOf set a → a.what ≡ End → (b.what ≡ End → ⊥) → entry_line set a ≡ entry_line set b → ⊥
end-alone set a b own is other e =
    let line = sym (line-end set a is) ∙ e ∙ line-other set b other in
    let there = bar-there (decimal b.time ∷ what_words set b.what) (shown_line b.shown.spans b.shown.more) in
    false≢true (sym (no_bar-end set a own) ∙ ap (list_any (λ b. b == 124)) line ∙ there)

-- the words of another entry of the set, its time first
words-are : (set : TaskSet) (e : Entry) → is_sound set ≡ true → IsEntryOf set e → AllByRecursion IsWord (decimal e.time ∷ what_words set e.what)
words-are set e sound own =
    (record { space = number-lacks 32 e.time own.time refl; bar = number-lacks 124 e.time own.time refl }, what_words-are set e.what sound own.named own.keyed (recursion_from_All IsWord64 (what_numbers e.what) own.numbers))

-- other entries with the same line agree
others-agree : (set : TaskSet) (a b : Entry) → is_sound set ≡ true → IsEntryOf set a → IsEntryOf set b → (a.what ≡ End → ⊥) → (b.what ≡ End → ⊥) → entry_line set a ≡ entry_line set b → AgreeButWorks a b
others-agree set a b sound own also other_a other_b e =
    let words = λ (e : Entry). decimal e.time ∷ what_words set e.what in
    let line = sym (line-other set a other_a) ∙ e ∙ line-other set b other_b in
    let cut = same_words (words a) (words b) (shown_line a.shown.spans a.shown.more) (shown_line b.shown.spans b.shown.more) (words-are set a sound own) (words-are set b sound also) line in
    let numbers = λ (e : Entry) (of : IsEntryOf set e). recursion_from_All IsWord64 (what_numbers e.what) of.numbers in
    let shown = same_shown a.shown.spans b.shown.spans a.shown.more b.shown.more (recursion_from_All IsSpan64 a.shown.spans own.spans) (recursion_from_All IsSpan64 b.shown.spans also.spans) own.more also.more cut.1 in
    record {
      time = decimal_injective a.time b.time own.time also.time (ap (λ ws. get_or ws 0 []) cut.0);
      what = same_what set a.what b.what sound own.named also.named own.keyed also.keyed (numbers a own) (numbers b also) (ap (drop 1) cut.0);
      spans = λ _. shown.0;
      more = λ _. shown.1;
    }

-- ends with the same line are at the same time
ends-agree : (set : TaskSet) (a b : Entry) → IsEntryOf set a → IsEntryOf set b → a.what ≡ End → b.what ≡ End → entry_line set a ≡ entry_line set b → AgreeButWorks a b
ends-agree set a b own also is_a is_b e =
    let line = sym (line-end set a is_a) ∙ e ∙ line-end set b is_b in
    let cut = same_cut (λ b. b == 32) (decimal a.time) (decimal b.time) 32 32 (codes "end\n") (codes "end\n") (number-lacks 32 a.time own.time refl) (number-lacks 32 b.time also.time refl) refl refl line in
    record {
      time = decimal_injective a.time b.time own.time also.time cut.0;
      what = is_a ∙ sym is_b;
      spans = λ other. absurd (other is_a);
      more = λ other. absurd (other is_a);
    }

-- entries with the same line agree but for works
pub lines_tell_entries : LinesTellEntries
lines_tell_entries set a b sound own also e =
    elim (end_or_other a.what) [
      | inl is_a ↦ elim (end_or_other b.what) [
        | inl is_b ↦ ends-agree set a b own also is_a is_b e
        | inr other_b ↦ absurd (end-alone set a b own is_a other_b e)
      ]
      | inr other_a ↦ elim (end_or_other b.what) [
        | inl is_b ↦ absurd (end-alone set b a also is_b other_a (sym e))
        | inr other_b ↦ others-agree set a b sound own also other_a other_b e
      ]
    ]
