-- Lines that are taken: the spans that one tells, and a part of one.
use Rattle.std.proofs.Common.{◌≡◌, ◌≢◌, ◌≤◌, ◌+◌, ℕ, List, [], ◌∷◌, ◌++◌, drop, length, Option, refl, ap, subst, arith, ◌∙◌, append_assoc, sym, OnErr, Result}
use Rattle.std.specs.Prelude.{codes}
use Rattle.std.proofs.lemmas.List.{drop_at}
use Rattle.std.proofs.lemmas.Result.{on_err_weaker}
use Rattle.slot_core.specs.declared.events.Entry.{Entry}
use Rattle.slot_core.specs.declared.events.What.{What}
use Rattle.slot_core.specs.declared.events.What.TheVariants.{Start, Soft, Firm, Sporadic, Done, Withdraw, Run, Idle, End}
use Rattle.slot_core.specs.declared.tasks.TaskSet.{TaskSet}
use Rattle.slot_core.specs.Output.Texts.{entry_line, shown_text, spans_text}
use Rattle.slot_core.specs.Runs.ShownSpans.{ShownSpans, others_of}
use Rattle.slot_io.specs.Sinks.{AppendsPart}
use Rattle.trace_text.specs.declared.TheConstants.{DECIMAL_LIMIT, LINE_LIMIT, SPAN_LIMIT, SPANS_LIMIT, WORDS_LIMIT}
use Rattle.trace_text.specs.declared.line.TheConstants.{COPY_SIZE}
use Rattle.trace_text.specs.Takers.{AppendsBroken, TellsSpans}

-- but at the end of a trace, an entry tells its spans after a bar
spans_told : (what : What) (shown : ShownSpans) → what ≢ End → spans_text what shown ≡ codes " |" ++ shown_text shown
spans_told Start shown h = refl
spans_told (Soft a b c) shown h = refl
spans_told (Firm a b c d) shown h = refl
spans_told (Sporadic a b c) shown h = refl
spans_told (Done a b c) shown h = refl
spans_told (Withdraw a b c) shown h = refl
spans_told (Run a) shown h = refl
spans_told Idle shown h = refl
spans_told End shown h = absurd (h refl)

-- a line with these texts at its end is short enough to be copied
pub tells : (line : List ℕ) (tail others : ℕ) (shown : ShownSpans) → drop tail line ≡ codes " |" ++ shown_text shown ++ 10 ∷ [] → drop others line ≡ shown_text (others_of shown) ++ 10 ∷ [] → tail ≤ others → tail ≤ DECIMAL_LIMIT + 1 + WORDS_LIMIT → length line ≤ tail + SPANS_LIMIT + 1 → length line + 2 + SPAN_LIMIT ≤ others + SPANS_LIMIT + 1 → TellsSpans line tail others shown
tells line tail others shown all rest order head short first =
    let room : length line + COPY_SIZE ≤ LINE_LIMIT = omega (arith, head, short) in
    record {
      all = record { text = all; short = short; room = room };
      rest = record { text = rest; short = omega (arith, order, short); room = room };
      room = first;
    }

-- a line that was made of a head, its spans and its end tells them after the head
pub told_after : (head line : List ℕ) (what : What) (shown : ShownSpans) → what ≢ End → line ≡ head ++ spans_text what shown ++ 10 ∷ [] → drop (length head) line ≡ codes " |" ++ shown_text shown ++ 10 ∷ []
told_after head line what shown some is =
    let spans = codes " |" ++ shown_text shown in
    ap (drop (length head)) (is ∙ ap (λ xs. head ++ xs ++ 10 ∷ []) (spans_told what shown some) ∙ append_assoc head spans (10 ∷ []))
    ∙ drop_at head (spans ++ 10 ∷ []) (length head) refl

-- so does one that was made of a front up to the first span, and of the others
pub told_with : (head front rest line : List ℕ) (shown : ShownSpans) → front ++ shown_text (others_of shown) ≡ head ++ codes " |" ++ shown_text shown → rest ≡ shown_text (others_of shown) ++ 10 ∷ [] → line ≡ front ++ rest → drop (length head) line ≡ codes " |" ++ shown_text shown ++ 10 ∷ []
told_with head front rest line shown text ends is =
    let others = shown_text (others_of shown) in
    let spans = codes " |" ++ shown_text shown in
    ap (drop (length head)) (is
    ∙ ap (λ xs. front ++ xs) ends
    ∙ sym (append_assoc front others (10 ∷ []))
    ∙ ap (λ xs. xs ++ 10 ∷ []) text
    ∙ ap (λ xs. xs ++ 10 ∷ []) (append_assoc head (codes " |") (shown_text shown))
    ∙ append_assoc head spans (10 ∷ []))
    ∙ drop_at head (spans ++ 10 ∷ []) (length head) refl

-- of one entry, a part of its line
broken-one : (a b : Option (List ℕ)) (set : TaskSet) (e : Entry) → AppendsPart a b (entry_line set e) → AppendsBroken a b set (e ∷ [])
broken-one a b set e part =
    record {
      front = [];
      last = e;
      all = refl;
      part = part.0;
      written = part.1;
    }

-- so it is where a call fails that puts its line
pub broken-put : {X E : Type 0} (r : Result X E) (a b : Option (List ℕ)) (set : TaskSet) (e : Entry) (line : List ℕ) → line ≡ entry_line set e → OnErr r (AppendsPart a b line) → OnErr r (AppendsBroken a b set (e ∷ []))
broken-put r a b set e line is = on_err_weaker r (λ part. broken-one a b set e (subst (AppendsPart a b) is part))
