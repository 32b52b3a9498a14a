-- The line of an entry is the text of the line with the names put in.
use Rattle.std.proofs.Common.{◌≡◌, ◌≢◌, ℕ, nat_lt, List, [], ◌∷◌, ◌++◌, refl, sym, ap, ◌∙◌, inl, inr, append_assoc}
use Rattle.std.proofs.lemmas.List.{append-nil}
use Rattle.std.specs.Prelude.{◌⊎◌, codes, decimal, flat_map, map, if◌then◌else◌}
use Rattle.std.specs.Fmt.{signed_decimal}
use Rattle.std.proofs.lemmas.Bool.{cases_Bool}
use Rattle.slot_core.specs.declared.jobs.Key.{Key}
use Rattle.slot_core.specs.declared.jobs.Key.TheVariants.{Offline, Sporadic as SporadicKey, Firm as FirmKey, Soft as SoftKey}
use Rattle.slot_core.specs.declared.jobs.Span.{Span}
use Rattle.slot_core.specs.declared.events.What.{What}
use Rattle.slot_core.specs.declared.events.What.TheVariants.{Start, Soft, Firm, Sporadic as SporadicEntry, Done, Withdraw, Run, Idle, End}
use Rattle.slot_core.specs.declared.tasks.TaskSet.{TaskSet}
use Rattle.slot_core.specs.Output.Texts.{entry_line, graph_name, task_name, sporadic_name, key_text as core_key_text, what_text, span_text as core_span_text, shown_text as core_shown_text, soft_text, firm_text, sporadic_text, done_text, gone_text}
use Rattle.key_texts.proofs.KeyLemmas.{offline_text}
use Rattle.trace_lines.specs.Laws.{EntriesAreLines}
use Rattle.trace_lines.specs.Named.{named_key, named_line, named_words, shown_span}
use Rattle.trace_lines.specs.Texts.{key_text, line_text, shown_text, spaced, span_text, spans_text, words_text}

-- texts around separators, grouped to the left and to the right
dash_and_colon : (start end spare : List ℕ) → start ++ codes "-" ++ end ++ codes ":" ++ spare ≡ (start ++ 45 ∷ end) ++ 58 ∷ spare
dash_and_colon start end spare = simp append_assoc

three_spaces : (word a b c : List ℕ) → ((word ++ 32 ∷ a) ++ 32 ∷ b) ++ 32 ∷ c ≡ word ++ 32 ∷ (a ++ 32 ∷ (b ++ 32 ∷ c))
three_spaces word a b c = simp append_assoc

four_spaces : (word a b c d : List ℕ) → (((word ++ 32 ∷ a) ++ 32 ∷ b) ++ 32 ∷ c) ++ 32 ∷ d ≡ word ++ 32 ∷ (a ++ 32 ∷ (b ++ 32 ∷ (c ++ 32 ∷ d)))
four_spaces word a b c d = simp append_assoc

-- the text of a key
key_text-named : (set : TaskSet) (key : Key) → core_key_text set key ≡ key_text (named_key set key)
key_text-named set (Offline graph task instance) = offline_text (graph_name set graph) (task_name set graph task) (decimal instance)
key_text-named set (SporadicKey index row) = append_assoc (sporadic_name set index) (codes "@") (decimal row)
key_text-named set (FirmKey row) = refl
key_text-named set (SoftKey row) = refl

-- the words
words_text-named : (set : TaskSet) (what : What) → what_text set what ≡ words_text (named_words set what)
words_text-named set Start = refl
words_text-named set (Soft row slots a) = three_spaces (codes "soft") (decimal row) (decimal slots) (soft_text a)
words_text-named set (Firm row slots within a) = four_spaces (codes "firm") (decimal row) (decimal slots) (decimal within) (firm_text a)
words_text-named set (SporadicEntry row index a) = three_spaces (codes "sporadic") (decimal row) (sporadic_name set index) (sporadic_text a)
words_text-named set (Done row key a) =
    three_spaces (codes "done") (decimal row) (core_key_text set key) (done_text a)
    ∙ ap (λ text. spaced (codes "done") (spaced (decimal row) (spaced text (done_text a)))) (key_text-named set key)
words_text-named set (Withdraw row firm a) = three_spaces (codes "withdraw") (decimal row) (core_key_text set (FirmKey firm)) (gone_text a)
words_text-named set (Run key) = ap (spaced (codes "run")) (key_text-named set key)
words_text-named set Idle = refl
words_text-named set End = refl

-- a span
span_text-shown : (s : Span) → core_span_text s ≡ span_text (shown_span s)
span_text-shown s = dash_and_colon (decimal s.start) (decimal s.end) (signed_decimal s.spare)

-- spans, of which there is one at least
spans_text-shown : (s : Span) (spans : List Span) → flat_map (λ (x : Span). 32 ∷ core_span_text x) (s ∷ spans) ≡ 32 ∷ spans_text (map shown_span (s ∷ spans))
spans_text-shown s [] = append-nil (32 ∷ core_span_text s) ∙ ap (λ t. 32 ∷ t) (span_text-shown s)
spans_text-shown s (next ∷ spans) =
    ap (λ t. (32 ∷ core_span_text s) ++ t) (spans_text-shown next spans)
    ∙ ap (λ t. 32 ∷ (t ++ 32 ∷ spans_text (map shown_span (next ∷ spans)))) (span_text-shown s)

-- what is shown
shown_text-shown : (spans : List Span) (more : ℕ) → spans ≢ [] → core_shown_text (record { spans = spans; more = more }) ≡ 32 ∷ shown_text (map shown_span spans) more
shown_text-shown [] more some = absurd (some refl)
shown_text-shown (s ∷ spans) more some =
    let front = spans_text-shown s spans in
    let theirs = flat_map (λ (x : Span). 32 ∷ core_span_text x) (s ∷ spans) in
    let ours = spans_text (map shown_span (s ∷ spans)) in
    elim (cases_Bool (nat_lt 0 more)) [
      | inl others ↦
          let tail : (if nat_lt 0 more then codes " +" ++ decimal more else []) ≡ codes " +" ++ decimal more = rw others refl in
          let text : shown_text (map shown_span (s ∷ spans)) more ≡ (ours ++ 32 ∷ []) ++ 43 ∷ decimal more = rw others refl in
          ap (λ t. theirs ++ t) tail
          ∙ ap (λ t. t ++ (codes " +" ++ decimal more)) front
          ∙ sym (ap (λ t. 32 ∷ t) (text ∙ append_assoc ours (32 ∷ []) (43 ∷ decimal more)))
      | inr none ↦
          let tail : (if nat_lt 0 more then codes " +" ++ decimal more else []) ≡ [] = rw none refl in
          let text : shown_text (map shown_span (s ∷ spans)) more ≡ ours = rw none refl in
          ap (λ t. theirs ++ t) tail ∙ append-nil theirs ∙ front ∙ sym (ap (λ t. 32 ∷ t) text)
    ]

-- a time, words, a bar and what is shown
around : (time words shown : List ℕ) → ((time ++ 32 ∷ words) ++ (codes " |" ++ 32 ∷ shown)) ++ 10 ∷ [] ≡ (time ++ 32 ∷ ((words ++ 32 ∷ []) ++ 124 ∷ 32 ∷ shown)) ++ 10 ∷ []
around time words shown = simp append_assoc

-- a line whose words are not those of the end
shown-line : (set : TaskSet) (time : ℕ) (what : What) (spans : List Span) (more : ℕ) → spans ≢ [] → ((decimal time ++ 32 ∷ what_text set what) ++ (codes " |" ++ core_shown_text (record { spans = spans; more = more }))) ++ 10 ∷ [] ≡ (decimal time ++ 32 ∷ ((words_text (named_words set what) ++ 32 ∷ []) ++ 124 ∷ 32 ∷ shown_text (map shown_span spans) more)) ++ 10 ∷ []
shown-line set time what spans more some =
    rw (words_text-named set what, shown_text-shown spans more some) (around (decimal time) (words_text (named_words set what)) (shown_text (map shown_span spans) more))

-- an entry that is not the end shows a span
there : (what : What) (spans : List Span) → what ≢ End → (what ≡ End) ⊎ (spans ≢ []) → spans ≢ []
there what spans other (inl end) = absurd (other end)
there what spans other (inr some) = some

-- a line
line-named : (set : TaskSet) (time : ℕ) (what : What) (spans : List Span) (more : ℕ) → (what ≡ End) ⊎ (spans ≢ []) → entry_line set (record { time = time; what = what; shown = record { spans = spans; more = more } }) ≡ line_text (named_line set (record { time = time; what = what; shown = record { spans = spans; more = more } })) ++ 10 ∷ []
line-named set time End spans more shows = ap (λ t. t ++ 10 ∷ []) (append-nil (decimal time ++ 32 ∷ codes "end"))
line-named set time Start spans more shows = shown-line set time Start spans more (there Start spans (λ e. cc e) shows)
line-named set time (Soft row slots a) spans more shows = shown-line set time (Soft row slots a) spans more (there (Soft row slots a) spans (λ e. cc e) shows)
line-named set time (Firm row slots within a) spans more shows = shown-line set time (Firm row slots within a) spans more (there (Firm row slots within a) spans (λ e. cc e) shows)
line-named set time (SporadicEntry row index a) spans more shows = shown-line set time (SporadicEntry row index a) spans more (there (SporadicEntry row index a) spans (λ e. cc e) shows)
line-named set time (Done row key a) spans more shows = shown-line set time (Done row key a) spans more (there (Done row key a) spans (λ e. cc e) shows)
line-named set time (Withdraw row firm a) spans more shows = shown-line set time (Withdraw row firm a) spans more (there (Withdraw row firm a) spans (λ e. cc e) shows)
line-named set time (Run key) spans more shows = shown-line set time (Run key) spans more (there (Run key) spans (λ e. cc e) shows)
line-named set time Idle spans more shows = shown-line set time Idle spans more (there Idle spans (λ e. cc e) shows)

-- the line of an entry
pub entry-named : EntriesAreLines
entry-named set entry shows = line-named set entry.time entry.what entry.shown.spans entry.shown.more shows
