-- A dialogue that goes on by one line.
use Rattle.std.proofs.Common.{◌≡◌, ℕ, suc, ◌+◌, Bool, true, false, List, [], ◌∷◌, ◌++◌, length, Ok, Err, inl, inr, refl, sym, ap, ◌∙◌, subst, append-nil, append_assoc, arith}
use Rattle.std.specs.Prelude.{flat_map, nat_le, nat_lt}
use Rattle.std.specs.List.{list_any}
use Rattle.std.proofs.lemmas.Bool.{cases_Bool}
use Rattle.std.proofs.lemmas.Grind.{flat_map-append}
use Rattle.slot_core.specs.declared.TheConstants.{ARRIVAL_LIMIT, TIME_LIMIT}
use Rattle.slot_core.specs.declared.events.Event.{Event}
use Rattle.slot_core.specs.declared.tasks.TaskSet.{TaskSet}
use Rattle.slot_core.specs.Output.Texts.{trace_text}
use Rattle.slot_core.specs.Runs.Histories.{History, last_row, time_of}
use Rattle.slot_core.specs.Runs.Traces.{arrive, entries, history_after, started}
use Rattle.live_lines.specs.Lines.{Heard}
use Rattle.live_lines.specs.declared.commands.LiveCommand.TheVariants.{Arrive, Pass, Ahead, Carried, End}
use Rattle.live_lines.specs.Commands.{Asked}
use Rattle.live_lines.specs.Rows.{record_row, record_text}
use Rattle.live_run.specs.Dialogues.{Exchange, command_heard, asked, next_history, exchanges_from, exchanges, history_heard, answer_text, fault_text, arrival_made, arrivals_made, faults_text, rows_text, start_text, is_end, asks_end, AreAnswers, GoesOn, IsAnswer, IsOver}
use Rattle.live_run.specs.declared.streams.DialogueFault.{DialogueFault}
use Rattle.live_run.specs.declared.streams.DialogueFault.TheVariants.{Input, Record as RecordFault, Output}
use Rattle.live_run.specs.Streams.{Texts, Seen, dialogue_texts, texts_with, AreAnswered, ArePut, IsAnswered, IsAnsweredInPart, IsBroken, IsCutAtStart, IsCutInAnswer, IsLastInPart}
use Rattle.live_run.proofs.StreamLemmas.{joined, ArePut-trans}

-- the history after some and then others
pub history_heard-append : (set : TaskSet) (cycle : ℕ) (h : History) (first later : List Heard) → history_heard set cycle h (first ++ later) ≡ history_heard set cycle (history_heard set cycle h first) later
history_heard-append set cycle h [] later = refl
history_heard-append set cycle h (heard ∷ first) later =
    history_heard-append set cycle (next_history set cycle h (asked set h heard)) first later

-- the exchange of the line that is heard after some
abbrev pub exchange_after : TaskSet → ℕ → ℕ → History → List Heard → Heard → Exchange
exchange_after set cycle number h first heard =
    let before = history_heard set cycle h first in
    record { number = number + length first; before = before; asked = asked set before heard }

-- the exchanges of some and then one more
pub exchanges_from-more : (set : TaskSet) (cycle number : ℕ) (h : History) (first : List Heard) (heard : Heard) → exchanges_from set cycle number h (first ++ heard ∷ []) ≡ exchanges_from set cycle number h first ++ exchange_after set cycle number h first heard ∷ []
exchanges_from-more set cycle number h [] heard =
    let same : number ≡ number + 0 = omega arith in
    ap (λ n. record { number = n; before = h; asked = asked set h heard } ∷ []) same
exchanges_from-more set cycle number h (next ∷ first) heard =
    let a = asked set h next in
    let later = next_history set cycle h a in
    let before = history_heard set cycle later first in
    let same : (number + 1) + length first ≡ number + suc (length first) = omega arith in
    ap (λ xs. record { number = number; before = h; asked = a } ∷ xs) (exchanges_from-more set cycle (number + 1) later first heard)
    ∙ ap (λ n. record { number = number; before = h; asked = a } ∷ (exchanges_from set cycle (number + 1) later first ++ record { number = n; before = before; asked = asked set before heard } ∷ [])) same

-- texts are the same where each is
texts-same : {a b c d e f : List ℕ} → a ≡ b → c ≡ d → e ≡ f → ◌≡◌ {A = Texts} (record { answers = a; rows = c; faults = e }) (record { answers = b; rows = d; faults = f })
texts-same {a} {b} {c} {d} {e} {f} first second third =
    ap (λ x. record { answers = x; rows = c; faults = e }) first
    ∙ ap (λ x. record { answers = b; rows = x; faults = e }) second
    ∙ ap (λ x. record { answers = b; rows = d; faults = x }) third

-- texts that answer exchanges, and one more
AreAnswers-more : (set : TaskSet) (cycle : ℕ) (xs : List Exchange) (x : Exchange) (texts : List (List ℕ)) (text : List ℕ) → AreAnswers set cycle xs texts → IsAnswer set cycle x.before x.asked text → AreAnswers set cycle (xs ++ x ∷ []) (texts ++ text ∷ [])
AreAnswers-more set cycle [] x [] text all own = (own, tt)
AreAnswers-more set cycle [] x (t ∷ ts) text all own = elim all [ ]
AreAnswers-more set cycle (y ∷ xs) x [] text all own = elim all [ ]
AreAnswers-more set cycle (y ∷ xs) x (t ∷ ts) text all own =
    (all.0, AreAnswers-more set cycle xs x ts text all.1 own)

-- the texts of a dialogue that goes on by one line
pub texts-more : (set : TaskSet) (cycle number : ℕ) (heards : List Heard) (heard : Heard) (texts : List (List ℕ)) (text : List ℕ) → number ≡ 1 + length heards → joined (dialogue_texts set cycle heards texts) (texts_with set number (history_heard set cycle started heards) (asked set (history_heard set cycle started heards) heard) text) ≡ dialogue_texts set cycle (heards ++ heard ∷ []) (texts ++ text ∷ [])
texts-more set cycle number heards heard texts text counted =
    let xs = exchanges set cycle heards in
    let x = exchange_after set cycle 1 started heards heard in
    let h = x.before in
    let a = x.asked in
    let start = start_text set cycle in
    let told = flat_map (λ t. t) texts in
    let more : exchanges set cycle (heards ++ heard ∷ []) ≡ xs ++ x ∷ [] = exchanges_from-more set cycle 1 started heards heard in
    let answers : (start ++ told) ++ text ≡ start ++ flat_map (λ t. t) (texts ++ text ∷ []) =
    append_assoc start told text
    ∙ ap (λ t. start ++ (told ++ t)) (sym (append-nil text))
    ∙ ap (λ t. start ++ t) (sym (flat_map-append (λ t. t) texts (text ∷ []))) in
    let made : arrivals_made (exchanges set cycle (heards ++ heard ∷ [])) ≡ arrivals_made xs ++ arrival_made h a =
    ap arrivals_made more
    ∙ flat_map-append (λ (x : Exchange). arrival_made x.before x.asked) xs (x ∷ [])
    ∙ ap (λ ms. arrivals_made xs ++ ms) (append-nil (arrival_made h a)) in
    let rows : rows_text set xs ++ record_text set (arrival_made h a) ≡ rows_text set (exchanges set cycle (heards ++ heard ∷ [])) =
    sym (flat_map-append (record_row set) (arrivals_made xs) (arrival_made h a))
    ∙ ap (record_text set) (sym made) in
    let faults : faults_text xs ++ fault_text number a ≡ faults_text (exchanges set cycle (heards ++ heard ∷ [])) =
    ap (λ n. faults_text xs ++ fault_text n a) counted
    ∙ ap (λ t. faults_text xs ++ t) (sym (append-nil (fault_text x.number a)))
    ∙ sym (flat_map-append (λ (x : Exchange). fault_text x.number x.asked) xs (x ∷ []))
    ∙ ap faults_text (sym more) in
    texts-same answers rows faults

-- the end is asked for by what is heard, whatever the history
pub end-asked : (set : TaskSet) (h : History) (heard : Heard) → is_end (asked set h heard) ≡ asks_end set heard
end-asked set h heard = of_command (command_heard set heard) refl
  where
    of_command : (a : Asked) → command_heard set heard ≡ a → is_end (asked set h heard) ≡ is_end (command_heard set heard)
    of_command (Err fault) is = rw is refl
    of_command (Ok End) is = rw is refl
    of_command (Ok (Ahead slots)) is = rw is refl
    of_command (Ok (Carried keep)) is = rw is refl
    of_command (Ok (Arrive event)) is =
        elim (cases_Bool (nat_lt (last_row h) ARRIVAL_LIMIT)) [
          | inl may ↦ rw (is, may) refl
          | inr none ↦ rw (is, none) refl
        ]
    of_command (Ok (Pass slots)) is =
        elim (cases_Bool (nat_le (time_of h + slots) TIME_LIMIT)) [
          | inl may ↦ rw (is, may) refl
          | inr none ↦ rw (is, none) refl
        ]

-- a test of some and then one more
any-more : (p : Heard → Bool) (first : List Heard) (heard : Heard) → list_any p first ≡ false → p heard ≡ false → list_any p (first ++ heard ∷ []) ≡ false
any-more p [] heard none other = rw other refl
any-more p (next ∷ first) heard none other =
    elim (cases_Bool (p next)) [
      | inl is ↦ let wrong = rw is at none in cc
      | inr is ↦ let rest = rw is at none in rw is (any-more p first heard rest other)
    ]

-- the end is not asked for yet where it is not asked for by one line more
pub GoesOn-more : (set : TaskSet) (first : List Heard) (heard : Heard) → GoesOn set first → asks_end set heard ≡ false → GoesOn set (first ++ heard ∷ [])
GoesOn-more set first heard goes_on other = any-more (asks_end set) first heard goes_on other

-- a dialogue is over where the end is asked for now
pub IsOver-now : (set : TaskSet) (first : List Heard) (heard : Heard) → GoesOn set first → asks_end set heard ≡ true → IsOver set (first ++ heard ∷ [])
IsOver-now set first heard goes_on ends =
    record { first = first; last = heard; all = refl; goes_on = goes_on; ends = ends }

-- the text of the arrival in the row after the last
pub arrival-text : (set : TaskSet) (cycle row : ℕ) (h : History) (event : Event) → row ≡ last_row h → trace_text set (entries set cycle h (arrive (row + 1) event ∷ [])) ≡ answer_text set cycle h (Ok (Arrive event))
arrival-text set cycle row h event same =
    ap (λ r. trace_text set (entries set cycle h (arrive (r + 1) event ∷ []))) same

-- the history after it
pub arrival-history : (set : TaskSet) (cycle row : ℕ) (h : History) (event : Event) → row ≡ last_row h → history_after set cycle h (arrive (row + 1) event ∷ []) ≡ next_history set cycle h (Ok (Arrive event))
arrival-history set cycle row h event same =
    ap (λ r. history_after set cycle h (arrive (r + 1) event ∷ [])) same

-- and its row in the record
pub row-text : (set other : TaskSet) (row time : ℕ) (h : History) (event : Event) → other ≡ set → time ≡ time_of h → record_row other (record { row = row; slot = time; event = event }) ≡ record_text set (arrival_made h (Ok (Arrive event)))
row-text set other row time h event own same =
    ap (λ (s : TaskSet). record_row s (record { row = row; slot = time; event = event })) own
    ∙ ap (λ t. record_row set (record { row = row; slot = t; event = event })) same
    ∙ sym (append-nil (record_row set (record { row = last_row h + 1; slot = time_of h; event = event })))

-- a dialogue that goes on by one answer
pub turn-put : (set : TaskSet) (cycle number : ℕ) (before between after : Seen) (heards : List Heard) (heard : Heard) (a : Asked) → number ≡ length heards + 1 → a ≡ asked set (history_heard set cycle started heards) heard → AreAnswered set cycle heards before between → IsAnswered set cycle number (history_heard set cycle started heards) a between after → AreAnswered set cycle (heards ++ heard ∷ []) before after
turn-put set cycle number before between after heards heard a counted is (texts, all, first) later =
    let h = history_heard set cycle started heards in
    let (text, own, told) = subst (λ (b : Asked). IsAnswered set cycle number h b between after) is later in
    let xs = exchanges set cycle heards in
    let x = exchange_after set cycle 1 started heards heard in
    let more : exchanges set cycle (heards ++ heard ∷ []) ≡ xs ++ x ∷ [] = exchanges_from-more set cycle 1 started heards heard in
    let answers = subst (λ ys. AreAnswers set cycle ys (texts ++ text ∷ [])) (sym more) (AreAnswers-more set cycle xs x texts text all own) in (
      texts ++ text ∷ [],
      answers,
      subst (ArePut before after) (texts-more set cycle number heards heard texts text (omega (arith, counted))) (ArePut-trans before between after (dialogue_texts set cycle heards texts) (texts_with set number h (asked set h heard) text) first told),
    )

-- where a part of the answer is put, it is of the texts of the last that is heard
pub turn-part : (set : TaskSet) (cycle number : ℕ) (fault : DialogueFault) (between after : Seen) (heards : List Heard) (heard : Heard) (a : Asked) → number ≡ length heards + 1 → a ≡ asked set (history_heard set cycle started heards) heard → IsAnsweredInPart set cycle number fault (history_heard set cycle started heards) a between after → IsLastInPart set cycle fault heards heard between after
turn-part set cycle number fault between after heards heard a counted is part =
    let h = history_heard set cycle started heards in
    let own = subst (λ (b : Asked). IsAnsweredInPart set cycle number fault h b between after) is part in
    subst (λ n. IsAnsweredInPart set cycle n fault h (asked set h heard) between after) counted own

-- the history after one line more
pub turn-history : (set : TaskSet) (cycle : ℕ) (heards : List Heard) (heard : Heard) (a : Asked) → a ≡ asked set (history_heard set cycle started heards) heard → next_history set cycle (history_heard set cycle started heards) a ≡ history_heard set cycle started (heards ++ heard ∷ [])
turn-history set cycle heards heard a is =
    ap (next_history set cycle (history_heard set cycle started heards)) is
    ∙ sym (history_heard-append set cycle started heards (heard ∷ []))

-- a dialogue that is cut off by a put that failed is broken so: in its first line
pub IsBroken-at_start : {S : Type 0} (Gave : S → S → List Heard → Type 0) (Broke : S → S → Type 0) (misread : S → ℕ) (set : TaskSet) (cycle : ℕ) (fault : DialogueFault) (from to : S) (before after : Seen) → IsCutAtStart set cycle (Gave from to) fault before after → IsBroken Gave Broke misread set cycle fault from to before after
IsBroken-at_start Gave Broke misread set cycle Input from to before after cut = absurd cut.part.breaks
IsBroken-at_start Gave Broke misread set cycle RecordFault from to before after cut = inl cut
IsBroken-at_start Gave Broke misread set cycle Output from to before after cut = inl cut

-- or in an answer
pub IsBroken-in_answer : {S : Type 0} (Gave : S → S → List Heard → Type 0) (Broke : S → S → Type 0) (misread : S → ℕ) (set : TaskSet) (cycle : ℕ) (fault : DialogueFault) (from to : S) (before after : Seen) → IsCutInAnswer set cycle (Gave from to) fault before after → IsBroken Gave Broke misread set cycle fault from to before after
IsBroken-in_answer Gave Broke misread set cycle Input from to before after cut =
    absurd cut.part.2.breaks
IsBroken-in_answer Gave Broke misread set cycle RecordFault from to before after cut = inr cut
IsBroken-in_answer Gave Broke misread set cycle Output from to before after cut = inr cut
