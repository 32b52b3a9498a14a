-- A text on which the verdict is Ok is that of a lawful trace.
use Rattle.std.proofs.Common.{◌≡◌, ℕ, ◌+◌, Bool, true, false, cond, List, [], ◌∷◌, ◌++◌, Option, Some, None, Ok, Err, append_assoc, refl, sym, ap, ◌∙◌, subst}
use Rattle.std.specs.Prelude.{⊤}
use Rattle.std.specs.Option.{option_map_or}
use Rattle.std.specs.Str.{bytes_eq}
use Rattle.slot_core.specs.declared.tasks.TaskSet.{TaskSet}
use Rattle.slot_core.specs.declared.events.Arrival.{Arrival}
use Rattle.slot_core.specs.declared.events.Entry.{Entry}
use Rattle.slot_core.specs.declared.events.What.{What}
use Rattle.slot_core.specs.declared.events.What.TheVariants.{Start}
use Rattle.slot_core.specs.Calls.Results.{◌>>=◌}
use Rattle.slot_core.specs.Claims.Lawful.{AreLawful}
use Rattle.slot_core.specs.Output.Texts.{entry_line, trace_text}
use Rattle.slot_core.specs.Runs.Histories.{History, time_of}
use Rattle.slot_core.specs.Runs.Scenes.{scene_of}
use Rattle.slot_core.specs.Runs.Traces.{Occurrence, shown_entry, occurrences_of, started, end_entry}
use Rattle.slot_core.specs.Sets.Cycles.{cycle_of}
use Rattle.key_texts.specs.KeyTexts.{cut_at}
use Rattle.key_texts.proofs.CutLemmas.{cut_at-Some}
use Rattle.key_texts.proofs.NameLemmas.{same-from_bytes_eq}
use Rattle.trace_verify.specs.Laws.{IsLawfulText}
use Rattle.trace_verify.specs.Verdicts.{Checking, needed_line, told_by, same_line, in_time, entry_in, line_told, no_more, last_line, lines_told, first_line, verdict}
use Rattle.trace_verify.proofs.SameVerdicts.{rest_told}
use Rattle.trace_verify.proofs.ToldLines.{passed, told-may}
use Rattle.faults.specs.declared.verify_fault.VerifyFault.TheVariants.{Short, Differs}

-- the parts of a text that is cut, or that it is short
abbrev parts_or_short : ℕ → Option (List ℕ × List ℕ) → Checking (List ℕ × List ℕ)
parts_or_short n cut = option_map_or (λ (parts : List ℕ × List ℕ). Ok parts) cut (Err (Short n))

-- a line that is needed and there is cut off at its line feed
needed-cut : (n : ℕ) (text : List ℕ) (parts : List ℕ × List ℕ) → needed_line n text ≡ Ok parts → cut_at 10 text ≡ Some parts
needed-cut n text parts needed = by_cut (cut_at 10 text) needed
  where
    by_cut : (o : Option (List ℕ × List ℕ)) → parts_or_short n o ≡ Ok parts → o ≡ Some parts
    by_cut None e = cc
    by_cut (Some own) e = cc

-- a line that is that of an entry is so with its line feed
same-line : (set : TaskSet) (entry : Entry) (n : ℕ) (line : List ℕ) (s : ⊤) → same_line set entry n line ≡ Ok s → line ++ 10 ∷ [] ≡ entry_line set entry
same-line set entry n line s same = by_test (bytes_eq (line ++ 10 ∷ []) (entry_line set entry)) refl same
  where
    by_test : (b : Bool) → bytes_eq (line ++ 10 ∷ []) (entry_line set entry) ≡ b → cond b (Ok tt) (Err (Differs n)) ≡ Ok s → line ++ 10 ∷ [] ≡ entry_line set entry
    by_test true on e = same-from_bytes_eq (line ++ 10 ∷ []) (entry_line set entry) on
    by_test false on e = cc

-- so the text begins with the line of the entry
begins-entry : (set : TaskSet) (entry : Entry) (n : ℕ) (text : List ℕ) (parts : List ℕ × List ℕ) → needed_line n text ≡ Ok parts → parts.0 ++ 10 ∷ [] ≡ entry_line set entry → text ≡ entry_line set entry ++ parts.1
begins-entry set entry n text parts needed same =
    let whole = cut_at-Some 10 text parts (needed-cut n text parts needed) in
    whole ∙ sym (append_assoc parts.0 (10 ∷ []) parts.1) ∙ ap (λ xs. xs ++ parts.1) same

-- a line that tells something is the line of its entry
told-line : (set : TaskSet) (cycle : ℕ) (h : History) (n : ℕ) (next : Occurrence) (line : List ℕ) (what : What) → line_told set cycle (scene_of set cycle h) (λ w. scene_of set cycle (w ∷ h)) n next line ≡ Ok what → line ++ 10 ∷ [] ≡ entry_line set (shown_entry set cycle (time_of h) what (what ∷ h))
told-line set cycle h n next line what told =
    let scene = scene_of set cycle h in
    let first = passed (told_by set cycle scene n next line) (λ w. rest_told set cycle scene (scene_of set cycle (w ∷ h)) n next line w) what told in
    let own = first.0 in
    let after = scene_of set cycle (own ∷ h) in
    let same = passed (same_line set (entry_in cycle scene own after) n line) (λ s. in_time after n next >>= λ timely. Ok own) what first.2 in
    let timely = passed (in_time after n next) (λ t. Ok own) what same.2 in
    let is : own ≡ what = cc in
    subst (λ w. line ++ 10 ∷ [] ≡ entry_line set (shown_entry set cycle (time_of h) w (w ∷ h))) is (same-line set (entry_in cycle scene own after) n line same.0 same.1)

-- where no byte may follow, none does
no_more-none : (n : ℕ) (text : List ℕ) → no_more n text ≡ Ok tt → text ≡ []
no_more-none n [] e = refl
no_more-none n (byte ∷ text) e = cc

-- a text that is the last line is that of the end
last-entry : (set : TaskSet) (slots n : ℕ) (text : List ℕ) → last_line set slots n text ≡ Ok tt → text ≡ entry_line set (end_entry slots) ++ []
last-entry set slots n text last =
    let ending = end_entry slots in
    let needed = passed (needed_line n text) (λ parts. same_line set ending n parts.0 >>= λ same. no_more (n + 1) parts.1) tt last in
    let parts = needed.0 in
    let same = passed (same_line set ending n parts.0) (λ s. no_more (n + 1) parts.1) tt needed.2 in
    begins-entry set ending n text parts needed.1 (same-line set ending n parts.0 same.0 same.1)
    ∙ ap (λ rest. entry_line set ending ++ rest) (no_more-none (n + 1) parts.1 same.2)

-- lines that tell these occurrences are those of lawful entries and of the end
lawful-lines : (set : TaskSet) (cycle slots : ℕ) (h : History) (n : ℕ) (next : List Occurrence) (text : List ℕ) → lines_told set cycle slots h n next text ≡ Ok tt → (told : List Entry) × AreLawful set cycle h next told × (text ≡ trace_text set (told ++ end_entry slots ∷ []))
lawful-lines set cycle slots h n [] text told = ([], refl, last-entry set slots n text told)
lawful-lines set cycle slots h n (next ∷ later) text told =
    let scene = scene_of set cycle h in
    let after = λ (w : What). scene_of set cycle (w ∷ h) in
    let needed = passed (needed_line n text) (λ parts. line_told set cycle scene after n next parts.0 >>= λ what. lines_told set cycle slots (what ∷ h) (n + 1) later parts.1) tt told in
    let parts = needed.0 in
    let line = passed (line_told set cycle scene after n next parts.0) (λ what. lines_told set cycle slots (what ∷ h) (n + 1) later parts.1) tt needed.2 in
    let what = line.0 in
    let entry = shown_entry set cycle (time_of h) what (what ∷ h) in
    let rest = lawful-lines set cycle slots (what ∷ h) (n + 1) later parts.1 line.2 in
    let begins = begins-entry set entry n text parts needed.1 (told-line set cycle h n next parts.0 what line.1) in
    (entry ∷ rest.0, (told-may set cycle h n next parts.0 what line.1, refl, rest.1), begins ∙ ap (λ xs. entry_line set entry ++ xs) rest.2)

-- a text whose first line is that of the start begins with it
first-entry : (set : TaskSet) (cycle : ℕ) (text rest : List ℕ) → first_line set cycle text ≡ Ok rest → text ≡ entry_line set (shown_entry set cycle 0 Start started) ++ rest
first-entry set cycle text rest first =
    let start = shown_entry set cycle 0 Start started in
    let needed = passed (needed_line 1 text) (λ parts. same_line set start 1 parts.0 >>= λ same. Ok parts.1) rest first in
    let parts = needed.0 in
    let same = passed (same_line set start 1 parts.0) (λ s. Ok parts.1) rest needed.2 in
    let is : parts.1 ≡ rest = cc in
    begins-entry set start 1 text parts needed.1 (same-line set start 1 parts.0 same.0 same.1)
    ∙ ap (λ xs. entry_line set start ++ xs) is

-- so a text with the verdict Ok is that of a lawful trace
pub lawful-from_verdict : (set : TaskSet) (arrivals : List Arrival) (n : ℕ) (text : List ℕ) → verdict set (cycle_of set) arrivals n text ≡ Ok tt → IsLawfulText set arrivals n text
lawful-from_verdict set arrivals n text ok =
    let cycle = cycle_of set in
    let start = shown_entry set cycle 0 Start started in
    let first = passed (first_line set cycle text) (λ rest. lines_told set cycle n started 2 (occurrences_of arrivals n) rest) tt ok in
    let rest = lawful-lines set cycle n started 2 (occurrences_of arrivals n) first.0 first.2 in
    let whole = first-entry set cycle text first.0 first.1 ∙ ap (λ xs. entry_line set start ++ xs) rest.2 in
    (start ∷ (rest.0 ++ end_entry n ∷ []), (rest.0, refl, rest.1), whole)
