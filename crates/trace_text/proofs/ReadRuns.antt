-- A line is read as what ran exactly where it tells that.
use Rattle.std.proofs.Common.{◌≡◌, ℕ, true, List, ◌∷◌, ◌++◌, Some, refl, sym, ap, ◌∙◌, inl, inr, append_assoc}
use Rattle.std.specs.Prelude.{codes, decimal}
use Rattle.std.specs.Str.{bytes_eq}
use Rattle.std.proofs.lemmas.Bool.{and_parts, and_from, cases_Bool}
use Rattle.slot_core.specs.declared.events.Ran.{Ran}
use Rattle.slot_core.specs.declared.events.Ran.TheVariants.{Idle as RanIdle, Key as RanKey}
use Rattle.slot_core.specs.declared.tasks.TaskSet.{TaskSet}
use Rattle.slot_core.specs.Output.Texts.{key_text, what_text}
use Rattle.slot_core.specs.Runs.Arrivals.{key_in_set, key_in_range}
use Rattle.slot_core.specs.Runs.Traces.{told_of_slot}
use Rattle.slot_core.specs.Sets.Ranges.{is_sound}
use Rattle.key_texts.specs.KeyTexts.{cut_at, key_of_text}
use Rattle.key_texts.specs.Numbers.{number_of}
use Rattle.key_texts.proofs.CutLemmas.{cut_at-Some, cut_at-append}
use Rattle.key_texts.proofs.DigitLemmas.{number_of-decimal, decimal-number_of}
use Rattle.key_texts.proofs.KeyBytes.{key_text-lacks, space_is_no_key_byte}
use Rattle.key_texts.proofs.KeyLemmas.{step, digits_lack, IsKeyText-from_key, key-from_IsKeyText}
use Rattle.key_texts.proofs.NameLemmas.{same-from_bytes_eq}
use Rattle.key_texts.proofs.PlaceLemmas.{Some_same}
use Rattle.trace_text.specs.RunLines.{is_known, run_before, run_of_line, worded_run, TellsRun}

-- the words of what ran, which the set knows, a space and some rest
record Words (set : TaskSet) (text : List ℕ) (ran : Ran) : Type 0 where
  known : is_known set ran ≡ true
  rest : List ℕ
  is : text ≡ what_text set (told_of_slot ran) ++ 32 ∷ rest

-- a key that is read before a space stands after its word
run_before-Some : (set : TaskSet) (text : List ℕ) (ran : Ran) → run_before set text ≡ Some ran → Words set (codes "run" ++ 32 ∷ text) ran
run_before-Some set text ran h =
    step (cut_at 32 text) h (λ parts cut h.
    step (key_of_text set parts.0) h (λ key found h.
    let key_is = IsKeyText-from_key set parts.0 key found in
    let whole : text ≡ key_text set key ++ 32 ∷ parts.1 = cut_at-Some 32 text parts cut ∙ ap (λ xs. xs ++ 32 ∷ parts.1) key_is.is_text in
    rw (← Some_same h) (record {
      known = and_from _ _ key_is.in_set key_is.in_range;
      rest = parts.1;
      is = ap (λ xs. codes "run" ++ 32 ∷ xs) whole;
    })))

-- a word and what stands after its space tell what is read of them
worded_run-Some : (set : TaskSet) (word text : List ℕ) (ran : Ran) → worded_run set word text ≡ Some ran → Words set (word ++ 32 ∷ text) ran
worded_run-Some set word text ran h =
    elim (cases_Bool (bytes_eq word (codes "idle"))) [
      | inl idle ↦
          let same = rw idle at h in
          rw (← Some_same same) (record { known = refl; rest = text; is = ap (λ w. w ++ 32 ∷ text) (same-from_bytes_eq word (codes "idle") idle) })
      | inr not_idle ↦ elim (cases_Bool (bytes_eq word (codes "run"))) [
        | inl run ↦
            rw (same-from_bytes_eq word (codes "run") run) (run_before-Some set text ran (rw (not_idle, run) at h))
        | inr not_run ↦ let none = rw (not_idle, not_run) at h in cc
      ]
    ]

-- a line that is read as a run tells it
pub TellsRun-from_run : (set : TaskSet) (line : List ℕ) (ran : Ran) → run_of_line set line ≡ Some ran → TellsRun set line ran
TellsRun-from_run set line ran h =
    step (cut_at 32 line) h (λ parts cut h.
    step (number_of parts.0) h (λ time number h.
    step (cut_at 32 parts.1) h (λ told inner h.
    let (small, digits) = number_of-decimal time parts.0 number in
    let words = worded_run-Some set told.0 told.1 ran h in
    let after : parts.1 ≡ what_text set (told_of_slot ran) ++ 32 ∷ words.rest = cut_at-Some 32 parts.1 told inner ∙ words.is in
    let whole : line ≡ decimal time ++ 32 ∷ parts.1 = cut_at-Some 32 line parts cut ∙ ap (λ xs. xs ++ 32 ∷ parts.1) digits in
    record {
      time = time;
      rest = words.rest;
      small = small;
      known = words.known;
      text = whole ∙ ap (λ xs. decimal time ++ 32 ∷ xs) after ∙ sym (append_assoc (decimal time) (32 ∷ what_text set (told_of_slot ran)) (32 ∷ words.rest));
    })))

-- the words of what ran are read as that, after the number
worded_run-at : (set : TaskSet) (ran : Ran) (rest : List ℕ) → is_sound set ≡ true → is_known set ran ≡ true → (told : List ℕ × List ℕ) × (cut_at 32 (what_text set (told_of_slot ran) ++ 32 ∷ rest) ≡ Some told) × (worded_run set told.0 told.1 ≡ Some ran)
worded_run-at set RanIdle rest sound known = ((codes "idle", rest), cut_at-append 32 (codes "idle") rest refl, refl)
worded_run-at set (RanKey key) rest sound known =
    let (in_set, in_range) = and_parts (key_in_set set key) (key_in_range key) known in
    let text = key_text set key in
    let before = cut_at-append 32 text rest (key_text-lacks 32 set key space_is_no_key_byte sound in_set in_range) in
    let found = key-from_IsKeyText set text key sound (record { in_set = in_set; in_range = in_range; is_text = refl }) in
    ((codes "run", text ++ 32 ∷ rest), cut_at-append 32 (codes "run") (text ++ 32 ∷ rest) refl, rw (before, found) refl)

-- a line that tells what ran is read as that
pub run-from_TellsRun : (set : TaskSet) (line : List ℕ) (ran : Ran) → is_sound set ≡ true → TellsRun set line ran → run_of_line set line ≡ Some ran
run-from_TellsRun set line ran sound tells =
    let words = what_text set (told_of_slot ran) in
    let (told, inner, is) = worded_run-at set ran tells.rest sound tells.known in
    let whole : line ≡ decimal tells.time ++ 32 ∷ (words ++ 32 ∷ tells.rest) = tells.text ∙ append_assoc (decimal tells.time) (32 ∷ words) (32 ∷ tells.rest) in
    let cut = ap (cut_at 32) whole ∙ cut_at-append 32 (decimal tells.time) (words ++ 32 ∷ tells.rest) (digits_lack 32 tells.time tells.small refl) in
    let number = decimal-number_of tells.time (decimal tells.time) tells.small refl in
    rw (cut, number, inner) is
