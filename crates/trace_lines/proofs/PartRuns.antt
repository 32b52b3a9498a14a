-- A part of a trace runs what the trace runs in its slots.
use Rattle.std.proofs.Common.{◌≡◌, ℕ, true, false, nat_le, List, [], ◌∷◌, ◌++◌, append-nil, Option, Some, None, refl, sym, ap, ap₂, ◌∙◌, inl, inr}
use Rattle.std.proofs.lemmas.Bool.{cases_Bool}
use Rattle.std.proofs.lemmas.Grind.{flat_map-append}
use Rattle.std.proofs.lemmas.List.Elements.{filter-append}
use Rattle.trace_lines.specs.declared.line.KeyName.{KeyName}
use Rattle.trace_lines.specs.declared.line.Words.{Words}
use Rattle.trace_lines.specs.declared.line.Words.TheVariants.{Run}
use Rattle.trace_lines.specs.declared.line.TraceLine.{TraceLine}
use Rattle.trace_lines.specs.declared.part.Slots.{Slots}
use Rattle.trace_lines.specs.Parts.{closing, is_in, is_within, last_before, lines_within, opening, part_of, runs_within}
use Rattle.trace_lines.specs.Traces.{run_at, runs_of, time_of_last}

-- the runs of lines and then others
runs_of-append : (xs ys : List TraceLine) → runs_of (xs ++ ys) ≡ runs_of xs ++ runs_of ys
runs_of-append xs ys = flat_map-append (λ (l : TraceLine). run_at l.time l.words) xs ys

-- nothing runs at the start of a part
opening-runs : (from : ℕ) (last : Option TraceLine) → runs_of (opening from last) ≡ []
opening-runs from None = refl
opening-runs from (Some line) = refl

-- nor at its end
closing-runs : (until end : ℕ) → runs_of (closing until end) ≡ []
closing-runs until end = elim (cases_Bool (nat_le until end)) [
  | inl on ↦ rw on refl
  | inr off ↦ rw off refl
]

-- what a line of the slots runs is within them
run-kept : (slots : Slots) (time : ℕ) (words : Words) → is_in slots time ≡ true → runs_within slots (run_at time words) ≡ run_at time words
run-kept slots time (Run key) inside = rw inside refl
run-kept slots time words inside = refl

-- and of another line it is not
run-dropped : (slots : Slots) (time : ℕ) (words : Words) → is_in slots time ≡ false → runs_within slots (run_at time words) ≡ []
run-dropped slots time (Run key) outside = rw outside refl
run-dropped slots time words outside = refl

-- the lines within run what is within
within-runs : (slots : Slots) (lines : List TraceLine) → runs_of (lines_within slots lines) ≡ runs_within slots (runs_of lines)
within-runs slots [] = refl
within-runs slots (line ∷ lines) =
    let both = filter-append (λ (run : ℕ × KeyName). is_in slots run.0) (run_at line.time line.words) (runs_of lines) in
    elim (cases_Bool (is_within slots line)) [
      | inl inside ↦
          rw inside (ap₂ (λ a b. a ++ b) (sym (run-kept slots line.time line.words inside)) (within-runs slots lines) ∙ sym both)
      | inr outside ↦
          rw outside (within-runs slots lines ∙ ap (λ a. a ++ runs_within slots (runs_of lines)) (sym (run-dropped slots line.time line.words outside)) ∙ sym both)
    ]

-- a part runs what the trace runs in its slots
pub part-runs : (slots : Slots) (lines : List TraceLine) → runs_of (part_of slots lines) ≡ runs_within slots (runs_of lines)
part-runs slots lines =
    let end = closing slots.until (time_of_last lines) in
    runs_of-append (opening slots.from (last_before slots lines)) (lines_within slots lines ++ end)
    ∙ ap (λ rs. rs ++ runs_of (lines_within slots lines ++ end)) (opening-runs slots.from (last_before slots lines))
    ∙ runs_of-append (lines_within slots lines) end
    ∙ ap (λ rs. runs_of (lines_within slots lines) ++ rs) (closing-runs slots.until (time_of_last lines))
    ∙ append-nil (runs_of (lines_within slots lines))
    ∙ within-runs slots lines
