-- What is kept of the lines of a trace, one line more.
use Rattle.std.proofs.Common.{◌≡◌, ℕ, ◌+◌, ◌-◌, ◌≤◌, Bool, true, nat_le, List, [], ◌∷◌, ◌++◌, append-nil, length, length-append, Option, Some, None, refl, sym, ap, ◌∙◌, inl, inr, arith, cond}
use Rattle.std.specs.Prelude.{count_by, if◌then◌else◌, slice_get}
use Rattle.std.specs.List.{filter}
use Rattle.std.specs.Option.{option_map_or}
use Rattle.std.proofs.lemmas.Bool.{and_parts, cases_Bool}
use Rattle.std.proofs.lemmas.Bool.Decides.{nat_tests}
use Rattle.std.proofs.lemmas.List.Elements.{filter-append}
use Rattle.std.proofs.lemmas.List.Sums.{count_by-le-length, sum_by-append}
use Rattle.slot_core.specs.declared.TheConstants.{NUMBER_LIMIT}
use Rattle.trace_lines.specs.declared.TheConstants.{LINE_LIMIT}
use Rattle.trace_lines.specs.declared.line.TraceLine.{TraceLine}
use Rattle.trace_lines.specs.declared.part.Slots.{Slots}
use Rattle.trace_lines.specs.declared.part.TheConstants.{ALL_SLOTS}
use Rattle.trace_lines.specs.declared.trace.Reached.{Reached}
use Rattle.trace_lines.specs.Parts.{is_before, is_within, IsKept, IsLong, last_before, last_of, lines_within}
use Rattle.trace_lines.specs.Ranges.{words_fit}
use Rattle.trace_lines.specs.Readings.{short_line}
use Rattle.trace_lines.specs.Traces.{IsRead, Leads, MayStand, reached_after, time_of_last}
use Rattle.key_texts.specs.KeyTexts.{cut_at}
use Rattle.trace_lines.proofs.TraceReads.{IsRead-more}

-- the last of a list with one more
last_of-more : {X : Type 0} (xs : List X) (x : X) → last_of (xs ++ x ∷ []) ≡ Some x
last_of-more [] x = refl
last_of-more (y ∷ []) x = refl
last_of-more (y ∷ z ∷ xs) x = last_of-more (z ∷ xs) x

-- stands at its end
at_end : {X : Type 0} (xs : List X) (x : X) → slice_get (xs ++ x ∷ []) (length xs) ≡ Some x
at_end [] x = refl
at_end (y ∷ xs) x = at_end xs x

-- the time of the last of lines with one more
time_of_last-more : (lines : List TraceLine) (line : TraceLine) → time_of_last (lines ++ line ∷ []) ≡ line.time
time_of_last-more lines line =
    let place : length (lines ++ line ∷ []) - 1 ≡ length lines = omega (arith, length-append lines (line ∷ [])) in
    ap (λ (o : Option TraceLine). option_map_or (λ (l : TraceLine). l.time) o 0) (ap (slice_get (lines ++ line ∷ [])) place ∙ at_end lines line)

-- what passes a test of lines with one more
filter-more : (p : TraceLine → Bool) (lines : List TraceLine) (line : TraceLine) → filter p (lines ++ line ∷ []) ≡ (if p line then filter p lines ++ line ∷ [] else filter p lines)
filter-more p lines line = elim (cases_Bool (p line)) [
  | inl pass ↦ filter-append p lines (line ∷ []) ∙ rw pass refl
  | inr fails ↦ filter-append p lines (line ∷ []) ∙ rw fails (append-nil (filter p lines))
]

-- how many pass
count-more : (p : TraceLine → Bool) (lines : List TraceLine) (line : TraceLine) → count_by p (lines ++ line ∷ []) ≡ (if p line then count_by p lines + 1 else count_by p lines)
count-more p lines line = elim (cases_Bool (p line)) [
  | inl pass ↦ (let sum = sum_by-append (λ (l : TraceLine). cond {A = ℕ} (p l) 1 0) lines (line ∷ []) in rw pass (sum ∙ rw pass refl))
  | inr fails ↦ (let sum = sum_by-append (λ (l : TraceLine). cond {A = ℕ} (p l) 1 0) lines (line ∷ []) in rw fails (sum ∙ rw fails (omega arith)))
]

-- the last before the slots
last-more : (slots : Slots) (lines : List TraceLine) (line : TraceLine) → last_before slots (lines ++ line ∷ []) ≡ (if is_before slots line then Some line else last_before slots lines)
last-more slots lines line = elim (cases_Bool (is_before slots line)) [
  | inl pass ↦ ap last_of (filter-more (is_before slots) lines line) ∙ rw pass (last_of-more (filter (is_before slots) lines) line)
  | inr fails ↦ ap last_of (filter-more (is_before slots) lines line) ∙ rw fails refl
]

-- nothing is kept of no lines
pub IsKept-none : (slots : Slots) → IsKept slots [] 0 None [] 0 0
IsKept-none slots = record { before_all = refl; last_all = refl; within_all = refl; end_all = refl; count_all = refl; few = omega arith }

-- one line more is kept
pub IsKept-more : (slots : Slots) (lines : List TraceLine) (line : TraceLine) (before : ℕ) (last : Option TraceLine) (within : List TraceLine) (end count : ℕ) (before' : ℕ) (last' : Option TraceLine) (within' : List TraceLine) (end' count' : ℕ) → before' ≡ (if is_before slots line then before + 1 else before) → last' ≡ (if is_before slots line then Some line else last) → within' ≡ (if is_within slots line then within ++ line ∷ [] else within) → end' ≡ line.time → count' ≡ count + 1 → (length within ≤ LINE_LIMIT → length within' ≤ LINE_LIMIT) → IsKept slots lines before last within end count → IsKept slots (lines ++ line ∷ []) before' last' within' end' count'
IsKept-more slots lines line before last within end count before' last' within' end' count' b l w e n f kept =
    record {
      before_all = b ∙ ap (λ k. if is_before slots line then k + 1 else k) kept.before_all ∙ sym (count-more (is_before slots) lines line);
      last_all = l ∙ ap (λ (o : Option TraceLine). if is_before slots line then Some line else o) kept.last_all ∙ sym (last-more slots lines line);
      within_all = w ∙ ap (λ (ls : List TraceLine). if is_within slots line then ls ++ line ∷ [] else ls) kept.within_all ∙ sym (filter-more (is_within slots) lines line);
      end_all = e ∙ sym (time_of_last-more lines line);
      count_all = n ∙ omega (arith, kept.count_all, length-append lines (line ∷ []));
      few = f kept.few;
    }

-- no more lines tell of a time before than there are
pub IsKept-part : (slots : Slots) (lines : List TraceLine) (before : ℕ) (last : Option TraceLine) (within : List TraceLine) (end count : ℕ) → IsKept slots lines before last within end count → before ≤ count
IsKept-part slots lines before last within end count kept =
    omega (arith, kept.before_all, kept.count_all, count_by-le-length (is_before slots) lines)

-- one line more than are kept is too many
pub IsLong-more : (slots : Slots) (text rest after bytes : List ℕ) (lines : List TraceLine) (line : TraceLine) (reached next : Reached) (within : List TraceLine) → IsRead text lines reached rest → cut_at 10 rest ≡ Some (bytes, after) → short_line bytes ≡ Some line → reached_after reached line ≡ Some next → within ≡ lines_within slots lines → is_within slots line ≡ true → LINE_LIMIT ≤ length within → IsLong slots text
IsLong-more slots text rest after bytes lines line reached next within read cut found step all pass many =
    let more : lines_within slots (lines ++ line ∷ []) ≡ lines_within slots lines ++ line ∷ [] = filter-more (is_within slots) lines line ∙ rw pass refl in
    record {
      front = lines ++ line ∷ [];
      rest = after;
      reached = next;
      read = IsRead-more text rest after bytes lines line reached next read cut found step;
      many = omega (arith, many, ap length all, ap length more, length-append (lines_within slots lines) (line ∷ []));
    }

-- a line that may stand tells of a slot of all
within-all : (line : TraceLine) → MayStand line → is_within ALL_SLOTS line ≡ true
within-all line (fits, short) =
    let (front, spans) = and_parts _ _ fits in
    let (time, words) = and_parts (nat_le line.time NUMBER_LIMIT) (words_fit line.words) front in
    grind (arith, nat_tests, time)

-- so all lines of a trace do
pub lines_within-all : (from to : Reached) (lines : List TraceLine) → Leads from lines to → lines_within ALL_SLOTS lines ≡ lines
lines_within-all from to [] leads = refl
lines_within-all from to (line ∷ lines) (may, (next, step, leads)) =
    rw (within-all line may) (ap (λ ls. line ∷ ls) (lines_within-all next to lines leads))
