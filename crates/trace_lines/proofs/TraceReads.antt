-- The text of a trace is read line by line.
use Rattle.std.proofs.Common.{◌≡◌, ◌≢◌, ℕ, ◌+◌, ◌≤◌, true, false, nat_lt, List, [], ◌∷◌, ◌++◌, length, Some, None, refl, sym, ap, subst, ◌∙◌, inl, inr, arith, append_assoc}
use Rattle.std.proofs.lemmas.Bool.{cases_Bool}
use Rattle.std.proofs.lemmas.Bool.Decides.{nat_tests}
use Rattle.std.proofs.lemmas.Grind.{flat_map-append}
use Rattle.key_texts.specs.KeyTexts.{cut_at}
use Rattle.key_texts.proofs.CutLemmas.{cut_at-Some, cut_at-append}
use Rattle.key_texts.proofs.PlaceLemmas.{Some_same}
use Rattle.trace_lines.specs.declared.TheConstants.{READ_LINE_LIMIT}
use Rattle.trace_lines.specs.declared.line.TraceLine.{TraceLine}
use Rattle.trace_lines.specs.declared.trace.Reached.{Reached}
use Rattle.trace_lines.specs.declared.trace.Reached.TheVariants.{Nothing, End as AtEnd}
use Rattle.trace_lines.specs.Ranges.{line_fits}
use Rattle.trace_lines.specs.Readings.{short_line}
use Rattle.trace_lines.specs.Texts.{line_text, lines_text}
use Rattle.trace_lines.specs.Traces.{Breaks, follows, IsRead, Leads, MayStand, reached_after}
use Rattle.trace_lines.proofs.LineReads.{line_of-from, line_of-to, line_text-lacks}

-- nothing is read
pub IsRead-start : (text : List ℕ) → IsRead text [] Nothing text
IsRead-start text = record { whole = refl; leads = refl }

-- a line behind those that lead to a point
Leads-more : (from mid to : Reached) (lines : List TraceLine) (line : TraceLine) → Leads from lines mid → MayStand line → reached_after mid line ≡ Some to → Leads from (lines ++ line ∷ []) to
Leads-more from mid to [] line leads may after = (may, (to, ap (λ r. reached_after r line) leads ∙ after, refl))
Leads-more from mid to (first ∷ lines) line (stands, (next, step, leads)) may after =
    (stands, (next, step, Leads-more next mid to lines line leads may after))

-- a line that is read has these bytes, and may stand in a trace
short_line-from : (bytes : List ℕ) (line : TraceLine) → short_line bytes ≡ Some line → MayStand line × (bytes ≡ line_text line)
short_line-from bytes line h =
    elim (cases_Bool (nat_lt READ_LINE_LIMIT (length bytes))) [
      | inl long ↦ absurd (let none = rw long at h in cc)
      | inr short ↦
          let (fits, is) = line_of-from bytes line (rw short at h) in
          let few : length (line_text line) ≤ READ_LINE_LIMIT = grind (arith, nat_tests, short, ap length is) in
          ((fits, few), is)
    ]

-- a line that may stand in a trace is read from its bytes
short_line-to : (line : TraceLine) → MayStand line → short_line (line_text line) ≡ Some line
short_line-to line (fits, few) =
    let short : nat_lt READ_LINE_LIMIT (length (line_text line)) ≡ false = grind (arith, nat_tests, few) in
    rw short (line_of-to line fits)

-- a line feed between two texts
plain : (front line after : List ℕ) → (front ++ ((line ++ 10 ∷ []) ++ [])) ++ after ≡ front ++ (line ++ 10 ∷ after)
plain front line after = simp append_assoc

-- one line more is read
pub IsRead-more : (text rest after bytes : List ℕ) (lines : List TraceLine) (line : TraceLine) (reached next : Reached) → IsRead text lines reached rest → cut_at 10 rest ≡ Some (bytes, after) → short_line bytes ≡ Some line → reached_after reached line ≡ Some next → IsRead text (lines ++ line ∷ []) next after
IsRead-more text rest after bytes lines line reached next read cut found step =
    let (may, is) = short_line-from bytes line found in
    let rest_is : rest ≡ line_text line ++ 10 ∷ after = cut_at-Some 10 rest (bytes, after) cut ∙ ap (λ t. t ++ 10 ∷ after) is in
    record {
      whole = read.whole ∙ ap (λ t. lines_text lines ++ t) rest_is ∙ sym (joined line after);
      leads = Leads-more Nothing reached next lines line read.leads may step;
    }
  where
    joined : (line : TraceLine) (after : List ℕ) → lines_text (lines ++ line ∷ []) ++ after ≡ lines_text lines ++ (line_text line ++ 10 ∷ after)
    joined line after =
        ap (λ t. t ++ after) (flat_map-append (λ (l : TraceLine). line_text l ++ 10 ∷ []) lines (line ∷ []))
        ∙ plain (lines_text lines) (line_text line) after

-- a text that begins with a line is cut behind it
cut-line : (line : TraceLine) (rest later : List ℕ) → line_fits line ≡ true → rest ≡ (line_text line ++ 10 ∷ []) ++ later → cut_at 10 rest ≡ Some (line_text line, later)
cut-line line rest later fits is =
    ap (cut_at 10) (is ∙ append_assoc (line_text line) (10 ∷ []) later) ∙ cut_at-append 10 (line_text line) later (line_text-lacks line fits)

-- where the bytes of the next line are none that follow, the trace breaks there
pub Breaks-from : (text rest : List ℕ) (lines : List TraceLine) (reached : Reached) → IsRead text lines reached rest → ((parts : List ℕ × List ℕ) → cut_at 10 rest ≡ Some parts → follows reached parts.0 ≡ None) → (rest ≡ [] → reached ≢ AtEnd) → Breaks text (length lines + 1)
Breaks-from text rest lines reached read none unfinished =
    record {
      front = lines;
      rest = rest;
      reached = reached;
      count = refl;
      read = read;
      nothing = no_line;
      unfinished = unfinished;
    }
  where
    no_line : (line : TraceLine) (next : Reached) (later : List ℕ) → MayStand line → reached_after reached line ≡ Some next → rest ≢ (line_text line ++ 10 ∷ []) ++ later
    no_line line next later may step is =
        let cut = cut-line line rest later may.0 is in
        let nowhere : follows reached (line_text line) ≡ None = none (line_text line, later) cut in
        let there : follows reached (line_text line) ≡ Some next = rw (short_line-to line may) step in
        absurd (cc (sym nowhere ∙ there))

-- where the rest holds no line feed and is not empty, the trace breaks
pub Breaks-unended : (text rest : List ℕ) (lines : List TraceLine) (reached : Reached) (n : ℕ) → IsRead text lines reached rest → cut_at 10 rest ≡ None → rest ≢ [] → length lines + 1 ≡ n → Breaks text n
Breaks-unended text rest lines reached n read nowhere some count =
    subst (Breaks text) count (Breaks-from text rest lines reached read (λ parts cut. absurd (cc (sym nowhere ∙ cut))) (λ empty. absurd (some empty)))

-- where the next line does not follow, it breaks
pub Breaks-line : (text rest bytes after : List ℕ) (lines : List TraceLine) (reached : Reached) (n : ℕ) → IsRead text lines reached rest → cut_at 10 rest ≡ Some (bytes, after) → follows reached bytes ≡ None → n ≡ length lines + 1 → Breaks text n
Breaks-line text rest bytes after lines reached n read cut none count =
    subst (Breaks text) (sym count) (Breaks-from text rest lines reached read
    (λ parts other. ap (λ (p : List ℕ × List ℕ). follows reached p.0) (Some_same (sym other ∙ cut)) ∙ none)
    (λ empty. absurd (none_cut empty)))
  where
    none_cut : rest ≡ [] → ⊥
    none_cut empty = cc (sym (ap (cut_at 10) empty) ∙ cut)

-- where nothing is left before the end, it breaks
pub Breaks-short : (text : List ℕ) (lines : List TraceLine) (reached : Reached) (n : ℕ) → IsRead text lines reached [] → reached ≢ AtEnd → length lines + 1 ≡ n → Breaks text n
Breaks-short text lines reached n read open_end count =
    subst (Breaks text) count (Breaks-from text [] lines reached read (λ parts cut. absurd (cc cut)) (λ empty. open_end))
