-- The lines of a trace up to one of them, and those after it.
use Rattle.std.proofs.Common.{◌≡◌, ℕ, zero, suc, ◌+◌, true, List, [], ◌∷◌, ◌++◌, Some, refl, sym, ap, subst, ◌∙◌, arith}
use Rattle.std.specs.Prelude.{slice_get}
use Rattle.std.proofs.lemmas.Bool.{and_parts}
use Rattle.std.proofs.lemmas.List.Folds.{list_all-append}
use Rattle.trace_lines.specs.declared.line.KeyName.{KeyName}
use Rattle.trace_lines.specs.declared.line.Words.{Words}
use Rattle.trace_lines.specs.declared.line.Words.TheVariants.{Start, Soft, Firm, Sporadic, Done, Withdraw, Run, Idle, End}
use Rattle.trace_lines.specs.declared.line.TraceLine.{TraceLine}
use Rattle.trace_lines.specs.declared.trace.Reached.{Reached}
use Rattle.trace_lines.specs.declared.trace.Reached.TheVariants.{Nothing, Slot as AtSlot, End as AtEnd}
use Rattle.trace_lines.specs.Traces.{AreTrace, Leads, reached_after, run_at, runs_of}
use Rattle.run_blocks.specs.declared.rows.Row.{Row}
use Rattle.run_blocks.specs.Rows.{has_row, have_rows}
use Rattle.view_waves.specs.Laws.{IsLineOf}
use Rattle.view_waves.specs.Steps.{next_on, wire_on}
use Rattle.view_waves.proofs.LineKinds.{Ends, kind-of, start-of, Tells, Waits}

-- lines that lead from one point to another, cut behind this line
pub record Split (from : Reached) (lines : List TraceLine) (line : TraceLine) (to : Reached) : Type 0 where
  pub earlier : List TraceLine
  pub rest : List TraceLine
  pub before : Reached
  pub after : Reached
  pub whole : lines ≡ (earlier ++ line ∷ []) ++ rest
  pub start : Leads from earlier before
  pub passes : reached_after before line ≡ Some after
  pub front : Leads from (earlier ++ line ∷ []) after
  pub on : Leads after rest to

pub split-at : (from : Reached) (lines : List TraceLine) (place : ℕ) (line : TraceLine) (to : Reached) → Leads from lines to → slice_get lines place ≡ Some line → Split from lines line to
split-at from [] place line to leads at = absurd (cc at)
split-at from (first ∷ lines) zero line to (may, (next, is, leads)) at =
    let same : first ≡ line = cc at in
    subst
    (λ l. Split from (first ∷ lines) l to)
    same
    (record {
      earlier = [];
      rest = lines;
      before = from;
      after = next;
      whole = refl;
      start = refl;
      passes = is;
      front = (may, (next, is, refl));
      on = leads;
    })
split-at from (first ∷ lines) (suc place) line to (may, (next, is, leads)) at =
    let later = split-at next lines place line to leads at in
    record {
      earlier = first ∷ later.earlier;
      rest = later.rest;
      before = later.before;
      after = later.after;
      whole = ap (λ ls. first ∷ ls) later.whole;
      start = (may, (next, is, later.start));
      passes = later.passes;
      front = (may, (next, is, later.front));
      on = later.on;
    }

-- where the words tell a slot, that wire is on next
pub told-next : (rows : List Row) (words : Words) (wire on : ℕ) → wire_on rows words ≡ Some wire → next_on rows on words ≡ Some wire
told-next rows Start wire on told = absurd (cc told)
told-next rows (Soft row slots a) wire on told = absurd (cc told)
told-next rows (Firm row slots within a) wire on told = absurd (cc told)
told-next rows (Sporadic row name a) wire on told = absurd (cc told)
told-next rows (Done row key a) wire on told = absurd (cc told)
told-next rows (Withdraw row firm a) wire on told = absurd (cc told)
told-next rows (Run key) wire on told = told
told-next rows Idle wire on told = told
told-next rows End wire on told = absurd (cc told)

-- then the line leads from its slot to the next
told-at : (rows : List Row) (line : TraceLine) (wire : ℕ) (before after : Reached) → wire_on rows line.words ≡ Some wire → reached_after before line ≡ Some after → after ≡ AtSlot (line.time + 1)
told-at rows line wire Nothing after told passes =
    absurd (let none = (start-of rows line after passes).0 0 in let some = told-next rows line.words wire 0 told in cc)
told-at rows line wire (AtSlot slot) after told passes =
    let (now, kind) = kind-of rows slot line after passes in
    let next = λ (on : ℕ). told-next rows line.words wire on told in
    elim kind [
      | Tells other on at ↦ at ∙ ap (λ n. AtSlot (n + 1)) (sym now)
      | Ends on at ↦ absurd (not_both wire (sym (on (wire + 1)) ∙ next (wire + 1)))
      | Waits on at ↦ absurd (let none = on 0 in let some = next 0 in cc)
    ]
  where
    not_both : (n : ℕ) → Some (n + 1) ≡ Some n → ⊥
    not_both n same = (let equal : n + 1 ≡ n = cc same in omega arith)
told-at rows line wire AtEnd after told passes = absurd (cc passes)

-- a trace, cut behind the line of a slot
pub record SlotSplit (lines : List TraceLine) (line : TraceLine) : Type 0 where
  pub earlier : List TraceLine
  pub rest : List TraceLine
  pub whole : lines ≡ (earlier ++ line ∷ []) ++ rest
  pub front : Leads Nothing (earlier ++ line ∷ []) (AtSlot (line.time + 1))
  pub on : Leads (AtSlot (line.time + 1)) rest AtEnd

pub slot-split : (rows : List Row) (lines : List TraceLine) (line : TraceLine) (wire : ℕ) → IsLineOf lines line → wire_on rows line.words ≡ Some wire → SlotSplit lines line
slot-split rows lines line wire is told =
    let split = split-at Nothing lines is.place line AtEnd is.trace is.there in
    let next = told-at rows line wire split.before split.after told split.passes in
    record {
      earlier = split.earlier;
      rest = split.rest;
      whole = split.whole;
      front = subst (Leads Nothing (split.earlier ++ line ∷ [])) next split.front;
      on = subst (λ r. Leads r split.rest AtEnd) next split.on;
    }

-- the job that a line runs has a row
pub has_row-of : (rows : List Row) (lines : List TraceLine) (place : ℕ) (line : TraceLine) (key : KeyName) → have_rows rows (runs_of lines) ≡ true → slice_get lines place ≡ Some line → line.words ≡ Run key → has_row rows key ≡ true
has_row-of rows [] place line key held at is = absurd (cc at)
has_row-of rows (first ∷ lines) place line key held at is =
    let has = λ (run : ℕ × KeyName). has_row rows run.1 in
    let (here, later) = and_parts (have_rows rows (run_at first.time first.words)) (have_rows rows (runs_of lines)) (sym (list_all-append has (run_at first.time first.words) (runs_of lines)) ∙ held) in
    by_place place here (λ n there. has_row-of rows lines n line key later there is) at
  where
    by_place : (n : ℕ) → have_rows rows (run_at first.time first.words) ≡ true → ((m : ℕ) → slice_get lines m ≡ Some line → has_row rows key ≡ true) → slice_get (first ∷ lines) n ≡ Some line → has_row rows key ≡ true
    by_place zero here later at =
        let same : first ≡ line = cc at in
        let runs : run_at first.time first.words ≡ (first.time, key) ∷ [] = ap (run_at first.time) (ap (λ (l : TraceLine). l.words) same ∙ is) in
        (and_parts (has_row rows key) true (ap (have_rows rows) (sym runs) ∙ here)).0
    by_place (suc n) here later at = later n at

-- lines that lead from one point to another do so over each point between
leads-apart : (from : Reached) (front rest : List TraceLine) (to : Reached) → Leads from (front ++ rest) to → (between : Reached) × Leads from front between × Leads between rest to
leads-apart from [] rest to leads = (from, refl, leads)
leads-apart from (line ∷ front) rest to (may, (next, is, leads)) =
    let (between, before, after) = leads-apart next front rest to leads in
    (between, (may, (next, is, before)), after)

-- the last line of a trace tells its end
ends-at : (rows : List Row) (line : TraceLine) (before : Reached) → reached_after before line ≡ Some AtEnd → (before ≡ AtSlot line.time) × ((on : ℕ) → next_on rows on line.words ≡ Some on)
ends-at rows line Nothing passes = absurd (let at = (start-of rows line AtEnd passes).1 in cc at)
ends-at rows line (AtSlot slot) passes =
    let (now, kind) = kind-of rows slot line AtEnd passes in
    elim kind [
      | Tells wire on at ↦ absurd (cc at)
      | Ends on at ↦ (ap AtSlot (sym now), on)
      | Waits on at ↦ absurd (cc at)
    ]
ends-at rows line AtEnd passes = absurd (cc passes)

-- the lines of a trace before its last
pub record EndSplit (rows : List Row) (lines : List TraceLine) (last : TraceLine) : Type 0 where
  pub front : Leads Nothing lines (AtSlot last.time)
  pub ends : (on : ℕ) → next_on rows on last.words ≡ Some on

pub end-split : (rows : List Row) (lines : List TraceLine) (last : TraceLine) → AreTrace (lines ++ last ∷ []) → EndSplit rows lines last
end-split rows lines last trace =
    let (between, before, (may, (next, is, end))) = leads-apart Nothing lines (last ∷ []) AtEnd trace in
    let (at, ends) = ends-at rows last between (is ∙ ap Some end) in
    record { front = subst (Leads Nothing lines) at before; ends = ends }
