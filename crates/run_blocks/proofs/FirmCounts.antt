-- The firm jobs of the lines so far.
use Rattle.std.proofs.Common.{◌≡◌, ◌==◌, ℕ, ◌+◌, ◌≤◌, ◌<◌, true, false, List, [], ◌∷◌, ◌++◌, append-nil, length, length-append, take, drop, get_or, refl, sym, ap, ◌∙◌, inl, inr, arith}
use Rattle.std.specs.List.{list_any}
use Rattle.std.proofs.lemmas.Bool.{cases_Bool}
use Rattle.std.proofs.lemmas.Bool.Decides.{nat_tests}
use Rattle.std.proofs.lemmas.Grind.{flat_map-append}
use Rattle.std.proofs.lemmas.List.{take-append-drop, take_all, take_more}
use Rattle.trace_lines.specs.declared.line.KeyName.{KeyName}
use Rattle.trace_lines.specs.declared.line.KeyName.TheVariants.{Offline, Sporadic as SporadicKey, Firm as FirmKey, Soft as SoftKey}
use Rattle.trace_lines.specs.declared.line.TraceLine.{TraceLine}
use Rattle.trace_lines.specs.Traces.{run_at, runs_of}
use Rattle.run_blocks.specs.declared.TheConstants.{FIRM_ROW_LIMIT}
use Rattle.run_blocks.specs.Rows.{firms_from, have_few_firms, with_firm, with_key}

-- those of some runs and then of others
pub firms_from-append : (firms : List ℕ) (xs ys : List (ℕ × KeyName)) → firms_from firms (xs ++ ys) ≡ firms_from (firms_from firms xs) ys
firms_from-append firms [] ys = refl
firms_from-append firms (x ∷ xs) ys = firms_from-append (with_key firms x.1) xs ys

-- a row that is not among them
pub with_firm-new : (firms : List ℕ) (row : ℕ) → list_any (λ firm. firm == row) firms ≡ false → with_firm firms row ≡ firms ++ row ∷ []
with_firm-new firms row new = rw new refl

-- none is lost
firm-grows : (firms : List ℕ) (row : ℕ) → length firms ≤ length (with_firm firms row)
firm-grows firms row =
    elim (cases_Bool (list_any (λ firm. firm == row) firms)) [
      | inl there ↦ rw there (omega arith)
      | inr new ↦ rw new (let more = length-append firms (row ∷ []) in omega (arith, more))
    ]

key-grows : (firms : List ℕ) (key : KeyName) → length firms ≤ length (with_key firms key)
key-grows firms (Offline graph task instance) = omega arith
key-grows firms (SporadicKey name row) = omega arith
key-grows firms (FirmKey row) = firm-grows firms row
key-grows firms (SoftKey row) = omega arith

firms-grow : (firms : List ℕ) (runs : List (ℕ × KeyName)) → length firms ≤ length (firms_from firms runs)
firms-grow firms [] = omega arith
firms-grow firms (run ∷ runs) =
    omega (arith, key-grows firms run.1, firms-grow (with_key firms run.1) runs)

-- the runs of one line more
pub runs-more : (lines : List TraceLine) (i : ℕ) (line : TraceLine) → i < length lines → line ≡ get_or lines i line → runs_of (take (i + 1) lines) ≡ runs_of (take i lines) ++ run_at line.time line.words
runs-more lines i line low is =
    ap runs_of (take_more lines i line low ∙ ap (λ l. take i lines ++ l ∷ []) (sym is))
    ∙ flat_map-append (λ (l : TraceLine). run_at l.time l.words) (take i lines) (line ∷ [])
    ∙ ap (λ rs. runs_of (take i lines) ++ rs) (append-nil (run_at line.time line.words))

-- the firm jobs of one line more
pub firms-more : (lines : List TraceLine) (i : ℕ) (line : TraceLine) (before after : List ℕ) → i < length lines → line ≡ get_or lines i line → before ≡ firms_from [] (runs_of (take i lines)) → after ≡ firms_from before (run_at line.time line.words) → after ≡ firms_from [] (runs_of (take (i + 1) lines))
firms-more lines i line before after low is seen own =
    own
    ∙ ap (λ fs. firms_from fs (run_at line.time line.words)) seen
    ∙ sym (firms_from-append [] (runs_of (take i lines)) (run_at line.time line.words))
    ∙ ap (firms_from []) (sym (runs-more lines i line low is))

-- too many in a front are too many in all
pub many-firms : (lines : List TraceLine) (n : ℕ) (firms : List ℕ) → firms ≡ firms_from [] (runs_of (take n lines)) → FIRM_ROW_LIMIT < length firms → have_few_firms (runs_of lines) ≡ false
many-firms lines n firms seen many =
    let front = runs_of (take n lines) in
    let rest = runs_of (drop n lines) in
    let whole : runs_of lines ≡ front ++ rest = ap runs_of (sym (take-append-drop n lines)) ∙ flat_map-append (λ (l : TraceLine). run_at l.time l.words) (take n lines) (drop n lines) in
    let split : firms_from [] (runs_of lines) ≡ firms_from firms rest = ap (firms_from []) whole ∙ firms_from-append [] front rest ∙ ap (λ fs. firms_from fs rest) (sym seen) in
    let size : length (firms_from [] (runs_of lines)) ≡ length (firms_from firms rest) = ap (λ (fs : List ℕ). length fs) split in
    let grown = firms-grow firms rest in
    let more : FIRM_ROW_LIMIT < length (firms_from [] (runs_of lines)) = omega (arith, many, grown, size) in
    grind (arith, nat_tests, more)

-- few in all lines
pub few-firms : (lines : List TraceLine) (n : ℕ) (firms : List ℕ) → length lines ≤ n → firms ≡ firms_from [] (runs_of (take n lines)) → length firms ≤ FIRM_ROW_LIMIT → have_few_firms (runs_of lines) ≡ true
few-firms lines n firms all seen few =
    let same : firms ≡ firms_from [] (runs_of lines) = seen ∙ ap (λ ls. firms_from [] (runs_of ls)) (take_all n lines all) in
    let size : length firms ≡ length (firms_from [] (runs_of lines)) = ap (λ (fs : List ℕ). length fs) same in
    let low : length (firms_from [] (runs_of lines)) ≤ FIRM_ROW_LIMIT = omega (arith, few, size) in
    grind (arith, nat_tests, low)
