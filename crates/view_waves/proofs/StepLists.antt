-- What changes over lines, and over others after them.
use Rattle.std.proofs.Common.{◌≡◌, ℕ, zero, suc, ◌+◌, ◌<◌, List, [], ◌∷◌, ◌++◌, append_assoc, append-nil, length, take, drop, get_or, Option, add-one, refl, sym, ap, subst, ◌∙◌, arith}
use Rattle.std.specs.Prelude.{flat_map}
use Rattle.std.specs.Io.KnownBytes.{Appends}
use Rattle.std.proofs.KnownBytes.{Appends-trans}
use Rattle.std.proofs.lemmas.Grind.{flat_map-append}
use Rattle.slot_io.specs.Sinks.{AppendsPart}
use Rattle.slot_io.proofs.SinkParts.{AppendsPart-more}
use Rattle.trace_lines.specs.declared.line.TraceLine.{TraceLine}
use Rattle.run_blocks.specs.declared.rows.Row.{Row}
use Rattle.view_waves.specs.declared.steps.Wave.{Wave}
use Rattle.view_waves.specs.Steps.{step_if_any, step_of, steps_from, wave_after, wave_along}
use Rattle.view_waves.specs.WaveTexts.{step_text, steps_text}

-- the text of what changes at a line
abbrev pub line_change : List Row → Wave → TraceLine → List ℕ
line_change rows wave line = flat_map step_text (step_if_any (step_of rows wave line))

pub wave_along-next : (rows : List Row) (wave : Wave) (lines : List TraceLine) (i : ℕ) (d : TraceLine) → i < length lines → wave_along rows wave (take (suc i) lines) ≡ wave_after rows (wave_along rows wave (take i lines)) (get_or lines i d)
wave_along-next rows wave [] i d low = absurd (omega arith)
wave_along-next rows wave (line ∷ lines) zero d low = refl
wave_along-next rows wave (line ∷ lines) (suc i) d low =
    wave_along-next rows (wave_after rows wave line) lines i d (omega arith)

head-text : (rows : List Row) (wave : Wave) (line : TraceLine) (lines : List TraceLine) → steps_text rows wave (line ∷ lines) ≡ line_change rows wave line ++ steps_text rows (wave_after rows wave line) lines
head-text rows wave line lines =
    flat_map-append step_text (step_if_any (step_of rows wave line)) (steps_from rows (wave_after rows wave line) lines)

-- the changes of a line after those of the lines before it
pub steps_text-next : (rows : List Row) (wave : Wave) (lines : List TraceLine) (i : ℕ) (d : TraceLine) → i < length lines → steps_text rows wave (take i lines) ++ line_change rows (wave_along rows wave (take i lines)) (get_or lines i d) ≡ steps_text rows wave (take (suc i) lines)
steps_text-next rows wave [] i d low = absurd (omega arith)
steps_text-next rows wave (line ∷ lines) zero d low =
    sym (append-nil (line_change rows wave line)) ∙ sym (head-text rows wave line [])
steps_text-next rows wave (line ∷ lines) (suc i) d low =
    ap (λ t. t ++ line_change rows (wave_along rows (wave_after rows wave line) (take i lines)) (get_or lines i d)) (head-text rows wave line (take i lines))
    ∙ append_assoc (line_change rows wave line) (steps_text rows (wave_after rows wave line) (take i lines)) (line_change rows (wave_along rows (wave_after rows wave line) (take i lines)) (get_or lines i d))
    ∙ ap (λ t. line_change rows wave line ++ t) (steps_text-next rows (wave_after rows wave line) lines i d (omega arith))
    ∙ sym (head-text rows wave line (take (suc i) lines))

-- and before those of the lines after it
pub steps_text-split : (rows : List Row) (wave : Wave) (lines : List TraceLine) (i : ℕ) (d : TraceLine) → i < length lines → steps_text rows wave lines ≡ steps_text rows wave (take i lines) ++ (line_change rows (wave_along rows wave (take i lines)) (get_or lines i d) ++ steps_text rows (wave_after rows (wave_along rows wave (take i lines)) (get_or lines i d)) (drop (suc i) lines))
steps_text-split rows wave [] i d low = absurd (omega arith)
steps_text-split rows wave (line ∷ lines) zero d low = head-text rows wave line lines
steps_text-split rows wave (line ∷ lines) (suc i) d low =
    let on = wave_after rows wave line in
    let own = line_change rows (wave_along rows on (take i lines)) (get_or lines i d) in
    let others = steps_text rows (wave_after rows (wave_along rows on (take i lines)) (get_or lines i d)) (drop (suc i) lines) in
    head-text rows wave line lines
    ∙ ap (λ t. line_change rows wave line ++ t) (steps_text-split rows on lines i d (omega arith))
    ∙ sym (append_assoc (line_change rows wave line) (steps_text rows on (take i lines)) (own ++ others))
    ∙ ap (λ t. t ++ (own ++ others)) (sym (head-text rows wave line (take i lines)))

-- what changes over the lines so far is written, and what changes at one more
pub line-written : (a b c : Option (List ℕ)) (rows : List Row) (wave now : Wave) (lines : List TraceLine) (i : ℕ) (d : TraceLine) (text : List ℕ) → i < length lines → now ≡ wave_along rows wave (take i lines) → text ≡ line_change rows now (get_or lines i d) → Appends a b (steps_text rows wave (take i lines)) → Appends b c text → Appends a c (steps_text rows wave (take (i + 1) lines))
line-written a b c rows wave now lines i d text low at own before more =
    let whole = own ∙ ap (λ w. line_change rows w (get_or lines i d)) at in
    subst (Appends a c) (steps_text-next rows wave lines i d low ∙ ap (λ n. steps_text rows wave (take n lines)) (sym (add-one i)))
    (Appends-trans a b c (steps_text rows wave (take i lines)) (line_change rows (wave_along rows wave (take i lines)) (get_or lines i d)) before (subst (Appends b c) whole more))

-- and a part of that
pub line-broken : (a b c : Option (List ℕ)) (rows : List Row) (wave now : Wave) (lines : List TraceLine) (i : ℕ) (d : TraceLine) (text : List ℕ) → i < length lines → now ≡ wave_along rows wave (take i lines) → text ≡ line_change rows now (get_or lines i d) → Appends a b (steps_text rows wave (take i lines)) → AppendsPart b c text → AppendsPart a c (steps_text rows wave lines)
line-broken a b c rows wave now lines i d text low at own before part =
    let whole = own ∙ ap (λ w. line_change rows w (get_or lines i d)) at in
    let then_ = wave_along rows wave (take i lines) in
    AppendsPart-more a b c (steps_text rows wave (take i lines)) (line_change rows then_ (get_or lines i d)) (steps_text rows (wave_after rows then_ (get_or lines i d)) (drop (suc i) lines)) (steps_text rows wave lines) (steps_text-split rows wave lines i d low) before (subst (AppendsPart b c) whole part)

-- the values after one more line
pub wave-next : (rows : List Row) (wave now next : Wave) (lines : List TraceLine) (i : ℕ) (d : TraceLine) → i < length lines → now ≡ wave_along rows wave (take i lines) → next ≡ wave_after rows now (get_or lines i d) → next ≡ wave_along rows wave (take (i + 1) lines)
wave-next rows wave now next lines i d low at is =
    is
    ∙ ap (λ w. wave_after rows w (get_or lines i d)) at
    ∙ sym (wave_along-next rows wave lines i d low)
    ∙ ap (λ n. wave_along rows wave (take n lines)) (sym (add-one i))
