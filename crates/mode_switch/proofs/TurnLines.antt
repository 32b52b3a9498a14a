-- The lines of the turns after a change, one more at a time.
use Rattle.std.proofs.Common.{◌≡◌, ℕ, zero, suc, ◌+◌, ◌-◌, ◌<◌, List, [], ◌∷◌, Option, ◌++◌, append-nil, append_assoc, refl, sym, ap, subst, ◌∙◌, arith}
use Rattle.std.specs.Prelude.{flat_map, OnErr, Result, Ok, Err}
use Rattle.std.specs.List.{range_with_len}
use Rattle.std.proofs.lemmas.Grind.{flat_map-append}
use Rattle.std.specs.Io.KnownBytes.{Appends}
use Rattle.std.proofs.KnownBytes.{Appends-nil, Appends-trans}
use Rattle.slot_io.specs.Sinks.{AppendsPart}
use Rattle.slot_io.proofs.LineTexts.{part-first, part-second, part-third}
use Rattle.slot_io.proofs.SinkParts.{AppendsPart-more}
use Rattle.slot_core.specs.declared.jobs.Job.{Job}
use Rattle.slot_core.specs.declared.tasks.TaskSet.{TaskSet}
use Rattle.mode_switch.specs.declared.turns.Turn.{Turn}
use Rattle.mode_switch.specs.Parts.{ChangeParts}
use Rattle.mode_switch.specs.Runs.{turn_at}
use Rattle.mode_switch.specs.Texts.{change_text, end_line, granted_line, turn_line, turn_lines}

-- a range in two parts
range_in_two : (a m n k whole : ℕ) → a + m ≡ k → m + n ≡ whole → range_with_len a whole ≡ range_with_len a m ++ range_with_len k n
range_in_two a zero n k whole e f =
    let start : a ≡ k = omega arith in
    let count : n ≡ whole = omega arith in
    rw (← start, ← count) refl
range_in_two a (suc m) n k zero e f = absurd (omega arith)
range_in_two a (suc m) n k (suc whole) e f =
    ap (λ xs. a ∷ xs) (range_in_two (a + 1) m n k whole (omega arith) (omega arith))

-- the line of slot n after the change
abbrev pub line_at : TaskSet → TaskSet → ℕ → List Job → ℕ → List ℕ
line_at first second c carried n = turn_line first second (c + n) (turn_at second c carried n)

-- one line more
pub turn_lines-more : (first second : TaskSet) (c n : ℕ) (carried : List Job) → turn_lines first second c carried n ++ line_at first second c carried n ≡ turn_lines first second c carried (n + 1)
turn_lines-more first second c n carried =
    let line = line_at first second c carried in
    sym (ap (flat_map line) (range_in_two 0 n 1 n (n + 1) (omega arith) refl) ∙ flat_map-append line (range_with_len 0 n) (n ∷ []) ∙ ap (λ xs. flat_map line (range_with_len 0 n) ++ xs) (append-nil (line n)))

-- the lines before a slot, its own, and those that are left
pub turn_lines-split : (first second : TaskSet) (c n k : ℕ) (carried : List Job) → k < n → turn_lines first second c carried n ≡ turn_lines first second c carried k ++ (line_at first second c carried k ++ flat_map (line_at first second c carried) (range_with_len (k + 1) (n - (k + 1))))
turn_lines-split first second c n k carried low =
    let line = line_at first second c carried in
    ap (flat_map line) (range_in_two 0 k (suc (n - (k + 1))) k n (omega arith) (omega arith)) ∙ flat_map-append line (range_with_len 0 k) (range_with_len k (suc (n - (k + 1))))

-- what is told of the next slot is its line
pub line_at-told : (first second : TaskSet) (time n : ℕ) (turn : Turn) (bytes line : List ℕ) (initial before after : ChangeParts) → before ≡ record initial { passed = n } → after ≡ record before { passed = before.passed + 1 } → second ≡ after.plan.tasks → turn ≡ turn_at before.plan.tasks before.at before.carried before.passed → time ≡ initial.at + n → bytes ≡ line → line ≡ turn_line first second time turn → bytes ≡ line_at first initial.plan.tasks initial.at initial.carried n
line_at-told first second time n turn bytes line initial before after so_far passes named is now same told =
    let names : second ≡ initial.plan.tasks = named ∙ ap (λ (change : ChangeParts). change.plan.tasks) passes ∙ ap (λ (change : ChangeParts). change.plan.tasks) so_far in
    let turns : turn ≡ turn_at initial.plan.tasks initial.at initial.carried n = is ∙ ap (λ (change : ChangeParts). turn_at change.plan.tasks change.at change.carried change.passed) so_far in
    same ∙ told ∙ ap (λ set. turn_line first set time turn) names ∙ ap (λ t. turn_line first initial.plan.tasks t turn) now ∙ ap (turn_line first initial.plan.tasks (initial.at + n)) turns

-- where it is written after those before it, so are the lines up to it
pub lines-more : (before now after : Option (List ℕ)) (first : TaskSet) (n : ℕ) (change : ChangeParts) (bytes : List ℕ) → Appends before now (turn_lines first change.plan.tasks change.at change.carried n) → bytes ≡ line_at first change.plan.tasks change.at change.carried n → Appends now after bytes → Appends before after (turn_lines first change.plan.tasks change.at change.carried (n + 1))
lines-more before now after first n change bytes so_far told put =
    let second = change.plan.tasks in
    subst (Appends before after) (turn_lines-more first second change.at n change.carried) (Appends-trans before now after (turn_lines first second change.at change.carried n) (line_at first second change.at change.carried n) so_far (subst (Appends now after) told put))

-- and where a part of it is, a part of all lines
pub lines-part : (before now after : Option (List ℕ)) (first : TaskSet) (n k : ℕ) (change : ChangeParts) (bytes : List ℕ) → k < n → Appends before now (turn_lines first change.plan.tasks change.at change.carried k) → bytes ≡ line_at first change.plan.tasks change.at change.carried k → AppendsPart now after bytes → AppendsPart before after (turn_lines first change.plan.tasks change.at change.carried n)
lines-part before now after first n k change bytes low so_far told put =
    let second = change.plan.tasks in
    let line = line_at first second change.at change.carried in
    AppendsPart-more before now after (turn_lines first second change.at change.carried k) (line k) (flat_map line (range_with_len (k + 1) (n - (k + 1)))) (turn_lines first second change.at change.carried n) (turn_lines-split first second change.at n k change.carried low) so_far (subst (AppendsPart now after) told put)

-- and one slot more has passed
pub passed-once : (initial before after : ChangeParts) (n : ℕ) → before ≡ record initial { passed = n } → after ≡ record before { passed = before.passed + 1 } → after ≡ record initial { passed = n + 1 }
passed-once initial before after n so_far passes =
    passes ∙ ap (λ (change : ChangeParts). record change { passed = change.passed + 1 }) so_far

-- a part of the first line is a part of the text of a change
pub text-granted : (a b : Option (List ℕ)) (first : TaskSet) (change : ChangeParts) (at n : ℕ) → at ≡ change.at → AppendsPart a b (granted_line at) → AppendsPart a b (change_text first change.plan.tasks change.at change.carried n)
text-granted a b first change at n same part =
    let lines = turn_lines first change.plan.tasks change.at change.carried (n - change.at) in
    part-first a b (granted_line change.at) lines (end_line n) (subst (λ t. AppendsPart a b (granted_line t)) same part)

-- so are that line and a part of the turns
pub text-turns : (a b d : Option (List ℕ)) (first : TaskSet) (change : ChangeParts) (at n : ℕ) → at ≡ change.at → Appends a b (granted_line at) → AppendsPart b d (turn_lines first change.plan.tasks change.at change.carried (n - at)) → AppendsPart a d (change_text first change.plan.tasks change.at change.carried n)
text-turns a b d first change at n same whole part =
    let lines = λ (m : ℕ). turn_lines first change.plan.tasks change.at change.carried m in
    part-second a b d (granted_line change.at) (lines (n - change.at)) (end_line n) (subst (λ t. Appends a b (granted_line t)) same whole) (subst (λ t. AppendsPart b d (lines (n - t))) same part)

-- and all but the end, and a part of that
pub text-end : (a b d e : Option (List ℕ)) (first : TaskSet) (change : ChangeParts) (at n : ℕ) → at ≡ change.at → Appends a b (granted_line at) → Appends b d (turn_lines first change.plan.tasks change.at change.carried (n - at)) → AppendsPart d e (end_line n) → AppendsPart a e (change_text first change.plan.tasks change.at change.carried n)
text-end a b d e first change at n same whole next part =
    let lines = λ (m : ℕ). turn_lines first change.plan.tasks change.at change.carried m in
    part-third a b d e (granted_line change.at) (lines (n - change.at)) (end_line n) (subst (λ t. Appends a b (granted_line t)) same whole) (subst (λ t. Appends b d (lines (n - t))) same next) part
