-- The last line is all that is left.
use Rattle.std.proofs.Common.{◌≡◌, ◌+◌, [], Ok, Err, List, ℕ, sym, ap, ◌∙◌, subst, append-nil, rules, drop}
use Rattle.std.proofs.lemmas.List.{drop_all, drop_more}
use Rattle.timed_arrivals.specs.Texts.{timed_text, due_of, lines_after}
use Rattle.timed_arrivals.proofs.text.timed_text.Goals as goal

pub returns-in_err-take : goal.returns-in_err-take
returns-in_err-take c =
    let so_far = c.loop-byte.so_far in
    let i = c.loop-byte.byte-index in
    let bytes = c.args.bytes.now in
    let more = drop_more bytes i 0 c.loop-byte-test.true in
    let same : c.from_residual.result ≡ Err c.in_err-take.field-0.0 = search rules in
    let due = subst (λ (left : List ℕ). due_of so_far (lines_after so_far.line.items left) ≡ timed_text c.args.form c.args.set.now bytes) more c.loop-byte.invariant.due in
    rw same (λ other. sym due ∙ c.in_err-take.ensures.takes (drop (i + 1) bytes) other)

pub returns-in_err-end_line : goal.returns-in_err-end_line
returns-in_err-end_line c =
    let so_far = c.loop-byte.so_far in
    let none = drop_all c.loop-byte.byte-index c.args.bytes.now c.loop-byte-test.false in
    let same : c.from_residual-in_err-end_line.result ≡ Err c.in_err-end_line.field-0.0 = search rules in
    let due = subst (λ (left : List ℕ). due_of so_far (lines_after so_far.line.items left) ≡ timed_text c.args.form c.args.set.now c.args.bytes.now) none c.loop-byte.invariant.due in
    rw same (λ other. sym due ∙ c.in_err-end_line.ensures.takes [] other)

pub returns : goal.returns
returns c =
    let so_far = c.loop-byte.so_far in
    let none = drop_all c.loop-byte.byte-index c.args.bytes.now c.loop-byte-test.false in
    let due = subst (λ (left : List ℕ). due_of so_far (lines_after so_far.line.items left) ≡ timed_text c.args.form c.args.set.now c.args.bytes.now) none c.loop-byte.invariant.due in
    sym due ∙ sym (c.in_ok-end_line.ensures.takes []) ∙ ap Ok (append-nil c.end_line.new.self.text.items)
