use Rattle.std.proofs.Common.{◌≡◌, ◌+◌, ◌<◌, ◌≤◌, length, List, Some, ℕ, ap, codes, sym, arith, ◌∙◌}
use Rattle.std.specs.Prelude.{IfSome}
use Rattle.std.specs.Vec.{vec_len}
use Rattle.std.proofs.lemmas.Bool.Decides.{nat_tests}
use Rattle.view_run.specs.Inputs.{BeginsWith}
use Rattle.view_run.specs.declared.TheConstants.{INPUT_LIMIT}
use Rattle.view_run.proofs.Causes.{if_some}
use Rattle.view_run.proofs.work.read_input.Goals as goal

pub returns-then-is_within_limit-clause-bytes : goal.returns-then-is_within_limit-clause-bytes
returns-then-is_within_limit-clause-bytes g c =
    let short : length c.in-Ok.bytes.items ≤ INPUT_LIMIT = grind (arith, nat_tests, sym c.is_within_limit.ensures ∙ c.if-is_within_limit.true) in
    if_some (g.I.Files.held c.args.input.now) (λ files first. (first, short)) c.in-Ok.ensures.first

pub returns-else-is_within_limit-clause-refused : goal.returns-else-is_within_limit-clause-refused
returns-else-is_within_limit-clause-refused g c =
    let long : INPUT_LIMIT < length c.in-Ok.bytes.items = grind (arith, nat_tests, sym c.is_within_limit.ensures ∙ c.if-is_within_limit.false) in
    let count : vec_len c.in-Ok.bytes ≡ length c.in-Ok.bytes.items = omega arith in
    let many : vec_len c.in-Ok.bytes ≡ INPUT_LIMIT + 1 = omega (arith, long, count, c.in-Ok.ensures.short) in
    let large : IfSome (g.I.Files.held c.args.input.now) (λ files. (text : List ℕ) × BeginsWith files text × (INPUT_LIMIT < length text)) = if_some (g.I.Files.held c.args.input.now) (λ files first. (c.in-Ok.bytes.items, first, long)) c.in-Ok.ensures.first in
    (c.in-Ok.ensures.gives ∙ ap (λ n. Some (codes "standard input", n)) many, large)
