-- A row that is not among them is appended.
use Rattle.std.proofs.Common.{rules, ◌≡◌, ◌==◌, ℕ, false, sym, ◌∙◌}
use Rattle.std.specs.List.{list_any}
use Rattle.run_blocks.proofs.FirmCounts.{with_firm-new}
use Rattle.run_blocks.proofs.rows.push_once.Goals as goal

pub returns : goal.returns
returns c =
    let new : list_any (λ (firm : ℕ). firm == c.args.row) c.args.firms.now.items ≡ false = search rules in
    c.in_ok-push.ensures.items ∙ sym (with_firm-new c.args.firms.now.items c.args.row new)
