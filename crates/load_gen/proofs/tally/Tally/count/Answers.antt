-- The count of an answer is that of its entry.
use Rattle.std.proofs.Common.{sym, ap, ◌∙◌}
use Rattle.slot_core.specs.declared.events.What.{What}
use Rattle.load_gen.specs.Tallies.{with_entry}
use Rattle.load_gen.proofs.tally.Tally.count.Goals as goal

pub returns-in-Soft : goal.returns-in-Soft
returns-in-Soft c =
    c.count_soft.ensures c.in-Soft.field-0 c.in-Soft.field-1 ∙ ap (λ (what : What). with_entry what c.args.self.now) (sym c.in-Soft.is)

pub returns-in-Firm : goal.returns-in-Firm
returns-in-Firm c =
    c.count_firm.ensures c.in-Firm.field-0 c.in-Firm.field-1 c.in-Firm.field-2 ∙ ap (λ (what : What). with_entry what c.args.self.now) (sym c.in-Firm.is)

pub returns-in-Sporadic : goal.returns-in-Sporadic
returns-in-Sporadic c =
    c.count_sporadic.ensures c.in-Sporadic.field-0 c.in-Sporadic.field-1 ∙ ap (λ (what : What). with_entry what c.args.self.now) (sym c.in-Sporadic.is)
