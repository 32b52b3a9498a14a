use Rattle.std.proofs.Common.{ap, ◌∙◌}
use Rattle.interval_row.specs.Stores.{chain_spans}
use Rattle.interval_row.proofs.Stores.{chain_spans-set}
use Rattle.interval_row.proofs.shelf.ChainShelf.set.Goals as goal

pub returns-clause-spans : goal.returns-clause-spans
returns-clause-spans g c =
    ap chain_spans (c.set.ensures.span c.args.index c.at.ensures) ∙ chain_spans-set c.args.self.now.pairs c.args.index (c.at.result, c.args.span)
