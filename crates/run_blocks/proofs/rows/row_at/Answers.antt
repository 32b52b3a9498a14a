use Rattle.std.proofs.Common.{◌<◌, length, sym, ap, subst, ◌∙◌}
use Rattle.std.specs.Option.{unwrap_or}
use Rattle.run_blocks.proofs.RowLemmas.{row_at-within}
use Rattle.run_blocks.proofs.rows.row_at.Goals as goal

pub returns-in-None-clause-there : goal.returns-in-None-clause-there
returns-in-None-clause-there c = λ held.
    subst (λ n. n < length c.args.rows.now)
    (ap (λ o. unwrap_or o (length c.args.rows.now)) (sym c.place_in.ensures ∙ c.in-None.is))
    (row_at-within c.args.rows.now c.args.key.now held)
