use Rattle.std.proofs.Common.{[], ◌∷◌}
use Rattle.std.proofs.lemmas.Bool.Decides.{Decides-eqb}
use Rattle.std.proofs.lemmas.Slice.Eq.{strip_suffix_is}
use Rattle.trace_lines.proofs.LineReads.{before_space-reads}
use Rattle.trace_lines.proofs.spans.before_space.Goals as goal

pub returns : goal.returns
returns c =
    let stripped = strip_suffix_is Decides-eqb c.args.text.now (32 ∷ []) c.strip_suffix.result c.strip_suffix.ensures.cases in
    before_space-reads c.args.text.now c.strip_suffix.result stripped
