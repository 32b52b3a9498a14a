-- The line and a line feed are the wanted bytes exactly where these end so.
use Rattle.std.proofs.Common.{◌≡◌, [], ◌∷◌, ◌++◌, ◌∙◌}
use Rattle.std.proofs.lemmas.Bool.Decides.{Decides-eqb}
use Rattle.std.proofs.lemmas.Slice.Eq.{strip_suffix_is}
use Rattle.trace_verify.proofs.LineFacts.{ended-same, not_ended}
use Rattle.trace_verify.proofs.lines.is_ended.Goals as goal

pub returns-in-Some : goal.returns-in-Some
returns-in-Some c =
    let ended = strip_suffix_is Decides-eqb c.args.wanted.now (10 ∷ []) c.strip_suffix.result c.strip_suffix.ensures.cases in
    let whole : c.args.wanted.now ≡ c.in-Some.start.now ++ 10 ∷ [] = rw c.in-Some.is at ended in
    rw whole (c.eq.ensures ∙ ended-same c.args.line.now c.in-Some.start.now)

pub returns-in-None : goal.returns-in-None
returns-in-None c =
    let ended = strip_suffix_is Decides-eqb c.args.wanted.now (10 ∷ []) c.strip_suffix.result c.strip_suffix.ensures.cases in
    not_ended c.args.line.now c.args.wanted.now (rw c.in-None.is at ended)
