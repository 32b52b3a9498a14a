use Rattle.std.proofs.Common.{◌++◌, ℕ, List, codes, ap, append_assoc, ◌∙◌}
use Rattle.std.proofs.lemmas.Result.{on_ok_weaker}
use Rattle.plan_answers.specs.Headers.{c_name, enumerator}
use Rattle.plan_answers.proofs.header.push_sporadic.Goals as goal

pub returns : goal.returns
returns c =
    let s = c.args.sporadic.now in
    let index = enumerator (codes "SPORADIC_" ++ c_name s.name) c.args.index in
    let wcet = λ (n : ℕ). enumerator (codes "WCET_" ++ c_name s.name) n in
    on_ok_weaker c.push_named-2.result (λ told. told ∙ ap (λ n. c.push_named.new.text.items ++ wcet n) c.from.ensures ∙ ap (λ (l : List ℕ). l ++ wcet s.wcet) c.in_ok-push_named.ensures ∙ append_assoc c.args.text.now.items index (wcet s.wcet)) c.push_named-2.ensures
