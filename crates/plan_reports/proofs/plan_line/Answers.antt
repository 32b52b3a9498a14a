use Rattle.std.proofs.Common.{◌≡◌, ℕ, List, [], ◌∷◌, ◌++◌, length, codes, ap, append_assoc, ◌∙◌}
use Rattle.slot_core.specs.Output.Texts.{worded}
use Rattle.plan_reports.proofs.plan_line.Goals as goal

regroup : (a b c d e f l : List ℕ) → (a ++ (b ++ c ++ d)) ++ (e ++ f ++ l) ≡ a ++ b ++ c ++ d ++ e ++ f ++ l
regroup a b c d e f l = simp append_assoc

pub returns : goal.returns
returns c =
    let plan = c.args.plan.now in
    let cycle = worded (codes "plan cycle") plan.cycle in
    let soft = worded (codes " soft") plan.tasks.soft_limit in
    let graphs = worded (codes " graphs") (length plan.tasks.graphs) in
    let sporadics = worded (codes " sporadics") (length plan.tasks.sporadics) in
    let jobs = worded (codes " jobs") (length plan.jobs) in
    let spans = worded (codes " spans") (length plan.spans) in
    let first : c.push_worded.new.line.items ≡ cycle = rw (c.new-line.ensures.items, c.from.ensures, c.cycle.ensures.cycle) at c.in_ok-push_worded.ensures in
    let second : c.push_set.new.line.items ≡ c.push_worded.new.line.items ++ (soft ++ graphs ++ sporadics) = rw c.tasks.ensures.tasks at c.in_ok-push_set.ensures in
    c.in_ok-push_lengths.ensures
    ∙ ap (λ (l : List ℕ). l ++ (jobs ++ spans ++ 10 ∷ [])) (second ∙ ap (λ (l : List ℕ). l ++ (soft ++ graphs ++ sporadics)) first)
    ∙ regroup cycle soft graphs sporadics jobs spans (10 ∷ [])
