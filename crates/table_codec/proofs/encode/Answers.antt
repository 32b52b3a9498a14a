use Rattle.std.proofs.Common.{◌≡◌, ◌++◌, ap, subst, ◌∙◌}
use Rattle.table_codec.specs.declared.layout.Layout.{Layout}
use Rattle.table_codec.specs.Grammar.{spelling_in}
use Rattle.table_codec.proofs.encode.Goals as goal

pub returns : goal.returns
returns c =
    let plan = c.args.plan.now in
    let written = c.in_ok-put_table.ensures ∙ ap (λ front. front ++ spelling_in c.second.result plan) c.new-out.ensures.items in
    subst (λ (layout : Layout). c.put_table.new.out.items ≡ spelling_in layout plan) c.second.ensures written
