-- The help that is told is the one of the definition.
use Rattle.std.proofs.Common.{ℕ, List, codes, subst}
use Rattle.command_line.specs.Pages.{page_text, IsPageTold}
use Rattle.plan_run.proofs.pages.tell_plan_page.Goals as goal

pub returns-clause-told : goal.returns-clause-told
returns-clause-told g c =
    let t = c.tell_page.new in
    let out = c.args.out.now in
    let err = c.args.err.now in
    let k = g.K.Sink in
    let e = g.E.Sink in
    subst
    (λ (help : List ℕ). IsPageTold (page_text (codes "slotplan") help c.args.page) (k.written out) (k.written t.out) (k.faults out) (k.faults t.out) (e.written err) (e.written t.err) (e.faults err) (e.faults t.err) c.tell_page.result)
    c.help.ensures
    c.tell_page.ensures.told
