-- The help that is told is the one of the definition.
use Rattle.std.proofs.Common.{ℕ, List, codes, subst}
use Rattle.command_line.specs.Pages.{page_text, IsPageTold}
use Rattle.live_run.proofs.pages.tell_live_page.Goals as goal

pub returns-clause-told : goal.returns-clause-told
returns-clause-told g c =
    let s = c.args.streams.now in
    let t = c.tell_page.new in
    let k = g.K.Sink in
    let e = g.E.Sink in
    subst
    (λ (help : List ℕ). IsPageTold (page_text (codes "slotlive") help c.args.page) (k.written s.answers) (k.written t.out) (k.faults s.answers) (k.faults t.out) (e.written s.faults) (e.written t.err) (e.faults s.faults) (e.faults t.err) c.tell_page.result)
    c.help.ensures
    c.tell_page.ensures.told
