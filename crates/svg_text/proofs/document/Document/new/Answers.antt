use Rattle.svg_text.proofs.WellFormed.{IsDocument-written}
use Rattle.svg_text.proofs.document.Document.new.Goals as goal

pub invariant_of-result : goal.invariant_of-result
invariant_of-result c =
    IsDocument-written
    c.new-text.result.items
    c.push_document.new.text.items
    c.args.width
    c.args.height
    c.args.style.now
    c.text.result.now
    c.new-text.ensures.items
    c.in_ok-push_document.ensures
    c.text.ensures.content

pub returns-clause-formed : goal.returns-clause-formed
returns-clause-formed c =
    IsDocument-written
    c.new-text.result.items
    c.push_document.new.text.items
    c.args.width
    c.args.height
    c.args.style.now
    c.text.result.now
    c.new-text.ensures.items
    c.in_ok-push_document.ensures
    c.text.ensures.content
