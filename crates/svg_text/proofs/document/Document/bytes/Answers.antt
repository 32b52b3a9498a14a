use Rattle.std.proofs.Common.{subst, sym}
use Rattle.std.specs.Str.{IsAscii}
use Rattle.svg_text.proofs.AsciiContent.{ascii_document}
use Rattle.svg_text.proofs.document.Document.bytes.Goals as goal

pub returns-clause-ascii : goal.returns-clause-ascii
returns-clause-ascii c =
    subst IsAscii (sym c.as_slice.ensures.value) (ascii_document c.self.inside.text.items c.self.invariant)
