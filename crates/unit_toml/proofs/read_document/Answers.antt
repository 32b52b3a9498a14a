use Rattle.std.proofs.Common.{rules}
use Rattle.unit_toml.proofs.Documents.{document_of-Ok, document_of-Err}
use Rattle.unit_toml.proofs.read_document.Goals as goal

pub returns-in-Ok : goal.returns-in-Ok
returns-in-Ok c = document_of-Ok _ _ c.in-Ok.ensures.ok.0 c.in-Ok.ensures.ok.1

pub returns-in-Err-2 : goal.returns-in-Err-2
returns-in-Err-2 c = λ _. document_of-Err c.args.bytes.now (c.in-Err.ensures.refused (search rules))
