use Rattle.std.proofs.Common.{arith}
use Rattle.table_codec.proofs.Refusals.{source-of_set, unknown-from_reading}
use Rattle.table_codec.proofs.TableLaws.{every-from_answer, source-from_answer, spelled-from_answer, unknown-from_answer, version-from_answer}
use Rattle.table_codec.proofs.decode.Goals as goal

pub returns-clause-spelled : goal.returns-clause-spelled
returns-clause-spelled c =
    spelled-from_answer c.read.result c.args.bytes.now (λ i. omega (arith, c.type_inv.bytes i)) c.read.ensures.reading

pub returns-clause-every : goal.returns-clause-every
returns-clause-every c = every-from_answer c.read.result c.args.bytes.now c.read.ensures.reading

pub returns-clause-version : goal.returns-clause-version
returns-clause-version c = λ version is.
    let bytes = c.args.bytes.now in
    unknown-from_reading bytes version (λ i. omega (arith, c.type_inv.bytes i)) (version-from_answer c.read.result bytes version c.read.ensures.reading is)

pub returns-clause-unknown : goal.returns-clause-unknown
returns-clause-unknown c = λ version small unknown.
    unknown-from_answer c.read.result c.args.bytes.now version c.read.ensures.reading small unknown

pub returns-clause-source : goal.returns-clause-source
returns-clause-source c = λ fault is.
    let bytes = c.args.bytes.now in
    source-of_set bytes fault (source-from_answer c.read.result bytes fault c.read.ensures.reading is)
