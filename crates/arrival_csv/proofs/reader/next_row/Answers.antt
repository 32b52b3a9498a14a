use Rattle.csv.specs.Records.{fields_of}
use Rattle.arrival_csv.proofs.RecordLemmas.{TakesRow-from_read}
use Rattle.arrival_csv.proofs.reader.next_row.Goals as goal

pub returns : goal.returns
returns c = λ rows has.
    let read = c.in-Ok.ensures.reads has.untrimmed has.ready in
    let first = c.in-Ok.ensures.ready has.untrimmed in
    TakesRow-from_read c.args.reader.now c.read_byte_record.new.self c.in-Ok.found (fields_of c.read_byte_record.new.row) rows has read first
