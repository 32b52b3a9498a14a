use Rattle.arrival_csv.proofs.ReadArrivals.{are_fitting-reading, are_fitting-answer}
use Rattle.arrival_csv.proofs.read_arrivals.Goals as goal

pub returns-in-Some-clause-fitting : goal.returns-in-Some-clause-fitting
returns-in-Some-clause-fitting c =
    let read = rw c.in-Some.is at c.in_ok-arrivals.ensures in
    are_fitting-reading c.args.bytes.now c.args.slots c.args.tasks.now c.in-Some.arrivals.items read

pub returns-clause-fitting : goal.returns-clause-fitting
returns-clause-fitting c = are_fitting-answer c.args.bytes.now c.args.slots c.args.tasks.now c.read_records.result c.read_records.ensures
