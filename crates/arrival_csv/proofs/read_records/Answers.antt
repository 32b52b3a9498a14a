use Rattle.std.proofs.Common.{◌≡◌, ◌∙◌, Err, sym, ap, arith, rules}
use Rattle.std.proofs.lemmas.Bool.{MatchBool-at_true, MatchBool-at_false}
use Rattle.csv.specs.Records.{fields_of}
use Rattle.arrival_csv.specs.SoFar.{read_with}
use Rattle.arrival_csv.proofs.ReadingSteps.{after-none}
use Rattle.arrival_csv.proofs.read_records.Goals as goal

pub returns-in_err-take : goal.returns-in_err-take
returns-in_err-take c =
    let inv = c.loop-so_far.invariant in
    let (more, first, left) = MatchBool-at_true _ _ c.if-branch.true (c.in_ok-next_row.ensures inv.rows inv.left) in
    let same : c.from_residual-in_err-take.result ≡ Err c.in_err-take.field-0.0 = search rules in
    let fault = c.in_err-take.ensures.reading (fields_of c.next_row.new.fields) c.of.ensures more in
    rw same (λ other. sym inv.reading ∙ ap (λ rows. read_with c.args.tasks.now c.args.slots c.loop-so_far.so_far rows) first ∙ fault other)

pub loop-so_far-preserved : goal.loop-so_far-preserved
loop-so_far-preserved c =
    let inv = c.loop-so_far.invariant in
    let (more, first, left) = MatchBool-at_true _ _ c.if-branch.true (c.in_ok-next_row.ensures inv.rows inv.left) in
    let taken = c.in_ok-take.ensures.reading (fields_of c.next_row.new.fields) c.of.ensures more in
    record {
      few = omega (arith, c.in_ok-take.ensures.few, c.in_ok-take.ensures.next);
      rows = more;
      left = left;
      reading = taken ∙ ap (λ rows. read_with c.args.tasks.now c.args.slots c.loop-so_far.so_far rows) (sym first) ∙ inv.reading;
    }

pub returns : goal.returns
returns c =
    let inv = c.loop-so_far.invariant in
    let none = MatchBool-at_false _ _ c.if-branch.false (c.in_ok-next_row.ensures inv.rows inv.left) in
    after-none c.loop-so_far.so_far.arrivals.items _ (rw none at inv.reading)
