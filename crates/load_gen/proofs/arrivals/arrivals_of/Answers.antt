-- One slot more, and why the arrivals fit.
use Rattle.std.proofs.Common.{◌≡◌, ◌+◌, ◌++◌, length, ap, ◌∙◌, arith}
use Rattle.std.proofs.lemmas.List.{length-append}
use Rattle.slot_core.specs.Runs.Arrivals.{are_fitting}
use Rattle.load_gen.specs.Loads.{load_set}
use Rattle.load_gen.specs.LoadArrivals.{arrivals_at, load_arrivals, next_number}
use Rattle.load_gen.proofs.ArrivalLemmas.{arrivals_from-end, arrivals_from-more, length-arrivals_at, load_arrivals-fit}
use Rattle.load_gen.proofs.arrivals.arrivals_of.Goals as goal

pub loop-slot-preserved : goal.loop-slot-preserved
loop-slot-preserved c =
    let items = c.loop-slot.arrivals.items in
    let at = c.loop-slot.slot in
    let row = length items + 1 in
    let next : c.next_number-x.result ≡ next_number c.loop-slot.x = c.next_number-x.ensures.next in
    let pushed : c.push_arrival.new.arrivals.items ≡ items ++ arrivals_at at row (next_number c.loop-slot.x) = c.in_ok-push_arrival.ensures ∙ ap (λ x. items ++ arrivals_at at row x) next in
    let count = ap length pushed in
    let more = arrivals_from-more items c.push_arrival.new.arrivals.items (load_arrivals c.args.n c.args.slots) c.args.slots at c.loop-slot.x c.loop-slot-test.true c.loop-slot.invariant.all pushed in
    record {
      all = rw next more;
      few = omega (arith, count, length-append items (arrivals_at at row (next_number c.loop-slot.x)), length-arrivals_at at row (next_number c.loop-slot.x), c.loop-slot.invariant.few);
      small = c.next_number-x.ensures.small;
    }

pub returns-clause-fitting : goal.returns-clause-fitting
returns-clause-fitting c =
    let all = load_arrivals c.args.n c.args.slots in
    let items = arrivals_from-end c.loop-slot.arrivals.items all c.args.slots c.loop-slot.slot c.loop-slot.x c.loop-slot-test.false c.loop-slot.invariant.all in
    ap (λ arrivals. are_fitting (load_set c.args.n) c.args.slots arrivals) items ∙ load_arrivals-fit c.args.n c.args.slots c.requires.few
