-- The multiple of all periods goes on through the separations.
use Rattle.std.proofs.Common.{◌≡◌, Ok, Err, refl, sym, ap, ◌∙◌}
use Rattle.std.proofs.lemmas.Result.{err_from_is_err_and}
use Rattle.slot_core.specs.declared.TheConstants.{SLOT_LIMIT}
use Rattle.slot_core.specs.Sets.Ranges.{is_between}
use Rattle.graph_unroll.specs.Multiples.{periods_of, separations_of, multiple_along}
use Rattle.graph_unroll.proofs.MultipleLemmas.{all-append, along-append-ok, along-append-err, along-positive}
use Rattle.graph_unroll.proofs.multiple_of_lengths.Goals as goal

pub returns-in_err-periods : goal.returns-in_err-periods
returns-in_err-periods c =
    let set = c.args.tasks.now in
    let p = err_from_is_err_and c.from_residual.result c.from_residual.ensures.1 in
    let e : multiple_along 1 (periods_of set.graphs) ≡ Err c.in_err-periods.field-0.0 = rw (← c.items.ensures) (sym c.in_err-periods.ensures) in
    rw (p.1, p.2) (sym (along-append-err 1 (periods_of set.graphs) (separations_of set.sporadics) c.in_err-periods.field-0.0 e))

pub multiple_with_separations-requires-clause-multiple :
    goal.multiple_with_separations-requires-clause-multiple
multiple_with_separations-requires-clause-multiple c =
    let set = c.args.tasks.now in
    let all = all-append (is_between 1 SLOT_LIMIT) (periods_of set.graphs) (separations_of set.sporadics) c.requires in
    along-positive 1 (periods_of set.graphs) c.in_ok-periods.periods refl all.0 (rw (← c.items.ensures) (sym c.in_ok-periods.ensures))

pub returns : goal.returns
returns c =
    let set = c.args.tasks.now in
    let e : multiple_along 1 (periods_of set.graphs) ≡ Ok c.in_ok-periods.periods = rw (← c.items.ensures) (sym c.in_ok-periods.ensures) in
    let more = along-append-ok 1 (periods_of set.graphs) (separations_of set.sporadics) c.in_ok-periods.periods e in
    c.multiple_with_separations.ensures ∙ ap (λ xs. multiple_along c.in_ok-periods.periods (separations_of xs)) c.items-2.ensures ∙ sym more
