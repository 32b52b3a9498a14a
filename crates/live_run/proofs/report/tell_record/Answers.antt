use Rattle.std.proofs.Common.{◌≡◌, ◌∙◌, ◌++◌, ◌∷◌, [], ap, codes, inl, refl}
use Rattle.live_run.specs.Calls.{record_name}
use Rattle.live_run.proofs.ReportLemmas.{told-same}
use Rattle.live_run.proofs.report.tell_record.Goals as goal

pub returns-in-Ok : goal.returns-in-Ok
returns-in-Ok g c =
    let line : c.as_slice.result.now ≡ codes "cannot write " ++ record_name c.args.words.now ++ 10 ∷ [] =
    c.as_slice.ensures.value ∙ c.in-Ok.ensures ∙ ap (λ name. codes "cannot write " ++ name ++ 10 ∷ []) c.record_name.ensures in
    inl (refl, told-same _ _ _ _ _ _ line c.put_line.ensures)
