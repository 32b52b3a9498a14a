use Rattle.std.proofs.Common.{◌≡◌, ◌∷◌, [], ◌++◌, map, sym, ap, append_assoc, map-id, ◌∙◌}
use Rattle.std.proofs.lemmas.List.{map-append}
use Rattle.std.specs.Prelude.{string_bytes}
use Rattle.std.specs.Iterator.Adapters.{skip_source, skip_count}
use Rattle.std.specs.Vec.Iter.{into_iter_items, into_iter_len}
use Rattle.std.proofs.lemmas.Iterator.Adapters.{YieldsList-from_skip, YieldsList-from_vec}
use Rattle.std.proofs.lemmas.Iterator.Consumers.{YieldsList-end}
use Rattle.slot_io.proofs.arguments.push_words.Goals as goal

pub loop-arg-preserved : goal.loop-arg-preserved
loop-arg-preserved c =
    let own = string_bytes c.in-Some.arg ∷ [] in
    let text : c.as_str.result.now ≡ string_bytes c.in-Some.arg = c.as_str.ensures.value in
    c.in_ok-push.ensures.ok
    ∙ ap (λ w. c.loop-arg.words ++ w ∷ []) text
    ∙ ap (λ ws. ws ++ own) c.loop-arg.invariant
    ∙ append_assoc _ (map string_bytes c.loop-arg.yielded) own
    ∙ ap (λ ws. c.args.words.now ++ ws) (sym (map-append string_bytes c.loop-arg.yielded (c.in-Some.arg ∷ [])))

pub returns : goal.returns
returns c =
    let it = c.into_iter-arg-iterator.result in
    let items = into_iter_items c.args.args in
    let same : skip_source it ≡ c.args.args = ap (λ s. skip_source s) c.into_iter-arg-iterator.ensures.into_iter_gives ∙ c.skip-arg-items.ensures.source in
    let count : skip_count it ≡ 1 = ap (λ s. skip_count s) c.into_iter-arg-iterator.ensures.into_iter_gives ∙ c.skip-arg-items.ensures.count in
    let all = YieldsList-from_vec {s = skip_source it} items (ap (λ s. into_iter_items s) same) (ap (λ s. into_iter_len s) same ∙ c.args.args.rest.ok.0) in
    let end = YieldsList-end (YieldsList-from_skip {s = it} 1 all count) c.loop-arg.yielded c.loop-arg.arg-iterator c.loop-arg.yielded_by _ c.next.new.self c.in-None.is c.next.ensures.steps in
    c.loop-arg.invariant ∙ ap (λ ws. c.args.words.now ++ map string_bytes ws) (sym (map-id c.loop-arg.yielded) ∙ end.0)
