use Rattle.std.proofs.Common.{◌≡◌, ◌∷◌, ◌++◌, [], ◌∙◌, ℕ, List, Bor, map, ap, arith, rules, option_map, string_bytes}
use Rattle.std.proofs.lemmas.List.{map-append}
use Rattle.std.proofs.lemmas.Grind.{common_steps}
use Rattle.toml.proofs.Views.{view-String}
use Rattle.toml.specs.Data.{Data, Items, item}
use Rattle.toml.specs.View.{view}
use Rattle.unit_toml.specs.Reading.{all_texts}
use Rattle.unit_toml.proofs.ItemsLoop.{items-more}
use Rattle.unit_toml.proofs.tables.all_texts.Goals as goal

pub returns-in_err-push : goal.returns-in_err-push
returns-in_err-push c = search rules

pub returns : goal.returns
returns c = grind (arith, common_steps)

pub loop-item-preserved : goal.loop-item-preserved
loop-item-preserved c =
    let value = c.item-item.result in
    let taken : (rest : Items) → all_texts (item (view value) rest) ≡ option_map (λ ts. string_bytes c.in-String.text ∷ ts) (all_texts rest) = λ rest. ap (λ (d : Data). all_texts (item d rest)) (ap view c.in-String.is ∙ view-String c.in-String.text) in
    items-more all_texts c.args.items.now c.loop-item.item-index value _ _ _ c.loop-item-test.true c.item-item.is taken (rw (c.in_ok-push.ensures.ok, map-append) (ap (λ (s : List ℕ). map (λ (t : Bor (List ℕ)). t.now) c.loop-item.texts ++ s ∷ []) c.as_str.ensures.value)) c.loop-item.invariant
