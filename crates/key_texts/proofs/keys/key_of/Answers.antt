use Rattle.std.proofs.Common.{◌≡◌, ◌∙◌, sym, rules}
use Rattle.key_texts.specs.KeyTexts.{key_of_text}
use Rattle.key_texts.proofs.KeyLemmas.{IsKeyText-from_key, key-from_IsKeyText}
use Rattle.key_texts.proofs.keys.key_of.Goals as goal

pub returns-clause-exact : goal.returns-clause-exact
returns-clause-exact c =
    let reading : c.or_else-2.result ≡ key_of_text c.args.tasks.now c.args.text.now = search rules in
    λ key. (
      (λ found.
          let is = IsKeyText-from_key c.args.tasks.now c.args.text.now key (sym reading ∙ found) in
          (is.in_set, is.in_range, is.is_text)),
      (λ (in_set, in_range, is_text).
          reading ∙ key-from_IsKeyText c.args.tasks.now c.args.text.now key c.requires (record { in_set = in_set; in_range = in_range; is_text = is_text })),
    )
