-- Texts that are joined one after the other.
use Rattle.std.proofs.Common.{◌≡◌, ◌++◌, List, Result, ap, ◌∙◌, append_assoc}
use Rattle.std.specs.Result.{OnOk}
use Rattle.std.proofs.lemmas.Result.{on_ok_weaker}

-- a text that is appended after another is appended with it
pub append_both : {X T E : Type 0} (r : Result T E) (old mid new first second : List X) → mid ≡ old ++ first → OnOk r (new ≡ mid ++ second) → OnOk r (new ≡ old ++ (first ++ second))
append_both r old mid new first second before after =
    on_ok_weaker r (λ e. e ∙ ap (λ l. l ++ second) before ∙ append_assoc old first second) after
