-- The history that entries tell, one entry longer.
use Rattle.std.proofs.Common.{◌≡◌, List, [], ◌∷◌, ◌++◌, map, ap, ◌∙◌}
use Rattle.std.specs.Prelude.{reverse}
use Rattle.std.proofs.lemmas.List.{map-append, reverse-append}
use Rattle.slot_core.specs.declared.events.Entry.{Entry}
use Rattle.slot_core.specs.declared.events.What.TheVariants.{End}
use Rattle.slot_core.specs.Keeping.Executives.{Executive, StandsFor}
use Rattle.slot_core.specs.Runs.Histories.{History}
use Rattle.slot_core.specs.Runs.Traces.{history_of, started}

-- the last entry stands first in the history
pub history_of-more : (told : List Entry) (e : Entry) → history_of (told ++ e ∷ []) ≡ e.what ∷ history_of told
history_of-more told e =
    let what = λ (e : Entry). e.what in
    ap reverse (map-append what told (e ∷ [])) ∙ reverse-append (map what told) (e.what ∷ [])

-- an executive that stands for the empty history stands for that of the start entry
pub StandsFor-started : (exec : Executive) → StandsFor exec [] → StandsFor exec started
StandsFor-started exec stands =
    record { legal = stands.legal; same = stands.same; last = stands.last }

-- and one that stands for a history stands for it with the end entry
pub StandsFor-end : (exec : Executive) (h : History) → StandsFor exec h → StandsFor exec (End ∷ h)
StandsFor-end exec h stands =
    record { legal = stands.legal; same = stands.same; last = stands.last }
