-- The margins that were found write the text of their set.
use Rattle.std.proofs.Common.{◌≡◌, true, List, [], ◌∷◌, ◌++◌, map, refl, sym, ap, ◌∙◌}
use Rattle.std.specs.Prelude.{All, flat_map}
use Rattle.std.specs.Option.{option_map_or}
use Rattle.std.proofs.lemmas.List.Elements.{All-head, All-tail}
use Rattle.slot_core.specs.declared.tasks.TaskSet.{TaskSet}
use Rattle.slot_core.specs.Claims.Growth.{IsMargin}
use Rattle.slot_core.specs.Sets.Ranges.{is_sound}
use Rattle.margin_find.specs.declared.margin.TaskMargin.{TaskMargin}
use Rattle.margin_find.specs.Parts.{IsTaskOf}
use Rattle.margin_find.specs.Margins.{AreMargins, margin_of, parts_of}
use Rattle.margin_find.proofs.FoundMargins.{margin_of-from_IsMargin}
use Rattle.plan_reports.specs.MarginLines.{margin_line, margin_lines, margin_text}

module _ (set : TaskSet) (sound : is_sound set ≡ true) where
  -- the lines of margins are those of their tasks
  lines-from_margins : (found : List TaskMargin) → All (λ (m : TaskMargin). IsTaskOf set m.at) found → All (λ (m : TaskMargin). IsMargin set m.at m.margin.growth m.margin.window) found → margin_lines set found ≡ flat_map (λ part. option_map_or (margin_line set) (margin_of set part) []) (map (λ (m : TaskMargin). m.at) found)
  lines-from_margins [] of are = refl
  lines-from_margins (m ∷ found) of are =
      let here = margin_of-from_IsMargin set sound m (All-head (λ (m : TaskMargin). IsTaskOf set m.at) m found of) (All-head (λ (m : TaskMargin). IsMargin set m.at m.margin.growth m.margin.window) m found are) in
      let later = lines-from_margins found (All-tail (λ (m : TaskMargin). IsTaskOf set m.at) m found of) (All-tail (λ (m : TaskMargin). IsMargin set m.at m.margin.growth m.margin.window) m found are) in
      ap (λ text. margin_line set m ++ text) later
      ∙ ap (λ o. option_map_or (margin_line set) o [] ++ flat_map (λ part. option_map_or (margin_line set) (margin_of set part) []) (map (λ (m : TaskMargin). m.at) found)) (sym here)

  -- so the margins of all tasks have the text of the set
  pub text-from_margins : (found : List TaskMargin) → All (λ (m : TaskMargin). IsTaskOf set m.at) found → AreMargins set (parts_of set) found → margin_lines set found ≡ margin_text set
  text-from_margins found of are =
      lines-from_margins found of are.margins
      ∙ ap (flat_map (λ part. option_map_or (margin_line set) (margin_of set part) [])) are.places
